-- What the code's masks, its cast and its shift compute, in the terms of specs/Epoch.antt: the proofs of the functions cite these.
-- `to_z w64` is the number that the bits of an i64 stand for. Assumes nothing.
use Rattle.std.proofs.Common.{◌≡◌, ℕ, suc, ◌-◌, ◌%◌, ◌^◌, ◌<◌, Bool, true, false, cond, ltb, ℤ, pos, negsuc, refl, ap, arith, w64, to_z}
use lib.Bits.{bit_and, bit_or, and_mask, and_high, or_add_and}
use lib.Signed.{shr_z}
use mir.Val.{sel}
use Rattle.epoch.specs.Epoch.{unpinned, pinned, signed, halved}

-- `w & 1` is the lowest bit
pub and_one : (w : ℕ) → bit_and w 1 ≡ w % 2
and_one w = and_mask w 1

-- `w | 1` sets it
pub or_one : (w : ℕ) → bit_or w 1 ≡ pinned w
unfolding pinned unpinned
or_one w = omega (arith, or_add_and w 1, and_one w)

-- `w & !1` clears it
pub and_not_one : (w : ℕ) → w < 2 ^ 64 → bit_and w 18446744073709551614 ≡ unpinned w
unfolding unpinned
and_not_one w h = omega (arith, and_high w 63 1)

-- a word's reading is the machine's
pub signed-bits : (w : ℕ) → to_z w64 w ≡ signed w
unfolding signed
signed-bits w = by (ltb w (2 ^ 63))
  where
    by : (t : Bool) → sel t (pos w) (negsuc (2 ^ 64 - suc w)) ≡ cond t (pos w) (negsuc (2 ^ 64 - 1 - w))
    by true = refl
    by false = ap negsuc (omega arith)

-- `z >> 1` is the half
pub shifted_one : (z : ℤ) → shr_z z 2 ≡ halved z
unfolding halved
shifted_one (pos n) = refl
shifted_one (negsuc n) = refl
