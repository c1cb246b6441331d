-- The wrapped difference is the gap, and reading it as signed and halving it are the definition's; what comes out fits an i64, so its bits say it.
use Rattle.std.proofs.Common.{◌≡◌, ◌+◌, ◌-◌, ◌%◌, ◌^◌, ap, ◌∙◌, arith, to_z-of_z}
use lib.Bits.{bit_and}
use Rattle.epoch.specs.Epoch.{gap, signed, wrapping_sub}
use Rattle.epoch.proofs.Laws.{unpinned-le, signed-fits, wrapping_sub-fits}
use Rattle.epoch.proofs.Machine.{and_not_one, shifted_one, signed-bits}
use Rattle.epoch.proofs.Epoch.wrapping_sub.Goals as goal

pub returns : goal.returns
unfolding wrapping_sub gap
returns c =
    let a = c.args.self.0 in
    let b = c.args.rhs.0 in
    let g : (a + (2 ^ 64 - bit_and b 18446744073709551614)) % 2 ^ 64 ≡ gap a b = omega (arith, and_not_one b (omega arith), unpinned-le b) in
    let z : c.cast_signed.result ≡ signed (gap a b) = c.cast_signed.ensures ∙ signed-bits _ ∙ ap signed g in
    rw (z, to_z-of_z (signed-fits (gap a b)), shifted_one (signed (gap a b))) (to_z-of_z (wrapping_sub-fits a b))
