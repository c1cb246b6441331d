-- The bits of one word: a word is its lowest bit and twice its half, so every law goes by halving. Assumes nothing.
use mathlib.Core.Logic.{◌≢◌}
use mathlib.Core.Path.{◌≡◌, refl, sym, ap, ◌∙◌}
use mathlib.Core.Bool.{Bool, true, false, true≢false}
use Prim.Native.Nat.{ℕ, zero, suc, ◌+◌, ◌-◌, ◌*◌, ◌/◌, ◌%◌, ◌^◌, ◌≤◌, ◌<◌}
use native.Mathlib.Nat.{add_comm, zero-mul, one-mul, mul_assoc, pow-suc, div-one, div-mul-le_self, div-eq_of_lt, mod-le}
use native.Mathlib.Nat.{le_trans, lt_of_lt_of_le, lt_of_le_of_lt, mul-le-mul_right}
use native.Mathlib.Numerals.{one-add}
use native.Mathlib.Omega.{arith}
use lib.Bits.{bit_and, and_le_l, or_lt}
use lib.Count.{count_trailing_zeros, under, ones, ones_step, ones-ones}
use lib.Dec.{eqb, ltb, lit<}
use lib.Pow.{shr-shr, shr_le, pow_mono, pow_pos}
use borrow.Author.Tests.{eq-eqb, ne_eqb, eqb-true, eqb-false, lt-ltb, le-ltb}
use Rattle.std.specs.Int.{bit_not, w64}
use Rattle.std.specs.Int.RustNames.{bit_or}
use Rattle.std.proofs.lemmas.Nat.Bits.{same_from_bits_below, bit_at_set_same, bit_at_set_other, bit_at_clear_same, bit_at_clear_other}
use Rattle.definition.specs.Base.{branch, Tab, put, sum, count, all}
use Rattle.definition.specs.Layout.{bit}
use Rattle.definition.proofs.Base.{put_same, put_other, same?, sum_ext, branch_same, all_intro}
use Rattle.bits.specs.Bits.{written}
use Rattle.bits.proofs.Table.{below?, sum-low, sum_double, count_ext, all_not}

-- ---- the lowest bit, and the bits of the half

-- a digit of half a number is the next digit of the number
half_digit : (w k : ℕ) → w / 2 / 2 ^ k ≡ w / 2 ^ suc k
half_digit w k = shr-shr w 1 k ∙ ap (λ (m : ℕ). w / 2 ^ m) (one-add k)

-- bit 0 is the remainder by 2
pub bit-zero : (w : ℕ) → bit w 0 ≡ eqb (w % 2) 1
unfolding bit
bit-zero w = ap (λ (x : ℕ). eqb (x % 2) 1) (div-one w)

-- the others are the bits of the half
pub bit-suc : (w k : ℕ) → bit w (suc k) ≡ bit (w / 2) k
unfolding bit
bit-suc w k = ap (λ (x : ℕ). eqb (x % 2) 1) (sym (half_digit w k))

-- the bits from m on are those of the word shifted by m
pub bit_shift : (w m k : ℕ) → bit (w / 2 ^ m) k ≡ bit w (m + k)
unfolding bit
bit_shift w m k = ap (λ (x : ℕ). eqb (x % 2) 1) (shr-shr w m k)

-- a number below 2 ^ k has no bit at k
pub bit_high : (w k : ℕ) → w < 2 ^ k → bit w k ≡ false
unfolding bit
bit_high w k h = rw (div-eq_of_lt h)

-- ---- a written bit

-- what a digit counts for is within the number
pub digit-le : (w k : ℕ) → w / 2 ^ k % 2 * 2 ^ k ≤ w
digit-le w k = le_trans (mul-le-mul_right (2 ^ k) (mod-le (w / 2 ^ k) 2)) (div-mul-le_self w (2 ^ k))

-- bit 0 written: the half stays
low-written : (w : ℕ) (b : Bool) → written w 0 b ≡ w / 2 * 2 + branch b 1 0
unfolding written branch
low-written w true = rw div-one (omega arith)
low-written w false = rw div-one (omega arith)

-- to write a digit is to write it in the half: x is what it counts for there, and p its power of 2
halves : (w : ℕ) (b : Bool) (x p : ℕ) → x ≤ w / 2 → w - x * 2 + branch b (p * 2) 0 ≡ (w / 2 - x + branch b p 0) * 2 + w % 2
unfolding branch
halves w true x p h = omega arith
halves w false x p h = omega arith

-- a higher bit written: the lowest stays, and the half has it written
high_written : (w k : ℕ) (b : Bool) → written w (suc k) b ≡ written (w / 2) k b * 2 + w % 2
unfolding written
high_written w k b =
    let twice : w / 2 / 2 ^ k % 2 * (2 ^ k * 2) ≡ w / 2 / 2 ^ k % 2 * 2 ^ k * 2 = sym (mul_assoc (w / 2 / 2 ^ k % 2) (2 ^ k) 2) in
    rw (← half_digit w k, pow-suc 2 k, twice) (halves w b (w / 2 / 2 ^ k % 2 * 2 ^ k) (2 ^ k) (digit-le (w / 2) k))

-- a bit written as it was changes nothing
pub written_same : (w k : ℕ) (b : Bool) → bit w k ≡ b → written w k b ≡ w
unfolding written bit branch
written_same w k true e =
    let one : w / 2 ^ k % 2 ≡ 1 = eqb-true (w / 2 ^ k % 2) 1 e in
    let le : 1 * 2 ^ k ≤ w = rw one at (digit-le w k) in
    rw (one, one-mul (2 ^ k)) (omega (arith, one-mul (2 ^ k)))
written_same w k false e =
    let none : w / 2 ^ k % 2 ≡ 0 = omega (arith, eqb-false (w / 2 ^ k % 2) 1 e) in
    rw (none, zero-mul (2 ^ k)) (omega arith)

-- it fits where the word does
pub written-lt : (d w k : ℕ) (b : Bool) → w < 2 ^ d → k < d → written w k b < 2 ^ d
unfolding branch
written-lt zero w k b h l = absurd (omega arith)
written-lt (suc d) w zero true h l = rw (low-written w true) (omega (arith, rw (pow-suc 2 d) at h, pow-suc 2 d))
written-lt (suc d) w zero false h l = rw (low-written w false) (omega (arith, rw (pow-suc 2 d) at h, pow-suc 2 d))
written-lt (suc d) w (suc k) b h l =
    let small : w < 2 ^ d * 2 = rw (pow-suc 2 d) at h in
    let ih = written-lt d (w / 2) k b (omega arith) (omega arith) in
    rw (high_written w k b, pow-suc 2 d) (omega arith)

-- the lowest digit is told from a number, and the half
low-bit : (h : ℕ) (b : Bool) → eqb ((h * 2 + branch b 1 0) % 2) 1 ≡ b
unfolding branch
low-bit h true = eq-eqb ((h * 2 + 1) % 2) 1 (omega arith)
low-bit h false = ne_eqb ((h * 2 + 0) % 2) 1 (λ (e : (h * 2 + 0) % 2 ≡ 1). omega arith)

low_half : (h : ℕ) (b : Bool) → (h * 2 + branch b 1 0) / 2 ≡ h
unfolding branch
low_half h true = omega arith
low_half h false = omega arith

-- the bits of a word with one bit written
pub bit-written : (w k : ℕ) (b : Bool) (j : ℕ) → bit (written w k b) j ≡ put (bit w) k b j
bit-written w zero b zero = rw (low-written w b, bit-zero, put_same) (low-bit (w / 2) b)
bit-written w zero b (suc j) =
    rw (bit-suc, low-written w b, low_half, put_other (bit w) 0 (suc j) b (λ (e : 0 ≡ suc j). omega arith)) (sym (bit-suc w j))
bit-written w (suc k) b zero =
    let e : (written (w / 2) k b * 2 + w % 2) % 2 ≡ w % 2 = omega arith in
    rw (high_written w k b, bit-zero, put_other (bit w) (suc k) 0 b (λ (z : suc k ≡ 0). omega arith), bit-zero, e)
bit-written w (suc k) b (suc j) =
    let e : (written (w / 2) k b * 2 + w % 2) / 2 ≡ written (w / 2) k b = omega arith in
    rw (bit-suc, high_written w k b, e, bit-written (w / 2) k b j) (next w k b j)
  where
    next : (w k : ℕ) (b : Bool) (j : ℕ) → put (bit (w / 2)) k b j ≡ put (bit w) (suc k) b (suc j)
    next w k b j =
        same? k j
        (λ e. rw (e, put_same (bit (w / 2)) j b, put_same (bit w) (suc j) b))
        (λ ne.
        put_other (bit (w / 2)) k j b ne ∙ sym (bit-suc w j)
        ∙ sym (put_other (bit w) (suc k) (suc j) b (λ (z : suc k ≡ suc j). ne (omega arith))))

-- a digit is told by the bit
digit : (n i : ℕ) → n / 2 ^ i % 2 ≡ branch (bit n i) 1 0
unfolding bit branch
digit n i = by (n / 2 ^ i % 2) (omega arith)
  where
    by : (r : ℕ) → r < 2 → r ≡ branch (eqb r 1) 1 0
    by zero l = refl
    by (suc zero) l = refl
    by (suc (suc r)) l = absurd (omega arith)

-- so where the bits are those of a word with one written, so are the digits
written_at : (n w k : ℕ) (b : Bool) → n / 2 ^ k % 2 ≡ branch b 1 0 → ((i : ℕ) → i < 64 → i ≢ k → n / 2 ^ i % 2 ≡ w / 2 ^ i % 2)
    → (i : ℕ) → i < 64 → n / 2 ^ i % 2 ≡ written w k b / 2 ^ i % 2
written_at n w k b here other i l =
    let bits = digit (written w k b) i ∙ ap (λ (x : Bool). branch x 1 0) (bit-written w k b i) in
    same? k i
    (λ e. rw (bits, ← e, put_same (bit w) k b) here)
    (λ ne. rw (bits, put_other (bit w) k i b ne) (other i l (λ z. ne (sym z)) ∙ digit w i))

module _ (w k : ℕ) (fits : w < 2 ^ 64) (l : k < 64) where
  -- `w | 1 << k`
  pub bit_or-written : bit_or w (1 * 2 ^ k % 2 ^ 64) ≡ written w k true
  unfolding branch
  bit_or-written =
      let p : 1 * 2 ^ k % 2 ^ 64 < 2 ^ 64 = omega arith in
      same_from_bits_below 64 (bit_or w (1 * 2 ^ k % 2 ^ 64)) (written w k true) (or_lt 64 w (1 * 2 ^ k % 2 ^ 64) fits p)
      (written-lt 64 w k true fits l)
      (written_at (bit_or w (1 * 2 ^ k % 2 ^ 64)) w k true (bit_at_set_same w64 w k l) (λ i s ne. bit_at_set_other w64 w k l i ne))

  -- `w & !(1 << k)`
  pub bit_and-written : bit_and w (bit_not w64 (1 * 2 ^ k % 2 ^ 64)) ≡ written w k false
  unfolding branch
  bit_and-written =
      let n : ℕ = bit_and w (bit_not w64 (1 * 2 ^ k % 2 ^ 64)) in
      same_from_bits_below 64 n (written w k false) (lt_of_le_of_lt (and_le_l w (bit_not w64 (1 * 2 ^ k % 2 ^ 64))) fits)
      (written-lt 64 w k false fits l)
      (written_at n w k false (bit_at_clear_same w64 w k l) (λ i s ne. bit_at_clear_other w64 w k l i s ne))

-- ---- the lowest set bit: each law by the lowest digit d of n, where t is the lowest set bit of the half

lt_by : (d k n t : ℕ) → n % 2 ≡ d → n < 2 ^ suc k → (n ≡ 0 → ⊥) → (n / 2 < 2 ^ k → (n / 2 ≡ 0 → ⊥) → t < k) → under d t < suc k
lt_by zero k n t e h ne f =
    let q : n < 2 ^ k * 2 = rw (pow-suc 2 k) at h in
    let r : t < k = f (omega arith) (λ z. ne (omega arith)) in
    omega arith
lt_by (suc d) k n t e h ne f = omega arith

-- a word that is not 0 has a set bit
pub lowest_lt : (k n : ℕ) → n < 2 ^ k → (n ≡ 0 → ⊥) → count_trailing_zeros k n < k
unfolding count_trailing_zeros
lowest_lt zero n h ne = absurd (ne (omega arith))
lowest_lt (suc k) n h ne = lt_by (n % 2) k n (count_trailing_zeros k (n / 2)) refl h ne (lowest_lt k (n / 2))

set_by : (d k n t : ℕ) → n % 2 ≡ d → under d t < suc k → (t < k → bit (n / 2) t ≡ true) → bit n (under d t) ≡ true
set_by zero k n t e h f = bit-suc n t ∙ f (omega arith)
set_by (suc d) k n t e h f = bit-zero n ∙ eq-eqb (n % 2) 1 (omega arith)

-- that bit is set
pub lowest_set : (k n : ℕ) → count_trailing_zeros k n < k → bit n (count_trailing_zeros k n) ≡ true
unfolding count_trailing_zeros
lowest_set zero n h = absurd (omega arith)
lowest_set (suc k) n h = set_by (n % 2) k n (count_trailing_zeros k (n / 2)) refl h (lowest_set k (n / 2))

below_by : (d n t j : ℕ) → n % 2 ≡ d → j < under d t → ((i : ℕ) → i < t → bit (n / 2) i ≡ false) → bit n j ≡ false
below_by zero n t zero e h f = bit-zero n ∙ ne_eqb (n % 2) 1 (λ (o : n % 2 ≡ 1). omega arith)
below_by zero n t (suc i) e h f = bit-suc n i ∙ f i (omega arith)
below_by (suc d) n t j e h f = absurd (omega arith)

-- and every bit below it is clear
pub lowest_below : (k n j : ℕ) → j < count_trailing_zeros k n → bit n j ≡ false
unfolding count_trailing_zeros
lowest_below zero n j h = absurd (omega arith)
lowest_below (suc k) n j h = below_by (n % 2) n (count_trailing_zeros k (n / 2)) j refl h (lowest_below k (n / 2))

-- ---- all the bits of a word

-- the lowest, as a number
first_bit : (w r : ℕ) → w % 2 ≡ r → branch (bit w 0) 1 0 ≡ r
unfolding branch
first_bit w zero e = rw (bit-zero w, e)
first_bit w (suc zero) e = rw (bit-zero w, e)
first_bit w (suc (suc r)) e = absurd (omega arith)

-- how many are set
pub count-bits : (d w : ℕ) → w < 2 ^ d → count d (bit w) ≡ ones w
unfolding count sum
count-bits zero w h =
    let e : w ≡ 0 = omega arith in
    rw e (sym (ones-ones 0))
count-bits (suc d) w h =
    let small : w < 2 ^ d * 2 = rw (pow-suc 2 d) at h in
    sum-low d (λ i. branch (bit w i) 1 0)
    ∙ ap (λ (x : ℕ). branch (bit w 0) 1 0 + x)
    (count_ext d (λ i. bit w (suc i)) (bit (w / 2)) (λ i l. bit-suc w i) ∙ count-bits d (w / 2) (omega arith))
    ∙ ap (λ (x : ℕ). x + ones (w / 2)) (first_bit w (w % 2) refl) ∙ sym (ones_step w)

-- a number whose shift by m is 0 has no bit from m on
zero_beyond : (w m i : ℕ) → w / 2 ^ m ≡ 0 → m ≤ i → bit w i ≡ false
zero_beyond w m i e l =
    let there : m + (i - m) ≡ i = omega arith in
    ap (bit w) (sym there) ∙ sym (bit_shift w m (i - m)) ∙ ap (λ (v : ℕ). bit v (i - m)) e ∙ bit_high 0 (i - m) (pow_pos (i - m))

-- a number whose shift by m is not 0 has a bit there: below d where the number is below 2 ^ d
some_beyond : (d w m : ℕ) → w < 2 ^ d → (w / 2 ^ m ≡ 0 → ⊥) → (t : ℕ) × (m + t < d) × (bit w (m + t) ≡ true)
some_beyond d w m h ne = (t, below? (m + t) d (λ l. l) high, on)
  where
    v : ℕ
    v = w / 2 ^ m

    t : ℕ
    t = count_trailing_zeros d v

    on : bit w (m + t) ≡ true
    on = sym (bit_shift w m t) ∙ lowest_set d v (lowest_lt d v (lt_of_le_of_lt (shr_le w m) h) ne)

    high : d ≤ m + t → m + t < d
    high l =
        let off : bit w (m + t) ≡ false = bit_high w (m + t) (lt_of_lt_of_le h (pow_mono l)) in
        let z : true ≡ false = sym on ∙ off in
        absurd (true≢false z)

-- whether none is set at m or beyond
pub none_beyond : (d w m : ℕ) → w < 2 ^ d → all d (λ i. branch (bit w i) (ltb i m) true) ≡ eqb (w / 2 ^ m) 0
unfolding branch
none_beyond d w m h = same? (w / 2 ^ m) 0 clear set
  where
    f : Tab Bool
    f = λ i. branch (bit w i) (ltb i m) true

    clear : w / 2 ^ m ≡ 0 → all d f ≡ eqb (w / 2 ^ m) 0
    clear e = all_intro d f (λ i l. below? i m (λ b. rw (lt-ltb i m b) (branch_same (bit w i) true)) (λ b. rw (zero_beyond w m i e b)))
        ∙ sym (eq-eqb (w / 2 ^ m) 0 e)

    set : (w / 2 ^ m ≡ 0 → ⊥) → all d f ≡ eqb (w / 2 ^ m) 0
    set ne =
        let s = some_beyond d w m h ne in
        let off : f (m + s.0) ≡ false = rw s.2 (le-ltb (m + s.0) m (omega arith)) in
        all_not d f (m + s.0) s.1 off ∙ sym (ne_eqb (w / 2 ^ m) 0 ne)

-- ---- the word that has given bits

-- the number with bits f 0 to f (d - 1): `bits_word` is one of 64 bits
unfoldable pub number : ℕ → Tab Bool → ℕ
number d f = sum d (λ j. branch (f j) (2 ^ j) 0)

-- twice a choice
branch_double : (b : Bool) (x : ℕ) → branch b (x * 2) 0 ≡ branch b x 0 * 2
unfolding branch
branch_double true x = refl
branch_double false x = refl

-- its half, and its lowest bit
number-low : (d : ℕ) (f : Tab Bool) → number (suc d) f ≡ number d (λ j. f (suc j)) * 2 + branch (f 0) 1 0
unfolding number
number-low d f =
    let half : Tab ℕ = λ j. branch (f (suc j)) (2 ^ j) 0 in
    let next : Tab ℕ = λ j. branch (f (suc j)) (2 ^ suc j) 0 in
    let twice = sum_ext d next (λ j. half j * 2) (λ j l. rw (pow-suc 2 j) (branch_double (f (suc j)) (2 ^ j))) in
    sum-low d (λ j. branch (f j) (2 ^ j) 0)
    ∙ ap (λ (x : ℕ). branch (f 0) 1 0 + x) (twice ∙ sum_double d half)
    ∙ add_comm (branch (f 0) 1 0) (sum d half * 2)

-- it has these bits
pub bit-number : (d : ℕ) (f : Tab Bool) (j : ℕ) → j < d → bit (number d f) j ≡ f j
bit-number zero f j l = absurd (omega arith)
bit-number (suc d) f zero l = rw (number-low d f, bit-zero) (low-bit (number d (λ j. f (suc j))) (f 0))
bit-number (suc d) f (suc j) l = rw (bit-suc, number-low d f, low_half) (bit-number d (λ i. f (suc i)) j (omega arith))

-- the same bits, the same number
pub number_ext : (d : ℕ) (f g : Tab Bool) → ((j : ℕ) → j < d → f j ≡ g j) → number d f ≡ number d g
unfolding number
number_ext d f g h =
    sum_ext d (λ j. branch (f j) (2 ^ j) 0) (λ j. branch (g j) (2 ^ j) 0) (λ j l. ap (λ (b : Bool). branch b (2 ^ j) 0) (h j l))

-- a number of d digits is the one that has its bits
pub number-bits : (d w : ℕ) → w < 2 ^ d → number d (bit w) ≡ w
unfolding number sum
number-bits zero w h = omega arith
number-bits (suc d) w h =
    let small : w < 2 ^ d * 2 = rw (pow-suc 2 d) at h in
    let above = number_ext d (λ j. bit w (suc j)) (bit (w / 2)) (λ j l. bit-suc w j) ∙ number-bits d (w / 2) (omega arith) in
    number-low d (bit w) ∙ rw (above, first_bit w (w % 2) refl) (omega arith)

-- and it has no more than d digits
pub number-lt : (d : ℕ) (f : Tab Bool) → number d f < 2 ^ d
unfolding number sum branch
number-lt zero f = lit< tt
number-lt (suc d) f = with_top (f d) (sum d (λ j. branch (f j) (2 ^ j) 0)) (number-lt d f)
  where
    with_top : (b : Bool) (low : ℕ) → low < 2 ^ d → low + branch b (2 ^ d) 0 < 2 ^ suc d
    with_top true low h = rw (pow-suc 2 d) (omega arith)
    with_top false low h = rw (pow-suc 2 d) (omega arith)
