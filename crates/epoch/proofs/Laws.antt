-- The laws of epoch words, for every proof that speaks of them: a crate above cites these and leaves the definitions of
-- specs/Epoch.antt shut. Words are any numbers; a bound stands only where a law fails without it. Assumes nothing.
use Rattle.std.proofs.Common.{◌≡◌, ℕ, ◌+◌, ◌-◌, ◌*◌, ◌/◌, ◌%◌, ◌^◌, ◌<◌, ◌≤◌, Bool, true, false, eqb, ltb, leb, ℤ, pos, negsuc}
use Rattle.std.proofs.Common.{sym, refl, ap, ◌∙◌, arith, w64, SFits, ltb-false, ltb-true, le-ltb, lt-ltb, eq-eqb, eqb-true, le-leb}
use lib.Signed.{le_z, mag}
use borrow.Author.Tests.{lt-leb, eqb-false}
use Rattle.epoch.specs.Epoch.{starting, is_pinned, unpinned, pinned, successor, gap, signed, halved, wrapping_sub}

-- ---- the starting word

-- it is 0
pub starting_is : starting ≡ 0
unfolding starting
starting_is = refl

-- and not pinned
pub is_pinned-starting : is_pinned starting ≡ false
unfolding is_pinned starting
is_pinned-starting = refl

-- ---- the lowest bit

-- a pinned word is one more than its epoch
pub pinned_is : (w : ℕ) → pinned w ≡ unpinned w + 1
unfolding pinned
pinned_is w = refl

-- an epoch is an even number
pub unpinned_even : (w : ℕ) → unpinned w % 2 ≡ 0
unfolding unpinned
unpinned_even w = omega arith

-- the epoch is at most the word
pub unpinned-le : (w : ℕ) → unpinned w ≤ w
unfolding unpinned
unpinned-le w = omega arith

-- the word is at most the epoch and one
pub le-unpinned : (w : ℕ) → w ≤ unpinned w + 1
unfolding unpinned
le-unpinned w = omega arith

-- a word that says pinned is odd
pub odd_if_pinned : (w : ℕ) → is_pinned w ≡ true → w % 2 ≡ 1
unfolding is_pinned
odd_if_pinned w h = eqb-true (w % 2) 1 h

-- a word that says unpinned is even
pub even_if_unpinned : (w : ℕ) → is_pinned w ≡ false → w % 2 ≡ 0
unfolding is_pinned
even_if_unpinned w h = omega (arith, eqb-false (w % 2) 1 h)

-- the lowest bit decides whether a word is pinned
pub is_pinned_same : (v w : ℕ) → v % 2 ≡ w % 2 → is_pinned v ≡ is_pinned w
unfolding is_pinned
is_pinned_same v w e = ap (λ (r : ℕ). eqb r 1) e

-- pinned says pinned
pub is_pinned-pinned : (w : ℕ) → is_pinned (pinned w) ≡ true
unfolding is_pinned pinned unpinned
is_pinned-pinned w = eq-eqb ((w - w % 2 + 1) % 2) 1 (omega arith)

-- unpinned says unpinned
pub is_pinned-unpinned : (w : ℕ) → is_pinned (unpinned w) ≡ false
unfolding is_pinned
is_pinned-unpinned w = ap (λ (r : ℕ). eqb r 1) (unpinned_even w)

-- unpinning forgets a pin
pub unpinned-pinned : (w : ℕ) → unpinned (pinned w) ≡ unpinned w
unfolding pinned unpinned
unpinned-pinned w = omega arith

-- unpinning twice is unpinning
pub unpinned-unpinned : (w : ℕ) → unpinned (unpinned w) ≡ unpinned w
unfolding unpinned
unpinned-unpinned w = omega arith

-- pinning forgets whether the word was pinned
pub pinned-unpinned : (w : ℕ) → pinned (unpinned w) ≡ pinned w
unfolding pinned
pinned-unpinned w = ap (λ (u : ℕ). u + 1) (unpinned-unpinned w)

-- pinning twice is pinning
pub pinned-pinned : (w : ℕ) → pinned (pinned w) ≡ pinned w
unfolding pinned
pinned-pinned w = ap (λ (u : ℕ). u + 1) (unpinned-pinned w)

-- an unpinned word is its epoch
pub unpinned_same : (w : ℕ) → is_pinned w ≡ false → unpinned w ≡ w
unfolding unpinned
unpinned_same w h = omega (arith, even_if_unpinned w h)

-- a pinned word is its epoch and one
pub pinned-word : (w : ℕ) → is_pinned w ≡ true → w ≡ unpinned w + 1
unfolding unpinned
pinned-word w h = omega (arith, odd_if_pinned w h)

-- pinning changes no word that is pinned
pub pinned_same : (w : ℕ) → is_pinned w ≡ true → pinned w ≡ w
pinned_same w h = pinned_is w ∙ sym (pinned-word w h)

-- the word of the epoch number g is 2 * g: it is its own epoch
pub unpinned_double : (g : ℕ) → unpinned (2 * g) ≡ 2 * g
unfolding unpinned
unpinned_double g = omega arith

-- and it says unpinned
pub is_pinned_double : (g : ℕ) → is_pinned (2 * g) ≡ false
is_pinned_double g = ap is_pinned (sym (unpinned_double g)) ∙ is_pinned-unpinned (2 * g)

-- ---- words stay words, below 2 ^ 64

-- the epoch of a word is a word
pub unpinned-lt : (w : ℕ) → w < 2 ^ 64 → unpinned w < 2 ^ 64
unpinned-lt w h = omega (arith, unpinned-le w)

-- a pinned word is a word: 2 ^ 64 is even, so the pin does not reach it
pub pinned-lt : (w : ℕ) → w < 2 ^ 64 → pinned w < 2 ^ 64
pinned-lt w h = omega (arith, pinned_is w, unpinned-le w, unpinned_even w)

-- the successor of any number is a word
pub successor-lt : (w : ℕ) → successor w < 2 ^ 64
unfolding successor
successor-lt w = omega arith

-- ---- the next epoch

-- two more, where that does not wrap
pub successor_is : (w : ℕ) → w + 2 < 2 ^ 64 → successor w ≡ w + 2
unfolding successor
successor_is w h = omega arith

-- its epoch is two more than the word's
pub unpinned-successor : (w : ℕ) → w + 2 < 2 ^ 64 → unpinned (successor w) ≡ unpinned w + 2
unfolding unpinned
unpinned-successor w h = rw (successor_is w h) (omega arith)

-- it is pinned exactly if the word is, also where it wraps
pub is_pinned-successor : (w : ℕ) → is_pinned (successor w) ≡ is_pinned w
unfolding successor
is_pinned-successor w = is_pinned_same ((w + 2) % 2 ^ 64) w (omega arith)

-- ---- the distance

-- one number is below the other or not
split : {P : Type 0} (m n : ℕ) → (m < n → P) → (n ≤ m → P) → P
split {P} m n f g = by (ltb m n) refl
  where
    by : (t : Bool) → ltb m n ≡ t → P
    by true t = f (ltb-true m n t)
    by false t = g (ltb-false m n t)

-- the lower half of the words reads as itself
pub signed-low : (g : ℕ) → g < 2 ^ 63 → signed g ≡ pos g
unfolding signed
signed-low g h = rw (lt-ltb g (2 ^ 63) h)

-- the upper half counts down from -1
pub signed_high : (g : ℕ) → 2 ^ 63 ≤ g → signed g ≡ negsuc (2 ^ 64 - 1 - g)
unfolding signed
signed_high g h = rw (le-ltb g (2 ^ 63) h)

-- a word reads as a number that fits an i64
pub signed-fits : (g : ℕ) → SFits w64 (signed g)
signed-fits g = split g (2 ^ 63) low high
  where
    low : g < 2 ^ 63 → SFits w64 (signed g)
    low h = rw (signed-low g h) (record { sfits = h })

    high : 2 ^ 63 ≤ g → SFits w64 (signed g)
    high h = rw (signed_high g h) (record { sfits = omega arith })

-- the signed half of a word does not depend on the word's lowest bit
halved_same : (g h : ℕ) → g / 2 ≡ h / 2 → halved (signed g) ≡ halved (signed h)
unfolding halved
halved_same g h e = split g (2 ^ 63) low high
  where
    low : g < 2 ^ 63 → halved (signed g) ≡ halved (signed h)
    low l = rw (signed-low g l, signed-low h (omega arith)) (ap pos e)

    high : 2 ^ 63 ≤ g → halved (signed g) ≡ halved (signed h)
    high l = rw (signed_high g l, signed_high h (omega arith)) (ap negsuc (omega arith))

-- half of n is n / 2, and half of -1 - n is -1 - n / 2: `mag` is n for both
mag-halved : (z : ℤ) → mag (halved z) ≡ mag z / 2
unfolding halved
mag-halved (pos n) = refl
mag-halved (negsuc n) = refl

-- a is in b's epoch or ahead of it: the distance is half of the difference
pub wrapping_sub-ahead : (a b : ℕ) → a < 2 ^ 63 → unpinned b ≤ a → wrapping_sub a b ≡ pos ((a - unpinned b) / 2)
unfolding wrapping_sub gap halved
wrapping_sub-ahead a b small h =
    let e : (a + 2 ^ 64 - unpinned b) % 2 ^ 64 ≡ a - unpinned b = omega arith in
    rw (e, signed-low (a - unpinned b) (omega arith))

-- a is behind b's epoch: the distance is below zero, -1 at a difference of 1 or 2
pub wrapping_sub-behind : (a b : ℕ) → b < 2 ^ 63 → a < unpinned b → wrapping_sub a b ≡ negsuc ((unpinned b - a - 1) / 2)
unfolding wrapping_sub gap halved
wrapping_sub-behind a b small h =
    let le = unpinned-le b in
    let e : (a + 2 ^ 64 - unpinned b) % 2 ^ 64 ≡ a + 2 ^ 64 - unpinned b = omega arith in
    let back : 2 ^ 64 - 1 - (a + 2 ^ 64 - unpinned b) ≡ unpinned b - a - 1 = omega arith in
    rw (e, signed_high (a + 2 ^ 64 - unpinned b) (omega arith), back)

-- the lowest bit of a does not count
pub wrapping_sub-unpinned : (a b : ℕ) → wrapping_sub (unpinned a) b ≡ wrapping_sub a b
unfolding wrapping_sub gap unpinned
wrapping_sub-unpinned a b = halved_same (gap (unpinned a) b) (gap a b) (omega arith)

-- so a pinned word is as far ahead as its epoch
pub wrapping_sub-pinned : (a b : ℕ) → wrapping_sub (pinned a) b ≡ wrapping_sub (unpinned a) b
wrapping_sub-pinned a b = sym (wrapping_sub-unpinned (pinned a) b) ∙ ap (λ (u : ℕ). wrapping_sub u b) (unpinned-pinned a)

-- nor does the lowest bit of b
pub wrapping_sub_of_unpinned : (a b : ℕ) → wrapping_sub a (unpinned b) ≡ wrapping_sub a b
unfolding wrapping_sub gap
wrapping_sub_of_unpinned a b = rw (unpinned-unpinned b)

-- the distance is at least -2 ^ 62 and below 2 ^ 62
pub wrapping_sub-range : (a b : ℕ) → mag (wrapping_sub a b) < 2 ^ 62
unfolding wrapping_sub
wrapping_sub-range a b =
    let fits = signed-fits (gap a b) in
    omega (arith, mag-halved (signed (gap a b)))

-- so it fits an i64
pub wrapping_sub-fits : (a b : ℕ) → SFits w64 (wrapping_sub a b)
wrapping_sub-fits a b = record { sfits = omega (arith, wrapping_sub-range a b) }

-- ---- expiry: a distance of at least 2

-- two tests agree if each answer of the first is the second's
leb_same : (k l m n : ℕ) → (k ≤ l → m ≤ n) → (l < k → n < m) → leb k l ≡ leb m n
leb_same k l m n f g =
    split l k (λ h. lt-leb k l h ∙ sym (lt-leb m n (g h))) (λ h. le-leb k l h ∙ sym (le-leb m n (f h)))

-- the word a is at least two epochs ahead of b exactly if it is at least 4 more than b's epoch
pub expiry : (a b : ℕ) → a < 2 ^ 63 → b < 2 ^ 63 → le_z (pos 2) (wrapping_sub a b) ≡ leb (unpinned b + 4) a
expiry a b p q = split a (unpinned b) behind ahead
  where
    behind : a < unpinned b → le_z (pos 2) (wrapping_sub a b) ≡ leb (unpinned b + 4) a
    behind h = rw (wrapping_sub-behind a b q h) (sym (lt-leb (unpinned b + 4) a (omega arith)))

    ahead : unpinned b ≤ a → le_z (pos 2) (wrapping_sub a b) ≡ leb (unpinned b + 4) a
    ahead h = rw (wrapping_sub-ahead a b p h) (leb_same 2 ((a - unpinned b) / 2) (unpinned b + 4) a (λ k. omega arith) (λ k. omega arith))

-- garbage of the epoch number s is expired at the number g exactly if s + 2 ≤ g
pub expiry_numbers : (g s : ℕ) → g < 2 ^ 62 → s < 2 ^ 62 → le_z (pos 2) (wrapping_sub (2 * g) (2 * s)) ≡ leb (s + 2) g
expiry_numbers g s p q =
    expiry (2 * g) (2 * s) (omega arith) (omega arith)
    ∙ rw (unpinned_double s) (leb_same (2 * s + 4) (2 * g) (s + 2) g (λ h. omega arith) (λ h. omega arith))
