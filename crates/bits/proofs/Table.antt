-- Sums, tests and searches over the first indices of a table: from below, in parts, and entry by entry. Assumes nothing.
use mathlib.Core.Path.{◌≡◌, refl, sym, ap, ◌∙◌}
use mathlib.Core.Bool.{Bool, true, false, ◌&&◌, and-true, and_assoc}
use Prim.Native.Nat.{ℕ, zero, suc, ◌+◌, ◌*◌, ◌≤◌, ◌<◌}
use native.Mathlib.Nat.{add-zero, add-suc, add_assoc}
use native.Mathlib.Omega.{arith}
use lib.Dec.{ltb}
use borrow.Author.Tests.{ltb-true, ltb-false, lt-ltb, le-ltb}
use Rattle.definition.specs.Base.{branch, Tab, sum, count, all, least}
use Rattle.definition.proofs.Base.{same?, sum_ext, all_at}

-- one number is below the other or not
pub below? {ℓ} : {P : Type ℓ} (m n : ℕ) → (m < n → P) → (n ≤ m → P) → P
below? {P = P} m n h k = by (ltb m n) refl
  where
    by : (t : Bool) → ltb m n ≡ t → P
    by true t = h (ltb-true m n t)
    by false t = k (ltb-false m n t)

-- ---- sums and counts

-- the lowest entry first
pub sum-low : (n : ℕ) (f : Tab ℕ) → sum (suc n) f ≡ f 0 + sum n (λ i. f (suc i))
unfolding sum
sum-low zero f = omega arith
sum-low (suc n) f = rw (sum-low n f) (add_assoc (f 0) (sum n (λ i. f (suc i))) (f (suc n)))

-- the first m entries, and the n after them
pub sum-add : (m n : ℕ) (f : Tab ℕ) → sum (m + n) f ≡ sum m f + sum n (λ i. f (m + i))
unfolding sum
sum-add m zero f = rw (add-zero m, add-zero (sum m f))
sum-add m (suc n) f = rw (add-suc m n, sum-add m n f) (add_assoc (sum m f) (sum n (λ i. f (m + i))) (f (m + n)))

-- twice every entry is twice the sum
pub sum_double : (n : ℕ) (f : Tab ℕ) → sum n (λ i. f i * 2) ≡ sum n f * 2
unfolding sum
sum_double zero f = refl
sum_double (suc n) f = rw (sum_double n f) (omega arith)

-- equal marks, equal counts
pub count_ext : (n : ℕ) (f g : Tab Bool) → ((i : ℕ) → i < n → f i ≡ g i) → count n f ≡ count n g
unfolding count
count_ext n f g h = sum_ext n (λ i. branch (f i) 1 0) (λ i. branch (g i) 1 0) (λ i l. ap (λ (b : Bool). branch b 1 0) (h i l))

-- the marks among the first m, and among the n after them
pub count-add : (m n : ℕ) (f : Tab Bool) → count (m + n) f ≡ count m f + count n (λ i. f (m + i))
unfolding count
count-add m n f = sum-add m n (λ i. branch (f i) 1 0)

-- ---- tests of all entries

-- equal marks, equal tests
pub all_ext : (n : ℕ) (f g : Tab Bool) → ((i : ℕ) → i < n → f i ≡ g i) → all n f ≡ all n g
unfolding all
all_ext zero f g h = refl
all_ext (suc n) f g h = rw (all_ext n f g (λ i l. h i (omega arith)), h n (omega arith))

-- the first m entries, and the n after them
pub all_add : (m n : ℕ) (f : Tab Bool) → all (m + n) f ≡ (all m f && all n (λ i. f (m + i)))
unfolding all
all_add m zero f = rw add-zero (sym (and-true (all m f)))
all_add m (suc n) f = rw (add-suc m n, all_add m n f) (and_assoc (all m f) (all n (λ i. f (m + i))) (f (m + n)))

-- one entry that is not marked is enough
pub all_not : (n : ℕ) (f : Tab Bool) (i : ℕ) → i < n → f i ≡ false → all n f ≡ false
all_not n f i l e = by (all n f) refl
  where
    by : (t : Bool) → all n f ≡ t → all n f ≡ false
    by true h = let c = all_at n f i h l in cc
    by false h = h

-- ---- the smallest marked index

-- none is marked
pub least_none : (n : ℕ) (f : Tab Bool) → ((i : ℕ) → i < n → f i ≡ false) → least n f ≡ n
unfolding least branch
least_none zero f h = refl
least_none (suc n) f h =
    let e = least_none n f (λ i l. h i (omega arith)) in
    rw (e, le-ltb n n (omega arith), h n (omega arith))

-- m is marked, and nothing below it
pub least_at : (n : ℕ) (f : Tab Bool) (m : ℕ) → m < n → f m ≡ true → ((i : ℕ) → i < m → f i ≡ false) → least n f ≡ m
unfolding least branch
least_at zero f m l t h = absurd (omega arith)
least_at (suc n) f m l t h =
    same? m n
    (λ e.
    let none = least_none n f (λ i k. h i (omega arith)) in
    let here : f n ≡ true = ap f (sym e) ∙ t in
    rw (none, le-ltb n n (omega arith), here) (sym e))
    (λ ne.
    let there = least_at n f m (omega arith) t h in
    rw (there, lt-ltb m n (omega arith)))
