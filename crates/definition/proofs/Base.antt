-- Laws of what the definition is written with: choice, tables, sums over a table. Each is stated once, over any table, and cited.
-- Assumes nothing.
use mathlib.Core.Path.{◌≡◌, refl, ap}
use mathlib.Core.Bool.{Bool, true, false, ◌&&◌, false≢true}
use mathlib.Core.Logic.{◌≢◌}
use Prim.Native.Nat.{ℕ, zero, suc, ◌+◌, ◌≤◌, ◌<◌}
use native.Mathlib.Omega.{arith}
use lib.Dec.{eqb, ltb}
use borrow.Author.Tests.{eqb-true, eqb-false, eq-eqb, ne_eqb, ltb-true, ltb-false}
use Rattle.definition.specs.Base.{branch, Tab, put, sum, count, all, least}

-- a proof about a choice is a proof about each side, with the test's answer in hand
pub branch_ind {ℓ ℓ'} : {A : Type ℓ} (P : A → Type ℓ') (b : Bool) {x y : A} → (b ≡ true → P x) → (b ≡ false → P y) → P (branch b x y)
unfolding branch
branch_ind P true h k = h refl
branch_ind P false h k = k refl

pub branch-true {ℓ} : {A : Type ℓ} {b : Bool} (x y : A) → b ≡ true → branch b x y ≡ x
unfolding branch
branch-true x y e = rw e

pub branch-false {ℓ} : {A : Type ℓ} {b : Bool} (x y : A) → b ≡ false → branch b x y ≡ y
unfolding branch
branch-false x y e = rw e

-- both sides alike
pub branch_same {ℓ} : {A : Type ℓ} (b : Bool) (x : A) → branch b x x ≡ x
unfolding branch
branch_same true x = refl
branch_same false x = refl

-- two indices are the same or not
pub same? {ℓ} : {P : Type ℓ} (i j : ℕ) → (i ≡ j → P) → (i ≢ j → P) → P
same? {P = P} i j h k = go (eqb i j) refl
  where
    go : (b : Bool) → eqb i j ≡ b → P
    go true e = h (eqb-true i j e)
    go false e = k (eqb-false i j e)

-- a changed table at the index changed, and elsewhere
pub put_same : {A : Type 0} (t : Tab A) (i : ℕ) (v : A) → put t i v i ≡ v
unfolding put
put_same t i v = branch-true v (t i) (eq-eqb i i refl)

pub put_other : {A : Type 0} (t : Tab A) (i j : ℕ) (v : A) → i ≢ j → put t i v j ≡ t j
unfolding put
put_other t i j v h = branch-false v (t j) (ne_eqb i j h)

-- both at once, for what is to be shown of the entry
pub put_ind {ℓ} : {A : Type 0} (P : A → Type ℓ) (t : Tab A) (i j : ℕ) (v : A) → (i ≡ j → P v) → (i ≢ j → P (t j)) → P (put t i v j)
unfolding put
put_ind P t i j v h k = branch_ind P (eqb i j) (λ e. h (eqb-true i j e)) (λ e. k (eqb-false i j e))

-- what was there, put there again
pub put_back : {A : Type 0} (t : Tab A) (i j : ℕ) → put t i (t i) j ≡ t j
put_back t i j = put_ind (λ v. v ≡ t j) t i j (t i) (λ e. ap t e) (λ _. refl)

-- sums of equal entries
pub sum_ext : (n : ℕ) (f g : Tab ℕ) → ((i : ℕ) → i < n → f i ≡ g i) → sum n f ≡ sum n g
unfolding sum
sum_ext zero f g h = refl
sum_ext (suc n) f g h = rw (sum_ext n f g (λ i l. h i (omega arith)), h n (omega arith))

-- an entry beyond the sum does not change it; one within it changes it by the difference
pub sum_out : {A : Type 0} (n : ℕ) (w : A → ℕ) (t : Tab A) (i : ℕ) (v : A) → n ≤ i → sum n (λ j. w (put t i v j)) ≡ sum n (λ j. w (t j))
unfolding sum
sum_out zero w t i v h = refl
sum_out (suc n) w t i v h = rw (sum_out n w t i v (omega arith), put_other t i n v (omega arith))

pub sum-put : {A : Type 0} (n : ℕ) (w : A → ℕ) (t : Tab A) (i : ℕ) (v : A) → i < n → sum n (λ j. w (put t i v j)) + w (t i) ≡ sum n (λ j. w (t j)) + w v
unfolding sum
sum-put zero w t i v h = omega arith
sum-put (suc n) w t i v h =
    same? i n
    (λ s. rw (sum_out n w t i v (omega arith), ← s, put_same t i v) (omega arith))
    (λ ne. rw (put_other t i n v ne) (let ih = sum-put n w t i v (omega arith) in omega arith))

-- both tests are true
pub both : (a b : Bool) → (a && b) ≡ true → (a ≡ true) × (b ≡ true)
both true b h = (refl, h)
both false b h = absurd (false≢true h)

pub and_intro : (a b : Bool) → a ≡ true → b ≡ true → (a && b) ≡ true
and_intro a b h k = rw (h, k)

-- a test over the first n indices, at one of them, and from all of them
pub all_at : (n : ℕ) (f : Tab Bool) (i : ℕ) → all n f ≡ true → i < n → f i ≡ true
unfolding all
all_at zero f i h lt = absurd (omega arith)
all_at (suc n) f i h lt =
    let x = both (all n f) (f n) h in
    same? i n (λ e. rw e x.1) (λ ne. all_at n f i x.0 (omega arith))

pub all_intro : (n : ℕ) (f : Tab Bool) → ((i : ℕ) → i < n → f i ≡ true) → all n f ≡ true
unfolding all
all_intro zero f h = refl
all_intro (suc n) f h = and_intro (all n f) (f n) (all_intro n f (λ i lt. h i (omega arith))) (h n (omega arith))

-- the smallest marked index: where one is marked it is below n and marked, and none below it is
pub least_le : (n : ℕ) (f : Tab Bool) → least n f ≤ n
unfolding least
least_le zero f = omega arith
least_le (suc n) f =
    branch_ind (λ (k : ℕ). k ≤ suc n) (ltb (least n f) n) (λ e. omega (arith, ltb-true (least n f) n e))
    (λ _. branch_ind (λ (k : ℕ). k ≤ suc n) (f n) (λ _. omega arith) (λ _. omega arith))

pub least_marked : (n : ℕ) (f : Tab Bool) → least n f < n → f (least n f) ≡ true
unfolding least branch
least_marked zero f h = absurd (omega arith)
least_marked (suc n) f h = go (ltb (least n f) n) refl (f n) refl h (least_marked n f)
  where
    go : (b : Bool) → ltb (least n f) n ≡ b → (c : Bool) → f n ≡ c → branch b (least n f) (branch c n (suc n)) < suc n
        → (least n f < n → f (least n f) ≡ true) → f (branch b (least n f) (branch c n (suc n))) ≡ true
    go true e c m lt below = below (ltb-true (least n f) n e)
    go false e true m lt below = m
    go false e false m lt below = absurd (omega arith)

pub least_first : (n : ℕ) (f : Tab Bool) (i : ℕ) → i < least n f → f i ≡ false
unfolding least branch
least_first zero f i h = absurd (omega arith)
least_first (suc n) f i h = go (ltb (least n f) n) refl (f n) refl h (least_first n f i)
  where
    go : (b : Bool) → ltb (least n f) n ≡ b → (c : Bool) → f n ≡ c → i < branch b (least n f) (branch c n (suc n))
        → (i < least n f → f i ≡ false) → f i ≡ false
    go true e c m lt below = below lt
    go false e true m lt below = below (omega (arith, ltb-false (least n f) n e))
    go false e false m lt below =
        same? i n (λ s. rw s m) (λ ne. below (omega (arith, ltb-false (least n f) n e)))

-- no more are marked than there are
pub count-le : (n : ℕ) (f : Tab Bool) → count n f ≤ n
unfolding count sum
count-le zero f = omega arith
count-le (suc n) f = branch_ind (λ (k : ℕ). sum n (λ i. branch (f i) 1 0) + k ≤ suc n) (f n) (λ _. omega (arith, count-le n f)) (λ _. omega (arith, count-le n f))

-- nothing is marked exactly where nothing counts
pub count_none : (n : ℕ) (f : Tab Bool) → ((i : ℕ) → i < n → f i ≡ false) → count n f ≡ 0
unfolding count sum branch
count_none zero f h = refl
count_none (suc n) f h = rw (h n (omega arith)) (omega (arith, count_none n f (λ i lt. h i (omega arith))))

pub count_least : (n : ℕ) (f : Tab Bool) → (count n f ≡ 0 → ⊥) → least n f < n
count_least n f h = go (ltb (least n f) n) refl
  where
    go : (b : Bool) → ltb (least n f) n ≡ b → least n f < n
    go true e = ltb-true (least n f) n e
    go false e = absurd (h (count_none n f (λ i lt. least_first n f i (omega (arith, ltb-false (least n f) n e)))))
