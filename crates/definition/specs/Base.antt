-- What the whole definition is written with: choice, tables as functions from an index, five ways to run over the first n indices of a
-- table, and whether a number is one of some. Assumes nothing.
use Rattle.std.specs.Prelude.{Bool, true, false, ◌&&◌, List, [], ◌∷◌, ◌++◌, ℕ, zero, suc, ◌+◌, eqb, ltb}

-- the first where the test is true, else the second
unfoldable pub branch {ℓ} : {A : Type ℓ} → Bool → A → A → A
branch true x y = x
branch false x y = y

-- a table: what stands at each index
abbrev pub Tab : Type 0 → Type 0
Tab A = ℕ → A

-- the table with v at i, and otherwise as it was
unfoldable pub put : {A : Type 0} → Tab A → ℕ → A → Tab A
put t i v = λ j. branch (eqb i j) v (t j)

-- the sum over the first n indices
unfoldable pub sum : ℕ → Tab ℕ → ℕ
sum zero f = 0
sum (suc n) f = sum n f + f n

-- how many of the first n indices are marked
unfoldable pub count : ℕ → Tab Bool → ℕ
count n f = sum n (λ i. branch (f i) 1 0)

-- whether all of the first n indices are marked
unfoldable pub all : ℕ → Tab Bool → Bool
all zero f = true
all (suc n) f = all n f && f n

-- the smallest marked index below n; n where there is none
unfoldable pub least : ℕ → Tab Bool → ℕ
least zero f = 0
least (suc n) f = branch (ltb (least n f) n) (least n f) (branch (f n) n (suc n))

-- the first n entries, in order
unfoldable pub listed : {A : Type 0} → ℕ → Tab A → List A
listed zero f = []
listed (suc n) f = listed n f ++ f n ∷ []

-- whether a number is among some
unfoldable pub among : ℕ → List ℕ → Bool
among x [] = false
among x (y ∷ l) = branch (eqb x y) true (among x l)
