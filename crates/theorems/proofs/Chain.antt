-- A chain over a table of nexts: each entry in it has a rank, and the next of an entry is null or the one in the chain with the next lower rank
-- (`Chained`). So a walk along the nexts ends, in as many entries as are in the chain with no higher rank than where it begins; it meets nobody
-- else, and all of these. Said once, for the list of participants (Ahead) and for the queue (Behind). Leans on Roomy (counting). Assumes nothing.
use mathlib.Core.Path.{◌≡◌, refl, sym, ◌∙◌}
use mathlib.Core.Logic.{◌≢◌}
use mathlib.Core.Bool.{Bool, true, false, ◌&&◌, true≢false, false≢true, and-false, not-eq-not}
use mathlib.Core.List.{List, [], ◌∷◌}
use Prim.Native.Nat.{ℕ, zero, suc, ◌+◌, ◌≤◌, ◌<◌}
use native.Mathlib.Omega.{arith}
use lib.Dec.{eqb, leb}
use borrow.Author.Tests.{eqb-true, eqb-false, leb-true, le-leb, lt-leb}
use Rattle.definition.specs.Base.{branch, Tab, count, among}
use Rattle.definition.specs.Links.{is_null, index}
use Rattle.definition.proofs.Base.{branch_ind, both, and_intro, count-le}
use Rattle.theorems.proofs.Roomy.{count_mono, count_more}

-- ---- the walk

-- the entries from a word on, `fuel` at most
unfoldable pub entries : (fuel : ℕ) → Tab ℕ → ℕ → List ℕ
entries zero next w = []
entries (suc k) next w = branch (is_null w) [] (index w ∷ entries k next (next (index w)))

-- whether null is met within so many
unfoldable pub ends : (fuel : ℕ) → Tab ℕ → ℕ → Bool
ends zero next w = is_null w
ends (suc k) next w = branch (is_null w) true (ends k next (next (index w)))

-- who is among some is the first, or among the rest
among-split : {P : Type 0} (x y : ℕ) (l : List ℕ) → among x (y ∷ l) ≡ true → (x ≡ y → P) → (among x l ≡ true → P) → P
unfolding among
among-split {P} x y l = branch_ind (λ (b : Bool). b ≡ true → (x ≡ y → P) → (among x l ≡ true → P) → P) (eqb x y)
    (λ e _ first rest. first (eqb-true x y e)) (λ _ e first rest. rest e)

-- and the other way
among_intro : (x y : ℕ) (l : List ℕ) → (x ≢ y → among x l ≡ true) → among x (y ∷ l) ≡ true
unfolding among
among_intro x y l rest = branch_ind (λ (b : Bool). b ≡ true) (eqb x y) (λ _. refl) (λ e. rest (eqb-false x y e))

-- ---- how many there are up to a rank

-- x is in the chain
abbrev pub Member : (size : ℕ) → Tab Bool → ℕ → Type 0
Member size isIn x = (x < size) × (isIn x ≡ true)

module _ (size : ℕ) (isIn : Tab Bool) (rank : Tab ℕ) where
  -- those in the chain of rank r or below
  unfoldable pub up_to : ℕ → ℕ
  up_to r = count size (λ x. isIn x && leb (rank x) r)

  -- they are some of all
  pub up_few : (r : ℕ) → up_to r ≤ count size isIn
  unfolding up_to
  up_few r = count_mono size _ _ (λ x _ e. (both (isIn x) (leb (rank x) r) e).0)

  -- who is in the chain counts from its own rank on
  counted : (c r : ℕ) → isIn c ≡ true → rank c ≤ r → (isIn c && leb (rank c) r) ≡ true
  counted c r e le = and_intro (isIn c) (leb (rank c) r) e (le-leb (rank c) r le)

  -- so there is one
  pub up_some : (c : ℕ) → Member size isIn c → 1 ≤ up_to (rank c)
  unfolding up_to
  up_some c i =
      let k = count_more size (λ _. false) (λ x. isIn x && leb (rank x) (rank c)) c i.0 refl (counted c (rank c) i.1 (omega arith)) (λ _ _ e. absurd (false≢true e)) in
      omega arith

  -- and below it there are fewer
  pub up_falls : (c r : ℕ) → Member size isIn c → r < rank c → up_to r + 1 ≤ up_to (rank c)
  unfolding up_to
  up_falls c r i lt = count_more size _ _ c i.0 (rw (lt-leb (rank c) r lt) (and-false (isIn c))) (counted c (rank c) i.1 (omega arith)) wider
    where
      wider : (x : ℕ) → x < size → (isIn x && leb (rank x) r) ≡ true → (isIn x && leb (rank x) (rank c)) ≡ true
      wider x _ e = let k = both (isIn x) (leb (rank x) r) e in let le = leb-true (rank x) r k.1 in counted x (rank c) k.0 (omega arith)

-- of more, no fewer are up to a rank
pub up_more : (size : ℕ) (f g : Tab Bool) (rank : Tab ℕ) (r : ℕ) → ((x : ℕ) → x < size → f x ≡ true → g x ≡ true) → up_to size f rank r ≤ up_to size g rank r
unfolding up_to
up_more size f g rank r more = count_mono size _ _ (λ x lt e. let k = both (f x) (leb (rank x) r) e in and_intro (g x) (leb (rank x) r) (more x lt k.0) k.1)

-- ---- a chain

-- ranks tell those in it apart; the next of one is null, or in the chain and of lower rank; and it passes over nobody, so only the lowest has none
pub record Chained (size : ℕ) (isIn : Tab Bool) (rank next : Tab ℕ) : Type 0 where
  pub differ : (x y : ℕ) → Member size isIn x → Member size isIn y → rank x ≡ rank y → x ≡ y
  pub leads : (x : ℕ) → Member size isIn x → is_null (next x) ≡ false → Member size isIn (index (next x)) × (rank (index (next x)) < rank x)
  pub nearest : (x y : ℕ) → Member size isIn x → Member size isIn y → rank y < rank x → (is_null (next x) ≡ false) × (rank y ≤ rank (index (next x)))

module _ {size : ℕ} {isIn : Tab Bool} {rank next : Tab ℕ} (chain : Chained size isIn rank next) where
  -- a word that is null or leads into the chain
  abbrev Into : ℕ → Type 0
  Into w = is_null w ≡ false → Member size isIn (index w)

  -- as is the next of whom it leads to
  onward : (w : ℕ) → Into w → is_null w ≡ false → Into (next (index w))
  onward w to e z = (chain.leads (index w) (to e) z).0

  -- k entries are enough for the walk from it
  abbrev Enough : ℕ → ℕ → Type 0
  Enough k w = is_null w ≡ false → up_to size isIn rank (rank (index w)) ≤ k

  -- the whole table always is
  pub enough : (w : ℕ) → Enough size w
  unfolding up_to
  enough w _ = count-le size _

  -- none are not, if there is an entry
  none_left : (w : ℕ) → Into w → Enough 0 w → is_null w ≡ false → ⊥
  none_left w to few e = let one = up_some size isIn rank (index w) (to e) in let none = few e in omega arith

  -- and the entry is one of them
  one_less : (k w : ℕ) → Into w → Enough (suc k) w → is_null w ≡ false → Enough k (next (index w))
  one_less k w to few e z =
      let fewer = up_falls size isIn rank (index w) (rank (index (next (index w)))) (to e) (chain.leads (index w) (to e) z).1 in
      let all = few e in
      omega arith

  -- the walk ends
  pub walk-ends : (k w : ℕ) → Into w → Enough k w → ends k next w ≡ true
  unfolding ends
  walk-ends zero w to few = (not-eq-not {b = true}).0 (none_left w to few)
  walk-ends (suc k) w to few = branch_ind (λ (b : Bool). b ≡ true) (is_null w) (λ _. refl)
      (λ e. walk-ends k (next (index w)) (onward w to e) (one_less k w to few e))

  -- whoever it meets is in the chain
  pub walk_in_lem : (k w x : ℕ) → Into w → among x (entries k next w) ≡ true → Member size isIn x
  unfolding entries among
  walk_in_lem zero w x to = λ e. absurd (false≢true e)
  walk_in_lem (suc k) w x to = branch_ind (λ (l : List ℕ). among x l ≡ true → Member size isIn x) (is_null w) (λ _ e. absurd (false≢true e))
      (λ e met. among-split x (index w) (entries k next (next (index w))) met
      (λ here. rw here (to e)) (walk_in_lem k (next (index w)) x (onward w to e)))

  -- and it meets everybody who is in the chain and of no higher rank than where it begins
  pub walk_meets : (k w x : ℕ) → Into w → Enough k w → Member size isIn x → (is_null w ≡ false) × (rank x ≤ rank (index w)) → among x (entries k next w) ≡ true
  unfolding entries
  walk_meets zero w x to few i below = absurd (none_left w to few below.0)
  walk_meets (suc k) w x to few i below = branch_ind (λ (l : List ℕ). among x l ≡ true) (is_null w) (λ e. absurd (true≢false (sym e ∙ below.0)))
      (λ e. among_intro x (index w) (entries k next (next (index w)))
      (λ ne. walk_meets k (next (index w)) x (onward w to e) (one_less k w to few e) i (chain.nearest (index w) x (to e) i (lower e ne))))
    where
      lower : is_null w ≡ false → x ≢ index w → rank x < rank (index w)
      lower e ne = let le = below.1 in let other : rank x ≢ rank (index w) = λ same. ne (chain.differ x (index w) i (to e) same) in omega arith
