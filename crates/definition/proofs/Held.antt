-- The tokens among the items of a bag: whether one of them is a given token, by the place where it stands. Assumes nothing.
use mathlib.Core.Path.{◌≡◌, refl, ap, sym, ◌∙◌}
use mathlib.Core.Bool.{Bool, true, false, true≢false, false≢true}
use mathlib.Core.List.{List, [], ◌∷◌, ◌++◌}
use Prim.Native.Nat.{ℕ, zero, suc, ◌<◌}
use native.Mathlib.Omega.{arith}
use lib.Dec.{eqb}
use borrow.Author.Tests.{eqb-true, eq-eqb}
use Rattle.definition.specs.Base.{branch, Tab, listed, among}
use Rattle.definition.specs.Bags.{item_of, items, tokens}
use Rattle.definition.specs.Types.{Item}
use Rattle.definition.proofs.Base.{branch_ind, branch-true, same?}

-- what comes out of two lists, one after the other: the tokens
pub tokens_append : (l m : List Item) → tokens (l ++ m) ≡ tokens l ++ tokens m
unfolding tokens
tokens_append [] m = refl
tokens_append (Item.Token t ∷ l) m = ap (λ (r : List ℕ). t ∷ r) (tokens_append l m)
tokens_append (Item.Node n ∷ l) m = tokens_append l m
tokens_append (Item.Slot s ∷ l) m = tokens_append l m

-- to be among two lists is to be among the first or among the second
among_append : (x : ℕ) (l m : List ℕ) → among x (l ++ m) ≡ branch (among x l) true (among x m)
unfolding among branch
among_append x [] m = refl
among_append x (y ∷ l) m = by (eqb x y) (among_append x l m)
  where
    by : (b : Bool) → among x (l ++ m) ≡ branch (among x l) true (among x m)
        → branch b true (among x (l ++ m)) ≡ branch (branch b true (among x l)) true (among x m)
    by true rest = refl
    by false rest = rest

-- an item that has the token is the token; a node or a slot of its number has none
pub token_is : (x : ℕ) (i : Item) → among x (tokens (i ∷ [])) ≡ true → i ≡ Item.Token x
unfolding among tokens branch
token_is x (Item.Token y) h = by (eqb x y) refl h
  where
    by : (b : Bool) → eqb x y ≡ b → branch b true false ≡ true → Item.Token y ≡ Item.Token x
    by true e k = ap Item.Token (sym (eqb-true x y e))
    by false e k = absurd (false≢true k)
token_is x (Item.Node n) h = absurd (false≢true h)
token_is x (Item.Slot s) h = absurd (false≢true h)

pub is_token_lem : (x : ℕ) → among x (tokens (Item.Token x ∷ [])) ≡ true
unfolding among tokens
is_token_lem x = branch-true true false (eq-eqb x x refl)

module _ (x : ℕ) (d : Tab ℕ) where
  -- whether the token is among the first k items of a bag
  abbrev pub held : ℕ → Bool
  held k = among x (tokens (items k d))

  -- whether the item at place j is the token
  abbrev pub held_at : ℕ → Bool
  held_at j = among x (tokens (item_of (d j) ∷ []))

  -- among none it is not; among one more it is if it was, or if it is that one
  pub held_none : held 0 ≡ false
  unfolding items listed tokens among
  held_none = refl

  pub held_more : (k : ℕ) → held (suc k) ≡ branch (held k) true (held_at k)
  unfolding items listed
  held_more k =
      ap (among x) (tokens_append (items k d) (item_of (d k) ∷ [])) ∙ among_append x (tokens (items k d)) (tokens (item_of (d k) ∷ []))

  -- it is where one of them is it
  pub held_some : (k j : ℕ) → j < k → held_at j ≡ true → held k ≡ true
  held_some zero j lt h = absurd (omega arith)
  held_some (suc k) j lt h =
      held_more k ∙ branch_ind (λ (b : Bool). b ≡ true) (held k) (λ _. refl)
      (λ none. same? j k (λ e. rw (← e) h) (λ ne. absurd (true≢false (sym (held_some k j (omega arith) h) ∙ none))))

  -- and only there
  pub held-place : {P : Type 0} (k : ℕ) → held k ≡ true → ((j : ℕ) → j < k → held_at j ≡ true → P) → P
  held-place zero h found = absurd (false≢true (sym held_none ∙ h))
  held-place {P} (suc k) h found =
      branch_ind (λ (b : Bool). b ≡ true → P) (held k)
      (λ e _. held-place k e (λ j lt. found j (omega arith)))
      (λ _ e. found k (omega arith) e)
      (sym (held_more k) ∙ h)
