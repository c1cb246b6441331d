-- A double retirement (document 02, No. 6), as one statement over all that can be lent: a defer that is taken retires a token that its participant's own
-- bag did not hold, and one that is refused with 16 would have retired one that it holds. Nothing is said of other bags. proofs/Double shows it.
-- Assumes nothing.
use Rattle.std.specs.Prelude.{◌≡◌, ◌≢◌, ℕ, ◌<◌}
use Rattle.definition.specs.Bags.{item_of}
use Rattle.definition.specs.Layout.{Lent, tables_of}
use Rattle.definition.specs.Public.{Outcome, call_lent}
use Rattle.definition.specs.Types.{Item, Call, Answer}

module _ (N M : ℕ) (l : Lent) (p token : ℕ) where
  -- a place of participant p's own bag, below the bag's length, has the token
  pub record Holds : Type 0 where
    pub place : ℕ
    pub below : place < ((tables_of N M l).own p).held
    pub has : item_of ((tables_of N M l).held p place) ≡ Item.Token token

  -- what a defer of the token by participant p gives
  abbrev pub deferred : Outcome
  deferred = call_lent N M l p (Call.Defer token)

  pub record Double : Type 0 where
    -- where it is refused with no number, no place had the token
    pub apart : ((r : ℕ) → deferred.answer ≢ Answer.Refused r) → Holds → ⊥
    -- where it is refused with 16, one has it
    pub shown : deferred.answer ≡ Answer.Refused 16 → Holds
