-- The value of `done` (document 01, "What a call says back", as document 02, No. 9, amends it), as one statement over all that can be lent: the slot
-- for register; for a defer the places left in its participant's own bag, also when a push came first; else 0. The places left are said as a sum:
-- with the items that the bag then holds they are the 64 places of a bag. Which operation it is can be read off the call, or off the place at which
-- the step finds its participant. proofs/Values shows it. Assumes nothing.
use Rattle.std.specs.Prelude.{◌≡◌, Bool, List, ℕ, ◌+◌, length}
use Rattle.definition.specs.Bags.{max_objects}
use Rattle.definition.specs.Layout.{Lent, tables_of}
use Rattle.definition.specs.Step.{Out}
use Rattle.definition.specs.Public.{the, call, step, call_lent, step_lent}
use Rattle.definition.specs.Types.{Deferring, Then, Place, Call, Answer}

-- an operation, as far as its value goes
pub data Operation : Type 0 where
  register : Operation
  defer : Operation
  another : Operation

-- its value v, where its participant p holds k items when it is done
unfoldable pub HasValue : Operation → (p k v : ℕ) → Type 0
HasValue Operation.register p k v = v ≡ p
HasValue Operation.defer p k v = v + k ≡ max_objects
HasValue Operation.another p k v = v ≡ 0

-- the operation that a call begins
unfoldable pub of_call : Call → Operation
of_call Call.Acquire = Operation.another
of_call Call.Release = Operation.another
of_call Call.Pin = Operation.another
of_call Call.Unpin = Operation.another
of_call Call.Repin = Operation.another
of_call (Call.Defer token) = Operation.defer
of_call Call.Flush = Operation.another

-- the operation that a push is part of: a defer's push has a token waiting; a slot and an old head wait in a collect
unfoldable pub of_then : Then → Operation
of_then (Then.Defer (Deferring.Token token)) = Operation.defer
of_then (Then.Defer (Deferring.Slot t c succ)) = Operation.another
of_then (Then.Defer (Deferring.Node p head next)) = Operation.another
of_then Then.Flush = Operation.another
of_then Then.Finalize = Operation.another

-- the operation that stands at a place
unfoldable pub of_place : Place → Operation
of_place Place.Rest = Operation.another
of_place (Place.Register a) = Operation.register
of_place (Place.PinEpoch k) = Operation.another
of_place (Place.PinWord k e) = Operation.another
of_place (Place.Repin a) = Operation.another
of_place Place.UnpinWord = Operation.another
of_place (Place.AdvanceEpoch k) = Operation.another
of_place (Place.Walk t a) = Operation.another
of_place (Place.AdvanceWord t curr succ) = Operation.another
of_place (Place.AdvanceStore t) = Operation.another
of_place (Place.Pop p a) = Operation.another
of_place (Place.Push then a) = of_then then
of_place Place.FinalWord = Operation.another
of_place Place.FinalTag = Operation.another

module _ (N M : ℕ) (l : Lent) (p : ℕ) where
  -- the items that p holds in the tables that go back into the lists
  abbrev pub holds : Out → ℕ
  holds o = (o.tables.own p).held

  pub record Values : Type 0 where
    -- an operation that is done in its call
    pub called : (c : Call) (v n : ℕ) → (call_lent N M l p c).answer ≡ Answer.Done v n → HasValue (of_call c) p (holds (call N M p c (tables_of N M l))) v
    -- one that is done in a step, marked or not
    pub stepped : (marked : Bool) (places : List ℕ) (v n : ℕ) → (step_lent N M l p marked places).answer ≡ Answer.Done v n
        → HasValue (of_place (the p (tables_of N M l)).place) p (holds (step N M marked (length places) p (tables_of N M l))) v
