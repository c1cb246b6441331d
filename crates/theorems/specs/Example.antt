-- A run in the words of the statement, in which a token is freed: document 01's, where after the first pin come defer 7, flush, unpin, pin, flush, repin
-- and the flush that frees. One participant and two nodes; the lists lent to `start` hold fives. The numbers that the statement speaks of, before the step that frees 7 and
-- after it; proofs/Example shows that they are these. Assumes nothing.
use Rattle.std.specs.Prelude.{Bool, true, false, List, [], ◌∷◌, ◌++◌, ℕ, replicate}
use Rattle.epoch.specs.Epoch.{is_pinned}
use Rattle.definition.specs.Layout.{Lent, lent, tables_of}
use Rattle.definition.specs.declared.Call.{Call}
use Rattle.theorems.specs.Waiting.{times, waiting}
use Rattle.theorems.specs.Events.{Event, frees, does, words, changes, retired, freed}
use Rattle.theorems.specs.Statement.{started, reached}

-- lists of the lengths for one participant and two nodes
abbrev pub lists : Lent
lists = lent (replicate 7 5) (replicate 21 5) (replicate 6 5) (replicate 64 5) (replicate 128 5)

-- a step of participant 0, with a list of 64 places; a call of it, and so many steps
abbrev pub step : Event
step = Event.steps 0 false (replicate 64 0)

abbrev pub operation : Call → ℕ → List Event
operation c k = Event.calls 0 c ∷ replicate k step

-- up to the retirement; the retirement; from there to the step that frees: of the last flush's eleven steps it is the ninth
abbrev pub before : List Event
before = Event.registers ∷ replicate 3 step ++ operation Call.Pin 9

abbrev pub retirement : Event
retirement = Event.calls 0 (Call.Defer 7)

abbrev pub since : List Event
since = operation Call.Flush 11 ++ operation Call.Unpin 1 ++ operation Call.Pin 2 ++ operation Call.Flush 7 ++ operation Call.Repin 3 ++ operation Call.Flush 8

abbrev pub run : List Event
run = before ++ retirement ∷ since

-- what the clauses speak of
pub record Told : Type 0 where
  pub pinned : Bool
  pub retired : ℕ
  pub freed : ℕ
  pub waits : ℕ

-- after some events
abbrev pub tells : List Event → Told
tells l = record {
  pinned = is_pinned ((words 1 2 (reached 1 2 lists l)).word 0);
  retired = retired 1 2 7 l (started 1 2 lists);
  freed = freed 1 2 7 l (started 1 2 lists);
  waits = waiting 1 2 7 (tables_of 1 2 (reached 1 2 lists l));
}

-- just before the retirement participant 0 is pinned, and 7 was never retired. Before the step that frees it, 7 was retired once and waits once; that step
-- frees it, once; and the word of participant 0 changed three times in between (by unpin, pin and repin). Afterwards 7 waits nowhere
pub record Example : Type 0 where
  pub at_retirement : Told
  pub before_free : Told
  pub frees : ℕ
  pub changes : ℕ
  pub after_free : Told

abbrev pub example : Example
example = record {
  at_retirement = tells before;
  before_free = tells run;
  frees = times 7 (frees (does 1 2 step (reached 1 2 lists run)));
  changes = changes 1 2 0 since (reached 1 2 lists (before ++ retirement ∷ []));
  after_free = tells (run ++ step ∷ []);
}

abbrev pub expected : Example
expected = record {
  at_retirement = record { pinned = true; retired = 0; freed = 0; waits = 0 };
  before_free = record { pinned = true; retired = 1; freed = 0; waits = 1 };
  frees = 1;
  changes = 3;
  after_free = record { pinned = true; retired = 1; freed = 1; waits = 0 };
}
