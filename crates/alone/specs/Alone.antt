-- Document 02, No. 11, for a reader: nobody gets stuck. From any lists that a run of the public calls reached, whatever the others stopped in the middle of,
-- a participant whose operation runs, and that now steps alone, is done within 4N + 384 of its own unmarked steps; each of them before the last answers
-- `more`, the last answers `done`, so none is refused. `Asked` says it; `nobody_stuck` of proofs/Theorem proves it, with no hypothesis left, from
-- `Sharp`, the same with fewer steps.
--
-- The words are those of crates/theorems: an event and what comes of it (specs/Events, by the functions that the code's promises cite), `started`, `reached`
-- and `Short` (specs/Statement). A run may have refused calls, marked steps and surveys. The steps alone are unmarked: a registering whose every link is marked
-- does not end. Each lends a list for freed tokens of at least 64 places, as a step must, and not always the same one. The 2^62 changes of the
-- global epoch are counted over the run and the steps alone, as many as the bound has; those after the last are refused and change nothing.
--
-- Not claimed: that anybody is done while others step too. A registering may lose its link to others for ever, and a pop its exchange. Assumes nothing.
use Rattle.std.specs.Prelude.{◌≡◌, Bool, true, false, List, ◌++◌, ℕ, ◌+◌, ◌*◌, ◌/◌, ◌≤◌, ◌<◌, length}
use Rattle.definition.specs.Base.{listed}
use Rattle.definition.specs.Bags.{max_objects}
use Rattle.definition.specs.Layout.{Lent, tables_of}
use Rattle.definition.specs.Public.{start_lent, running}
use Rattle.definition.specs.declared.Answer.{Answer}
use Rattle.theorems.specs.Events.{Event, does}
use Rattle.theorems.specs.Statement.{reached, Short}

unfoldable pub is_more : Answer → Bool
is_more (Answer.More n) = true
is_more (Answer.Done v n) = false
is_more (Answer.Refused r) = false

unfoldable pub is_done : Answer → Bool
is_done (Answer.More n) = false
is_done (Answer.Done v n) = true
is_done (Answer.Refused r) = false

-- k steps of p, one after another and none of them marked; the one that comes after i others lends the list `lends i` for freed tokens
unfoldable pub alone : (p : ℕ) (lends : ℕ → List ℕ) (k : ℕ) → List Event
alone p lends k = listed k (λ i. Event.steps p false (lends i))

-- a row of answers is done within so many: the first `others` are more, and the one after them is done
pub record Ends (answers : ℕ → Answer) (bound : ℕ) : Type 0 where
  pub others : ℕ
  pub within : others + 1 ≤ bound
  pub more : (i : ℕ) → i < others → is_more (answers i) ≡ true
  pub done : is_done (answers others) ≡ true

-- N participants, M nodes, the lists l that were lent to `start`, a run from there; then p steps alone: the answer of the step that comes after i others
abbrev pub answer : (N M : ℕ) (l : Lent) (run : List Event) (p : ℕ) (lends : ℕ → List ℕ) → ℕ → Answer
answer N M l run p lends i = (does N M (Event.steps p false (lends i)) (reached N M l (run ++ alone p lends i))).answer

-- whoever runs, and steps alone, is done within `bound N` steps
abbrev pub EndsWithin : (bound : ℕ → ℕ) → Type 0
EndsWithin bound = (N M : ℕ) (l : Lent) → (start_lent N M l).answer ≡ Answer.Done 0 0
    → (run : List Event) (p : ℕ) → p < N → running p (tables_of N M (reached N M l run)) ≡ true
    → (lends : ℕ → List ℕ) → ((i : ℕ) → max_objects ≤ length (lends i))
    → Short N M l (run ++ alone p lends (bound N)) → Ends (answer N M l run p lends) (bound N)

-- the request
abbrev pub asked : (N : ℕ) → ℕ
asked N = 4 * N + 384

abbrev pub Asked : Type 0
Asked = EndsWithin asked

-- what is enough: 134 steps for 32 participants, where 512 are asked
abbrev pub enough : (N : ℕ) → ℕ
enough N = 2 * N + 62 + 8 * ((N + 71) / 64)

abbrev pub Sharp : Type 0
Sharp = EndsWithin enough
