-- The schedule program's records and lines on lent bytes: an action of the code for each event of a run, and a text put into a list of
-- bytes. What a record means and what a line says is the definition's (specs/Schedule of `definition`). Assumes nothing.
use Rattle.std.specs.Prelude.{◌≡◌, List, [], ◌∷◌, ◌++◌, ℕ, ◌+◌, leb, length, get_or, take, drop, Option, None, Some}
use Rattle.definition.specs.Base.{branch}
use Rattle.definition.specs.Runs.{Event}
use Rattle.definition.specs.Schedule.{whole, action_of, token_in, answer_text, freed_text}
use Rattle.definition.specs.declared.Answer.{Answer}
pub use Rattle.script.specs.declared.Action.{Action}

-- an event as an action
unfoldable pub action_for : Event → Action
action_for (Event.steps p marked) = Action.Step p marked
action_for Event.registers = Action.Register
action_for (Event.calls p c) = Action.Call p c

-- and back
unfoldable pub event_for : Action → Event
event_for (Action.Step p marked) = Event.steps p marked
event_for Action.Register = Event.registers
event_for (Action.Call p c) = Event.calls p c

-- the action that three numbers name; none is numbered above 9
abbrev pub named : (action participant token : ℕ) → Option Action
named a p t = branch (leb a 9) (Some (action_for (action_of a p t))) None

-- what a record says; a broken one says nothing
unfoldable pub action_in : List ℕ → Option Action
action_in b = branch (whole b) (Some (action_for (action_of (get_or b 0 0) (get_or b 1 0) (token_in b)))) None

-- how many tokens an answer says were freed
unfoldable pub freed_count : Answer → ℕ
freed_count (Answer.Done v k) = k
freed_count (Answer.More k) = k
freed_count (Answer.Refused r) = 0

-- the bytes with a text from `at` on, and otherwise as they were
unfoldable pub written : List ℕ → ℕ → List ℕ → List ℕ
written b at text = take at b ++ text ++ drop (at + length text) b

-- what a function that puts a text at a place leaves: the bytes with the text, and the place after it
abbrev pub Puts : (before : List ℕ) (at : ℕ) (text : List ℕ) (after : List ℕ) (end : ℕ) → Type 0
Puts before at text after end = (after ≡ written before at text) × (end ≡ at + length text)

-- the line of an answer and the tokens freed
unfoldable pub line_of : Answer → List ℕ → List ℕ
line_of a tokens = answer_text a ++ freed_text tokens ++ 10 ∷ []
