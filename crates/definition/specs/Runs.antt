-- Runs: events one after another, each a step, marked or not, a registering or a call, on tables for N participants and M nodes. A list for
-- freed tokens is always long enough here. Assumes nothing.
use Rattle.std.specs.Prelude.{Bool, List, [], ◌∷◌, ℕ}
use Rattle.definition.specs.Bags.{max_objects}
use Rattle.definition.specs.Tables.{Tables}
use Rattle.definition.specs.Step.{Out}
use Rattle.definition.specs.Public.{call, register, step}
use Rattle.definition.specs.Types.{Call}

pub data Event : Type 0 where
  steps : (p : ℕ) → (marked : Bool) → Event
  registers : Event
  calls : ℕ → Call → Event

module _ (N M : ℕ) where
  unfoldable pub does : Event → Tables → Out
  does (Event.steps p marked) t = step N M marked max_objects p t
  does Event.registers t = register N M t
  does (Event.calls p c) t = call N M p c t

  -- what comes out of each event in turn
  unfoldable pub run : List Event → Tables → List Out
  run [] t = []
  run (v ∷ l) t = let o = does v t in o ∷ run l o.tables
