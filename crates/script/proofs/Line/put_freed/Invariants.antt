-- The text of the tokens so far is put.
use Rattle.std.proofs.Common.{take}
use Rattle.definition.specs.Schedule.{freed_text}
use Rattle.script.specs.Putting.{Adds}
use Rattle.script.proofs.Line.put_freed.Given as goal

abbrev pub invariant-loop-token : goal.invariant-loop-token
invariant-loop-token l = Adds l.initial.self (freed_text (take l.token-index l.freed)) l.self
