-- Each arm puts its word, and its number behind it.
use mathlib.Core.List.{[], ◌∷◌}
use native.Mathlib.Omega.{arith}
use Rattle.definition.specs.Schedule.{answer_text}
use Rattle.script.proofs.Putting.{adds_then}
use Rattle.script.proofs.Line.put_answer.Goals as goal

pub returns-in-More : goal.returns-in-More
unfolding answer_text
returns-in-More c = rw c.in-More.is c.put_text.ensures

pub returns-in-Done : goal.returns-in-Done
unfolding answer_text
returns-in-Done c = rw c.in-Done.is (adds_then _ _ _ (100 ∷ 111 ∷ 110 ∷ 101 ∷ 32 ∷ []) _ c.put_text-in-Done.ensures c.put_decimal.ensures (omega arith))

pub returns-in-Refused : goal.returns-in-Refused
unfolding answer_text
returns-in-Refused c = rw c.in-Refused.is
    (adds_then _ _ _ (114 ∷ 101 ∷ 102 ∷ 117 ∷ 115 ∷ 101 ∷ 100 ∷ 32 ∷ []) _ c.put_text-in-Refused.ensures c.put_decimal-in-Refused.ensures (omega arith))
