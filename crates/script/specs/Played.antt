-- What an action does to lent lists for N participants and M nodes: the public call that it names. And the lines of records that are
-- played one after another on lists for 32 and 128, as `lines` of the definition has them on tables. Assumes nothing.
use Rattle.std.specs.Prelude.{List, [], ◌∷◌, ◌++◌, ℕ, zero, suc, take, drop, Option, None, Some}
use Rattle.definition.specs.Layout.{Lent}
use Rattle.definition.specs.Public.{Outcome, step_lent, register_lent, call_lent}
use Rattle.definition.specs.declared.Answer.{Answer}
use Rattle.script.specs.Script.{Action, action_in, freed_count, line_of}

-- the outcome of a call that no list for freed tokens is lent to: that list is as it was
abbrev pub keeping : List ℕ → Outcome → Outcome
keeping places x = record { answer = x.answer; lent = x.lent; freed = places }

-- an action on the lists, with a list for freed tokens; a broken record, which asks for none, is refused with 13 and changes nothing
unfoldable pub acts : (N M : ℕ) → Lent → List ℕ → Option Action → Outcome
acts N M l places (Some (Action.Step p marked)) = step_lent N M l p marked places
acts N M l places (Some Action.Register) = keeping places (register_lent N M l)
acts N M l places (Some (Action.Call p c)) = keeping places (call_lent N M l p c)
acts N M l places None = record { answer = Answer.Refused 13; lent = l; freed = places }

-- the line of an outcome: the freed tokens are at the front of their list
abbrev pub line_from : Outcome → List ℕ
line_from x = line_of x.answer (take (freed_count x.answer) x.freed)

-- records one after another, `fuel` at most; the last may be short
unfoldable pub lines_on : (fuel : ℕ) → List ℕ → Lent → List ℕ → List ℕ
lines_on zero b l places = []
lines_on (suc fuel) [] l places = []
lines_on (suc fuel) (x ∷ b) l places =
    let o = acts 32 128 l places (action_in (take 8 (x ∷ b))) in
    line_from o ++ lines_on fuel (drop 8 (x ∷ b)) o.lent o.freed
