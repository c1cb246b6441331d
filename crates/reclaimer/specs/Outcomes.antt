-- What a check's answer becomes: a refusal as an answer; and an outcome in its parts. Assumes nothing.
use Rattle.std.specs.Prelude.{List, ℕ, Result}
use Rattle.definition.specs.Layout.{Lent}
use Rattle.definition.specs.Public.{Outcome, outcome}
use Rattle.definition.specs.Survey.{Surveyed}
use Rattle.definition.specs.declared.Answer.{Answer}
use Rattle.definition.specs.declared.Report.{Report}
use Rattle.refusals.specs.declared.Refusal.{Refusal}
use Rattle.refusals.specs.Numbers.{refused}

-- an answer, with the lent lists as one and the list for freed tokens: the definition's `outcome`
abbrev pub outcome_of : Answer → Lent → List ℕ → Outcome
outcome_of r l f = outcome r l.globals l.participants l.nodes l.held l.queued f

-- a check's answer as a call's: its number. 0 is the number of no refusal
abbrev pub refused_as : {A : Type 0} → Result A Refusal → Answer
refused_as c = Answer.Refused (refused c)

-- of a survey: the answer, and the list of reports
abbrev pub surveyed_as : Answer → List Report → Surveyed
surveyed_as r l = record { answer = r; reports = l }
