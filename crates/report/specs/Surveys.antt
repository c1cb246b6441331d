-- What a survey, or its refusal, is of the definition's: the answer and the list of reports. Assumes nothing.
use Rattle.std.specs.Prelude.{List, ℕ, Result, Ok, Err}
use Rattle.definition.specs.Survey.{Surveyed}
use Rattle.definition.specs.declared.Answer.{Answer}
use Rattle.definition.specs.declared.Report.{Report}

-- made where the list holds `before`: done with the value 0, and with no refusal; a refusal leaves the list
abbrev pub surveyed : List Report → Result (List Report) ℕ → Surveyed
surveyed before (Ok l) = record { answer = Answer.Done 0 0; reports = l }
surveyed before (Err r) = record { answer = Answer.Refused r; reports = before }
