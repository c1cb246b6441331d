-- The survey on lent lists: a participant's report, from the two lists that decide it, and the survey's refusals as a number. Assumes nothing.
use Rattle.std.specs.Prelude.{List, [], ℕ, ◌+◌, eqb, pos}
use Rattle.definition.specs.Base.{branch, listed}
use Rattle.definition.specs.Layout.{Lent, lent, tables_of}
use Rattle.definition.specs.Survey.{report_of}
use Rattle.definition.specs.declared.Report.{Report}
use Rattle.checks.specs.Refusals.{damage_of}

-- a report of which the state is all that is said
abbrev pub blank : ℕ → Report
blank s = record { state = s; guards = 0; handles = 0; held = 0; distance = pos 0 }

-- the report of participant p: it is the same in tables of any N above p (proofs/Laws, `report_in_lem`), so in those of p + 1
unfoldable pub report_in : (globals participants : List ℕ) → ℕ → Report
report_in g ps p = report_of (tables_of (p + 1) 0 (lent g ps [] [] [])) p

-- the first n entries of a table, in order: `listed` of the definition, with the table first
abbrev pub tabulate : {A : Type 0} → (ℕ → A) → ℕ → List A
tabulate f n = listed n f

-- 2 where the list for the reports has not N places, or for sizes; 1 for ranges; else 0
unfoldable pub survey_refusal : (N M : ℕ) → Lent → (places : ℕ) → ℕ
survey_refusal N M l places = branch (eqb places N) (damage_of N M l) 2
