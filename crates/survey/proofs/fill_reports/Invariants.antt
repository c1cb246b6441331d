-- The invariant: the first p places hold the reports of the first p participants, and the rest is as it was.
use Rattle.std.proofs.Common.{◌≡◌, ◌++◌, drop}
use Rattle.survey.specs.Surveys.{report_in, tabulate}
use Rattle.survey.proofs.fill_reports.Given as goal

abbrev pub invariant-loop-p : goal.invariant-loop-p
invariant-loop-p l = l.report-items ≡ tabulate (report_in l.l.globals.now l.l.participants.now) l.p ++ drop l.p l.initial.report-items
