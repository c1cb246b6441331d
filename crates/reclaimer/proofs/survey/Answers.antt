-- What the check refuses is refused, and where it finds all fine the reports are those of the lists that it has looked at.
use Rattle.std.proofs.Common.{rules}
use Rattle.lent.specs.Lists.{read}
use Rattle.reclaimer.proofs.Surveys.{survey_refuses, survey_fills}
use Rattle.reclaimer.proofs.survey.Goals as goal

pub returns-in_default : goal.returns-in_default
returns-in_default c = survey_refuses _ _ _ _ _ _ c.in_default.ensures c.in_default.is _ c.refused.ensures _ (search rules)

pub returns : goal.returns
returns c =
    let l = c.args.l in
    let e = c.in-Ok.ensures in
    rw (c.fill_reports.ensures, e.0.0) (survey_fills l.n l.m (read l) c.args.reports.now e.1)
