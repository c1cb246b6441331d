-- What the call answers is the definition's survey; `proofs/Surveys` has it as a result.
use Rattle.std.proofs.Common.{◌≡◌, rules, replicate, ap, sym, ◌∙◌}
use Rattle.definition.specs.Survey.{survey_lent}
use Rattle.player.specs.Owned.{owned}
use Rattle.reclaimer.specs.Outcomes.{surveyed_as}
use Rattle.survey.specs.Surveys.{blank}
use Rattle.report.proofs.Surveys.{says_refused, says_done}
use Rattle.report.proofs.survey.Goals as goal

pub returns-in-Refused : goal.returns-in-Refused
returns-in-Refused c =
    let l = c.survey.new.reports in
    let made : surveyed_as c.survey.result l ≡ survey_lent 32 128 (owned c.args.tables.now) (replicate 32 (blank 0)) = search rules in
    says_refused 32 128 _ _ c.in-Refused.r l (ap (λ a. surveyed_as a l) (sym c.in-Refused.is) ∙ made)

pub returns-in_default : goal.returns-in_default
returns-in_default c =
    let l = c.survey.new.reports in
    let made : surveyed_as c.survey.result l ≡ survey_lent 32 128 (owned c.args.tables.now) (replicate 32 (blank 0)) = search rules in
    says_done 32 128 _ _ c.survey.result l c.in_default.not-Refused made
