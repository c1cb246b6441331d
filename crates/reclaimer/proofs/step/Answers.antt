-- What the check refuses is refused, and lists that it finds fine are those of which a step may be made.
use mathlib.Core.Path.{◌∙◌}
use lib.ListN.{length}
use Rattle.checks.specs.Refusals.{step_refusal}
use Rattle.lent.proofs.Laws.{same_self, read_as}
use Rattle.reclaimer.proofs.Laws.{step_refuses, may_step, stepped}
use Rattle.reclaimer.proofs.step.Goals as goal

pub returns-in_default : goal.returns-in_default
returns-in_default c =
    let r = c.read.ensures in
    let e = c.check_step-checked.ensures ∙ read_as (λ n m l. step_refusal n m l (length c.args.freed.now) c.args.p) c.read.result c.args.l.now r.n r.m r.lists in
    record { outcome = step_refuses _ _ _ _ _ _ e _ _ c.in_default.is _ c.refused.ensures; same = same_self _ }

pub take_step-requires : goal.take_step-requires
take_step-requires c =
    let r = c.read.ensures in
    let e = c.check_step-checked.ensures ∙ read_as (λ n m l. step_refusal n m l (length c.args.freed.now) c.args.p) c.read.result c.args.l.now r.n r.m r.lists in
    may_step _ _ _ _ _ _ e _ c.in-Ok.is

pub returns : goal.returns
returns c =
    let r = c.read.ensures in
    let e = c.check_step-checked.ensures ∙ read_as (λ n m l. step_refusal n m l (length c.args.freed.now) c.args.p) c.read.result c.args.l.now r.n r.m r.lists in
    record { outcome = stepped _ _ _ _ _ _ e _ _ c.in-Ok.is _ _ _ c.take_step.ensures.leaves; same = c.take_step.ensures.same }
