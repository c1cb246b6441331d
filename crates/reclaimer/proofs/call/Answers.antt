-- What the check refuses is refused, and lists that it finds fine are those of which a call may be made.
use mathlib.Core.Path.{◌∙◌}
use Rattle.checks.specs.Refusals.{call_refusal}
use Rattle.lent.proofs.Laws.{same_self, read_as}
use Rattle.reclaimer.proofs.Laws.{call_refuses, may_call, called}
use Rattle.reclaimer.proofs.call.Goals as goal

pub returns-in_default : goal.returns-in_default
returns-in_default c =
    let r = c.read.ensures in
    let e = c.check_call-checked.ensures ∙ read_as (λ n m l. call_refusal n m l c.args.p c.args.c) c.read.result c.args.l.now r.n r.m r.lists in
    record { outcome = call_refuses _ _ _ _ _ _ e _ c.in_default.is _ c.refused.ensures; same = same_self _ }

pub take_call-requires : goal.take_call-requires
take_call-requires c =
    let r = c.read.ensures in
    let e = c.check_call-checked.ensures ∙ read_as (λ n m l. call_refusal n m l c.args.p c.args.c) c.read.result c.args.l.now r.n r.m r.lists in
    may_call _ _ _ _ _ _ e _ c.in-Ok.is

pub returns : goal.returns
returns c =
    let r = c.read.ensures in
    let e = c.check_call-checked.ensures ∙ read_as (λ n m l. call_refusal n m l c.args.p c.args.c) c.read.result c.args.l.now r.n r.m r.lists in
    record { outcome = called _ _ _ _ _ _ e _ c.in-Ok.is _ _ c.take_call.ensures.leaves; same = c.take_call.ensures.same }
