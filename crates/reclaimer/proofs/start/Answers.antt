-- Sizes that are not right are refused, and right ones are what a fresh start asks.
use Rattle.std.proofs.Common.{rules, sym, ◌∙◌}
use Rattle.lent.proofs.Laws.{same_self, read_as}
use Rattle.ranges.specs.Sizes.{sizes}
use Rattle.reclaimer.proofs.Laws.{start_refuses, may_start, started}
use Rattle.reclaimer.proofs.start.Goals as goal

pub returns-in_default : goal.returns-in_default
returns-in_default c =
    let r = c.read.ensures in
    let e = c.in_default.ensures in
    let h = sym (read_as sizes c.read.result c.args.l.now r.n r.m r.lists) ∙ e.1 in
    record { outcome = start_refuses _ _ _ h _ (search rules); same = same_self _ }

pub start-requires : goal.start-requires
start-requires c =
    let r = c.read.ensures in
    let may = may_start _ _ _ (sym (read_as sizes c.read.result c.args.l.now r.n r.m r.lists) ∙ c.in-Ok.ensures.1) in
    record { has_node = may.0; sized_lists = may.1 }

pub returns : goal.returns
returns c =
    let r = c.read.ensures in
    let h = sym (read_as sizes c.read.result c.args.l.now r.n r.m r.lists) ∙ c.in-Ok.ensures.1 in
    record { outcome = started _ _ _ h _ c.start.ensures.started; same = c.start.ensures.same }
