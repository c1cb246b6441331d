-- A line more, by `lines_more`; after the last they are all there.
use Rattle.std.proofs.Common.{◌≡◌, ◌≤◌, ◌+◌, suc, arith, rules, ap, ◌∙◌, subst, length, take, take_all}
use Rattle.std.specs.Io.KnownBytes.{Appends}
use Rattle.std.proofs.KnownBytes.{Appends-nil, Appends-trans}
use Rattle.report.specs.Lines.{lines_of}
use Rattle.report.proofs.Laws.{lines_more}
use Rattle.report.proofs.say_reports.Goals as goal

pub loop-p-init : goal.loop-p-init
unfolding lines_of
loop-p-init g c = Appends-nil _

pub loop-p-preserved : goal.loop-p-preserved
loop-p-preserved g c =
    let reports = c.args.reports.now in
    let p = c.loop-p.p in
    let step : suc p ≡ p + 1 = omega arith in
    let line = lines_more 0 reports p p _ (search rules) (omega arith) ∙ ap (λ n. lines_of 0 (take n reports)) step in
    subst (Appends _ _) line (Appends-trans _ _ _ _ _ c.loop-p.invariant c.in_ok-write.ensures.bytes)

pub returns : goal.returns
returns g c =
    let reports = c.args.reports.now in
    let all : length reports ≤ c.loop-p.p = search rules in
    let whole = ap (lines_of 0) (take_all c.loop-p.p reports all) in
    subst (Appends _ _) whole c.loop-p.invariant
