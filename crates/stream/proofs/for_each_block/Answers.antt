-- A turn is one block more; the last block is short, and a reader ends only there. What `f` is shown is cut where the read ended.
use Rattle.std.proofs.Common.{◌≡◌, ℕ, arith, ap, rules, length, take, refl}
use denote.Param.Always.{mut_next}
use Rattle.stream.proofs.Blocks.{none_given, given_more, given_last, all_given}
use Rattle.stream.proofs.for_each_block.Goals as goal

pub loop-init : goal.loop-init
loop-init g c = (c.requires, none_given g.F.FnMut c.args.f _ _)

pub loop-preserved : goal.loop-preserved
loop-preserved g c =
    let (always, given) = c.loop.invariant in
    let read = c.in_ok-n.ensures in
    let cut = λ (k : ℕ). take k c.read_full.new.buf in
    let full : length (take c.in_ok-n.n c.read_full.new.buf) ≡ length c.args.block.now = omega (arith, read.in_bounds.1) in (
      mut_next g.F.FnMut _ _ _ _ _ c.in_ok-f.ensures refl always,
      given_more g.F.FnMut _ _ _ _ _ _ _ _ _ given full (record { shown = _; shows = ap cut (search rules); called = c.in_ok-f.ensures }) read.bytes,
    )

pub returns-then-n-block : goal.returns-then-n-block
returns-then-n-block g c =
    let (always, given) = c.loop.invariant in
    let read = c.in_ok-n.ensures in
    let cut = λ (k : ℕ). take k c.read_full.new.buf in
    given_last g.F.FnMut _ _ _ _ _ _ _ _ _ given (record { shown = _; shows = ap cut (search rules); called = c.in_ok-f.ensures }) read.bytes
    (read.end c.if-n-block.true)

pub returns : goal.returns
returns g c = all_given g.F.FnMut _ _ _ _ _ _ c.loop.invariant.1 c.loop-test.false
