use Rattle.std.proofs.Common.{rules, subst}
use Rattle.std.specs.Io.KnownBytes.{Consumes}
use Rattle.std.proofs.KnownBytes.{Consumes-trans}
use Rattle.stream.proofs.Blocks.{front_and_more}
use Rattle.stream.proofs.read_full.Goals as goal

pub loop-done-preserved : goal.loop-done-preserved
loop-done-preserved g c =
    let (same, within, fits, consumed) = c.loop-done.invariant in
    let more = front_and_more c.loop-done.done _ c.in_ok-n.n c.loop-done.buf c.read.new.buf within c.in_ok-n.ensures.bound.0 in
    (search rules, search rules, search rules, subst (Consumes _ _) more (Consumes-trans _ _ _ _ _ consumed c.in_ok-n.ensures.bytes.0))
