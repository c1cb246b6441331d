-- A predecessor is in range where it is so as a pointer.
use Rattle.definition.specs.Ranges.{cursor_in}
use Rattle.definition.proofs.Preds.{pred_range}
use Rattle.ranges.proofs.cursor_in.Goals as goal

pub returns-then-ptr_in : goal.returns-then-ptr_in
unfolding cursor_in
returns-then-ptr_in c m =
    rw (← pred_range c.args.n m c.args.at.pred, ← c.from.ensures, ← c.ptr_in.ensures m, c.if-ptr_in.true, c.slot_in.ensures m)

pub returns-else-ptr_in : goal.returns-else-ptr_in
unfolding cursor_in
returns-else-ptr_in c m =
    rw (← pred_range c.args.n m c.args.at.pred, ← c.from.ensures, ← c.ptr_in.ensures m, c.if-ptr_in.false)
