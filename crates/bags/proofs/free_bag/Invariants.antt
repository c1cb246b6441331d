-- The items before this one are freed.
use Prim.Native.Nat.{◌*◌}
use Rattle.bits.specs.Bits.{words_at}
use Rattle.bags.proofs.Turns.{Freed}
use Rattle.bags.proofs.free_bag.Given as goal

abbrev pub invariant-loop-w : goal.invariant-loop-w
invariant-loop-w l = Freed l.n (words_at l.queued (l.fn.node * 64)) l.initial.globals l.initial.freed l.globals l.freed l.t l.w-index
