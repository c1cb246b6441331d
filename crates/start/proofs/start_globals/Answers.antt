-- The list is cleared, then the queue's ends are set, then the slots are given back, then the nodes, and that is the definition's
-- list (`globals-started`).
use native.Mathlib.Omega.{arith}
use lib.ListN.{set, length-set}
use Rattle.definition.specs.Ranges.{bit_words}
use Rattle.definition.specs.Layout.{global_words}
use Rattle.start.proofs.Laws.{globals-started}
use Rattle.start.proofs.start_globals.Goals as goal

pub give_from-requires : goal.give_from-requires
unfolding bit_words global_words
give_from-requires c = rw c.slots.ensures (simp length-set (omega (arith, c.fill.ensures.len)))

pub give_from-requires-2 : goal.give_from-requires-2
unfolding bit_words global_words
give_from-requires-2 c =
    let g = c.fill.new.self in
    rw c.nodes.ensures (omega (arith, length-set (set g 2 2) 3 2, length-set g 2 2, c.fill.ensures.len))

pub returns : goal.returns
returns c =
    let pre = c.requires in
    globals-started _ _ pre.0 c.args.globals.now _ _ _ pre.1 (c.fill.ensures.after (λ y e. e))
    (rw c.slots.ensures at c.give_from.ensures)
    (rw c.nodes.ensures at c.give_from-2.ensures)
    (λ j. (c.type_inv.globals j).fits)
