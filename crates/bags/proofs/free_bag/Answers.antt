-- A turn frees one more item, whose bit is in the list, since that is required, and whose token has a place, since no more places are
-- filled than items freed.
use mathlib.Core.Path.{refl, sym, ap, ◌∙◌}
use Prim.Native.Nat.{◌*◌}
use native.Mathlib.Omega.{arith}
use borrow.Author.Tests.{ltb-true}
use Rattle.bits.specs.Bits.{words_at}
use Rattle.bits.proofs.Laws.{slice_word}
use Rattle.definition.specs.Bags.{item_of, tokens}
use Rattle.bags.specs.Bags.{bag_len, free_item, has_bit}
use Rattle.bags.proofs.Turns.{freed_none, freed_few, freed_front_length, freed-has_bit, freed_token, freed_index}
use Rattle.bags.proofs.free_bag.Goals as goal
use Rattle.bags.proofs.free_bag.Goals.{in-Token, in-Node, in-Slot}

pub loop-w-init : goal.loop-w-init
loop-w-init c =
    let a = c.args in
    freed_none a.n (words_at a.queued.now (a.node * 64)) a.globals.now a.freed.now

pub bounds-freed-t : goal.bounds-freed-t
bounds-freed-t c =
    let i = c.loop-w in
    omega (arith, freed_few i.invariant, freed_front_length i.invariant (omega arith))

pub give-requires : goal.give-requires
unfolding has_bit
give-requires c =
    let a = c.args in
    let i = c.loop-w in
    let k = bag_len a.nodes.now a.node in
    let is = sym c.in-Node.is ∙ c.item_of.ensures ∙ ap item_of (slice_word a.queued.now (a.node * 64) k i.w-index (omega arith)) in
    rw c.nodes.ensures (ltb-true _ _ (freed-has_bit i.invariant k _ c.requires.have_their_bits (omega arith) is))

pub give-requires-in-Slot : goal.give-requires-in-Slot
unfolding has_bit
give-requires-in-Slot c =
    let a = c.args in
    let i = c.loop-w in
    let k = bag_len a.nodes.now a.node in
    let is = sym c.in-Slot.is ∙ c.item_of.ensures ∙ ap item_of (slice_word a.queued.now (a.node * 64) k i.w-index (omega arith)) in
    rw c.slots.ensures (ltb-true _ _ (freed-has_bit i.invariant k _ c.requires.have_their_bits (omega arith) is))

pub loop-w-preserved : goal.loop-w-preserved
unfolding free_item tokens
loop-w-preserved c =
    let a = c.args in
    let i = c.loop-w in
    let k = bag_len a.nodes.now a.node in
    let is = c.item_of.ensures ∙ ap item_of (slice_word a.queued.now (a.node * 64) k i.w-index (omega arith)) in
    elim c.match-item_of.branch [
      | in-Token w ↦ rw (w.globals-is, w.freed-is, w.t-is) (freed_token i.invariant _ (omega arith) (sym w.in-Token.is ∙ is))
      | in-Node w ↦
          rw (w.globals-is, w.freed-is, w.t-is)
          (freed_index i.invariant _ _ refl (omega arith) (sym w.in-Node.is ∙ is) (rw w.nodes.ensures at w.give.ensures))
      | in-Slot w ↦
          rw (w.globals-is, w.freed-is, w.t-is)
          (freed_index i.invariant _ _ refl (omega arith) (sym w.in-Slot.is ∙ is) (rw w.slots.ensures at w.give-in-Slot.ensures))
    ]
