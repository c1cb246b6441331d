-- Each arm knows which work it has, does to each list what its callees promise, and leaves the others.
use mathlib.Core.Path.{◌≡◌, refl, ap, ◌∙◌}
use Prim.Native.Nat.{◌+◌, ◌-◌, ◌*◌}
use native.Mathlib.Omega.{arith}
use Rattle.definition.specs.Layout.{lent}
use Rattle.bags.specs.Bags.{stamped}
use Rattle.settle.specs.Settle.{settled_globals, settled_nodes, settled_held, settled_queued, settled_tokens}
use Rattle.settle.proofs.Laws.{item_put, length_lent, pasted}
use Rattle.settle.proofs.settle.Goals as goal

pub returns-in-Nothing-clause-settled : goal.returns-in-Nothing-clause-settled
unfolding settled_globals settled_nodes settled_held settled_queued settled_tokens
returns-in-Nothing-clause-settled c = rw c.in-Nothing.is (record { number = refl; lent = refl; freed = refl })

pub returns-in-Put-clause-settled : goal.returns-in-Put-clause-settled
unfolding settled_globals settled_nodes settled_held settled_queued settled_tokens
returns-in-Put-clause-settled c =
    let l = c.args.l.now in
    let fits = rw c.in-Put.is at c.requires in
    let held = item_put l.held.now (c.args.p * 64) c.args.k _ _ fits.1.0 c.put_item.ensures.1 in
    rw c.in-Put.is (record {
      number = refl;
      lent = λ i. lent l.globals.now l.participants.now l.nodes.now (held i) l.queued.now;
      freed = refl;
    })

pub returns-in-PutThenFree-clause-settled : goal.returns-in-PutThenFree-clause-settled
unfolding settled_globals settled_nodes settled_held settled_queued settled_tokens
returns-in-PutThenFree-clause-settled c =
    let l = c.args.l.now in
    let e = c.free_bag.ensures in
    let fits = rw c.in-PutThenFree.is at c.requires in
    let held = item_put l.held.now (c.args.p * 64) c.args.k _ _ fits.0.1.0 c.put_item-in-PutThenFree.ensures.1 in
    rw c.in-PutThenFree.is (record {
      number = e.0;
      lent = λ i. lent (e.1.0 i) l.participants.now (e.1.1.0 i) (held i) l.queued.now;
      freed = e.1.1.1;
    })

pub returns-in-Seal-clause-settled : goal.returns-in-Seal-clause-settled
unfolding settled_globals settled_nodes settled_held settled_queued settled_tokens
returns-in-Seal-clause-settled c =
    let l = c.args.l.now in
    let e = c.seal_bag.ensures in
    let fits = rw c.in-Seal.is at c.requires in
    let from = c.args.p * 64 in
    let width : from + c.args.k - from ≡ c.args.k = omega arith in
    let row = e.row ∙ ap (stamped l.nodes.now c.in-Seal.node.0 c.in-Seal.e.0) (length_lent l.held.now from _ c.args.k width fits.0.0) in
    let items = e.items ∙ pasted l.held.now from _ c.args.k width fits.0.0 l.queued.now (c.in-Seal.node.0 * 64) in
    let g = rw c.nodes.ensures at c.take.ensures.taken in
    rw c.in-Seal.is (record {
      number = refl;
      lent = λ i. lent (g i) l.participants.now (row i) l.held.now (items i);
      freed = refl;
    })
