-- What its callees promise is the chain of proofs/Chain, by which each may be called, and which leaves the lists of the definition's step.
use native.Mathlib.Omega.{arith}
use Rattle.definition.specs.Layout.{node_bits}
use Rattle.records.proofs.Laws.{loaded}
use Rattle.step.proofs.Chain.{row_ok, words_ok, bits_ok, fits_ok, perform_ok, nodes_ok, may_follow, leaves-step}
use Rattle.step.proofs.take_step.Goals as goal

pub row-requires : goal.row-requires
row-requires c = (omega arith, (omega arith, row_ok _ _ _ _ _ c.requires _ c.read-lists.ensures.lists))

pub first_free-spare-requires : goal.first_free-spare-requires
unfolding node_bits
first_free-spare-requires c =
    let there = words_ok _ _ _ _ _ c.requires _ c.read-lists.ensures.lists in
    let asked = bits_ok _ _ _ _ _ c.requires _ c.read-lists.ensures.lists in
    rw c.nodes.ensures (record { few = asked.0; there = there; none_beyond = asked.1 })

pub asks_at-ask-requires : goal.asks_at-ask-requires
asks_at-ask-requires c = fits_ok _ _ _ _ _ c.requires _ c.read-lists.ensures.lists _ (loaded _ _ _ _ c.row.ensures c.load-o.ensures)

pub perform-seen-requires : goal.perform-seen-requires
perform-seen-requires c = perform_ok _ _ _ _ _ c.requires _ c.read-lists.ensures.lists _ (loaded _ _ _ _ c.row.ensures c.load-o.ensures) _ c.asks_at-ask.ensures

pub seal_of-seal-requires : goal.seal_of-seal-requires
seal_of-seal-requires c =
    nodes_ok _ _ _ _ _ c.requires _ c.read-lists.ensures.lists _ (loaded _ _ _ _ c.row.ensures c.load-o.ensures) _ c.asks_at-ask.ensures _ _ _
    c.perform-seen.ensures.made _ c.read.ensures.lists

pub follow-requires : goal.follow-requires
unfolding node_bits
follow-requires c =
    rw c.perform-seen.ensures.same.n
    (may_follow _ _ _ _ _ _ _ c.requires _ _ _ _ _ _ _ _
    (record {
      read = c.read-lists.ensures.lists;
      loaded = loaded _ _ _ _ c.row.ensures c.load-o.ensures;
      first = rw c.nodes.ensures at c.first_free-spare.ensures;
      asked = c.asks_at-ask.ensures;
      made = c.perform-seen.ensures.made;
      again = c.read.ensures.lists;
      sealed = c.seal_of-seal.ensures;
      then = c.follows_at-after.ensures;
    }))

pub returns-clause-leaves : goal.returns-clause-leaves
unfolding node_bits
returns-clause-leaves c =
    leaves-step _ _ _ _ _ _ _ c.requires _ _ _ _ _ _ _ _
    (record {
      read = c.read-lists.ensures.lists;
      loaded = loaded _ _ _ _ c.row.ensures c.load-o.ensures;
      first = rw c.nodes.ensures at c.first_free-spare.ensures;
      asked = c.asks_at-ask.ensures;
      made = c.perform-seen.ensures.made;
      again = c.read.ensures.lists;
      sealed = c.seal_of-seal.ensures;
      then = c.follows_at-after.ensures;
    })
    _ _ _ (rw c.perform-seen.ensures.same.n at c.follow.ensures.followed)
