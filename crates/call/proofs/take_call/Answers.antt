-- The values that it computes are those of proofs/Laws.
use native.Mathlib.Omega.{arith}
use Rattle.records.proofs.Laws.{loaded}
use Rattle.call.proofs.Laws.{row_ok, counts_ok, held_ok, may_follow, leaves-call}
use Rattle.call.proofs.take_call.Goals as goal

pub row-requires : goal.row-requires
row-requires c = (omega arith, (omega arith, row_ok _ _ _ _ _ c.requires _ c.read.ensures.lists))

pub opens-after-requires : goal.opens-after-requires
opens-after-requires c =
    let s = c.requires in
    let lists = c.read.ensures.lists in
    let o = loaded _ _ _ _ c.row.ensures c.load-o.ensures in
    record { guards_bound = counts_ok _ _ _ _ _ s _ lists _ o; n_bound = held_ok _ _ _ _ _ s _ lists _ o }

pub follow-requires : goal.follow-requires
follow-requires c = may_follow _ _ _ _ _ c.requires _ c.read.ensures.lists _ (loaded _ _ _ _ c.row.ensures c.load-o.ensures) _ c.opens-after.ensures _

pub returns-clause-leaves : goal.returns-clause-leaves
returns-clause-leaves c =
    leaves-call _ _ _ _ _ c.requires _ c.read.ensures.lists _ (loaded _ _ _ _ c.row.ensures c.load-o.ensures) _ c.opens-after.ensures _ _ _ _ c.follow.ensures.followed
