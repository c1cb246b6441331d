-- The lists are those reached after the records so far, and the rest is what stands after them.
use Rattle.std.proofs.Common.{◌≡◌, ◌+◌, ◌*◌, ◌≤◌, length, drop}
use Rattle.lent.specs.Lists.{lent, Same}
use Rattle.player.specs.Records.{reached, reached_as}
use Rattle.player.proofs.act_all.Given as goal

abbrev pub invariant-loop-record : goal.invariant-loop-record
invariant-loop-record l =
    let k = length l.yielded in
    let first = l.initial.l in
    (l.record-iterator.size ≡ 8) × (l.record-iterator.rest.now ≡ drop (8 * k) l.bytes) × (8 * k ≤ length l.bytes + 7)
    × (reached_as (lent l.l) l.freed ≡ reached first.n first.m l.bytes (lent first) l.initial.freed k) × Same first l.l
