-- The bits are those of the table, in as many words as it takes.
use Rattle.std.proofs.Common.{rules}
use Rattle.definition.specs.Layout.{slot_bits, node_bits}
use Rattle.ranges.proofs.Measured.free_bits_in.Goals as goal

pub returns-then-in_range : goal.returns-then-in_range
unfolding slot_bits node_bits
returns-then-in_range c =
    let s = rw c.slots.ensures at c.in_range.ensures in
    let t = rw c.nodes.ensures at c.in_range-then-in_range.ensures in
    search (rules, s, t)

pub returns-else-in_range : goal.returns-else-in_range
unfolding slot_bits
returns-else-in_range c = let s = rw c.slots.ensures at c.in_range.ensures in search (rules, s)
