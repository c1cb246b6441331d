-- None of the three tests by which a participant is absent holds (`absent_words`).
use Rattle.std.proofs.Common.{arith}
use Rattle.definition.specs.Layout.{tables_of, slot_bits}
use Rattle.lent.specs.Lists.{read}
use Rattle.records.proofs.Laws.{loaded}
use Rattle.checks.proofs.Laws.{absent_words}
use Rattle.checks.proofs.Whole.present.Goals as goal

pub invariant_of-result : goal.invariant_of-result
unfolding tables_of slot_bits
invariant_of-result c =
    let l = c.args.self.lists in
    let o = loaded _ _ _ _ c.row-row.ensures c.load-o.ensures in
    let free = rw c.slots.ensures at c.is_free.ensures in
    record {
      present = record {
        there = grind (arith, free, absent_words l.n l.m c.args.p (read l));
        below = omega arith;
        own = o;
        few = rw o (c.args.self.passed.bags_within c.args.p (omega arith));
      };
    }
