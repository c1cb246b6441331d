-- The iterator asks of each row beside its bag in turn, and ends at the first that is not in range (`all_rows`).
use Rattle.std.specs.Simd.{first_chunks}
use Rattle.std.proofs.Common.{rules, tests, ◌∙◌, arith, length, ◌/◌}
use Rattle.std.proofs.lemmas.Iterator.{YieldsList-from_slice, YieldsList-from_zip}
use Rattle.std.proofs.lemmas.Iterator.Search.{all_from_yields_List}
use Rattle.definition.specs.Bags.{max_objects}
use Rattle.definition.specs.Layout.{node_words}
use Rattle.definition.proofs.Lists.{sized_is}
use Rattle.bits.specs.Bits.{words_of}
use Rattle.lent.specs.Lists.{read}
use Rattle.ranges.specs.Rows.{node_row_in, nodes_in}
use Rattle.ranges.proofs.Laws.{all_rows}
use Rattle.ranges.proofs.Measured.nodes_in.Goals as goal

pub returns : goal.returns
unfolding nodes_in node_words max_objects
returns c =
    let l = c.args.self.lists in
    let s = sized_is l.n l.m (read l) c.args.self.sized in
    let test = node_row_in l.n l.m in
    let rows = l.nodes.now in
    let bags = l.queued.now in
    all_from_yields_List (λ r. test (words_of r.0) (words_of r.1)) c.all.new.self _ c.all.result c.all.ensures.ran
    (YieldsList-from_zip (YieldsList-from_slice (first_chunks 3 (length rows / 3) rows) cc)
    (YieldsList-from_slice (first_chunks 64 (length bags / 64) bags) cc))
    (λ x b q k. search (rules, tests))
    ∙ all_rows l.m 3 64 rows bags test (omega (arith, s.nodes)) (omega (arith, s.queued))
