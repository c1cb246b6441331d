-- The iterator asks of each row beside its bag in turn, and ends at the first that is not in range (`all_rows`).
use Rattle.std.specs.Simd.{first_chunks}
use Rattle.std.proofs.Common.{rules, tests, ◌∙◌, arith, get_or, length, ◌/◌}
use Rattle.std.proofs.lemmas.Iterator.{YieldsList-from_slice, YieldsList-from_zip}
use Rattle.std.proofs.lemmas.Iterator.Search.{all_from_yields_List}
use Rattle.definition.specs.Bags.{max_objects}
use Rattle.definition.specs.Layout.{participant_words}
use Rattle.definition.proofs.Lists.{sized_is}
use Rattle.bits.specs.Bits.{words_of}
use Rattle.lent.specs.Lists.{read}
use Rattle.ranges.specs.Rows.{participant_in, participants_in}
use Rattle.ranges.proofs.Laws.{all_rows}
use Rattle.ranges.proofs.Measured.participants_in.Goals as goal

pub returns : goal.returns
unfolding participants_in participant_words max_objects
returns c =
    let l = c.args.self.lists in
    let s = sized_is l.n l.m (read l) c.args.self.sized in
    let test = participant_in l.n l.m (get_or l.globals.now 4 0) in
    let rows = l.participants.now in
    let bags = l.held.now in
    all_from_yields_List (λ r. test (words_of r.0) (words_of r.1)) c.all.new.self _ c.all.result c.all.ensures.ran
    (YieldsList-from_zip (YieldsList-from_slice (first_chunks 21 (length rows / 21) rows) cc)
    (YieldsList-from_slice (first_chunks 64 (length bags / 64) bags) cc))
    (λ x b q k. search (rules, tests))
    ∙ all_rows l.n 21 64 rows bags test (omega (arith, s.participants)) (omega (arith, s.held))
