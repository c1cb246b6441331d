-- No word has more than 64 set bits. Their sum is the count of the words, and those beyond the last index add nothing.
use Rattle.std.proofs.Common.{rules, tests, ◌∙◌, ◌^◌, arith}
use Rattle.std.proofs.lemmas.Iterator.{YieldsList-from_slice}
use Rattle.std.proofs.lemmas.Iterator.Adapters.{fits_from_length, at_most_from_yields_List}
use Rattle.bits.specs.Bits.{words_of}
use Rattle.bits.proofs.Laws.{count_end}
use Rattle.bits.proofs.Loops.{ones_count}
use Rattle.bits.proofs.count_free.Goals as goal

pub sum-requires-clause-fits : goal.sum-requires-clause-fits
sum-requires-clause-fits c =
    fits_from_length _ _ 65 (2 ^ 64) (at_most_from_yields_List (YieldsList-from_slice c.args.words.now cc) (omega arith)) c.map.ensures.closure (omega arith)
    (λ x r q k. search (rules, tests))

pub returns : goal.returns
returns c =
    let ws = c.args.words.now in
    search (rules) ∙ ones_count ws (λ j. (c.type_inv.words j).fits) ∙ count_end _ (words_of ws) c.args.n c.requires.none_beyond
