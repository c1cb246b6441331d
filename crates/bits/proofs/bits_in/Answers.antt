-- No bit before the word of n is at n or beyond. Of that word, the bits from n on tell; of those behind it, all.
use mathlib.Core.Path.{◌∙◌}
use native.Mathlib.Omega.{arith}
use lib.Dec.{eqb}
use borrow.Author.Rules.{rules}
use borrow.Author.Tests.{tests}
use Rattle.std.proofs.lemmas.Iterator.{YieldsList-from_slice}
use Rattle.std.proofs.lemmas.Iterator.Search.{all_from_yields_List}
use Rattle.bits.proofs.Loops.{within-short, within-first, within-rest}
use Rattle.bits.proofs.bits_in.Goals as goal

pub returns-then-j-words : goal.returns-then-j-words
returns-then-j-words c = search (rules, within-short)

pub returns-then-words-j-eq0 : goal.returns-then-words-j-eq0
returns-then-words-j-eq0 c =
    let a = c.args in
    all_from_yields_List (λ w. eqb w 0) _ _ _ c.all.ensures.ran
    (YieldsList-from_slice _ c.iter.ensures.rest) (λ x b q k. search (rules, tests))
    ∙ within-rest a.words.now a.n (λ j. (c.type_inv.words j).fits) (omega arith) c.if-words-j-eq0.true

pub returns-else-words-j-eq0 : goal.returns-else-words-j-eq0
returns-else-words-j-eq0 c = search (rules, tests, within-first)
