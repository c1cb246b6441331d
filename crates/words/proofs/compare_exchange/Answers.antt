-- Where the value found is the expected one, the new one is stored; where it is another, nothing is.
use mathlib.Core.Path.{ap, ◌∙◌}
use Rattle.words.specs.Words.{word_of}
use Rattle.words.proofs.Accesses.{won, lost}
use Rattle.words.proofs.compare_exchange.Goals as goal

pub returns-then-won-clause-made : goal.returns-then-won-clause-made
returns-then-won-clause-made c =
    won _ _ _ _ _ _ (c.read_word-value.ensures ∙ ap (word_of c.args.w) c.read.ensures.lists) c.if-won.true c.write_word.ensures.written

pub returns-else-won-clause-made : goal.returns-else-won-clause-made
returns-else-won-clause-made c = lost _ _ _ _ _ (c.read_word-value.ensures ∙ ap (word_of c.args.w) c.read.ensures.lists) c.if-won.false
