-- Where it is marked, it reads and stores nothing; where not, the definition has both exchanges alike.
use mathlib.Core.Path.{ap, ◌∙◌}
use Rattle.words.specs.Words.{word_of}
use Rattle.words.proofs.Accesses.{failed, weakly}
use Rattle.words.proofs.compare_exchange_weak.Goals as goal

pub returns-then-marked-clause-made : goal.returns-then-marked-clause-made
returns-then-marked-clause-made c = failed _ _ _ c.if-marked.true _ _ _ (c.read_word-value.ensures ∙ ap (word_of c.args.w) c.read.ensures.lists)

pub returns-clause-made : goal.returns-clause-made
returns-clause-made c = weakly _ _ _ _ c.if-marked.false _ _ c.compare_exchange.ensures.made
