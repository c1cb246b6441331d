-- What is stored is the value found with its lowest bit set, which is its tag.
use mathlib.Core.Path.{ap, ◌∙◌}
use Rattle.words.specs.Words.{word_of}
use Rattle.words.proofs.Accesses.{fetched}
use Rattle.words.proofs.fetch_or.Goals as goal

pub returns-clause-made : goal.returns-clause-made
returns-clause-made c = fetched _ _ _ _ (c.read_word-value.ensures ∙ ap (word_of c.args.w) c.read.ensures.lists) c.write_word.ensures.written
