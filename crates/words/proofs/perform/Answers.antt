-- Each kind of access is made by its own function, or is a read or a store alone; the mark is for the weak exchange.
use mathlib.Core.Path.{refl, ap, ◌∙◌}
use Rattle.definition.specs.Rule.{is_weak}
use Rattle.words.specs.Words.{word_of}
use Rattle.words.proofs.Accesses.{unmarked, loaded, stored}
use Rattle.words.proofs.perform.Goals as goal

pub returns-in-Load-clause-made : goal.returns-in-Load-clause-made
unfolding is_weak
returns-in-Load-clause-made c =
    rw c.in-Load.is (unmarked _ _ _ _ _ refl (loaded _ _ _ (c.read_word-value.ensures ∙ ap (word_of c.in-Load.w) c.read.ensures.lists)))

pub returns-in-Store-clause-made : goal.returns-in-Store-clause-made
unfolding is_weak
returns-in-Store-clause-made c = rw c.in-Store.is (unmarked _ _ _ _ _ refl (stored _ _ _ _ c.write_word.ensures.written))

pub returns-in-Exchange-clause-made : goal.returns-in-Exchange-clause-made
unfolding is_weak
returns-in-Exchange-clause-made c = rw c.in-Exchange.is (unmarked _ _ _ _ _ refl c.compare_exchange.ensures.made)

pub returns-in-FetchOr-clause-made : goal.returns-in-FetchOr-clause-made
unfolding is_weak
returns-in-FetchOr-clause-made c = rw c.in-FetchOr.is (unmarked _ _ _ _ _ refl c.fetch_or.ensures.made)
