-- The token is in the bag where one of the words stands for it.
use mathlib.Core.Path.{◌∙◌}
use mathlib.Core.List.{[], ◌∷◌}
use Rattle.std.proofs.Common.{rules, take_all}
use Rattle.std.proofs.lemmas.Iterator.{YieldsList-from_slice}
use Rattle.std.proofs.lemmas.Iterator.Search.{any_from_yields_List}
use Rattle.definition.specs.Base.{among}
use Rattle.definition.specs.Bags.{item_of, tokens}
use Rattle.bags.proofs.Turns.{held_all}
use Rattle.bags.proofs.holds_token.Goals as goal

pub returns : goal.returns
returns c =
    let a = c.args in
    any_from_yields_List (λ w. among a.token (tokens (item_of w ∷ []))) _ _ _ c.any.ensures.ran
    (YieldsList-from_slice a.bag.now (c.iter.ensures.rest ∙ search (rules, take_all))) (λ x b q k. search rules)
    ∙ held_all a.token a.bag.now
