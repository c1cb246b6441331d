-- The items of the bag are the first words of its row (`twice_words`), lent alone.
use mathlib.Core.Path.{ap, ◌∙◌}
use Prim.Native.Nat.{◌*◌}
use Rattle.std.proofs.Common.{rules}
use Rattle.definition.specs.Base.{among}
use Rattle.definition.specs.Bags.{tokens}
use Rattle.definition.specs.Calls.{held_already}
use Rattle.bags.proofs.Items.{items_slice}
use Rattle.checks.proofs.Laws.{twice_words}
use Rattle.checks.proofs.Standing.held_already.Goals as goal

pub returns-in-Defer : goal.returns-in-Defer
unfolding held_already
returns-in-Defer c =
    let s = c.args.self in
    rw (twice_words _ _ _ _ _ _ s.present, c.in-Defer.is)
    (c.holds_token.ensures ∙ ap (λ is. among c.in-Defer.token (tokens is)) (items_slice s.whole.lists.held.now (s.p * 64) s.o.held (search rules)))

pub returns-in_default : goal.returns-in_default
unfolding held_already
returns-in_default c = rw (twice_words _ _ _ _ _ _ c.args.self.present) (search rules)
