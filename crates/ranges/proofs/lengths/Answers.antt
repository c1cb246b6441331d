-- The constants are the definition's (`sized_words`).
use Rattle.std.proofs.Common.{rules, ◌∙◌}
use Rattle.definition.specs.Layout.{global_words}
use Rattle.lent.specs.Lists.{read}
use Rattle.ranges.proofs.Laws.{sized_words}
use Rattle.ranges.proofs.lengths.Goals as goal

pub returns-then-l-3 : goal.returns-then-l-3
unfolding global_words
returns-then-l-3 c =
    let l = c.args.l in
    search rules ∙ sized_words l.n l.m (read l)

pub returns-else-l-3 : goal.returns-else-l-3
unfolding global_words
returns-else-l-3 c =
    let l = c.args.l in
    search rules ∙ sized_words l.n l.m (read l)
