-- The parts row by row are the definition's column by column (`in_range-rows`).
use Rattle.std.proofs.Common.{rules, ◌∙◌}
use Rattle.ranges.proofs.Laws.{in_range-rows}
use Rattle.lent.specs.Lists.{read}
use Rattle.ranges.proofs.Measured.in_range.Goals as goal

pub returns-then-participants_in : goal.returns-then-participants_in
returns-then-participants_in c =
    let l = c.args.self.lists in
    search rules ∙ in_range-rows l.n l.m (read l)

pub returns-else-participants_in : goal.returns-else-participants_in
returns-else-participants_in c =
    let l = c.args.self.lists in
    search rules ∙ in_range-rows l.n l.m (read l)
