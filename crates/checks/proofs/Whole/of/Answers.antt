-- Where sizes and ranges are right, so is all that `Passed` says.
use Rattle.std.proofs.Common.{rules}
use Rattle.definition.specs.Base.{branch}
use Rattle.lent.specs.Lists.{read}
use Rattle.checks.specs.Refusals.{damage_of}
use Rattle.checks.proofs.Laws.{passed_none}
use Rattle.checks.proofs.Whole.of.Goals as goal

pub invariant_of-result : goal.invariant_of-result
unfolding damage_of branch
invariant_of-result c = let l = c.args.lists in record { passed = passed_none l.n l.m (read l) (search rules) }
