-- The mask keeps the remainder by 2.
use Rattle.epoch.specs.Epoch.{is_pinned}
use Rattle.epoch.proofs.Machine.{and_one}
use Rattle.epoch.proofs.Epoch.is_pinned.Goals as goal

pub returns : goal.returns
unfolding is_pinned
returns c = rw (and_one c.args.self.0)
