-- The mask sets the lowest bit.
use Rattle.epoch.proofs.Machine.{or_one}
use Rattle.epoch.proofs.Epoch.pinned.Goals as goal

pub returns : goal.returns
returns c = or_one c.args.self.0
