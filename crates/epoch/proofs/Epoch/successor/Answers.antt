-- What `wrapping_add_u64` promises is the definition.
use Rattle.std.proofs.Common.{rules}
use Rattle.epoch.specs.Epoch.{successor}
use Rattle.epoch.proofs.Epoch.successor.Goals as goal

pub returns : goal.returns
unfolding successor
returns c = search rules
