-- The constant is the starting word.
use Rattle.std.proofs.Common.{refl}
use Rattle.epoch.specs.Epoch.{starting}
use Rattle.epoch.proofs.Epoch.starting.Goals as goal

pub returns : goal.returns
unfolding starting
returns c = refl
