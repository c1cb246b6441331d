-- The mask clears the lowest bit of a word.
use Rattle.std.proofs.Common.{arith}
use Rattle.epoch.proofs.Machine.{and_not_one}
use Rattle.epoch.proofs.Epoch.unpinned.Goals as goal

pub returns : goal.returns
returns c = and_not_one c.args.self.0 (omega arith)
