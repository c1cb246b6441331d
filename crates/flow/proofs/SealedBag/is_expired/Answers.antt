-- The distance fits an i64, so its bits say it, and 2 is at most it where the test says
-- so.
use mir.Facts.{to_z-of_z}
use Rattle.definition.specs.Bags.{is_expired}
use Rattle.epoch.proofs.Laws.{wrapping_sub-fits}
use Rattle.flow.proofs.SealedBag.is_expired.Goals as goal

pub returns : goal.returns
unfolding is_expired
returns c =
    rw (
      c.wrapping_sub.ensures,
      to_z-of_z (wrapping_sub-fits c.args.global.0 c.args.self.epoch.0),
    )
