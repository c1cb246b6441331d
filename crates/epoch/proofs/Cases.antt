-- The distances worked by hand hold of the definition: both columns compute to the same list. Assumes nothing.
use Rattle.std.proofs.Common.{◌≡◌, map, refl}
use Rattle.epoch.specs.Epoch.{wrapping_sub, halved, signed, gap, unpinned}
use Rattle.epoch.specs.Distances.{Distance, distances}

-- the distance of each row's two words is the row's
pub cases : map (λ (d : Distance). wrapping_sub d.a d.b) distances ≡ map (λ (d : Distance). d.distance) distances
unfolding distances wrapping_sub halved signed gap unpinned
cases = refl
