-- Lent lists that pass refusals 2 and 1. Assumes nothing.
use Rattle.std.specs.Prelude.{◌≡◌, true, ℕ}
use Rattle.definition.specs.Layout.{Lent, sized, tables_of}
use Rattle.definition.specs.Ranges.{within_limits, in_range}

-- the sizes are taken, each list has its length, and no stored number is outside its range
pub record Sound (N M : ℕ) (l : Lent) : Type 0 where
  pub limits : within_limits N M ≡ true
  pub lengths : sized N M l ≡ true
  pub range : in_range N M (tables_of N M l) ≡ true
