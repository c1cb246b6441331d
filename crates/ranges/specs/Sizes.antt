-- Sizes that are taken, for refusal 2. Assumes nothing.
use Rattle.std.specs.Prelude.{Bool, ◌&&◌, ℕ}
use Rattle.definition.specs.Layout.{Lent, sized}
use Rattle.definition.specs.Ranges.{within_limits}

-- N and M are within their limits, and each list has the length that they give it
abbrev pub sizes : (N M : ℕ) → Lent → Bool
sizes N M l = within_limits N M && sized N M l
