-- The distances that are worked by hand, as one table: the number of epochs that the word a is ahead of the word b. Proved of
-- `wrapping_sub` in proofs/Cases.antt. Assumes nothing.
use Rattle.std.specs.Prelude.{ℕ, ◌-◌, ◌^◌, List, [], ◌∷◌, ℤ, pos, neg_ℤ}

-- two words and the distance from b to a
pub record Distance : Type 0 where
  pub a : ℕ
  pub b : ℕ
  pub distance : ℤ

-- the worked cases: ahead, ahead and pinned, behind, equal, over the wrap at 2 ^ 64, and the two ends of the range
unfoldable pub distances : List Distance
distances =
    record { a = 6; b = 2; distance = pos 2 }
    ∷ record { a = 7; b = 2; distance = pos 2 }
    ∷ record { a = 0; b = 2; distance = neg_ℤ (pos 1) }
    ∷ record { a = 3; b = 3; distance = pos 0 }
    ∷ record { a = 0; b = 2 ^ 64 - 2; distance = pos 1 }
    ∷ record { a = 2 ^ 63; b = 0; distance = neg_ℤ (pos (2 ^ 62)) }
    ∷ record { a = 2 ^ 63 - 1; b = 0; distance = pos (2 ^ 62 - 1) }
    ∷ []
