-- What is written, and what is still to be. Assumes nothing.
use Rattle.std.specs.Prelude.{◌≡◌, ℕ, List, ◌++◌, Option}
use Rattle.std.specs.Io.KnownBytes.{Appends}

-- of `all` that was to be written, all is but what is left
pub record Wrote (old new : Option (List ℕ)) (all left : List ℕ) : Type 0 where
  pub text : List ℕ
  pub appends : Appends old new text
  pub whole : text ++ left ≡ all
