-- What the contracts on blocks of input cite. Assumes nothing.
use Rattle.std.specs.Prelude.{◌≡◌, ℕ, ◌-◌, ◌^◌, ◌<◌, ◌≤◌, List, ◌++◌, length, Option, Result, Ok}
use Rattle.std.specs.List.{All, concat, FoldsTo}
use Rattle.std.specs.Fn.{Mut, CalledAt}
use Rattle.std.specs.Io.KnownBytes.{Consumes, IsAtEnd}
use denote.Ref.{Bor}

-- a reader's bytes were given to f in blocks of k, in order, but for a last one that may be shorter; each call answered `Ok(())`; and none are
-- left, unless there were 2^64 - 1 whole blocks
pub record IsGivenTo {F E : Type 0} (g : Mut F (Bor (List ℕ) × Unit {0}) (Result (Unit {0}) E)) (f : F) (k : ℕ) (old new : Option (List ℕ)) : Type 0 where
  pub whole : List (List ℕ)
  pub rest : List (List ℕ)
  pub last : F
  pub sizes : All (λ b. length b ≡ k) whole
  pub one : length rest ≤ 1
  pub calls : FoldsTo (λ p b q. CalledAt g p b (Ok tt) q) f (whole ++ rest) last
  pub bytes : Consumes old new (concat (whole ++ rest))
  pub end : length whole < 2 ^ 64 - 1 → IsAtEnd new
