-- What a line that is put leaves. Assumes nothing.
use Rattle.std.specs.Prelude.{◌≡◌, List, ℕ, length}
use Rattle.script.specs.Script.{Puts}
use Rattle.script.specs.declared.Line.{Line}

-- a text is put behind what stands there, in the same bytes
pub record Adds (old : Line) (text : List ℕ) (new : Line) : Type 0 where
  pub puts : Puts old.out.now old.at text new.out.now new.at
  pub same : new.out.ghost_name ≡ old.out.ghost_name
  pub room : length new.out.now ≡ length old.out.now
