-- Records that stand one after another, played: the lists after so many of them. Assumes nothing.
use Rattle.std.specs.Prelude.{List, ℕ, zero, suc, ◌+◌, ◌*◌, ◌/◌, length, take, drop}
use Rattle.definition.specs.Layout.{Lent}
use Rattle.script.specs.Script.{action_in}
use Rattle.script.specs.Played.{acts}

-- the lent lists, and the list for freed tokens
pub record Reached : Type 0 where
  pub lent : Lent
  pub freed : List ℕ

abbrev pub reached_as : Lent → List ℕ → Reached
reached_as l places = record { lent = l; freed = places }

-- after k records of 8 bytes; the last may be short
unfoldable pub reached : (N M : ℕ) → List ℕ → Lent → List ℕ → ℕ → Reached
reached N M b l places zero = reached_as l places
reached N M b l places (suc k) =
    let r = reached N M b l places k in
    let o = acts N M r.lent r.freed (action_in (take 8 (drop (8 * k) b))) in
    reached_as o.lent o.freed

-- how many records there are
abbrev pub records_in : List ℕ → ℕ
records_in b = (length b + 7) / 8
