-- A call on the lent lists: what must have been shown of them before it is made. What it leaves is `Leaves` of `step`. Assumes nothing.
use Rattle.std.specs.Prelude.{◌≡◌, false, ℕ, ◌+◌, ◌≤◌, ◌<◌}
use Rattle.definition.specs.Base.{count}
use Rattle.definition.specs.Calls.{token_above, needs}
use Rattle.definition.specs.Layout.{Lent, tables_of}
use Rattle.definition.specs.Public.{the, running}
use Rattle.definition.specs.declared.Call.{Call}
use Rattle.ranges.specs.Sound.{Sound}

-- call c of participant p passes every check that it rests on: no operation runs, the token is taken, and there are nodes for it
pub record Calls (N M p : ℕ) (c : Call) (l : Lent) : Type 0 where
  pub sound : Sound N M l
  pub below : p < N
  pub rests : running p (tables_of N M l) ≡ false
  pub small : token_above c ≡ false
  pub enough : (tables_of N M l).aside + needs N c (the p (tables_of N M l)) ≤ count M (tables_of N M l).node_free
