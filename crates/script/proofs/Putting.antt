-- Texts put one behind the other in a line are put as one. Assumes nothing.
use mathlib.Core.Path.{refl, sym, ◌∙◌}
use mathlib.Core.List.{List, [], ◌++◌}
use Prim.Native.Nat.{ℕ, ◌+◌, ◌≤◌}
use native.Mathlib.Omega.{arith}
use lib.ListN.{length}
use Rattle.script.specs.Putting.{Adds}
use Rattle.script.specs.declared.Line.{Line}
use Rattle.script.proofs.Laws.{written_none, then}

pub adds_none : (l : Line) → Adds l [] l
adds_none l = record { puts = (sym (written_none l.out.now l.at), omega arith); same = refl; room = refl }

pub adds_then : (l m n : Line) (s t : List ℕ) → Adds l s m → Adds m t n → l.at + length s ≤ length l.out.now → Adds l (s ++ t) n
adds_then l m n s t x y h = record {
  puts = then l.out.now l.at s t x.puts y.puts h;
  same = y.same ∙ x.same;
  room = y.room ∙ x.room;
}
