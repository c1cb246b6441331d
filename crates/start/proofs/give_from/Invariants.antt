-- The loop's invariant: the indices before i are given back, and the list is as long as it was.
use mathlib.Core.Path.{◌≡◌}
use Prim.Native.Nat.{◌-◌}
use lib.ListN.{length}
use Rattle.start.specs.Given.{given_from}
use Rattle.start.proofs.give_from.Given as goal

abbrev pub invariant-loop-i : goal.invariant-loop-i
invariant-loop-i l = (length l.globals ≡ length l.initial.globals) × (l.globals ≡ given_from l.initial.globals l.bits.at l.from (l.i - l.from))
