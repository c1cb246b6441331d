-- The loop's invariant: the indices before i are given back, and the list is as long as it was.
use mathlib.Core.Path.{◌≡◌, refl, ap, ◌∙◌}
use Prim.Native.Nat.{◌+◌, ◌-◌}
use native.Mathlib.Omega.{arith}
use lib.ListN.{length}
use Rattle.definition.specs.Ranges.{bit_words}
use Rattle.start.specs.Given.{given_from}
use Rattle.start.proofs.Laws.{given_next, length-given}
use Rattle.start.proofs.give_from.Goals as goal

pub loop-i-init : goal.loop-i-init
unfolding given_from
loop-i-init c = let none : c.args.from - c.args.from ≡ 0 = omega arith in (refl, rw none refl)

pub give-requires : goal.give-requires
unfolding bit_words
give-requires c = omega arith

pub loop-i-preserved : goal.loop-i-preserved
loop-i-preserved c =
    let g = c.give.ensures ∙ given_next _ _ _ _ c.loop-i.i c.loop-i.auto.i c.loop-i.invariant.1 in
    (ap length g ∙ length-given _ _ _ (c.loop-i.i + 1 - c.args.from), g)
