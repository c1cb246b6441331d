-- How large the numbers of Left can be, place by place: 2N + 54 beside the share, at a push that waits to store a slot of a finalize's walk, resumed behind
-- a lagging tail. Assumes nothing.
use Prim.Native.Nat.{ℕ, ◌+◌, ◌*◌, ◌≤◌}
use native.Mathlib.Omega.{arith}
use Rattle.definition.specs.Tables.{Shared}
use Rattle.definition.specs.Flow.{collect_steps}
use Rattle.definition.proofs.Within.{PlaceIn, ThenIn}
use Rattle.theorems.proofs.Types.{Ptr, Pred, Owner, Deferring, Then, RegisterAt, RepinAt, WalkAt, PopAt, PushAt, Place, Participant}
use Rattle.alone.proofs.Left.{push_steps, pops, final_left, defer_left, then_left, register_left, repin_left, walk_left, pop_left, push_left, collect_left, place_left, left}
use Rattle.alone.proofs.Laws.{at_most, lag-small, going_most}

final_most : (k : Owner) → final_left k ≤ 2
unfolding final_left
final_most Owner.Pin = omega arith
final_most Owner.Flush = omega arith
final_most Owner.Finalize = omega arith

register_most : (s : Shared) (x : RegisterAt) → register_left s x ≤ 4
unfolding register_left
register_most s RegisterAt.Head = omega arith
register_most s (RegisterAt.Next next) = at_most _ _ _ _ (omega arith) (omega arith)
register_most s (RegisterAt.Link next) = at_most _ _ _ _ (omega arith) (omega arith)

repin_most : (x : RepinAt) → repin_left x ≤ 3
unfolding repin_left
repin_most RepinAt.Word = omega arith
repin_most (RepinAt.Epoch e) = omega arith
repin_most (RepinAt.Store e) = omega arith

pop_most : (s : Shared) (r : ℕ) (x : PopAt) → r ≤ collect_steps → pop_left s r x ≤ pops + 2
unfolding pop_left
pop_most s r PopAt.Head h = omega arith
pop_most s r (PopAt.Next head) h = at_most _ _ _ _ (omega arith) (omega arith)
pop_most s r (PopAt.Exchange head next) h = at_most _ _ _ _ (omega arith) (omega arith)
pop_most s r (PopAt.Tail head next) h = omega arith
pop_most s r (PopAt.TailMove head next) h = omega arith

push_most : (s : Shared) (x : PushAt) → push_left s x ≤ 9
unfolding push_left
push_most s PushAt.Epoch = omega arith
push_most s (PushAt.Tail new) = let h = lag-small s in omega arith
push_most s (PushAt.Next new onto) = at_most _ _ _ _ (omega arith) (at_most _ _ _ _ (omega arith) (let h = lag-small s in omega arith))
push_most s (PushAt.Help new onto next) = at_most _ _ _ _ (omega arith) (let h = lag-small s in omega arith)
push_most s (PushAt.Link new onto) = at_most _ _ _ _ (omega arith) (let h = lag-small s in omega arith)
push_most s (PushAt.Move new onto) = omega arith

-- with at most N slots in the list
module _ (N M L : ℕ) (a : Ptr → ℕ) (few : L ≤ N) (some : (l : Ptr) → a l ≤ L) where
  then_most : (s : Shared) (f : Then) → ThenIn N M f → then_left L a s f ≤ 2 * N + pops + 5
  unfolding then_left defer_left ThenIn
  then_most s (Then.Defer (Deferring.Token token)) h = omega arith
  then_most s (Then.Defer (Deferring.Slot t c succ)) h = let x = going_most L a some s c.pred succ in let y = final_most t.owner in omega arith
  then_most s (Then.Defer (Deferring.Node p head next)) h = let y = final_most p.owner in let z = h.0.1 in omega arith
  then_most s Then.Flush h = omega arith
  then_most s Then.Finalize h = omega arith

  collect_most : (pins : ℕ) → collect_left L a pins ≤ 2 * N + pops + 3
  unfolding collect_left
  collect_most pins = at_most _ _ _ _ (omega arith) (omega arith)

  walk_most : (s : Shared) (x : WalkAt) → walk_left L a s x ≤ 2 * N + pops + 3
  unfolding walk_left
  walk_most s WalkAt.Head = omega arith
  walk_most s (WalkAt.Next c) = let h = going_most L a some s c.pred (Ptr.At c.curr) in omega arith
  walk_most s (WalkAt.Unlink c succ) = at_most _ _ _ _ (let h = some succ in omega arith) (omega arith)
  walk_most s WalkAt.Stalled = omega arith

  place_most : (s : Shared) (pins h : ℕ) (pl : Place) → PlaceIn N M pl → place_left L a s pins h pl ≤ 2 * N + pops + 14
  unfolding place_left PlaceIn
  place_most s pins h Place.Rest i = omega arith
  place_most s pins h (Place.Register x) i = let y = register_most s x in omega arith
  place_most s pins h (Place.PinEpoch k) i = let x = collect_most pins in let y = final_most k in omega arith
  place_most s pins h (Place.PinWord k e) i = let x = collect_most pins in let y = final_most k in omega arith
  place_most s pins h (Place.Repin x) i = let y = repin_most x in omega arith
  place_most s pins h Place.UnpinWord i = at_most _ _ _ _ (let x = collect_most pins in omega arith) (omega arith)
  place_most s pins h (Place.AdvanceEpoch k) i = let y = final_most k in omega arith
  place_most s pins h (Place.Walk t x) i = let z = walk_most s x in let y = final_most t.owner in omega arith
  place_most s pins h (Place.AdvanceWord t curr succ) i = let x = going_most L a some s (Pred.Entry curr) succ in let y = final_most t.owner in omega arith
  place_most s pins h (Place.AdvanceStore t) i = let y = final_most t.owner in omega arith
  place_most s pins h (Place.Pop p x) i = let z = pop_most s p.left x i.0.1 in let y = final_most p.owner in omega arith
  place_most s pins h (Place.Push f x) i = let y = push_most s x in let z = then_most s f i.0 in omega arith
  place_most s pins h Place.FinalWord i = omega arith
  place_most s pins h Place.FinalTag i = omega arith

  pub left_most : (s : Shared) (o : Participant) → PlaceIn N M o.place → left L a s o ≤ 2 * N + 54 + push_steps * o.share
  unfolding left collect_steps
  left_most s o i = let h = place_most s o.counts.pins o.counts.handles o.place i in omega arith
