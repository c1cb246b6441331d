-- The work after an access puts an item only into a bag that has room: `defer` asks first. One law for each of the functions of specs/Flow,
-- then one line a place. And of the nodes only a push at its first place takes one. Assumes nothing.
use mathlib.Core.Path.{◌≡◌, refl, sym}
use mathlib.Core.Bool.{Bool, false, false≢true}
use Prim.Native.Nat.{ℕ, ◌<◌}
use native.Mathlib.Omega.{arith}
use lib.Dec.{ltb}
use borrow.Author.Tests.{ltb-true}
use Rattle.epoch.specs.declared.Epoch.{Epoch}
use Rattle.definition.specs.Base.{branch}
use Rattle.definition.specs.Bags.{max_objects}
use Rattle.definition.specs.Flow.{collect_steps, on, done, also, finalize, collected, pops, advanced, walk, placed, defer, pushed}
use Rattle.definition.specs.Rule.{follows}
use Rattle.definition.specs.List.{insert, delete, iterate}
use Rattle.definition.specs.Queue.{seal_bag, push, pop}
use Rattle.definition.specs.Internal.{pin_epoch, pin_word, pin_counted, unpin_word, repin, advance_epoch, advance_word, advance_store, final_word, rule}
use Rattle.definition.specs.Calls.{begins, opens}
use Rattle.definition.specs.Public.{takes_node}
use Rattle.definition.specs.declared.Slot.{Slot}
use Rattle.definition.specs.declared.Node.{Node}
use Rattle.definition.specs.declared.Ptr.{Ptr}
use Rattle.definition.specs.declared.Pred.{Pred}
use Rattle.definition.specs.declared.Owner.{Owner}
use Rattle.definition.specs.declared.Try.{Try}
use Rattle.definition.specs.declared.Deferring.{Deferring}
use Rattle.definition.specs.declared.Then.{Then}
use Rattle.definition.specs.declared.RegisterAt.{RegisterAt}
use Rattle.definition.specs.declared.RepinAt.{RepinAt}
use Rattle.definition.specs.declared.WalkAt.{WalkAt}
use Rattle.definition.specs.declared.PopAt.{PopAt}
use Rattle.definition.specs.declared.PushAt.{PushAt}
use Rattle.definition.specs.declared.Place.{Place}
use Rattle.definition.specs.declared.Participant.{Participant}
use Rattle.definition.specs.declared.Seen.{Seen}
use Rattle.definition.specs.declared.Work.{Work}
use Rattle.definition.specs.declared.After.{After}
use Rattle.definition.specs.declared.Call.{Call}
use Rattle.definition.proofs.Base.{branch_ind}

-- room in a bag of k items for what the work puts there
unfoldable pub RoomFor : ℕ → Work → Type 0
RoomFor k Work.Nothing = Unit {0}
RoomFor k (Work.Put item) = k < 64
RoomFor k (Work.PutThenFree item n) = k < 64
RoomFor k (Work.Seal n e) = Unit {0}

unfoldable pub Roomy : ℕ → After → Type 0
Roomy k a = RoomFor k a.work

module _ (k : ℕ) where
  on_room : (pl : Place) (o : Participant) → Roomy k (on pl o)
  unfolding Roomy RoomFor on
  on_room pl o = tt

  done_room : (v : ℕ) (o : Participant) → Roomy k (done v o)
  unfolding Roomy RoomFor done
  done_room v o = tt

  pick_room : (b : Bool) (x y : After) → Roomy k x → Roomy k y → Roomy k (branch b x y)
  pick_room b x y h j = branch_ind (Roomy k) b (λ _. h) (λ _. j)

  collected_room : (w : Owner) (o : Participant) → Roomy k (collected w o)
  unfolding collected
  collected_room Owner.Pin o = done_room 0 o
  collected_room Owner.Flush o = done_room 0 o
  collected_room Owner.Finalize o = on_room _ o

  finalize_room : (o : Participant) → Roomy k (finalize o)
  unfolding finalize
  finalize_room o = on_room _ _

  pops_room : (w : Owner) (e : Epoch) (left : ℕ) (o : Participant) → Roomy k (pops w e left o)
  unfolding pops
  pops_room w e left o = pick_room _ _ _ (collected_room w o) (on_room _ o)

  advanced_room : (w : Owner) (e : Epoch) (o : Participant) → Roomy k (advanced w e o)
  unfolding advanced
  advanced_room w e o = pops_room w e collect_steps o

  walk_room : (t : Try) (pred : Pred) (q : Ptr) (o : Participant) → Roomy k (walk t pred q o)
  unfolding walk
  walk_room t pred Ptr.Null o = on_room _ o
  walk_room t pred (Ptr.At i) o = on_room _ o

  placed_room : (d : Deferring) (o : Participant) → k < 64 → Roomy k (placed d o)
  unfolding placed also Roomy RoomFor
  placed_room (Deferring.Token token) o h = h
  placed_room (Deferring.Slot t c succ) o h = h
  placed_room (Deferring.Node p head next) o h = h

  defer_room : (d : Deferring) (o : Participant) → o.held ≡ k → Roomy k (defer d o)
  unfolding defer max_objects
  defer_room d o e = branch_ind (Roomy k) (ltb o.held 64)
      (λ t. placed_room d _ (let small : o.held < 64 = ltb-true o.held 64 t in omega arith)) (λ _. on_room _ o)

  pushed_room : (f : Then) (o : Participant) → o.held ≡ k → Roomy k (pushed f o)
  unfolding pushed
  pushed_room (Then.Defer d) o e = defer_room d o e
  pushed_room Then.Flush o e = on_room _ o
  pushed_room Then.Finalize o e = on_room _ _

  seal_room : (spare : Node) (f : Then) (w : ℕ) (o : Participant) → Roomy k (seal_bag spare f w o)
  unfolding seal_bag also Roomy RoomFor
  seal_room spare f w o = tt

  ruleset rooms = (
    on_room,
    done_room,
    pick_room,
    collected_room,
    finalize_room,
    pops_room,
    advanced_room,
    walk_room,
    defer_room,
    pushed_room,
    seal_room,
  )

  -- after the access of a place
  pub work_room : (self : Slot) (spare : Node) (sealed : Node → ℕ) (o : Participant) (pl : Place) (seen : Seen) → o.held ≡ k
      → Roomy k (follows (rule self spare sealed o pl) seen)
  unfolding follows rule insert delete iterate push pop pin_epoch pin_word pin_counted unpin_word repin advance_epoch advance_word advance_store final_word
  work_room self spare sealed o Place.Rest seen h = search rooms
  work_room self spare sealed o (Place.Register RegisterAt.Head) seen h = search rooms
  work_room self spare sealed o (Place.Register (RegisterAt.Next next)) seen h = search rooms
  work_room self spare sealed o (Place.Register (RegisterAt.Link next)) seen h = search rooms
  work_room self spare sealed o (Place.PinEpoch k) seen h = search rooms
  work_room self spare sealed o (Place.PinWord k e) seen h = search rooms
  work_room self spare sealed o (Place.Repin RepinAt.Word) seen h = search rooms
  work_room self spare sealed o (Place.Repin (RepinAt.Epoch e)) seen h = search rooms
  work_room self spare sealed o (Place.Repin (RepinAt.Store e)) seen h = search rooms
  work_room self spare sealed o Place.UnpinWord seen h = search rooms
  work_room self spare sealed o (Place.AdvanceEpoch k) seen h = search rooms
  work_room self spare sealed o (Place.Walk t WalkAt.Head) seen h = search rooms
  work_room self spare sealed o (Place.Walk t (WalkAt.Next c)) seen h = search rooms
  work_room self spare sealed o (Place.Walk t (WalkAt.Unlink c succ)) seen h = search rooms
  work_room self spare sealed o (Place.Walk t WalkAt.Stalled) seen h = search rooms
  work_room self spare sealed o (Place.AdvanceWord t curr succ) seen h = search rooms
  work_room self spare sealed o (Place.AdvanceStore t) seen h = search rooms
  work_room self spare sealed o (Place.Pop q PopAt.Head) seen h = search rooms
  work_room self spare sealed o (Place.Pop q (PopAt.Next head)) seen h = search rooms
  work_room self spare sealed o (Place.Pop q (PopAt.Exchange head next)) seen h = search rooms
  work_room self spare sealed o (Place.Pop q (PopAt.Tail head next)) seen h = search rooms
  work_room self spare sealed o (Place.Pop q (PopAt.TailMove head next)) seen h = search rooms
  work_room self spare sealed o (Place.Push f PushAt.Epoch) seen h = search rooms
  work_room self spare sealed o (Place.Push f (PushAt.Tail new)) seen h = search rooms
  work_room self spare sealed o (Place.Push f (PushAt.Next new onto)) seen h = search rooms
  work_room self spare sealed o (Place.Push f (PushAt.Help new onto next)) seen h = search rooms
  work_room self spare sealed o (Place.Push f (PushAt.Link new onto)) seen h = search rooms
  work_room self spare sealed o (Place.Push f (PushAt.Move new onto)) seen h = search rooms
  work_room self spare sealed o Place.FinalWord seen h = search rooms
  work_room self spare sealed o Place.FinalTag seen h = search rooms

  -- and after a call begins
  pub opens_room : (N : ℕ) (c : Call) (o : Participant) → o.held ≡ k → Roomy k (opens N c o)
  unfolding opens begins
  opens_room N Call.Acquire o h = search rooms
  opens_room N Call.Release o h = search rooms
  opens_room N Call.Pin o h = search rooms
  opens_room N Call.Unpin o h = search rooms
  opens_room N Call.Repin o h = search rooms
  opens_room N (Call.Defer token) o h = search rooms
  opens_room N Call.Flush o h = search rooms

-- a place whose step takes no node goes on alike whatever node is spare
pub spare_unused : (self : Slot) (a b : Node) (sealed : Node → ℕ) (o : Participant) (pl : Place) → takes_node pl ≡ false
    → rule self a sealed o pl ≡ rule self b sealed o pl
unfolding rule push takes_node
spare_unused self a b sealed o Place.Rest h = refl
spare_unused self a b sealed o (Place.Register RegisterAt.Head) h = refl
spare_unused self a b sealed o (Place.Register (RegisterAt.Next next)) h = refl
spare_unused self a b sealed o (Place.Register (RegisterAt.Link next)) h = refl
spare_unused self a b sealed o (Place.PinEpoch k) h = refl
spare_unused self a b sealed o (Place.PinWord k e) h = refl
spare_unused self a b sealed o (Place.Repin RepinAt.Word) h = refl
spare_unused self a b sealed o (Place.Repin (RepinAt.Epoch e)) h = refl
spare_unused self a b sealed o (Place.Repin (RepinAt.Store e)) h = refl
spare_unused self a b sealed o Place.UnpinWord h = refl
spare_unused self a b sealed o (Place.AdvanceEpoch k) h = refl
spare_unused self a b sealed o (Place.Walk t WalkAt.Head) h = refl
spare_unused self a b sealed o (Place.Walk t (WalkAt.Next c)) h = refl
spare_unused self a b sealed o (Place.Walk t (WalkAt.Unlink c succ)) h = refl
spare_unused self a b sealed o (Place.Walk t WalkAt.Stalled) h = refl
spare_unused self a b sealed o (Place.AdvanceWord t curr succ) h = refl
spare_unused self a b sealed o (Place.AdvanceStore t) h = refl
spare_unused self a b sealed o (Place.Pop q PopAt.Head) h = refl
spare_unused self a b sealed o (Place.Pop q (PopAt.Next head)) h = refl
spare_unused self a b sealed o (Place.Pop q (PopAt.Exchange head next)) h = refl
spare_unused self a b sealed o (Place.Pop q (PopAt.Tail head next)) h = refl
spare_unused self a b sealed o (Place.Pop q (PopAt.TailMove head next)) h = refl
spare_unused self a b sealed o (Place.Push f PushAt.Epoch) h = absurd (false≢true (sym h))
spare_unused self a b sealed o (Place.Push f (PushAt.Tail new)) h = refl
spare_unused self a b sealed o (Place.Push f (PushAt.Next new onto)) h = refl
spare_unused self a b sealed o (Place.Push f (PushAt.Help new onto next)) h = refl
spare_unused self a b sealed o (Place.Push f (PushAt.Link new onto)) h = refl
spare_unused self a b sealed o (Place.Push f (PushAt.Move new onto)) h = refl
spare_unused self a b sealed o Place.FinalWord h = refl
spare_unused self a b sealed o Place.FinalTag h = refl
