-- What work a step can have: none; an item put into the bag; with it the bag of the node that this very pop had popped, freed; the bag sealed
-- into the spare node. Where a popped bag is freed the pop is over, and elsewhere the popped node stays. Assumes nothing.
use mathlib.Core.Path.{◌≡◌, refl}
use mathlib.Core.Bool.{Bool}
use mathlib.Core.Option.{Option, none, some}
use Prim.Native.Nat.{ℕ, ◌-◌}
use Rattle.definition.specs.Base.{branch}
use Rattle.definition.specs.Flow.{collect_steps, on, done, also, finalize, collected, pops, advanced, walk, placed, defer, pushed}
use Rattle.definition.specs.Rule.{follows}
use Rattle.definition.specs.List.{insert, delete, iterate}
use Rattle.definition.specs.Queue.{seal_bag, push, pop}
use Rattle.definition.specs.Internal.{pin_epoch, pin_word, pin_counted, unpin_word, repin, advance_epoch, advance_word, advance_store, final_word, rule}
use Rattle.definition.proofs.Base.{branch_ind}
use Rattle.theorems.proofs.Invariant.{popped_node}
use Rattle.theorems.proofs.Types.{Epoch, Slot, Node, Ptr, Pred, Item, Owner, Try, Deferring, Then, RegisterAt, RepinAt, WalkAt, PopAt, PushAt, Place, Participant, Seen, Work, After}

-- the work a, from a place that has popped the node `was`
pub data Worked (spare : Node) (was : Option ℕ) (a : After) : Type 0 where
  nothing : a.work ≡ Work.Nothing → Worked spare was a
  puts : (i : Item) → a.work ≡ Work.Put i → Worked spare was a
  frees : (i : Item) (n : Node) → a.work ≡ Work.PutThenFree i n → was ≡ some n.0 → popped_node a.participant.place ≡ none → Worked spare was a
  seals : (e : Epoch) → a.work ≡ Work.Seal spare e → Worked spare was a

module _ (spare : Node) (was : Option ℕ) where
  on_works : (pl : Place) (o : Participant) → Worked spare was (on pl o)
  unfolding on
  on_works pl o = nothing refl

  done-works : (v : ℕ) (o : Participant) → Worked spare was (done v o)
  unfolding done
  done-works v o = nothing refl

  pick-works : (b : Bool) (x y : After) → Worked spare was x → Worked spare was y → Worked spare was (branch b x y)
  pick-works b x y h k = branch_ind (Worked spare was) b (λ _. h) (λ _. k)

  collected-works : (k : Owner) (o : Participant) → Worked spare was (collected k o)
  unfolding collected
  collected-works Owner.Pin o = done-works 0 o
  collected-works Owner.Flush o = done-works 0 o
  collected-works Owner.Finalize o = on_works _ o

  finalize-works : (o : Participant) → Worked spare was (finalize o)
  unfolding finalize
  finalize-works o = on_works _ _

  pops-works : (k : Owner) (e : Epoch) (left : ℕ) (o : Participant) → Worked spare was (pops k e left o)
  unfolding pops
  pops-works k e left o = pick-works _ _ _ (collected-works k o) (on_works _ o)

  advanced-works : (k : Owner) (e : Epoch) (o : Participant) → Worked spare was (advanced k e o)
  unfolding advanced
  advanced-works k e o = pops-works k e collect_steps o

  walk-works : (t : Try) (pred : Pred) (q : Ptr) (o : Participant) → Worked spare was (walk t pred q o)
  unfolding walk
  walk-works t pred Ptr.Null o = on_works _ o
  walk-works t pred (Ptr.At s) o = on_works _ o

  seal-works : (f : Then) (w : ℕ) (o : Participant) → Worked spare was (seal_bag spare f w o)
  unfolding seal_bag also
  seal-works f w o = seals _ refl

-- no pop is under way after the pops of a collect are over, or when another begins
none_popped : (k : Owner) (e : Epoch) (left : ℕ) (o : Participant) → popped_node (pops k e left o).participant.place ≡ none
unfolding pops
none_popped k e left o = branch_ind (λ (a : After). popped_node a.participant.place ≡ none) _ (λ _. over k o) (λ _. another)
  where
    over : (k : Owner) (o : Participant) → popped_node (collected k o).participant.place ≡ none
    over Owner.Pin o = unfold popped_node collected done in refl
    over Owner.Flush o = unfold popped_node collected done in refl
    over Owner.Finalize o = unfold popped_node collected on in refl

    another : popped_node (on (Place.Pop (record { owner = k; epoch = e; left = left }) PopAt.Head) o).participant.place ≡ none
    another = unfold popped_node on in refl

-- what the item that waits belongs to has popped
unfoldable pub pop_of : Deferring → Option ℕ
pop_of (Deferring.Token token) = none
pop_of (Deferring.Slot t c succ) = none
pop_of (Deferring.Node p head next) = some next.0

module _ (spare : Node) where
  placed-works : (d : Deferring) (o : Participant) → Worked spare (pop_of d) (placed d o)
  unfolding placed also pop_of
  placed-works (Deferring.Token token) o = puts _ refl
  placed-works (Deferring.Slot t c succ) o = puts _ refl
  placed-works (Deferring.Node p head next) o = frees _ next refl refl (none_popped p.owner p.epoch (p.left - 1) o)

  defer-works : (d : Deferring) (o : Participant) → Worked spare (pop_of d) (defer d o)
  unfolding defer
  defer-works d o = pick-works spare (pop_of d) _ _ _ (placed-works d _) (on_works spare (pop_of d) _ o)

  -- of a push: what its item belongs to
  pushed-works : (f : Then) (a : PushAt) (o : Participant) → Worked spare (popped_node (Place.Push f a)) (pushed f o)
  unfolding pushed popped_node pop_of
  pushed-works (Then.Defer (Deferring.Token token)) a o = defer-works (Deferring.Token token) o
  pushed-works (Then.Defer (Deferring.Slot t c succ)) a o = defer-works (Deferring.Slot t c succ) o
  pushed-works (Then.Defer (Deferring.Node p head next)) a o = defer-works (Deferring.Node p head next) o
  pushed-works Then.Flush a o = on_works spare none _ o
  pushed-works Then.Finalize a o = on_works spare none _ _

  ruleset works = (on_works, done-works, pick-works, collected-works, finalize-works, pops-works, advanced-works, walk-works, seal-works, pushed-works)

  -- after the access of each place
  pub worked : (self : Slot) (sealed : Node → ℕ) (o : Participant) (pl : Place) (seen : Seen)
      → Worked spare (popped_node pl) (follows (rule self spare sealed o pl) seen)
  unfolding follows rule insert delete iterate push pop pin_epoch pin_word pin_counted unpin_word repin advance_epoch advance_word advance_store final_word popped_node pop_of
  worked self sealed o Place.Rest seen = search works
  worked self sealed o (Place.Register RegisterAt.Head) seen = search works
  worked self sealed o (Place.Register (RegisterAt.Next next)) seen = search works
  worked self sealed o (Place.Register (RegisterAt.Link next)) seen = search works
  worked self sealed o (Place.PinEpoch k) seen = search works
  worked self sealed o (Place.PinWord k e) seen = search works
  worked self sealed o (Place.Repin RepinAt.Word) seen = search works
  worked self sealed o (Place.Repin (RepinAt.Epoch e)) seen = search works
  worked self sealed o (Place.Repin (RepinAt.Store e)) seen = search works
  worked self sealed o Place.UnpinWord seen = search works
  worked self sealed o (Place.AdvanceEpoch k) seen = search works
  worked self sealed o (Place.Walk t WalkAt.Head) seen = search works
  worked self sealed o (Place.Walk t (WalkAt.Next c)) seen = search works
  worked self sealed o (Place.Walk t (WalkAt.Unlink c succ)) seen = pick-works spare none _ _ _ (defer-works (Deferring.Slot t c succ) o) (search works)
  worked self sealed o (Place.Walk t WalkAt.Stalled) seen = search works
  worked self sealed o (Place.AdvanceWord t curr succ) seen = search works
  worked self sealed o (Place.AdvanceStore t) seen = search works
  worked self sealed o (Place.Pop q PopAt.Head) seen = search works
  worked self sealed o (Place.Pop q (PopAt.Next head)) seen = search works
  worked self sealed o (Place.Pop q (PopAt.Exchange head next)) seen = search works
  worked self sealed o (Place.Pop q (PopAt.Tail head next)) seen = pick-works spare _ _ _ _ (on_works spare _ _ o) (defer-works (Deferring.Node q head next) o)
  worked self sealed o (Place.Pop q (PopAt.TailMove head next)) seen = pick-works spare _ _ _ _ (defer-works (Deferring.Node q head next) o) (defer-works (Deferring.Node q head next) o)
  worked self sealed o (Place.Push f PushAt.Epoch) seen = search works
  worked self sealed o (Place.Push f (PushAt.Tail new)) seen = search works
  worked self sealed o (Place.Push f (PushAt.Next new onto)) seen = search works
  worked self sealed o (Place.Push f (PushAt.Help new onto next)) seen = search works
  worked self sealed o (Place.Push f (PushAt.Link new onto)) seen = search works
  worked self sealed o (Place.Push f (PushAt.Move new onto)) seen = pick-works spare _ _ _ _ (pushed-works f (PushAt.Move new onto) o) (pushed-works f (PushAt.Move new onto) o)
  worked self sealed o Place.FinalWord seen = search works
  worked self sealed o Place.FinalTag seen = search works
