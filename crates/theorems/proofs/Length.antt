-- The length of a participant's bag after a step or a call is what its work makes of it: the same, one more where an item is put, none
-- where the bag is sealed. So the tables and the machine go together (`view_follow`). Assumes nothing.
use mathlib.Core.Path.{◌≡◌, refl, ◌∙◌}
use mathlib.Core.Bool.{Bool}
use Prim.Native.Nat.{ℕ, ◌+◌, ◌-◌}
use Rattle.definition.specs.Base.{branch}
use Rattle.definition.specs.Flow.{collect_steps, on, done, also, finalize, collected, pops, advanced, walk, placed, defer, pushed}
use Rattle.definition.specs.Rule.{follows}
use Rattle.definition.specs.List.{insert, delete, iterate}
use Rattle.definition.specs.Queue.{seal_bag, push, pop}
use Rattle.definition.specs.Internal.{pin_epoch, pin_word, pin_counted, unpin_word, repin, advance_epoch, advance_word, advance_store, final_word, rule}
use Rattle.definition.specs.Calls.{begins}
use Rattle.definition.proofs.Base.{branch_ind}
use Rattle.theorems.proofs.Machine.{Fits}
use Rattle.theorems.proofs.Types.{Epoch, Slot, Node, Ptr, Pred, Owner, Try, Deferring, Then, RegisterAt, RepinAt, WalkAt, PopAt, PushAt}
use Rattle.theorems.proofs.Types.{Place, Participant, Seen, After, Call}

-- the length afterwards is h, and there is no work; or the length alone
unfoldable pub Length : ℕ → After → Type 0
Length h a = a.participant.held ≡ h

unfoldable pub Fitting : ℕ → After → Type 0
Fitting k a = Fits k a.participant.held a.work

module _ (k : ℕ) where
  on_fits : (pl : Place) (o : Participant) → o.held ≡ k → Fitting k (on pl o)
  unfolding Fitting Fits on
  on_fits pl o h = h

  done-fits : (v : ℕ) (o : Participant) → o.held ≡ k → Fitting k (done v o)
  unfolding Fitting Fits done
  done-fits v o h = h

  pick-fits : (b : Bool) (x y : After) → Fitting k x → Fitting k y → Fitting k (branch b x y)
  pick-fits b x y h i = branch_ind (Fitting k) b (λ _. h) (λ _. i)

  collected-fits : (c : Owner) (o : Participant) → o.held ≡ k → Fitting k (collected c o)
  unfolding collected
  collected-fits Owner.Pin o h = done-fits 0 o h
  collected-fits Owner.Flush o h = done-fits 0 o h
  collected-fits Owner.Finalize o h = on_fits _ o h

  finalize-fits : (o : Participant) → o.held ≡ k → Fitting k (finalize o)
  unfolding finalize
  finalize-fits o h = on_fits _ _ h

  pops-fits : (c : Owner) (e : Epoch) (left : ℕ) (o : Participant) → o.held ≡ k → Fitting k (pops c e left o)
  unfolding pops
  pops-fits c e left o h = pick-fits _ _ _ (collected-fits c o h) (on_fits _ o h)

  advanced-fits : (c : Owner) (e : Epoch) (o : Participant) → o.held ≡ k → Fitting k (advanced c e o)
  unfolding advanced
  advanced-fits c e o h = pops-fits c e collect_steps o h

  walk-fits : (t : Try) (pred : Pred) (q : Ptr) (o : Participant) → o.held ≡ k → Fitting k (walk t pred q o)
  unfolding walk
  walk-fits t pred Ptr.Null o h = on_fits _ o h
  walk-fits t pred (Ptr.At i) o h = on_fits _ o h

-- a quiet end of any length, with work besides
length-pick : (h : ℕ) (b : Bool) (x y : After) → Length h x → Length h y → Length h (branch b x y)
length-pick h b x y i j = branch_ind (Length h) b (λ _. i) (λ _. j)

length-collected : (c : Owner) (o : Participant) → Length o.held (collected c o)
unfolding Length collected on done
length-collected Owner.Pin o = refl
length-collected Owner.Flush o = refl
length-collected Owner.Finalize o = refl

length-pops : (c : Owner) (e : Epoch) (left : ℕ) (o : Participant) → Length o.held (pops c e left o)
unfolding pops
length-pops c e left o = length-pick o.held _ _ _ (length-collected c o) (length_on _ o)
  where
    length_on : (pl : Place) (o : Participant) → Length o.held (on pl o)
    length_on pl o = unfold Length on in refl

length-walk : (t : Try) (pred : Pred) (q : Ptr) (o : Participant) → Length o.held (walk t pred q o)
unfolding Length walk on
length-walk t pred Ptr.Null o = refl
length-walk t pred (Ptr.At i) o = refl

module _ (k : ℕ) where
  placed-fits : (d : Deferring) (o : Participant) → o.held ≡ k + 1 → Fitting k (placed d o)
  unfolding Fitting Fits placed also done
  placed-fits (Deferring.Token token) o h = h
  placed-fits (Deferring.Slot t c succ) o h = unfold Length in (length-walk t c.pred succ o ∙ h)
  placed-fits (Deferring.Node p head next) o h = unfold Length in (length-pops p.owner p.epoch (p.left - 1) o ∙ h)

  defer-fits : (d : Deferring) (o : Participant) → o.held ≡ k → Fitting k (defer d o)
  unfolding defer
  defer-fits d o h = pick-fits k _ _ _ (placed-fits d _ (rw h)) (on_fits k _ o h)

  pushed-fits : (f : Then) (o : Participant) → o.held ≡ k → Fitting k (pushed f o)
  unfolding pushed
  pushed-fits (Then.Defer d) o h = defer-fits d o h
  pushed-fits Then.Flush o h = on_fits k _ o h
  pushed-fits Then.Finalize o h = on_fits k _ _ h

  seal-fits : (spare : Node) (f : Then) (w : ℕ) (o : Participant) → Fitting k (seal_bag spare f w o)
  unfolding Fitting Fits seal_bag also on
  seal-fits spare f w o = refl

  ruleset fitting = (on_fits, done-fits, pick-fits, collected-fits, finalize-fits, pops-fits, advanced-fits, walk-fits, defer-fits, pushed-fits, seal-fits)

  -- after the access of each place
  pub follows-fits : (self : Slot) (spare : Node) (sealed : Node → ℕ) (o : Participant) (pl : Place) (seen : Seen) → o.held ≡ k
      → Fitting k (follows (rule self spare sealed o pl) seen)
  unfolding follows rule insert delete iterate push pop pin_epoch pin_word pin_counted unpin_word repin advance_epoch advance_word advance_store final_word
  follows-fits self spare sealed o Place.Rest seen h = search fitting
  follows-fits self spare sealed o (Place.Register RegisterAt.Head) seen h = search fitting
  follows-fits self spare sealed o (Place.Register (RegisterAt.Next next)) seen h = search fitting
  follows-fits self spare sealed o (Place.Register (RegisterAt.Link next)) seen h = search fitting
  follows-fits self spare sealed o (Place.PinEpoch c) seen h = search fitting
  follows-fits self spare sealed o (Place.PinWord c e) seen h = search fitting
  follows-fits self spare sealed o (Place.Repin RepinAt.Word) seen h = search fitting
  follows-fits self spare sealed o (Place.Repin (RepinAt.Epoch e)) seen h = search fitting
  follows-fits self spare sealed o (Place.Repin (RepinAt.Store e)) seen h = search fitting
  follows-fits self spare sealed o Place.UnpinWord seen h = search fitting
  follows-fits self spare sealed o (Place.AdvanceEpoch c) seen h = search fitting
  follows-fits self spare sealed o (Place.Walk t WalkAt.Head) seen h = search fitting
  follows-fits self spare sealed o (Place.Walk t (WalkAt.Next c)) seen h = search fitting
  follows-fits self spare sealed o (Place.Walk t (WalkAt.Unlink c succ)) seen h = search fitting
  follows-fits self spare sealed o (Place.Walk t WalkAt.Stalled) seen h = search fitting
  follows-fits self spare sealed o (Place.AdvanceWord t curr succ) seen h = search fitting
  follows-fits self spare sealed o (Place.AdvanceStore t) seen h = search fitting
  follows-fits self spare sealed o (Place.Pop q PopAt.Head) seen h = search fitting
  follows-fits self spare sealed o (Place.Pop q (PopAt.Next head)) seen h = search fitting
  follows-fits self spare sealed o (Place.Pop q (PopAt.Exchange head next)) seen h = search fitting
  follows-fits self spare sealed o (Place.Pop q (PopAt.Tail head next)) seen h = search fitting
  follows-fits self spare sealed o (Place.Pop q (PopAt.TailMove head next)) seen h = search fitting
  follows-fits self spare sealed o (Place.Push f PushAt.Epoch) seen h = search fitting
  follows-fits self spare sealed o (Place.Push f (PushAt.Tail new)) seen h = search fitting
  follows-fits self spare sealed o (Place.Push f (PushAt.Next new onto)) seen h = search fitting
  follows-fits self spare sealed o (Place.Push f (PushAt.Help new onto next)) seen h = search fitting
  follows-fits self spare sealed o (Place.Push f (PushAt.Link new onto)) seen h = search fitting
  follows-fits self spare sealed o (Place.Push f (PushAt.Move new onto)) seen h = search fitting
  follows-fits self spare sealed o Place.FinalWord seen h = search fitting
  follows-fits self spare sealed o Place.FinalTag seen h = search fitting

  -- after each call
  pub begins-fits : (c : Call) (o : Participant) → o.held ≡ k → Fitting k (begins c o)
  unfolding begins
  begins-fits Call.Acquire o h = search fitting
  begins-fits Call.Release o h = search fitting
  begins-fits Call.Pin o h = search fitting
  begins-fits Call.Unpin o h = search fitting
  begins-fits Call.Repin o h = search fitting
  begins-fits (Call.Defer token) o h = search fitting
  begins-fits Call.Flush o h = search fitting
