-- The value of `done`: by the functions of specs/Flow, then by the places, what follows an access or a call ends with the value that its operation
-- has, if it ends. Only `placed`, of a token, counts places, and there the bag had room. Leans on Refusals. Assumes nothing.
use mathlib.Core.Path.{◌≡◌, refl, sym, ◌∙◌}
use mathlib.Core.Bool.{Bool, ◌&&◌}
use mathlib.Core.List.{List, []}
use Prim.Native.Nat.{ℕ, ◌+◌, ◌-◌, ◌≤◌}
use native.Mathlib.Omega.{arith}
use lib.Dec.{ltb}
use lib.ListN.{length}
use borrow.Author.Tests.{ltb-true}
use Rattle.definition.specs.Base.{branch}
use Rattle.definition.specs.Bags.{max_objects, places_left}
use Rattle.definition.specs.Tables.{Tables}
use Rattle.definition.specs.Flow.{on, done, also, finalize, collected, collect_steps, pops, advanced, walk, placed, defer, pushed, holding}
use Rattle.definition.specs.Rule.{follows}
use Rattle.definition.specs.List.{insert, delete, iterate}
use Rattle.definition.specs.Queue.{seal_bag, push, pop}
use Rattle.definition.specs.Internal.{pin_epoch, pin_word, pin_counted, unpin_word, repin, advance_epoch, advance_word, advance_store, final_word, rule}
use Rattle.definition.specs.Codec.{record_of}
use Rattle.definition.specs.Step.{Out, answer_of, follow, rule_at, take_step, take_marked}
use Rattle.definition.specs.Calls.{begins, opens}
use Rattle.definition.specs.Ranges.{within_limits}
use Rattle.definition.specs.Layout.{Lent, sized, tables_of}
use Rattle.definition.specs.Public.{Check, Outcome, unless, the, call_checks, call, step_checks, step, lending, call_lent, step_lent}
use Rattle.definition.specs.Values.{Operation, HasValue, of_call, of_then, of_place, Values}
use Rattle.definition.specs.Types.{Epoch, Node, Ptr, Pred, Cursor, Owner, Try, Pops, Deferring, Then, RegisterAt, RepinAt, WalkAt, PopAt, PushAt}
use Rattle.definition.specs.Types.{Place, Participant, Seen, Work, End, After, Call, Answer, slot}
use Rattle.definition.proofs.Base.{branch_ind, put_same}
use Rattle.definition.proofs.Refusals.{unless_ind, given_is}

module _ (op : Operation) (p : ℕ) where
  -- the value with which it ends, if it does, with k items held
  unfoldable EndsRight : End → ℕ → Type 0
  EndsRight End.GoesOn k = Unit {0}
  EndsRight (End.EndsWith v) k = HasValue op p k v

  unfoldable Right : After → Type 0
  Right a = EndsRight a.end a.participant.held

  on_right : (pl : Place) (o : Participant) → Right (on pl o)
  unfolding Right EndsRight on
  on_right pl o = tt

  done_right : (v : ℕ) (o : Participant) → HasValue op p o.held v → Right (done v o)
  unfolding Right EndsRight done
  done_right v o h = h

  also_right : (w : Work) (a : After) → Right a → Right (also w a)
  unfolding Right also
  also_right w a h = h

  pick_right : (b : Bool) (x y : After) → Right x → Right y → Right (branch b x y)
  pick_right b x y h k = branch_ind Right b (λ _. h) (λ _. k)

-- what goes on with another operation than a register or a defer
module _ (p : ℕ) where
  over_right : (o : Participant) → Right Operation.another p (done 0 o)
  unfolding HasValue
  over_right o = done_right Operation.another p 0 o refl

  collected_right : (k : Owner) (o : Participant) → Right Operation.another p (collected k o)
  unfolding collected
  collected_right Owner.Pin o = over_right o
  collected_right Owner.Flush o = over_right o
  collected_right Owner.Finalize o = on_right Operation.another p _ o

  finalize_right : (o : Participant) → Right Operation.another p (finalize o)
  unfolding finalize
  finalize_right o = on_right Operation.another p _ _

  pops_right : (k : Owner) (e : Epoch) (left : ℕ) (o : Participant) → Right Operation.another p (pops k e left o)
  unfolding pops
  pops_right k e left o = pick_right Operation.another p _ _ _ (collected_right k o) (on_right Operation.another p _ o)

  advanced_right : (k : Owner) (e : Epoch) (o : Participant) → Right Operation.another p (advanced k e o)
  unfolding advanced
  advanced_right k e o = pops_right k e collect_steps o

  walk_right : (t : Try) (pred : Pred) (q : Ptr) (o : Participant) → Right Operation.another p (walk t pred q o)
  unfolding walk
  walk_right t pred Ptr.Null o = on_right Operation.another p _ o
  walk_right t pred (Ptr.At s) o = on_right Operation.another p _ o

  -- an item has found room: the value of a defer is what that leaves of the 64 places
  placed_right : (d : Deferring) (o : Participant) → o.held ≤ max_objects → Right (of_then (Then.Defer d)) p (placed d o)
  unfolding placed of_then HasValue places_left
  placed_right (Deferring.Token token) o h = also_right Operation.defer p _ _ (done_right Operation.defer p _ o (omega arith))
  placed_right (Deferring.Slot t c succ) o h = also_right Operation.another p _ _ (walk_right t c.pred succ o)
  placed_right (Deferring.Node q head next) o h = also_right Operation.another p _ _ (pops_right q.owner q.epoch (q.left - 1) o)

  defer_right : (d : Deferring) (o : Participant) → Right (of_then (Then.Defer d)) p (defer d o)
  unfolding defer
  defer_right d o = branch_ind (Right (of_then (Then.Defer d)) p) (ltb o.held max_objects)
      (λ e. placed_right d (holding (o.held + 1) o) (omega (arith, ltb-true o.held max_objects e)))
      (λ _. on_right (of_then (Then.Defer d)) p _ o)

  -- of a token; and of a slot or an old head, which a collect puts, and tells nobody
  token_right : (token : ℕ) (o : Participant) → Right Operation.defer p (defer (Deferring.Token token) o)
  unfolding of_then
  token_right token o = defer_right (Deferring.Token token) o

  slot_right : (t : Try) (c : Cursor) (succ : Ptr) (o : Participant) → Right Operation.another p (defer (Deferring.Slot t c succ) o)
  unfolding of_then
  slot_right t c succ o = defer_right (Deferring.Slot t c succ) o

  head_right : (q : Pops) (head next : Node) (o : Participant) → Right Operation.another p (defer (Deferring.Node q head next) o)
  unfolding of_then
  head_right q head next o = defer_right (Deferring.Node q head next) o

  pushed_right : (f : Then) (o : Participant) → Right (of_then f) p (pushed f o)
  unfolding pushed of_then
  pushed_right (Then.Defer d) o = defer_right d o
  pushed_right Then.Flush o = on_right Operation.another p _ o
  pushed_right Then.Finalize o = on_right Operation.another p _ _

  ruleset rights = (
    on_right,
    also_right,
    pick_right,
    over_right,
    collected_right,
    finalize_right,
    pops_right,
    advanced_right,
    walk_right,
    token_right,
    slot_right,
    head_right,
    pushed_right,
  )

  -- what a call begins
  begins_right : (c : Call) (o : Participant) → Right (of_call c) p (begins c o)
  unfolding begins of_call
  begins_right Call.Acquire o = search rights
  begins_right Call.Release o = search rights
  begins_right Call.Pin o = search rights
  begins_right Call.Unpin o = search rights
  begins_right Call.Repin o = search rights
  begins_right (Call.Defer token) o = search rights
  begins_right Call.Flush o = search rights

  -- what follows the access of a place
  follows_right : (spare : Node) (sealed : Node → ℕ) (o : Participant) (pl : Place) (seen : Seen) → Right (of_place pl) p (follows (rule (slot p) spare sealed o pl) seen)
  unfolding follows rule insert delete iterate push pop pin_epoch pin_word pin_counted unpin_word repin advance_epoch advance_word advance_store final_word seal_bag
      of_place of_then HasValue
  follows_right spare sealed o Place.Rest seen = search rights
  follows_right spare sealed o (Place.Register RegisterAt.Head) seen = search rights
  follows_right spare sealed o (Place.Register (RegisterAt.Next next)) seen = search rights
  follows_right spare sealed o (Place.Register (RegisterAt.Link next)) seen =
      pick_right Operation.register p _ _ _ (done_right Operation.register p p o refl) (on_right Operation.register p _ o)
  follows_right spare sealed o (Place.PinEpoch k) seen = search rights
  follows_right spare sealed o (Place.PinWord k e) seen = search rights
  follows_right spare sealed o (Place.Repin RepinAt.Word) seen = search rights
  follows_right spare sealed o (Place.Repin (RepinAt.Epoch e)) seen = search rights
  follows_right spare sealed o (Place.Repin (RepinAt.Store e)) seen = search rights
  follows_right spare sealed o Place.UnpinWord seen = search rights
  follows_right spare sealed o (Place.AdvanceEpoch k) seen = search rights
  follows_right spare sealed o (Place.Walk t WalkAt.Head) seen = search rights
  follows_right spare sealed o (Place.Walk t (WalkAt.Next c)) seen = search rights
  follows_right spare sealed o (Place.Walk t (WalkAt.Unlink c succ)) seen = search rights
  follows_right spare sealed o (Place.Walk t WalkAt.Stalled) seen = search rights
  follows_right spare sealed o (Place.AdvanceWord t curr succ) seen = search rights
  follows_right spare sealed o (Place.AdvanceStore t) seen = search rights
  follows_right spare sealed o (Place.Pop q PopAt.Head) seen = search rights
  follows_right spare sealed o (Place.Pop q (PopAt.Next head)) seen = search rights
  follows_right spare sealed o (Place.Pop q (PopAt.Exchange head next)) seen = search rights
  follows_right spare sealed o (Place.Pop q (PopAt.Tail head next)) seen = search rights
  follows_right spare sealed o (Place.Pop q (PopAt.TailMove head next)) seen = search rights
  follows_right spare sealed o (Place.Push f PushAt.Epoch) seen = search rights
  follows_right spare sealed o (Place.Push f (PushAt.Tail new)) seen = search rights
  follows_right spare sealed o (Place.Push f (PushAt.Next new onto)) seen = search rights
  follows_right spare sealed o (Place.Push f (PushAt.Help new onto next)) seen = search rights
  follows_right spare sealed o (Place.Push f (PushAt.Link new onto)) seen = search rights
  follows_right spare sealed o (Place.Push f (PushAt.Move new onto)) seen = search rights
  follows_right spare sealed o Place.FinalWord seen = search rights
  follows_right spare sealed o Place.FinalTag seen = search rights

  -- ---- on tables

  -- an outcome that is done has the value of its operation
  unfoldable Told : Operation → Out → Type 0
  Told op out = (v n : ℕ) → out.answer ≡ Answer.Done v n → HasValue op p (out.tables.own p).held v

  told_end : (op : Operation) (e : End) (k n v m : ℕ) → EndsRight op p e k → answer_of e n ≡ Answer.Done v m → HasValue op p k v
  unfolding EndsRight answer_of
  told_end op End.GoesOn k n v m h e = let z : ◌≡◌ {A = ℕ} 0 1 = cc in absurd (omega arith)
  told_end op (End.EndsWith w) k n v m h e = let same : w ≡ v = cc in rw same at h

  follow-told : (op : Operation) (a : After) (t : Tables) → Right op p a → Told op (follow p a t)
  unfolding Told Right follow record_of
  follow-told op a t h v n e = rw put_same (told_end op a.end a.participant.held _ v n h e)

  unless-told : (op : Operation) (l : List Check) (t : Tables) (out : Out) → Told op out → Told op (unless l t out)
  unless-told op l t out h = unless_ind (Told op) l t out (λ _. h) (λ _. unfold Told in (λ v n e. let z : ◌≡◌ {A = ℕ} 0 1 = cc in absurd (omega arith)))

  call-told : (N M : ℕ) (c : Call) (t : Tables) → Told (of_call c) (call N M p c t)
  unfolding call opens
  call-told N M c t = unless-told (of_call c) (call_checks N M p c t) t _ (follow-told (of_call c) _ t (begins_right c _))

  -- marked or not, what follows is what follows some value seen
  taken-told : (marked : Bool) (M : ℕ) (t : Tables) → Told (of_place (the p t).place) (take_marked marked M p t)
  unfolding take_marked take_step rule_at
  taken-told marked M t = branch_ind (Told (of_place (the p t).place)) _
      (λ _. follow-told _ _ t (follows_right _ _ (the p t) (the p t).place _))
      (λ _. follow-told _ _ _ (follows_right _ _ (the p t) (the p t).place _))

  step-told : (N M : ℕ) (marked : Bool) (places : ℕ) (t : Tables) → Told (of_place (the p t).place) (step N M marked places p t)
  unfolding step
  step-told N M marked places t = unless-told _ (step_checks N M places p t) t _ (taken-told marked M t)

-- ---- on lists

module _ (N M : ℕ) (l : Lent) (places : List ℕ) where
  -- where the lists' answer is done, so is that of the tables
  lending-done : (f : Tables → Out) (v n : ℕ) → (lending N M l places f).answer ≡ Answer.Done v n → (f (tables_of N M l)).answer ≡ Answer.Done v n
  unfolding lending
  lending-done f v n h =
      branch_ind (λ (o : Outcome). o.answer ≡ Answer.Done v n → (f (tables_of N M l)).answer ≡ Answer.Done v n) (within_limits N M && sized N M l)
      (λ _ e. sym (given_is N M l places _) ∙ e)
      (λ _ e. let z : ◌≡◌ {A = ℕ} 0 1 = cc in absurd (omega arith)) h

pub values : (N M : ℕ) (l : Lent) (p : ℕ) → Values N M l p
unfolding call_lent step_lent Told
values N M l p = record {
  called = λ c v n e. call-told p N M c (tables_of N M l) v n (lending-done N M l [] (call N M p c) v n e);
  stepped = λ marked places v n e.
      step-told p N M marked (length places) (tables_of N M l) v n (lending-done N M l places (step N M marked (length places) p) v n e);
}
