-- A step on tables in range leaves its participant in range: its new place carries slots and nodes within the tables, and its share does not
-- rise. One law for each of the functions of specs/Flow, then one line a place. Assumes nothing.
use mathlib.Core.Path.{◌≡◌}
use mathlib.Core.Bool.{Bool, false}
use Prim.Native.Nat.{ℕ, ◌-◌, ◌/◌, ◌≤◌, ◌<◌}
use native.Mathlib.Omega.{arith}
use native.Mathlib.Nat.{le_refl}
use lib.Dec.{eqb}
use borrow.Author.Tests.{eqb-false}
use Rattle.definition.specs.Base.{branch}
use Rattle.definition.specs.Links.{is_null, index, pointee, node_at}
use Rattle.definition.specs.Flow.{collect_steps, on, done, also, finalize, collected, pops, advanced, walk, placed, defer, pushed}
use Rattle.definition.specs.Rule.{asks, follows}
use Rattle.definition.specs.List.{insert, delete, iterate, pred_word}
use Rattle.definition.specs.Queue.{seal_bag, push, pop}
use Rattle.definition.specs.Internal.{pin_epoch, pin_word, pin_counted, unpin_word, repin, advance_epoch, advance_word, advance_store, final_word, rule}
use Rattle.definition.specs.Types.{Epoch, Slot, Node, Ptr, Pred, Owner, Try, Deferring, Then, RegisterAt, RepinAt, WalkAt, PopAt, PushAt}
use Rattle.definition.specs.Types.{Place, Participant, Word, Ask, Seen, Work, After, slot}
use Rattle.definition.proofs.Base.{branch_ind}
use Rattle.definition.proofs.Within.{PtrIn, PredIn, ThenIn, RegisterIn, WalkIn, PopIn, PushIn, PlaceIn}

-- the word that an access names
unfoldable pub ask_word : Ask → Word
ask_word (Ask.Load w) = w
ask_word (Ask.Store w v) = w
ask_word (Ask.Exchange w e v) = w
ask_word (Ask.ExchangeWeak w e v) = w
ask_word (Ask.FetchOr w) = w

module _ (N M : ℕ) where
  -- a value that may stand in a shared word: a pointer to a slot or null, to a node or null, to a node; or any word
  unfoldable pub ValueIn : Word → ℕ → Type 0
  ValueIn Word.GlobalEpoch v = Unit {0}
  ValueIn Word.ListHead v = v / 2 ≤ N
  ValueIn (Word.EntryNext s) v = v / 2 ≤ N
  ValueIn (Word.ParticipantWord s) v = Unit {0}
  ValueIn Word.QueueHead v = (1 ≤ v / 2) × (v / 2 ≤ M)
  ValueIn Word.QueueTail v = (1 ≤ v / 2) × (v / 2 ≤ M)
  ValueIn (Word.NodeNext n) v = v / 2 ≤ M

  -- what such values point to
  pub pointee_in : (v : ℕ) → v / 2 ≤ N → PtrIn N M (pointee v)
  unfolding pointee is_null index PtrIn
  pointee_in v h = branch_ind (PtrIn N M) (eqb (v / 2) 0) (λ _. tt) (λ e. omega (arith, eqb-false (v / 2) 0 e))

  pub node_at_in : (v : ℕ) → 1 ≤ v / 2 → v / 2 ≤ M → (node_at v).0 < M
  unfolding node_at index
  node_at_in v h k = omega arith

  pub not_null : (v : ℕ) → is_null v ≡ false → 1 ≤ v / 2
  unfolding is_null
  not_null v e = omega (arith, eqb-false (v / 2) 0 e)

  pub value-pred : (q : Pred) (v : ℕ) → ValueIn (pred_word q) v → v / 2 ≤ N
  unfolding ValueIn pred_word
  value-pred Pred.Head v h = h
  value-pred (Pred.Entry s) v h = h

  -- the new place
  unfoldable pub PlacedIn : After → Type 0
  PlacedIn a = PlaceIn N M a.participant.place

  pub on_kept : (pl : Place) (o : Participant) → PlaceIn N M pl → PlacedIn (on pl o)
  unfolding PlacedIn on
  on_kept pl o h = h

  pub done-kept : (v : ℕ) (o : Participant) → PlacedIn (done v o)
  unfolding PlacedIn done PlaceIn
  done-kept v o = tt

  also-kept : (w : Work) (a : After) → PlacedIn a → PlacedIn (also w a)
  unfolding PlacedIn also
  also-kept w a h = h

  pub pick-kept : (b : Bool) (x y : After) → PlacedIn x → PlacedIn y → PlacedIn (branch b x y)
  pick-kept b x y h k = branch_ind PlacedIn b (λ _. h) (λ _. k)

  collected-kept : (k : Owner) (o : Participant) → PlacedIn (collected k o)
  unfolding collected PlaceIn ThenIn PushIn
  collected-kept Owner.Pin o = done-kept 0 o
  collected-kept Owner.Flush o = done-kept 0 o
  collected-kept Owner.Finalize o = on_kept (Place.Push Then.Finalize PushAt.Epoch) o (tt, tt)

  pub finalize-kept : (o : Participant) → PlacedIn (finalize o)
  unfolding finalize PlaceIn
  finalize-kept o = on_kept (Place.PinEpoch Owner.Finalize) _ tt

  pops-kept : (k : Owner) (e : Epoch) (left : ℕ) (o : Participant) → left ≤ collect_steps → PlacedIn (pops k e left o)
  unfolding pops PlaceIn PopIn
  pops-kept k e left o h = branch_ind PlacedIn (eqb left 0) (λ _. collected-kept k o)
      (λ z. on_kept (Place.Pop (record { owner = k; epoch = e; left = left }) PopAt.Head) o ((omega (arith, eqb-false left 0 z), h), tt))

  advanced-kept : (k : Owner) (e : Epoch) (o : Participant) → PlacedIn (advanced k e o)
  unfolding advanced
  advanced-kept k e o = pops-kept k e collect_steps o (le_refl collect_steps)

  walk-kept : (t : Try) (pred : Pred) (q : Ptr) (o : Participant) → PredIn N M pred → PtrIn N M q → PlacedIn (walk t pred q o)
  unfolding walk PlaceIn WalkIn PtrIn
  walk-kept t pred Ptr.Null o h k = on_kept (Place.AdvanceStore t) o tt
  walk-kept t pred (Ptr.At s) o h k = on_kept (Place.Walk t (WalkAt.Next (record { pred = pred; curr = s }))) o (h, k)

  placed-kept : (d : Deferring) (o : Participant) → ThenIn N M (Then.Defer d) → PlacedIn (placed d o)
  unfolding placed ThenIn
  placed-kept (Deferring.Token token) o h = also-kept _ _ (done-kept _ o)
  placed-kept (Deferring.Slot t c succ) o h = also-kept _ _ (walk-kept t c.pred succ o h.0.0 h.1)
  placed-kept (Deferring.Node p head next) o h = also-kept _ _ (pops-kept p.owner p.epoch (p.left - 1) o (let k = h.0.1 in omega arith))

  pub defer-kept : (d : Deferring) (o : Participant) → ThenIn N M (Then.Defer d) → PlacedIn (defer d o)
  unfolding defer PlaceIn PushIn
  defer-kept d o h = pick-kept _ _ _ (placed-kept d _ h) (on_kept (Place.Push (Then.Defer d) PushAt.Epoch) o (h, tt))

  pushed-kept : (f : Then) (o : Participant) → ThenIn N M f → PlacedIn (pushed f o)
  unfolding pushed PlaceIn
  pushed-kept (Then.Defer d) o h = defer-kept d o h
  pushed-kept Then.Flush o h = on_kept (Place.AdvanceEpoch Owner.Flush) o tt
  pushed-kept Then.Finalize o h = on_kept Place.FinalWord _ tt

  ruleset kept = (
    on_kept,
    done-kept,
    also-kept,
    pick-kept,
    collected-kept,
    finalize-kept,
    pops-kept,
    advanced-kept,
    walk-kept,
    defer-kept,
    pushed-kept,
    pointee_in,
    node_at_in,
  )

  -- the place after the access of a place in range
  pub place-kept : (p : ℕ) (spare : Node) (sealed : Node → ℕ) (o : Participant) (pl : Place) (seen : Seen) → p < N → spare.0 < M → PlaceIn N M pl
      → ValueIn (ask_word (asks (rule (slot p) spare sealed o pl))) seen.value
      → PlacedIn (follows (rule (slot p) spare sealed o pl) seen)
  unfolding follows asks ask_word ValueIn rule insert delete iterate push pop pin_epoch pin_word pin_counted unpin_word repin advance_epoch advance_word
      advance_store final_word seal_bag PlaceIn RegisterIn WalkIn PopIn PushIn ThenIn PredIn pred_word
  place-kept p spare sealed o Place.Rest seen hp hs h v = search kept
  place-kept p spare sealed o (Place.Register RegisterAt.Head) seen hp hs h v = search kept
  place-kept p spare sealed o (Place.Register (RegisterAt.Next next)) seen hp hs h v = search kept
  place-kept p spare sealed o (Place.Register (RegisterAt.Link next)) seen hp hs h v = search kept
  place-kept p spare sealed o (Place.PinEpoch k) seen hp hs h v = search kept
  place-kept p spare sealed o (Place.PinWord k e) seen hp hs h v = search kept
  place-kept p spare sealed o (Place.Repin RepinAt.Word) seen hp hs h v = search kept
  place-kept p spare sealed o (Place.Repin (RepinAt.Epoch e)) seen hp hs h v = search kept
  place-kept p spare sealed o (Place.Repin (RepinAt.Store e)) seen hp hs h v = search kept
  place-kept p spare sealed o Place.UnpinWord seen hp hs h v = search kept
  place-kept p spare sealed o (Place.AdvanceEpoch k) seen hp hs h v = search kept
  place-kept p spare sealed o (Place.Walk t WalkAt.Head) seen hp hs h v = search kept
  place-kept p spare sealed o (Place.Walk t (WalkAt.Next c)) seen hp hs h v = search kept
  place-kept p spare sealed o (Place.Walk t (WalkAt.Unlink c succ)) seen hp hs h v =
      let w = value-pred c.pred seen.value v in
      pick-kept _ _ _ (defer-kept (Deferring.Slot t c succ) o h)
      (pick-kept _ _ _ (on_kept (Place.Walk t WalkAt.Stalled) o tt) (walk-kept t c.pred (pointee seen.value) o h.0.0 (pointee_in seen.value w)))
  place-kept p spare sealed o (Place.Walk t WalkAt.Stalled) seen hp hs h v = search kept
  place-kept p spare sealed o (Place.AdvanceWord t curr succ) seen hp hs h v = search kept
  place-kept p spare sealed o (Place.AdvanceStore t) seen hp hs h v = search kept
  place-kept p spare sealed o (Place.Pop q PopAt.Head) seen hp hs h v = search kept
  place-kept p spare sealed o (Place.Pop q (PopAt.Next head)) seen hp hs h v =
      branch_ind PlacedIn (is_null seen.value) (λ _. collected-kept q.owner o)
      (λ e. pick-kept _ _ _ (on_kept (Place.Pop q (PopAt.Exchange head (node_at seen.value))) o (h.0, (h.1, node_at_in seen.value (not_null seen.value e) v)))
      (collected-kept q.owner o))
  place-kept p spare sealed o (Place.Pop q (PopAt.Exchange head next)) seen hp hs h v = search kept
  place-kept p spare sealed o (Place.Pop q (PopAt.Tail head next)) seen hp hs h v = search kept
  place-kept p spare sealed o (Place.Pop q (PopAt.TailMove head next)) seen hp hs h v = search kept
  place-kept p spare sealed o (Place.Push f PushAt.Epoch) seen hp hs h v = search kept
  place-kept p spare sealed o (Place.Push f (PushAt.Tail new)) seen hp hs h v = search kept
  place-kept p spare sealed o (Place.Push f (PushAt.Next new onto)) seen hp hs h v =
      branch_ind PlacedIn (is_null seen.value) (λ _. on_kept (Place.Push f (PushAt.Link new onto)) o h)
      (λ e. on_kept (Place.Push f (PushAt.Help new onto (node_at seen.value))) o (h.0, (h.1, node_at_in seen.value (not_null seen.value e) v)))
  place-kept p spare sealed o (Place.Push f (PushAt.Help new onto next)) seen hp hs h v = search kept
  place-kept p spare sealed o (Place.Push f (PushAt.Link new onto)) seen hp hs h v = search kept
  place-kept p spare sealed o (Place.Push f (PushAt.Move new onto)) seen hp hs h v = search kept
  place-kept p spare sealed o Place.FinalWord seen hp hs h v = search kept
  place-kept p spare sealed o Place.FinalTag seen hp hs h v = search kept

-- the share afterwards is at most s
unfoldable pub ShareLe : ℕ → After → Type 0
ShareLe s a = a.participant.share ≤ s

module _ (s : ℕ) where
  pub on_share : (pl : Place) (o : Participant) → o.share ≤ s → ShareLe s (on pl o)
  unfolding ShareLe on
  on_share pl o h = h

  pub done_share : (v : ℕ) (o : Participant) → ShareLe s (done v o)
  unfolding ShareLe done
  done_share v o = omega arith

  also_share : (w : Work) (a : After) → ShareLe s a → ShareLe s (also w a)
  unfolding ShareLe also
  also_share w a h = h

  pub pick_share : (b : Bool) (x y : After) → ShareLe s x → ShareLe s y → ShareLe s (branch b x y)
  pick_share b x y h k = branch_ind (ShareLe s) b (λ _. h) (λ _. k)

  collected_share : (k : Owner) (o : Participant) → o.share ≤ s → ShareLe s (collected k o)
  unfolding collected
  collected_share Owner.Pin o h = done_share 0 o
  collected_share Owner.Flush o h = done_share 0 o
  collected_share Owner.Finalize o h = on_share _ o h

  pub finalize_share : (o : Participant) → o.share ≤ s → ShareLe s (finalize o)
  unfolding finalize
  finalize_share o h = on_share _ _ h

  pops_share : (k : Owner) (e : Epoch) (left : ℕ) (o : Participant) → o.share ≤ s → ShareLe s (pops k e left o)
  unfolding pops
  pops_share k e left o h = pick_share _ _ _ (collected_share k o h) (on_share _ o h)

  advanced_share : (k : Owner) (e : Epoch) (o : Participant) → o.share ≤ s → ShareLe s (advanced k e o)
  unfolding advanced
  advanced_share k e o h = pops_share k e collect_steps o h

  walk_share : (t : Try) (pred : Pred) (q : Ptr) (o : Participant) → o.share ≤ s → ShareLe s (walk t pred q o)
  unfolding walk
  walk_share t pred Ptr.Null o h = on_share _ o h
  walk_share t pred (Ptr.At i) o h = on_share _ o h

  placed_share : (d : Deferring) (o : Participant) → o.share ≤ s → ShareLe s (placed d o)
  unfolding placed
  placed_share (Deferring.Token token) o h = also_share _ _ (done_share _ o)
  placed_share (Deferring.Slot t c succ) o h = also_share _ _ (walk_share t c.pred succ o h)
  placed_share (Deferring.Node p head next) o h = also_share _ _ (pops_share p.owner p.epoch (p.left - 1) o h)

  pub defer_share : (d : Deferring) (o : Participant) → o.share ≤ s → ShareLe s (defer d o)
  unfolding defer
  defer_share d o h = pick_share _ _ _ (placed_share d _ h) (on_share _ o h)

  pushed_share : (f : Then) (o : Participant) → o.share ≤ s → ShareLe s (pushed f o)
  unfolding pushed
  pushed_share (Then.Defer d) o h = defer_share d o h
  pushed_share Then.Flush o h = on_share _ o h
  pushed_share Then.Finalize o h = on_share _ _ h

  seal_share : (spare : Node) (f : Then) (w : ℕ) (o : Participant) → o.share ≤ s → ShareLe s (seal_bag spare f w o)
  unfolding seal_bag
  seal_share spare f w o h = also_share _ _ (on_share _ _ (omega arith))

  ruleset shares = (
    on_share,
    done_share,
    also_share,
    pick_share,
    collected_share,
    finalize_share,
    pops_share,
    advanced_share,
    walk_share,
    defer_share,
    pushed_share,
    seal_share,
  )

  -- the share after the access of a place
  pub share_falls : (self : Slot) (spare : Node) (sealed : Node → ℕ) (o : Participant) (pl : Place) (seen : Seen) → o.share ≤ s
      → ShareLe s (follows (rule self spare sealed o pl) seen)
  unfolding follows rule insert delete iterate push pop pin_epoch pin_word pin_counted unpin_word repin advance_epoch advance_word advance_store final_word
  share_falls self spare sealed o Place.Rest seen h = search shares
  share_falls self spare sealed o (Place.Register RegisterAt.Head) seen h = search shares
  share_falls self spare sealed o (Place.Register (RegisterAt.Next next)) seen h = search shares
  share_falls self spare sealed o (Place.Register (RegisterAt.Link next)) seen h = search shares
  share_falls self spare sealed o (Place.PinEpoch k) seen h = search shares
  share_falls self spare sealed o (Place.PinWord k e) seen h = search shares
  share_falls self spare sealed o (Place.Repin RepinAt.Word) seen h = search shares
  share_falls self spare sealed o (Place.Repin (RepinAt.Epoch e)) seen h = search shares
  share_falls self spare sealed o (Place.Repin (RepinAt.Store e)) seen h = search shares
  share_falls self spare sealed o Place.UnpinWord seen h = search shares
  share_falls self spare sealed o (Place.AdvanceEpoch k) seen h = search shares
  share_falls self spare sealed o (Place.Walk t WalkAt.Head) seen h = search shares
  share_falls self spare sealed o (Place.Walk t (WalkAt.Next c)) seen h = search shares
  share_falls self spare sealed o (Place.Walk t (WalkAt.Unlink c succ)) seen h = search shares
  share_falls self spare sealed o (Place.Walk t WalkAt.Stalled) seen h = search shares
  share_falls self spare sealed o (Place.AdvanceWord t curr succ) seen h = search shares
  share_falls self spare sealed o (Place.AdvanceStore t) seen h = search shares
  share_falls self spare sealed o (Place.Pop q PopAt.Head) seen h = search shares
  share_falls self spare sealed o (Place.Pop q (PopAt.Next head)) seen h = search shares
  share_falls self spare sealed o (Place.Pop q (PopAt.Exchange head next)) seen h = search shares
  share_falls self spare sealed o (Place.Pop q (PopAt.Tail head next)) seen h = search shares
  share_falls self spare sealed o (Place.Pop q (PopAt.TailMove head next)) seen h = search shares
  share_falls self spare sealed o (Place.Push f PushAt.Epoch) seen h = search shares
  share_falls self spare sealed o (Place.Push f (PushAt.Tail new)) seen h = search shares
  share_falls self spare sealed o (Place.Push f (PushAt.Next new onto)) seen h = search shares
  share_falls self spare sealed o (Place.Push f (PushAt.Help new onto next)) seen h = search shares
  share_falls self spare sealed o (Place.Push f (PushAt.Link new onto)) seen h = search shares
  share_falls self spare sealed o (Place.Push f (PushAt.Move new onto)) seen h = search shares
  share_falls self spare sealed o Place.FinalWord seen h = search shares
  share_falls self spare sealed o Place.FinalTag seen h = search shares
