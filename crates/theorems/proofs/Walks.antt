-- Clause E3 is kept: a pinned participant d whose pin is older than the epoch of a walk is still to be seen by that walk. A walk starts at the
-- head, from which every slot in the list is reached; it passes from a slot to its next only when the slot is not tagged, so in the list, and
-- then no slot in the list is passed over; it passes a pinned participant only if that is pinned in the walk's epoch, so no earlier. A walk that
-- has come to the end has seen all: then nobody is pinned before its epoch. What others do disturbs no walk: insertions number only slots that
-- nobody holds, and a word that is stored now is stored in an epoch no earlier than any walk's. Leans on the order of the list (`Listed`), on
-- `Linked` (a pinned participant is in the list, untagged), on held slots being safe. Assumes nothing.
use mathlib.Core.Path.{◌≡◌, refl, ap, sym, ◌∙◌}
use mathlib.Core.Logic.{◌≢◌}
use mathlib.Core.Bool.{Bool, true, false, ◌&&◌, not, true≢false}
use mathlib.Core.Option.{Option, none, some}
use Prim.Native.Nat.{ℕ, ◌+◌, ◌-◌, ◌≤◌, ◌<◌}
use native.Mathlib.Omega.{arith}
use lib.Dec.{eqb}
use borrow.Author.Tests.{eqb-true, not-false}
use Rattle.epoch.specs.Epoch.{starting, is_pinned, unpinned}
use Rattle.epoch.proofs.Laws.{is_pinned-starting, pinned-word, unpinned_even}
use Rattle.definition.specs.Base.{branch, Tab, least}
use Rattle.definition.specs.Links.{link, is_null, is_tagged, node_at, pointee}
use Rattle.definition.specs.Flow.{collect_steps, on, done, also, finalize, collected, pops, advanced, walk, placed, defer, pushed, sharing}
use Rattle.definition.specs.Tables.{Shared, read, write}
use Rattle.definition.specs.List.{insert, delete, iterate, pred_word}
use Rattle.definition.specs.Queue.{seal_bag, push, pop}
use Rattle.definition.specs.Internal.{pin_epoch, pin_word, pin_counted, unpin_word, repin, advance_epoch, advance_word, advance_store, final_word, rule}
use Rattle.definition.specs.Calls.{needs, begins, opens}
use Rattle.definition.specs.Public.{new_participant}
use Rattle.definition.proofs.Base.{branch_ind, put_ind, put_same, put_other}
use Rattle.theorems.proofs.Leads.{Leads, leads}
use Rattle.theorems.proofs.Machine.{Machine}
use Rattle.theorems.proofs.Ghost.{Use, Ghost, Turn, turn_of, num, G, birth_turned, gpin_after, moved}
use Rattle.theorems.proofs.Invariant.{Of, walk_epoch, Registers, Pinned, OlderThan, Reached, Unseen, SafeUse, SafeSlot, SafePtr, SafePred, HoldsThen, HoldsWalk, HoldsAt}
use Rattle.theorems.proofs.Change.{Change}
use Rattle.theorems.proofs.Inv.{Inv, rule_of, won_of, left_of, after_of, goes_ghost, stepped, stepped_ghost, Steps, called, called_ghost, Calls, registered, registered_ghost}
use Rattle.theorems.proofs.Inv as I
use Rattle.theorems.proofs.Order.{born_linked, registering_not_linked, to_slot}
use Rattle.theorems.proofs.Linked.{in_range_lem, pinned-linked, registers_use, safe_linked, followed-word, followed_own, stepped-word, stepped_own, step-change}
use Rattle.theorems.proofs.List.{pointee-link, link_untagged}
use Rattle.theorems.proofs.Types.{Epoch, Node, Ptr, Pred, Owner, Try, Deferring, Then, RegisterAt, RepinAt, WalkAt, PopAt, PushAt, Place, Participant, Work, After, Call}

-- ---- a participant d, pinned at b, and the place of a walk

-- if the walk is of a later epoch than b, it has not seen d yet
unfoldable Ahead : Tab ℕ → (d b : ℕ) → Place → Type 0
Ahead birth d b pl = Of (λ e. b < num e → Unseen birth pl d) (walk_epoch pl)

unfoldable Yet : Tab ℕ → (d b : ℕ) → After → Type 0
Yet birth d b a = Ahead birth d b a.participant.place

-- what a place carries, taken out and put in
of_out : {A : Type 0} (P : A → Type 0) (o : Option A) (x : A) → Of P o → o ≡ some x → P x
unfolding Of
of_out P o x h e = rw e at h

of_in : {A : Type 0} (P : A → Type 0) (o : Option A) → ((x : A) → o ≡ some x → P x) → Of P o
unfolding Of
of_in P none h = tt
of_in P (some x) h = h x refl

-- ---- what follows an access

module _ (birth : Tab ℕ) (d b : ℕ) where
  -- by the functions of specs/Flow: only `walk` and a push that waits with a slot are places of a walk
  on_yet : (pl : Place) (o : Participant) → Ahead birth d b pl → Yet birth d b (on pl o)
  unfolding Yet on
  on_yet pl o h = h

  done_yet : (v : ℕ) (o : Participant) → Yet birth d b (done v o)
  unfolding Yet Ahead done walk_epoch Of
  done_yet v o = tt

  also_yet : (w : Work) (a : After) → Yet birth d b a → Yet birth d b (also w a)
  unfolding Yet also
  also_yet w a h = h

  pick_yet : (c : Bool) (x y : After) → Yet birth d b x → Yet birth d b y → Yet birth d b (branch c x y)
  pick_yet c x y h k = branch_ind (Yet birth d b) c (λ _. h) (λ _. k)

  collected_yet : (k : Owner) (o : Participant) → Yet birth d b (collected k o)
  unfolding collected Ahead walk_epoch Of
  collected_yet Owner.Pin o = done_yet 0 o
  collected_yet Owner.Flush o = done_yet 0 o
  collected_yet Owner.Finalize o = on_yet (Place.Push Then.Finalize PushAt.Epoch) o tt

  finalize_yet : (o : Participant) → Yet birth d b (finalize o)
  unfolding finalize Ahead walk_epoch Of
  finalize_yet o = on_yet (Place.PinEpoch Owner.Finalize) _ tt

  pops_yet : (k : Owner) (e : Epoch) (left : ℕ) (o : Participant) → Yet birth d b (pops k e left o)
  unfolding pops Ahead walk_epoch Of
  pops_yet k e left o = pick_yet _ _ _ (collected_yet k o) (on_yet (Place.Pop _ PopAt.Head) o tt)

  advanced_yet : (k : Owner) (e : Epoch) (o : Participant) → Yet birth d b (advanced k e o)
  unfolding advanced
  advanced_yet k e o = pops_yet k e collect_steps o

  -- a walk that goes on to what it points to: d is there or behind it, and behind the predecessor
  walk_yet : (t : Try) (pred : Pred) (q : Ptr) (o : Participant) → (b < num t.epoch.0 → Reached birth q d × OlderThan birth pred d) → Yet birth d b (walk t pred q o)
  unfolding walk Ahead walk_epoch Of Unseen Reached
  walk_yet t pred Ptr.Null o h = on_yet (Place.AdvanceStore t) o (λ lt. (h lt).0)
  walk_yet t pred (Ptr.At s) o h = on_yet (Place.Walk t (WalkAt.Next (record { pred = pred; curr = s }))) o h

  -- an unlinked slot is put into the bag, and the walk goes on behind it
  placed_yet : (x : Deferring) (o : Participant) → Ahead birth d b (Place.Push (Then.Defer x) PushAt.Epoch) → Yet birth d b (placed x o)
  unfolding placed Ahead walk_epoch Of Unseen
  placed_yet (Deferring.Token token) o h = also_yet _ _ (done_yet _ o)
  placed_yet (Deferring.Slot t c succ) o h = also_yet _ _ (walk_yet t c.pred succ o h)
  placed_yet (Deferring.Node p head next) o h = also_yet _ _ (pops_yet p.owner p.epoch (p.left - 1) o)

  defer_yet : (x : Deferring) (o : Participant) → Ahead birth d b (Place.Push (Then.Defer x) PushAt.Epoch) → Yet birth d b (defer x o)
  unfolding defer
  defer_yet x o h = pick_yet _ _ _ (placed_yet x _ h) (on_yet (Place.Push (Then.Defer x) PushAt.Epoch) o h)

  -- where a push stands does not matter
  push-ahead : (f : Then) (x y : PushAt) → Ahead birth d b (Place.Push f x) → Ahead birth d b (Place.Push f y)
  unfolding Ahead walk_epoch Of Unseen
  push-ahead (Then.Defer (Deferring.Token token)) x y h = tt
  push-ahead (Then.Defer (Deferring.Slot t c succ)) x y h = h
  push-ahead (Then.Defer (Deferring.Node p head next)) x y h = tt
  push-ahead Then.Flush x y h = tt
  push-ahead Then.Finalize x y h = tt

  push_yet : (f : Then) (x y : PushAt) (o : Participant) → Ahead birth d b (Place.Push f x) → Yet birth d b (on (Place.Push f y) o)
  push_yet f x y o h = on_yet (Place.Push f y) o (push-ahead f x y h)

  pushed_yet : (f : Then) (x : PushAt) (o : Participant) → Ahead birth d b (Place.Push f x) → Yet birth d b (pushed f o)
  unfolding pushed
  pushed_yet (Then.Defer z) x o h = defer_yet z o (push-ahead (Then.Defer z) x PushAt.Epoch h)
  pushed_yet Then.Flush x o h = on_yet (Place.AdvanceEpoch Owner.Flush) o (unfold Ahead walk_epoch Of in tt)
  pushed_yet Then.Finalize x o h = on_yet Place.FinalWord _ (unfold Ahead walk_epoch Of in tt)

  -- a call begins no walk
  begins_yet : (c : Call) (o : Participant) → Yet birth d b (begins c o)
  unfolding begins Ahead walk_epoch Of
  begins_yet Call.Acquire o = done_yet 0 _
  begins_yet Call.Release o = pick_yet _ _ _ (finalize_yet o) (done_yet 0 _)
  begins_yet Call.Pin o = pick_yet _ _ _ (on_yet _ _ tt) (done_yet 0 _)
  begins_yet Call.Unpin o = pick_yet _ _ _ (on_yet _ _ tt) (done_yet 0 _)
  begins_yet Call.Repin o = pick_yet _ _ _ (on_yet _ _ tt) (done_yet 0 _)
  begins_yet (Call.Defer token) o = defer_yet (Deferring.Token token) o tt
  begins_yet Call.Flush o = pick_yet _ _ _ (on_yet _ _ tt) (on_yet _ _ tt)

-- ---- the walk of p goes on

-- a word that says pinned, in the epoch e
pinned_in : (w e : ℕ) → is_pinned w ≡ true → (is_pinned w && not (eqb (unpinned w) e)) ≡ false → num e ≡ num w
unfolding num
pinned_in w e pin h =
    let same : unpinned w ≡ e = eqb-true (unpinned w) e (not-false (eqb (unpinned w) e) (rw pin at h)) in
    let odd = pinned-word w pin in
    let even = unpinned_even w in
    omega arith

module _ (N M : ℕ) (m : Machine) (g : Ghost) (inv : Inv N M m g) (d : ℕ) (hd : d < N) where
  abbrev s : Shared
  s = m.shared

  abbrev birth : Tab ℕ
  birth = g.birth

  -- a pinned participant is in the list
  in_list_lem : Pinned m d → g.slot_use d ≡ Use.linked
  in_list_lem pin = (pinned-linked N m g inv.records d hd pin).0

  -- from the head every pinned participant is reached
  head_reached : Pinned m d → Reached birth (pointee s.list_head) d
  head_reached pin = inv.listed.head_reaches d hd (in_list_lem pin)

  -- two slots in the list with one number are one
  other_birth : (x : ℕ) → x < N → g.slot_use x ≡ Use.linked → Pinned m d → x ≢ d → birth d ≢ birth x
  other_birth x lt e pin ne i = ne (sym (inv.listed.differ d x hd lt (born_linked (g.slot_use d) (in_list_lem pin)) (born_linked (g.slot_use x) e) i))

  -- from a slot in the list every older one is reached
  next_reached : (x : ℕ) → x < N → g.slot_use x ≡ Use.linked → Pinned m d → x ≢ d → birth d ≤ birth x → Reached birth (pointee (s.entry_next x)) d × (birth d < birth x)
  next_reached x lt e pin ne le =
      let other = other_birth x lt e pin ne in
      (inv.listed.next_reaches x d lt hd e (in_list_lem pin) (omega arith), omega arith)

  -- a pinned participant that the walk passes is pinned in its epoch, so no earlier
  word_passed : (x e : ℕ) → (is_pinned (s.word x) && not (eqb (unpinned (s.word x)) e)) ≡ false → Pinned m d → g.gpin d < num e → x ≢ d
  word_passed x e h pin lt i =
      let own = inv.epochs.own_le d hd pin in
      let same = pinned_in (s.word d) e pin (rw i at h) in
      omega arith

  -- behind a predecessor that is not tagged, and not deleted, everything older is reached
  pred-reached : (b : ℕ) (pred : Pred) → SafePred N g b pred → is_tagged (read (pred_word pred) s) ≡ false → Pinned m d → OlderThan birth pred d
      → Reached birth (pointee (read (pred_word pred) s)) d
  unfolding read pred_word SafePred OlderThan
  pred-reached b Pred.Head safe h pin older = head_reached pin
  pred-reached b (Pred.Entry x) safe h pin older =
      inv.listed.next_reaches x.0 d (in_range_lem N g b x.0 safe) hd (safe_linked N m g inv.records b x.0 safe h) (in_list_lem pin) older

  -- the slot that is unlinked is in the list
  curr_linked : (b : ℕ) (pred : Pred) (curr : ℕ) → SafePred N g b pred → read (pred_word pred) s ≡ link curr → (curr < N) × (g.slot_use curr ≡ Use.linked)
  unfolding read pred_word SafePred
  curr_linked b Pred.Head curr safe h = to_slot N g.slot_use curr (pointee s.list_head) (ap pointee h ∙ pointee-link curr) inv.listed.head
  curr_linked b (Pred.Entry x) curr safe h = to_slot N g.slot_use curr (pointee (s.entry_next x.0)) (ap pointee h ∙ pointee-link curr)
      (inv.listed.next x.0 (in_range_lem N g b x.0 safe) (safe_linked N m g inv.records b x.0 safe (link_untagged (s.entry_next x.0) curr h)))

  -- the slot that is unlinked is tagged, so it is not d
  not_curr : (curr : ℕ) → is_tagged (s.entry_next curr) ≡ true → Pinned m d → curr ≢ d
  not_curr curr tag pin e = true≢false (sym (rw e at tag) ∙ (pinned-linked N m g inv.records d hd pin).1)

  module _ (b : ℕ) where
    -- what a walk knows of d: pinned before its epoch, and not seen yet
    unfoldable Facing : Place → ℕ → Type 0
    Facing pl e = b < num e → (Pinned m d × (g.gpin d < num e)) × Unseen birth pl d

    -- what a walk knows, as the clause says it
    facing_ahead : (pl : Place) → Of (Facing pl) (walk_epoch pl) → Ahead birth d b pl
    unfolding Facing Ahead
    facing_ahead pl h = of_in _ (walk_epoch pl) (λ e i lt. (of_out (Facing pl) (walk_epoch pl) e h i lt).1)

    -- a push inside a walk stands further on
    pushes : (f : Then) (x y : PushAt) (o : Participant) → Of (Facing (Place.Push f x)) (walk_epoch (Place.Push f x)) → Yet birth d b (on (Place.Push f y) o)
    pushes f x y o h = push_yet birth d b f x y o (facing_ahead (Place.Push f x) h)

    module _ (p c : ℕ) (spare : Node) (sealed : Node → ℕ) (o : Participant) where
      abbrev Q : Place → Bool → Shared → After → Type 0
      Q pl won s' a = Yet (birth_turned (turn_of p pl won) g.births birth) d b a

      ruleset going = (on_yet, done_yet, also_yet, pick_yet, collected_yet, finalize_yet, pops_yet, advanced_yet, walk_yet, defer_yet, pushed_yet, push-ahead)

      -- after the access of each place
      goes_on_lem : (pl : Place) → HoldsAt N M m g c pl → Of (Facing pl) (walk_epoch pl) → Leads (Q pl) s (rule (record { 0 = p }) spare sealed o pl)
      unfolding Leads rule insert delete iterate push pop pin_epoch pin_word pin_counted unpin_word repin advance_epoch advance_word advance_store final_word seal_bag
          turn_of birth_turned branch read HoldsAt HoldsWalk Facing Of walk_epoch Unseen Ahead OlderThan
      goes_on_lem Place.Rest holds h = search going
      goes_on_lem (Place.Register RegisterAt.Head) holds h = search going
      goes_on_lem (Place.Register (RegisterAt.Next next)) holds h = search going
      goes_on_lem (Place.Register (RegisterAt.Link next)) holds h = (λ _. search going, λ _. search going)
      goes_on_lem (Place.PinEpoch k) holds h = search going
      goes_on_lem (Place.PinWord k e) holds h = search going
      goes_on_lem (Place.Repin RepinAt.Word) holds h = search going
      goes_on_lem (Place.Repin (RepinAt.Epoch e)) holds h = search going
      goes_on_lem (Place.Repin (RepinAt.Store e)) holds h = search going
      goes_on_lem Place.UnpinWord holds h = search going
      goes_on_lem (Place.AdvanceEpoch k) holds h = search going
      goes_on_lem (Place.Walk t WalkAt.Head) holds h = walk_yet birth d b t Pred.Head (pointee s.list_head) o (λ lt. (head_reached (h lt).0.0, tt))
      goes_on_lem (Place.Walk t (WalkAt.Next r)) holds h = branch_ind (Yet birth d b) (is_tagged (s.entry_next r.curr.0))
          (λ _. on_yet birth d b (Place.Walk t (WalkAt.Unlink r (pointee (s.entry_next r.curr.0)))) o (λ lt. (h lt).1))
          (λ plain. on_yet birth d b (Place.AdvanceWord t r.curr (pointee (s.entry_next r.curr.0))) o (λ lt ne.
          next_reached r.curr.0 (in_range_lem N g c r.curr.0 holds.1) (safe_linked N m g inv.records c r.curr.0 holds.1 plain) (h lt).0.0 ne (h lt).1.0))
      goes_on_lem (Place.Walk t (WalkAt.Unlink r succ)) holds h = (
        λ won. defer_yet birth d b (Deferring.Slot t r succ) o (λ lt.
            let curr = curr_linked c r.pred r.curr.0 holds.0.0 won in
            let on = next_reached r.curr.0 curr.0 curr.1 (h lt).0.0 (not_curr r.curr.0 holds.1.0 (h lt).0.0) (h lt).1.0 in
            (rw (← holds.1.1) on.0, (h lt).1.1)),
        λ _. branch_ind (Yet birth d b) (is_tagged (read (pred_word r.pred) s))
            (λ _. on_yet birth d b (Place.Walk t WalkAt.Stalled) o (λ _. tt))
            (λ plain. walk_yet birth d b t r.pred (pointee (read (pred_word r.pred) s)) o (λ lt.
            (pred-reached c r.pred holds.0.0 plain (h lt).0.0 (h lt).1.1, (h lt).1.1))),
      )
      goes_on_lem (Place.Walk t WalkAt.Stalled) holds h = search going
      goes_on_lem (Place.AdvanceWord t curr succ) holds h = branch_ind (Yet birth d b) (is_pinned (s.word curr.0) && not (eqb (unpinned (s.word curr.0)) t.epoch.0))
          (λ _. advanced_yet birth d b t.owner t.epoch o)
          (λ passes. walk_yet birth d b t (Pred.Entry curr) succ o (λ lt. (h lt).1 (word_passed curr.0 t.epoch.0 passes (h lt).0.0 (h lt).0.1)))
      goes_on_lem (Place.AdvanceStore t) holds h = search going
      goes_on_lem (Place.Pop q PopAt.Head) holds h = search going
      goes_on_lem (Place.Pop q (PopAt.Next head)) holds h = search going
      goes_on_lem (Place.Pop q (PopAt.Exchange head next)) holds h = (λ _. search going, λ _. search going)
      goes_on_lem (Place.Pop q (PopAt.Tail head next)) holds h = search going
      goes_on_lem (Place.Pop q (PopAt.TailMove head next)) holds h = (λ _. search going, λ _. search going)
      goes_on_lem (Place.Push f PushAt.Epoch) holds h = also_yet birth d b _ _ (pushes f PushAt.Epoch (PushAt.Tail spare) _ h)
      goes_on_lem (Place.Push f (PushAt.Tail new)) holds h = pushes f (PushAt.Tail new) (PushAt.Next new (node_at s.queue_tail)) o h
      goes_on_lem (Place.Push f (PushAt.Next new onto)) holds h = pick_yet birth d b (is_null (s.node_next onto.0)) _ _
          (pushes f (PushAt.Next new onto) (PushAt.Link new onto) o h)
          (pushes f (PushAt.Next new onto) (PushAt.Help new onto (node_at (s.node_next onto.0))) o h)
      goes_on_lem (Place.Push f (PushAt.Help new onto next)) holds h = (
        λ _. pushes f (PushAt.Help new onto next) (PushAt.Tail new) o h,
        λ _. pushes f (PushAt.Help new onto next) (PushAt.Tail new) o h,
      )
      goes_on_lem (Place.Push f (PushAt.Link new onto)) holds h = (
        λ _. pushes f (PushAt.Link new onto) (PushAt.Move new onto) o h,
        λ _. pushes f (PushAt.Link new onto) (PushAt.Tail new) o h,
      )
      goes_on_lem (Place.Push f (PushAt.Move new onto)) holds h = (
        λ _. pushed_yet birth d b f (PushAt.Move new onto) o (facing_ahead (Place.Push f (PushAt.Move new onto)) h),
        λ _. pushed_yet birth d b f (PushAt.Move new onto) o (facing_ahead (Place.Push f (PushAt.Move new onto)) h),
      )
      goes_on_lem Place.FinalWord holds h = search going
      goes_on_lem Place.FinalTag holds h = search going

-- ---- everybody else's walk

-- numbers of the slots that a place holds, and of d, stay: what was unseen stays so
older_same : (N : ℕ) (g : Ghost) (c : ℕ) (t v : Tab ℕ) (d : ℕ) → ((x : ℕ) → SafeSlot N g c x → v x ≡ t x) → v d ≡ t d
    → (pred : Pred) → SafePred N g c pred → OlderThan t pred d → OlderThan v pred d
unfolding SafePred OlderThan
older_same N g c t v d same is Pred.Head holds h = tt
older_same N g c t v d same is (Pred.Entry x) holds h = rw (same x.0 holds, is) h

reached_same : (N : ℕ) (g : Ghost) (c : ℕ) (t v : Tab ℕ) (d : ℕ) → ((x : ℕ) → SafeSlot N g c x → v x ≡ t x) → v d ≡ t d
    → (l : Ptr) → SafePtr N g c l → Reached t l d → Reached v l d
unfolding SafePtr Reached
reached_same N g c t v d same is Ptr.Null holds h = h
reached_same N g c t v d same is (Ptr.At x) holds h = rw (same x.0 holds, is) h

module _ (N M : ℕ) (m : Machine) (g : Ghost) (c : ℕ) (t v : Tab ℕ) (d : ℕ) (same : (x : ℕ) → SafeSlot N g c x → v x ≡ t x) (is : v d ≡ t d) where
  unseen_same : (pl : Place) → HoldsAt N M m g c pl → Unseen t pl d → Unseen v pl d
  unfolding HoldsAt HoldsWalk HoldsThen Unseen
  unseen_same Place.Rest holds h = tt
  unseen_same (Place.Register a) holds h = tt
  unseen_same (Place.PinEpoch k) holds h = tt
  unseen_same (Place.PinWord k e) holds h = tt
  unseen_same (Place.Repin a) holds h = tt
  unseen_same Place.UnpinWord holds h = tt
  unseen_same (Place.AdvanceEpoch k) holds h = tt
  unseen_same (Place.Walk y WalkAt.Head) holds h = tt
  unseen_same (Place.Walk y (WalkAt.Next r)) holds h =
      (rw (same r.curr.0 holds.1, is) h.0, older_same N g c t v d same is r.pred holds.0 h.1)
  unseen_same (Place.Walk y (WalkAt.Unlink r succ)) holds h =
      (rw (same r.curr.0 holds.0.1, is) h.0, older_same N g c t v d same is r.pred holds.0.0 h.1)
  unseen_same (Place.Walk y WalkAt.Stalled) holds h = tt
  unseen_same (Place.AdvanceWord y curr succ) holds h =
      λ ne. (reached_same N g c t v d same is succ holds.1 (h ne).0, rw (same curr.0 holds.0, is) (h ne).1)
  unseen_same (Place.AdvanceStore y) holds h = h
  unseen_same (Place.Pop p a) holds h = tt
  unseen_same (Place.Push (Then.Defer (Deferring.Token token)) a) holds h = tt
  unseen_same (Place.Push (Then.Defer (Deferring.Slot y r succ)) a) holds h =
      (reached_same N g c t v d same is succ holds.0.1 h.0, older_same N g c t v d same is r.pred holds.0.0 h.1)
  unseen_same (Place.Push (Then.Defer (Deferring.Node p head next)) a) holds h = tt
  unseen_same (Place.Push Then.Flush a) holds h = tt
  unseen_same (Place.Push Then.Finalize a) holds h = tt
  unseen_same Place.FinalWord holds h = tt
  unseen_same Place.FinalTag holds h = tt

-- a step numbers no slot but one that is being registered
births_kept : (p : ℕ) (pl : Place) (s s' : Shared) (v : Turn) (births : ℕ) (t : Tab ℕ) (x : ℕ) → Change p pl s v s' → (Registers pl → p ≢ x) → birth_turned v births t x ≡ t x
unfolding birth_turned
births_kept p pl s s' v births t x (Change.none ev es) h = rw ev
births_kept p pl s s' v births t x (Change.advances y e ev es) h = rw ev
births_kept p pl s s' v births t x (Change.pins k w e ev es) h = rw ev
births_kept p pl s s' v births t x (Change.repins w e ev es) h = rw ev
births_kept p pl s s' v births t x (Change.unpins e ev es) h = rw ev
births_kept p pl s s' v births t x (Change.finals e ev es) h = rw ev
births_kept p pl s s' v births t x (Change.aims next e ev es) h = rw ev
births_kept p pl s s' v births t x (Change.enlists next e ev k es) h = rw ev (put_other t p x (births + 1) (h (unfold Registers in (rw e tt))))
births_kept p pl s s' v births t x (Change.unlinks y c succ e ev k es) h = rw ev
births_kept p pl s s' v births t x (Change.tags e ev es) h = rw ev
births_kept p pl s s' v births t x (Change.pops q head next e ev k es) h = rw ev
births_kept p pl s s' v births t x (Change.tails from to e ev k es) h = rw ev
births_kept p pl s s' v births t x (Change.links f new onto e ev k es) h = rw ev

-- a safe slot is not being registered
safe_not_registering : (N : ℕ) (g : Ghost) (c x : ℕ) → SafeSlot N g c x → g.slot_use x ≡ Use.registering → ⊥
unfolding SafeSlot SafeUse
safe_not_registering N g c x h e = rw e at h.1

-- a participant that is pinned after a move, with an older pin than some epoch of before, was pinned before, and no later
pub pin_still : (e x : ℕ) (w v t : Tab ℕ) (d : ℕ) → x ≤ e → is_pinned (v d) ≡ true → gpin_after e w v t d < x → (is_pinned (w d) ≡ true) × (t d < x)
unfolding gpin_after branch
pin_still e x w v t d le pin lt = go (eqb (v d) (w d)) refl (rw pin at lt)
  where
    go : (c : Bool) → eqb (v d) (w d) ≡ c → branch (true && not c) e (t d) < x → (is_pinned (w d) ≡ true) × (t d < x)
    go true i h = (ap is_pinned (sym (eqb-true (v d) (w d) i)) ∙ pin, h)
    go false i h = absurd (omega arith)

module _ (N M : ℕ) (m : Machine) (g : Ghost) (inv : Inv N M m g) (d : ℕ) (hd : d < N) (b : ℕ)
    (still : (x : ℕ) → x ≤ G m → b < x → Pinned m d × (g.gpin d < x)) where
  -- what each walk knows of d before the move
  facing : (q : ℕ) → q < N → Of (Facing N M m g inv d hd b (m.own q).place) (walk_epoch (m.own q).place)
  unfolding Facing
  facing q lt = of_in _ (walk_epoch (m.own q).place) (λ e is before.
      let le = of_out (λ e. num e ≤ G m) (walk_epoch (m.own q).place) e (inv.epochs.walk_le q lt) is in
      let pin = still (num e) le before in
      (pin, of_out (λ e. g.gpin d < num e → Unseen g.birth (m.own q).place d) (walk_epoch (m.own q).place) e (inv.epochs.walks q d lt hd pin.0) is pin.1))

  -- a walk whose participant does not move: numbers are given to slots being registered only
  others : (v : Tab ℕ) → ((x : ℕ) → (g.slot_use x ≡ Use.registering → ⊥) → v x ≡ g.birth x) → (q : ℕ) → q < N → Ahead v d b (m.own q).place
  unfolding Ahead Facing
  others v kept q lt = of_in _ (walk_epoch (m.own q).place) (λ e is before.
      let h = of_out (Facing N M m g inv d hd b (m.own q).place) (walk_epoch (m.own q).place) e (facing q lt) is before in
      unseen_same N M m g (g.gpin q) g.birth v d (λ x safe. kept x (safe_not_registering N g (g.gpin q) x safe))
      (kept d (λ r. registering_not_linked (g.slot_use d) r (pinned-linked N m g inv.records d hd h.0.0).0))
      (m.own q).place (inv.held.holds q lt) h.1)

-- ---- the clause, kept

module _ (N M p : ℕ) (m : Machine) (g : Ghost) (inv : Inv N M m g) (hp : p < N) (d : ℕ) (hd : d < N) (pin : Pinned (stepped M p m) d) where
  abbrev b : ℕ
  b = gpin_after (G m) m.shared.word (left_of M p m).word g.gpin d

  -- whose pin is older than an epoch of before is pinned since before
  step_still : (x : ℕ) → x ≤ G m → b < x → Pinned m d × (g.gpin d < x)
  step_still x le lt = pin_still (G m) x m.shared.word (left_of M p m).word g.gpin d le (rw (stepped-word M p m) at pin) lt

  -- p's own walk, and everybody else's
  step_own : Yet (birth_turned (turn_of p (m.own p).place (won_of M p m)) g.births g.birth) d b (after_of M p m)
  unfolding won_of left_of after_of rule_of
  step_own = leads (Q N M m g inv d hd b p (g.gpin p) (record { 0 = least M m.node_free }) (λ n. (m.bag n.0).epoch) (m.own p) (m.own p).place) m.shared
      (rule (record { 0 = p }) (record { 0 = least M m.node_free }) (λ n. (m.bag n.0).epoch) (m.own p) (m.own p).place)
      (goes_on_lem N M m g inv d hd b p (g.gpin p) (record { 0 = least M m.node_free }) (λ n. (m.bag n.0).epoch) (m.own p) (m.own p).place (inv.held.holds p hp)
      (facing N M m g inv d hd b step_still p hp))

  step_others : (q : ℕ) → q < N → Ahead (birth_turned (turn_of p (m.own p).place (won_of M p m)) g.births g.birth) d b (m.own q).place
  step_others = others N M m g inv d hd b step_still (birth_turned (turn_of p (m.own p).place (won_of M p m)) g.births g.birth)
      (λ x ne. births_kept p (m.own p).place m.shared (left_of M p m) (turn_of p (m.own p).place (won_of M p m)) g.births g.birth x
      (step-change M p m) (λ r i. ne (ap g.slot_use (sym i) ∙ registers_use N m g inv.records p hp r)))

-- the clause is kept by a step
pub walks_step : (N M p : ℕ) (m : Machine) (g : Ghost) → Inv N M m g → Steps N M p m → (q d : ℕ) → q < N → d < N → Pinned (stepped M p m) d
    → Of (λ e. (stepped_ghost M p m g).gpin d < num e → Unseen (stepped_ghost M p m g).birth ((stepped M p m).own q).place d) (walk_epoch ((stepped M p m).own q).place)
unfolding stepped_ghost goes_ghost moved Ahead Yet
walks_step N M p m g inv st q d hq hd pin = rw (stepped_own M p m)
    (put_ind (λ o. Ahead (birth_turned (turn_of p (m.own p).place (won_of M p m)) g.births g.birth) d
    (gpin_after (G m) m.shared.word (left_of M p m).word g.gpin d) o.place) m.own p q (after_of M p m).participant
    (λ _. step_own N M p m g inv st.here d hd pin) (λ _. step_others N M p m g inv st.here d hd pin q hq))

-- by a call: it begins no walk
pub walks_call : (N M p : ℕ) (c : Call) (m : Machine) (g : Ghost) → Inv N M m g → Calls N M p c m → (q d : ℕ) → q < N → d < N → Pinned (called N p c m) d
    → Of (λ e. (called_ghost N p c m g).gpin d < num e → Unseen (called_ghost N p c m g).birth ((called N p c m).own q).place d) (walk_epoch ((called N p c m).own q).place)
unfolding called called_ghost moved birth_turned opens Ahead Yet
walks_call N M p c m g inv st q d hq hd pin =
    let o : Participant = sharing (needs N c (m.own p)) (m.own p) in
    let a : After = begins c o in
    let still : (x : ℕ) → x ≤ G m → gpin_after (G m) m.shared.word m.shared.word g.gpin d < x → Pinned m d × (g.gpin d < x) =
    λ x le lt. pin_still (G m) x m.shared.word m.shared.word g.gpin d le (rw (followed-word p a m) at pin) lt in
    rw (followed_own p a m)
    (put_ind (λ r. Ahead g.birth d (gpin_after (G m) m.shared.word m.shared.word g.gpin d) r.place) m.own p q a.participant
    (λ _. begins_yet g.birth d (gpin_after (G m) m.shared.word m.shared.word g.gpin d) c o)
    (λ _. others N M m g inv d hd (gpin_after (G m) m.shared.word m.shared.word g.gpin d) still g.birth (λ x _. refl) q hq))

-- by a registering: it is not pinned, and walks nowhere
pub walks_register : (N M p : ℕ) (m : Machine) (g : Ghost) → Inv N M m g → I.Registers N p m → (q d : ℕ) → q < N → d < N → Pinned (registered p m) d
    → Of (λ e. (registered_ghost p g).gpin d < num e → Unseen (registered_ghost p g).birth ((registered p m).own q).place d) (walk_epoch ((registered p m).own q).place)
unfolding registered registered_ghost write new_participant Ahead
walks_register N M p m g inv st q d hq hd pin =
    let other : p ≢ d = λ e. true≢false (sym pin ∙ rw (← e, put_same m.shared.word p starting) is_pinned-starting) in
    let before : Pinned m d = rw (put_other m.shared.word p d starting other) at pin in
    put_ind (λ r. Ahead g.birth d (g.gpin d) r.place) m.own p q new_participant
    (λ _. unfold Ahead walk_epoch Of in tt)
    (λ _. others N M m g inv d hd (g.gpin d) (λ x le lt. (before, lt)) g.birth (λ x _. refl) q hq)
