-- What places hold of slots stays held, and what the next place of a walk holds is there: the list half of group H. A slot that a pinned
-- participant holds is not freed (`Safety`), and if it leaves the list now, it leaves it no earlier than the pin; the next of a tagged slot is
-- written by nobody, since an unlinking writes into a slot that is not tagged and whoever is tagged is at rest. So what others hold stays by
-- itself. A walk finds slots in the list only: the head is in the list, and a slot that is held and not tagged is, so its next is; a slot
-- that is unlinked was in the list, so the walk goes on behind it with a slot of the list. Leans on `Linked` (who is in the list), on
-- `Listed` (what a link of the list points to), on `Change` and `Worked` (what a step can do). Assumes nothing.
use mathlib.Core.Path.{◌≡◌, refl, ap, sym, ◌∙◌}
use mathlib.Core.Logic.{◌≢◌}
use mathlib.Core.Bool.{Bool, true, false, true≢false, false≢true}
use mathlib.Core.List.{List}
use Prim.Native.Nat.{ℕ, ◌-◌, ◌<◌}
use Rattle.epoch.specs.Epoch.{is_pinned}
use Rattle.definition.specs.Base.{branch, Tab, put, least}
use Rattle.definition.specs.Links.{null, link, is_tagged, pointee, pointer}
use Rattle.definition.specs.Flow.{collect_steps, on, done, also, finalize, collected, pops, advanced, walk, placed, defer, pushed}
use Rattle.definition.specs.Tables.{Shared, read, write}
use Rattle.definition.specs.List.{insert, delete, iterate, pred_word}
use Rattle.definition.specs.Queue.{seal_bag, push, pop}
use Rattle.definition.specs.Internal.{pin_epoch, pin_word, pin_counted, unpin_word, repin, advance_epoch, advance_word, advance_store, final_word, rule}
use Rattle.definition.specs.Calls.{begins, opens}
use Rattle.definition.specs.Public.{new_participant}
use Rattle.definition.proofs.Base.{branch_ind, same?, put_ind, put_other}
use Rattle.theorems.proofs.Leads.{Leads, leads}
use Rattle.theorems.proofs.Machine.{Machine}
use Rattle.theorems.proofs.Ghost.{Use, Ghost, Turn, turn_of, G, use_turned, gone_turned, use_worked, moved}
use Rattle.theorems.proofs.Invariant.{popped_node, InList, Fine, Pinned, ToLinked, SafeUse, SafeSlot, SafePtr, SafePred, HoldsThen, HoldsWalk, HoldsAt}
use Rattle.theorems.proofs.Change.{Change}
use Rattle.theorems.proofs.Worked.{Worked}
use Rattle.theorems.proofs.Inv.{Inv, rule_of, won_of, left_of, after_of, goes_ghost, stepped, stepped_ghost, Steps, called, called_ghost, Calls, registered, registered_ghost}
use Rattle.theorems.proofs.Inv as I
use Rattle.theorems.proofs.Safety.{slot_unfreed, safe_turned, use_unfreed}
use Rattle.theorems.proofs.Order.{to_slot}
use Rattle.theorems.proofs.Linked.{under_pin, in_range_lem, under-pin, safe_linked, free_unused, followed_next, followed_own, stepped_next, stepped_own, step-change, step_worked}
use Rattle.theorems.proofs.List.{pointee-link, link_untagged}
use Rattle.theorems.proofs.Live.{unlinked_word}
use Rattle.theorems.proofs.Records.{word-kept}
use Rattle.theorems.proofs.RecordsCalls.{begins_light, light_uses}
use Rattle.theorems.proofs.Epochs.{gpin_same}
use Rattle.theorems.proofs.Types.{Epoch, Slot, Node, Ptr, Pred, Item, Owner, Try, Deferring, Then, RegisterAt, RepinAt, WalkAt, PopAt, PushAt, Place, Participant, Work, After, Call}

-- ---- what a place holds of slots: the parts of `HoldsAt` that speak of them

-- a push inside a walk holds what the walk goes on with
unfoldable pub SlotsThen : ℕ → Ghost → ℕ → Then → Type 0
SlotsThen N g b (Then.Defer (Deferring.Token token)) = Unit {0}
SlotsThen N g b (Then.Defer (Deferring.Slot t c succ)) = SafePred N g b c.pred × SafePtr N g b succ
SlotsThen N g b (Then.Defer (Deferring.Node p head next)) = Unit {0}
SlotsThen N g b Then.Flush = Unit {0}
SlotsThen N g b Then.Finalize = Unit {0}

-- a walk holds its cursor, whether it is about to read or to unlink, or to look at a word
unfoldable pub SlotsAt : ℕ → Machine → Ghost → ℕ → Place → Type 0
SlotsAt N m g b Place.Rest = Unit {0}
SlotsAt N m g b (Place.Register a) = Unit {0}
SlotsAt N m g b (Place.PinEpoch k) = Unit {0}
SlotsAt N m g b (Place.PinWord k e) = Unit {0}
SlotsAt N m g b (Place.Repin a) = Unit {0}
SlotsAt N m g b Place.UnpinWord = Unit {0}
SlotsAt N m g b (Place.AdvanceEpoch k) = Unit {0}
SlotsAt N m g b (Place.Walk t a) = HoldsWalk N m g b a
SlotsAt N m g b (Place.AdvanceWord t curr succ) = SafeSlot N g b curr.0 × SafePtr N g b succ
SlotsAt N m g b (Place.AdvanceStore t) = Unit {0}
SlotsAt N m g b (Place.Pop p a) = Unit {0}
SlotsAt N m g b (Place.Push f a) = SlotsThen N g b f
SlotsAt N m g b Place.FinalWord = Unit {0}
SlotsAt N m g b Place.FinalTag = Unit {0}

-- of what a place holds, what it holds of slots
then_of_lem : (N M : ℕ) (m : Machine) (g : Ghost) (b : ℕ) (f : Then) → HoldsThen N M m g b f → SlotsThen N g b f
unfolding SlotsThen HoldsThen
then_of_lem N M m g b (Then.Defer (Deferring.Token token)) h = tt
then_of_lem N M m g b (Then.Defer (Deferring.Slot t c succ)) h = h
then_of_lem N M m g b (Then.Defer (Deferring.Node p head next)) h = tt
then_of_lem N M m g b Then.Flush h = tt
then_of_lem N M m g b Then.Finalize h = tt

pub slots_of : (N M : ℕ) (m : Machine) (g : Ghost) (b : ℕ) (pl : Place) → HoldsAt N M m g b pl → SlotsAt N m g b pl
unfolding SlotsAt HoldsAt
slots_of N M m g b Place.Rest h = tt
slots_of N M m g b (Place.Register a) h = tt
slots_of N M m g b (Place.PinEpoch k) h = tt
slots_of N M m g b (Place.PinWord k e) h = tt
slots_of N M m g b (Place.Repin a) h = tt
slots_of N M m g b Place.UnpinWord h = tt
slots_of N M m g b (Place.AdvanceEpoch k) h = tt
slots_of N M m g b (Place.Walk t a) h = h
slots_of N M m g b (Place.AdvanceWord t curr succ) h = h
slots_of N M m g b (Place.AdvanceStore t) h = tt
slots_of N M m g b (Place.Pop q a) h = tt
slots_of N M m g b (Place.Push f a) h = then_of_lem N M m g b f h.0
slots_of N M m g b Place.FinalWord h = tt
slots_of N M m g b Place.FinalTag h = tt

-- ---- what is held stays held

-- after a move: what is safe for a pin at b stays safe, and the next of a tagged slot stays
pub record Stays (N : ℕ) (m m' : Machine) (g g' : Ghost) (b : ℕ) : Type 0 where
  pub safe : (x : ℕ) → SafeSlot N g b x → SafeSlot N g' b x
  pub next : (x : ℕ) → SafeSlot N g b x → is_tagged (m.shared.entry_next x) ≡ true → m'.shared.entry_next x ≡ m.shared.entry_next x

module _ (N : ℕ) (m m' : Machine) (g g' : Ghost) (b : ℕ) (st : Stays N m m' g g' b) where
  -- what is held of a pointer, of a predecessor, by a push inside a walk
  pub ptr_stays : (l : Ptr) → SafePtr N g b l → SafePtr N g' b l
  unfolding SafePtr
  ptr_stays Ptr.Null h = tt
  ptr_stays (Ptr.At s) h = st.safe s.0 h

  pub pred-stays : (q : Pred) → SafePred N g b q → SafePred N g' b q
  unfolding SafePred
  pred-stays Pred.Head h = tt
  pred-stays (Pred.Entry s) h = st.safe s.0 h

  pub then_stays : (f : Then) → SlotsThen N g b f → SlotsThen N g' b f
  unfolding SlotsThen
  then_stays (Then.Defer (Deferring.Token token)) h = tt
  then_stays (Then.Defer (Deferring.Slot t c succ)) h = (pred-stays c.pred h.0, ptr_stays succ h.1)
  then_stays (Then.Defer (Deferring.Node p head next)) h = tt
  then_stays Then.Flush h = tt
  then_stays Then.Finalize h = tt

  -- a walk: its cursor, and at an unlinking the tag and the next of the current slot
  pub walk-stays : (a : WalkAt) → HoldsWalk N m g b a → HoldsWalk N m' g' b a
  unfolding HoldsWalk
  walk-stays WalkAt.Head h = tt
  walk-stays (WalkAt.Next c) h = (pred-stays c.pred h.0, st.safe c.curr.0 h.1)
  walk-stays (WalkAt.Unlink c succ) h =
      ((pred-stays c.pred h.0.0, st.safe c.curr.0 h.0.1), rw (st.next c.curr.0 h.0.1 h.1.0) h.1)
  walk-stays WalkAt.Stalled h = tt

-- the places that hold slots or come upon them
unfoldable pub holds_slots : Place → Bool
holds_slots Place.Rest = false
holds_slots (Place.Register a) = false
holds_slots (Place.PinEpoch k) = false
holds_slots (Place.PinWord k e) = false
holds_slots (Place.Repin a) = false
holds_slots Place.UnpinWord = false
holds_slots (Place.AdvanceEpoch k) = false
holds_slots (Place.Walk t a) = true
holds_slots (Place.AdvanceWord t curr succ) = true
holds_slots (Place.AdvanceStore t) = false
holds_slots (Place.Pop p a) = false
holds_slots (Place.Push f a) = true
holds_slots Place.FinalWord = false
holds_slots Place.FinalTag = false

-- whoever is there is pinned
holder_under-pin : (pl : Place) → holds_slots pl ≡ true → under_pin pl ≡ true
unfolding holds_slots under_pin
holder_under-pin Place.Rest e = e
holder_under-pin (Place.Register a) e = e
holder_under-pin (Place.PinEpoch k) e = e
holder_under-pin (Place.PinWord k w) e = e
holder_under-pin (Place.Repin a) e = refl
holder_under-pin Place.UnpinWord e = refl
holder_under-pin (Place.AdvanceEpoch k) e = refl
holder_under-pin (Place.Walk t a) e = refl
holder_under-pin (Place.AdvanceWord t curr succ) e = refl
holder_under-pin (Place.AdvanceStore t) e = refl
holder_under-pin (Place.Pop p a) e = refl
holder_under-pin (Place.Push f a) e = refl
holder_under-pin Place.FinalWord e = refl
holder_under-pin Place.FinalTag e = e

-- what anybody holds of slots after a move that leaves its place and its pin
pub slots_stay : (N : ℕ) (m m' : Machine) (g g' : Ghost) (b : ℕ) (pl : Place) → (holds_slots pl ≡ true → Stays N m m' g g' b) → SlotsAt N m g b pl → SlotsAt N m' g' b pl
unfolding SlotsAt holds_slots
slots_stay N m m' g g' b Place.Rest st h = tt
slots_stay N m m' g g' b (Place.Register a) st h = tt
slots_stay N m m' g g' b (Place.PinEpoch k) st h = tt
slots_stay N m m' g g' b (Place.PinWord k e) st h = tt
slots_stay N m m' g g' b (Place.Repin a) st h = tt
slots_stay N m m' g g' b Place.UnpinWord st h = tt
slots_stay N m m' g g' b (Place.AdvanceEpoch k) st h = tt
slots_stay N m m' g g' b (Place.Walk t a) st h = walk-stays N m m' g g' b (st refl) a h
slots_stay N m m' g g' b (Place.AdvanceWord t curr succ) st h = ((st refl).safe curr.0 h.0, ptr_stays N m m' g g' b (st refl) succ h.1)
slots_stay N m m' g g' b (Place.AdvanceStore t) st h = tt
slots_stay N m m' g g' b (Place.Pop q a) st h = tt
slots_stay N m m' g g' b (Place.Push f a) st h = then_stays N m m' g g' b (st refl) f h
slots_stay N m m' g g' b Place.FinalWord st h = tt
slots_stay N m m' g g' b Place.FinalTag st h = tt

-- ---- so it is after a step

-- an unlinking writes into a slot that is not tagged
unlinked_next : (q : Pred) (s : Shared) (i w x : ℕ) → read (pred_word q) s ≡ link i → is_tagged (s.entry_next x) ≡ true → (write (pred_word q) w s).entry_next x ≡ s.entry_next x
unfolding read write pred_word
unlinked_next Pred.Head s i w x h tag = refl
unlinked_next (Pred.Entry y) s i w x h tag =
    put_other s.entry_next y.0 x w (λ e. true≢false (sym tag ∙ link_untagged (s.entry_next x) i (ap s.entry_next (sym e) ∙ h)))

-- so nobody but the slot itself writes the next of a tagged slot
next_kept : (p : ℕ) (pl : Place) (s s' : Shared) (v : Turn) (x : ℕ) → Change p pl s v s' → p ≢ x → is_tagged (s.entry_next x) ≡ true → s'.entry_next x ≡ s.entry_next x
unfolding write
next_kept p pl s s' v x (Change.none ev es) ne tag = rw es
next_kept p pl s s' v x (Change.advances t e ev es) ne tag = rw es
next_kept p pl s s' v x (Change.pins k w e ev es) ne tag = rw es
next_kept p pl s s' v x (Change.repins w e ev es) ne tag = rw es
next_kept p pl s s' v x (Change.unpins e ev es) ne tag = rw es
next_kept p pl s s' v x (Change.finals e ev es) ne tag = rw es
next_kept p pl s s' v x (Change.aims next e ev es) ne tag = rw es (put_other s.entry_next p x (pointer next) ne)
next_kept p pl s s' v x (Change.enlists next e ev h es) ne tag = rw es
next_kept p pl s s' v x (Change.unlinks t c succ e ev h es) ne tag = rw es (unlinked_next c.pred s c.curr.0 (pointer succ) x h tag)
next_kept p pl s s' v x (Change.tags e ev es) ne tag = rw es (put_other s.entry_next p x _ ne)
next_kept p pl s s' v x (Change.pops q head next e ev h es) ne tag = rw es
next_kept p pl s s' v x (Change.tails from to e ev h es) ne tag = rw es
next_kept p pl s s' v x (Change.links f new onto e ev h es) ne tag = rw es

-- and a tagged slot that is held is at rest: it steps no more
tagged-rests : (u : Use) (tag pin : Bool) (o : Participant) (l : List Item) (b r : ℕ) → Fine u tag pin o l → SafeUse u b r → tag ≡ true → o.place ≡ Place.Rest
unfolding Fine InList SafeUse
tagged-rests Use.unused tag pin o l b r h safe e = absurd safe
tagged-rests Use.registering tag pin o l b r h safe e = absurd safe
tagged-rests Use.linked true pin o l b r h safe e = h.0
tagged-rests Use.linked false pin o l b r h safe e = absurd (false≢true e)
tagged-rests Use.out tag pin o l b r h safe e = h.0.0

-- said of a machine
held-tagged-rests : (N M : ℕ) (m : Machine) (g : Ghost) → Inv N M m g → (b x : ℕ) → SafeSlot N g b x → is_tagged (m.shared.entry_next x) ≡ true → (m.own x).place ≡ Place.Rest
unfolding SafeSlot
held-tagged-rests N M m g inv b x h tag =
    tagged-rests (g.slot_use x) (is_tagged (m.shared.entry_next x)) (is_pinned (m.shared.word x)) (m.own x) (m.held x) b (g.gone x) (inv.records.fine x h.0) h.1 tag

-- a participant at a place that holds slots does not store its word
own_word : (p : ℕ) (pl : Place) (s s' : Shared) (v : Turn) → Change p pl s v s' → holds_slots pl ≡ true → s'.word p ≡ s.word p
unfolding write holds_slots
own_word p pl s s' v (Change.none ev es) i = rw es
own_word p pl s s' v (Change.advances t e ev es) i = rw es
own_word p pl s s' v (Change.pins k w e ev es) i = absurd (false≢true (rw e at i))
own_word p pl s s' v (Change.repins w e ev es) i = absurd (false≢true (rw e at i))
own_word p pl s s' v (Change.unpins e ev es) i = absurd (false≢true (rw e at i))
own_word p pl s s' v (Change.finals e ev es) i = absurd (false≢true (rw e at i))
own_word p pl s s' v (Change.aims next e ev es) i = rw es
own_word p pl s s' v (Change.enlists next e ev h es) i = rw es
own_word p pl s s' v (Change.unlinks t c succ e ev h es) i = rw es (ap (λ (f : Tab ℕ). f p) (unlinked_word c.pred (pointer succ) s))
own_word p pl s s' v (Change.tags e ev es) i = rw es
own_word p pl s s' v (Change.pops q head next e ev h es) i = rw es
own_word p pl s s' v (Change.tails from to e ev h es) i = rw es
own_word p pl s s' v (Change.links f new onto e ev h es) i = rw es

module _ (N M p : ℕ) (m : Machine) (g : Ghost) (inv : Inv N M m g) (hp : p < N) (d : ℕ) (hd : d < N) (pinned : Pinned m d) where
  -- a slot that d holds stays safe through the turn of a step
  safe_turn : (v : Turn) (x : ℕ) → SafeSlot N g (g.gpin d) x → SafeUse (use_turned v g.slot_use x) (g.gpin d) (gone_turned v (G m) g.gone x)
  unfolding SafeSlot
  safe_turn v x h = safe_turned v (G m) (g.gpin d) x g.slot_use g.gone (inv.epochs.pin_le d hd pinned) h.1

  -- and through its work: what is freed is not held
  safe_worked : (v : Turn) (spare : Node) (a : After) → Worked spare (popped_node (m.own p).place) a → (x : ℕ) → SafeSlot N g (g.gpin d) x
      → SafeUse (use_worked a.work m (use_turned v g.slot_use) x) (g.gpin d) (gone_turned v (G m) g.gone x)
  unfolding use_worked
  safe_worked v spare a (Worked.nothing e) x h = rw e (safe_turn v x h)
  safe_worked v spare a (Worked.puts i e) x h = rw e (safe_turn v x h)
  safe_worked v spare a (Worked.seals w e) x h = rw e (safe_turn v x h)
  safe_worked v spare a (Worked.frees i n e was over) x h =
      rw (e, use_unfreed (m.bag n.0).holds x (use_turned v g.slot_use) (slot_unfreed N M m g inv p hp n.0 was d x hd pinned h)) (safe_turn v x h)

module _ (N M p : ℕ) (m : Machine) (g : Ghost) (inv : Inv N M m g) (st : Steps N M p m) where
  -- a slot that is safe for a pinned participant stays safe
  pub safe_slot-stays : (d x : ℕ) → d < N → Pinned m d → SafeSlot N g (g.gpin d) x → SafeSlot N (stepped_ghost M p m g) (g.gpin d) x
  unfolding stepped_ghost goes_ghost moved
  safe_slot-stays d x hd pinned h = unfold SafeSlot in (
    in_range_lem N g (g.gpin d) x h,
    safe_worked N M p m g inv st.here d hd pinned (turn_of p (m.own p).place (won_of M p m)) (record { 0 = least M m.node_free }) (after_of M p m) (step_worked M p m) x h,
  )

  -- with the next of those that are tagged
  pub step-stays : (d : ℕ) → d < N → Pinned m d → Stays N m (stepped M p m) g (stepped_ghost M p m g) (g.gpin d)
  step-stays d hd pinned = record {
    safe = λ x h. safe_slot-stays d x hd pinned h;
    next = λ x h tag. rw (stepped_next M p m)
        (next_kept p (m.own p).place m.shared (left_of M p m) (turn_of p (m.own p).place (won_of M p m)) x (step-change M p m)
        (λ e. st.running (ap (λ (i : ℕ). (m.own i).place) e ∙ held-tagged-rests N M m g inv (g.gpin d) x h tag)) tag);
  }

-- ---- what the next place holds

module _ (N : ℕ) (m' : Machine) (g' : Ghost) (b : ℕ) where
  -- what follows an access holds of slots
  unfoldable Slots : After → Type 0
  Slots a = SlotsAt N m' g' b a.participant.place

  -- by the functions of specs/Flow: only `walk` and a push that waits with a slot hold slots
  on_slots : (pl : Place) (o : Participant) → SlotsAt N m' g' b pl → Slots (on pl o)
  unfolding Slots on
  on_slots pl o h = h

  done_slots : (v : ℕ) (o : Participant) → Slots (done v o)
  unfolding Slots SlotsAt done
  done_slots v o = tt

  also_slots : (w : Work) (a : After) → Slots a → Slots (also w a)
  unfolding Slots also
  also_slots w a h = h

  pick_slots : (c : Bool) (x y : After) → Slots x → Slots y → Slots (branch c x y)
  pick_slots c x y h k = branch_ind Slots c (λ _. h) (λ _. k)

  collected_slots : (k : Owner) (o : Participant) → Slots (collected k o)
  unfolding collected SlotsAt SlotsThen
  collected_slots Owner.Pin o = done_slots 0 o
  collected_slots Owner.Flush o = done_slots 0 o
  collected_slots Owner.Finalize o = on_slots (Place.Push Then.Finalize PushAt.Epoch) o tt

  finalize_slots : (o : Participant) → Slots (finalize o)
  unfolding finalize SlotsAt
  finalize_slots o = on_slots (Place.PinEpoch Owner.Finalize) _ tt

  pops_slots : (k : Owner) (e : Epoch) (left : ℕ) (o : Participant) → Slots (pops k e left o)
  unfolding pops SlotsAt
  pops_slots k e left o = pick_slots _ _ _ (collected_slots k o) (on_slots (Place.Pop _ PopAt.Head) o tt)

  advanced_slots : (k : Owner) (e : Epoch) (o : Participant) → Slots (advanced k e o)
  unfolding advanced
  advanced_slots k e o = pops_slots k e collect_steps o

  -- a walk goes on with a safe predecessor to a safe slot
  walk_slots : (t : Try) (pred : Pred) (q : Ptr) (o : Participant) → SafePred N g' b pred → SafePtr N g' b q → Slots (walk t pred q o)
  unfolding walk SlotsAt HoldsWalk SafePtr
  walk_slots t pred Ptr.Null o h k = on_slots (Place.AdvanceStore t) o tt
  walk_slots t pred (Ptr.At s) o h k = on_slots (Place.Walk t (WalkAt.Next (record { pred = pred; curr = s }))) o (h, k)

  placed_slots : (d : Deferring) (o : Participant) → SlotsThen N g' b (Then.Defer d) → Slots (placed d o)
  unfolding placed SlotsThen
  placed_slots (Deferring.Token token) o h = also_slots _ _ (done_slots _ o)
  placed_slots (Deferring.Slot t c succ) o h = also_slots _ _ (walk_slots t c.pred succ o h.0 h.1)
  placed_slots (Deferring.Node p head next) o h = also_slots _ _ (pops_slots p.owner p.epoch (p.left - 1) o)

  defer_slots : (d : Deferring) (o : Participant) → SlotsThen N g' b (Then.Defer d) → Slots (defer d o)
  unfolding defer SlotsAt
  defer_slots d o h = pick_slots _ _ _ (placed_slots d _ h) (on_slots (Place.Push (Then.Defer d) PushAt.Epoch) o h)

  pushed_slots : (f : Then) (o : Participant) → SlotsThen N g' b f → Slots (pushed f o)
  unfolding pushed SlotsAt
  pushed_slots (Then.Defer d) o h = defer_slots d o h
  pushed_slots Then.Flush o h = on_slots (Place.AdvanceEpoch Owner.Flush) o tt
  pushed_slots Then.Finalize o h = on_slots Place.FinalWord _ tt

  seal_slots : (spare : Node) (f : Then) (w : ℕ) (o : Participant) → SlotsThen N g' b f → Slots (seal_bag spare f w o)
  unfolding seal_bag SlotsAt
  seal_slots spare f w o h = also_slots _ _ (on_slots (Place.Push f (PushAt.Tail spare)) _ h)

  -- a call begins no walk
  begins_slots : (c : Call) (o : Participant) → Slots (begins c o)
  unfolding begins SlotsAt SlotsThen
  begins_slots Call.Acquire o = done_slots 0 _
  begins_slots Call.Release o = pick_slots _ _ _ (finalize_slots o) (done_slots 0 _)
  begins_slots Call.Pin o = pick_slots _ _ _ (on_slots _ _ tt) (done_slots 0 _)
  begins_slots Call.Unpin o = pick_slots _ _ _ (on_slots _ _ tt) (done_slots 0 _)
  begins_slots Call.Repin o = pick_slots _ _ _ (on_slots _ _ tt) (done_slots 0 _)
  begins_slots (Call.Defer token) o = defer_slots (Deferring.Token token) o tt
  begins_slots Call.Flush o = pick_slots _ _ _ (on_slots _ _ tt) (on_slots _ _ tt)

-- what points into the list points to a safe slot, for whatever pin
in_list_safe : (N : ℕ) (g : Ghost) (b : ℕ) (l : Ptr) → ToLinked N g.slot_use l → SafePtr N g b l
unfolding ToLinked SafePtr SafeSlot SafeUse
in_list_safe N g b Ptr.Null h = tt
in_list_safe N g b (Ptr.At s) h = (h.0, rw h.1 tt)

module _ (N M : ℕ) (m : Machine) (g : Ghost) (inv : Inv N M m g) where
  -- what the predecessor's word points to, if it has no tag: in the list
  pred-links : (b : ℕ) (q : Pred) → SafePred N g b q → is_tagged (read (pred_word q) m.shared) ≡ false → ToLinked N g.slot_use (pointee (read (pred_word q) m.shared))
  unfolding read pred_word SafePred
  pred-links b Pred.Head h plain = inv.listed.head
  pred-links b (Pred.Entry x) h plain = inv.listed.next x.0 (in_range_lem N g b x.0 h) (safe_linked N m g inv.records b x.0 h plain)

  -- the slot that is unlinked is in the list, so what stands behind it is
  succ-links : (b : ℕ) (q : Pred) (curr : ℕ) → SafePred N g b q → read (pred_word q) m.shared ≡ link curr → ToLinked N g.slot_use (pointee (m.shared.entry_next curr))
  succ-links b q curr h is =
      let listed_there = to_slot N g.slot_use curr (pointee (read (pred_word q) m.shared)) (ap pointee is ∙ pointee-link curr)
      (pred-links b q h (link_untagged (read (pred_word q) m.shared) curr is)) in
      inv.listed.next curr listed_there.0 listed_there.1

  module _ (m' : Machine) (g' : Ghost) (b : ℕ) where
    abbrev After' : After → Type 0
    After' = Slots N m' g' b

    ruleset slotted = (on_slots, done_slots, pick_slots, collected_slots, finalize_slots, pops_slots, advanced_slots, defer_slots, pushed_slots, seal_slots)

    -- a pointer into the list, after the move
    links_safe : Stays N m m' g g' b → (l : Ptr) → ToLinked N g.slot_use l → SafePtr N g' b l
    links_safe st l h = ptr_stays N m m' g g' b st l (in_list_safe N g b l h)

    -- a push inside a walk still holds what the walk goes on with
    still : (f : Then) (a : PushAt) → (holds_slots (Place.Push f a) ≡ true → Stays N m m' g g' b × SlotsAt N m g b (Place.Push f a)) → SlotsThen N g' b f
    unfolding SlotsAt holds_slots
    still f a h = then_stays N m m' g g' b (h refl).0 f (h refl).1

    -- after the access of each place
    own_slots : (self : Slot) (spare : Node) (sealed : Node → ℕ) (o : Participant) (pl : Place)
        → (holds_slots pl ≡ true → Stays N m m' g g' b × SlotsAt N m g b pl) → Leads (λ won s a. After' a) m.shared (rule self spare sealed o pl)
    unfolding Leads rule insert delete iterate push pop pin_epoch pin_word pin_counted unpin_word repin advance_epoch advance_word advance_store final_word read SlotsAt SlotsThen holds_slots HoldsWalk
    own_slots self spare sealed o Place.Rest h = search slotted
    own_slots self spare sealed o (Place.Register RegisterAt.Head) h = search slotted
    own_slots self spare sealed o (Place.Register (RegisterAt.Next next)) h = search slotted
    own_slots self spare sealed o (Place.Register (RegisterAt.Link next)) h = (λ _. search slotted, λ _. search slotted)
    own_slots self spare sealed o (Place.PinEpoch k) h = search slotted
    own_slots self spare sealed o (Place.PinWord k e) h = search slotted
    own_slots self spare sealed o (Place.Repin RepinAt.Word) h = search slotted
    own_slots self spare sealed o (Place.Repin (RepinAt.Epoch e)) h = search slotted
    own_slots self spare sealed o (Place.Repin (RepinAt.Store e)) h = search slotted
    own_slots self spare sealed o Place.UnpinWord h = search slotted
    own_slots self spare sealed o (Place.AdvanceEpoch k) h = search slotted
    own_slots self spare sealed o (Place.Walk t WalkAt.Head) h = walk_slots N m' g' b t Pred.Head (pointee m.shared.list_head) o (unfold SafePred in tt)
        (links_safe (h refl).0 (pointee m.shared.list_head) inv.listed.head)
    own_slots self spare sealed o (Place.Walk t (WalkAt.Next c)) h =
        let st = (h refl).0 in
        let holds = (h refl).1 in
        let w = m.shared.entry_next c.curr.0 in
        branch_ind After' (is_tagged w)
        (λ tag. on_slots N m' g' b (Place.Walk t (WalkAt.Unlink c (pointee w))) o (
          (pred-stays N m m' g g' b st c.pred holds.0, st.safe c.curr.0 holds.1),
          rw (st.next c.curr.0 holds.1 tag) (tag, refl),
        ))
        (λ plain. on_slots N m' g' b (Place.AdvanceWord t c.curr (pointee w)) o (
          st.safe c.curr.0 holds.1,
          links_safe st (pointee w) (inv.listed.next c.curr.0 (in_range_lem N g b c.curr.0 holds.1) (safe_linked N m g inv.records b c.curr.0 holds.1 plain)),
        ))
    own_slots self spare sealed o (Place.Walk t (WalkAt.Unlink c succ)) h =
        let st = (h refl).0 in
        let holds = (h refl).1 in
        let w = read (pred_word c.pred) m.shared in
        let pred = pred-stays N m m' g g' b st c.pred holds.0.0 in (
          (λ won. defer_slots N m' g' b (Deferring.Slot t c succ) o
              (pred, links_safe st succ (rw holds.1.1 at (succ-links b c.pred c.curr.0 holds.0.0 won)))),
          (λ _. branch_ind After' (is_tagged w)
              (λ _. on_slots N m' g' b (Place.Walk t WalkAt.Stalled) o tt)
              (λ plain. walk_slots N m' g' b t c.pred (pointee w) o pred (links_safe st (pointee w) (pred-links b c.pred holds.0.0 plain)))),
        )
    own_slots self spare sealed o (Place.Walk t WalkAt.Stalled) h = search slotted
    own_slots self spare sealed o (Place.AdvanceWord t curr succ) h = pick_slots N m' g' b _ _ _ (advanced_slots N m' g' b t.owner t.epoch o)
        (walk_slots N m' g' b t (Pred.Entry curr) succ o (unfold SafePred in ((h refl).0.safe curr.0 (h refl).1.0)) (ptr_stays N m m' g g' b (h refl).0 succ (h refl).1.1))
    own_slots self spare sealed o (Place.AdvanceStore t) h = search slotted
    own_slots self spare sealed o (Place.Pop q PopAt.Head) h = search slotted
    own_slots self spare sealed o (Place.Pop q (PopAt.Next head)) h = search slotted
    own_slots self spare sealed o (Place.Pop q (PopAt.Exchange head next)) h = (λ _. search slotted, λ _. search slotted)
    own_slots self spare sealed o (Place.Pop q (PopAt.Tail head next)) h = search slotted
    own_slots self spare sealed o (Place.Pop q (PopAt.TailMove head next)) h = (λ _. search slotted, λ _. search slotted)
    own_slots self spare sealed o (Place.Push f PushAt.Epoch) h = let waits = still f PushAt.Epoch h in search slotted
    own_slots self spare sealed o (Place.Push f (PushAt.Tail new)) h = let waits = still f (PushAt.Tail new) h in search slotted
    own_slots self spare sealed o (Place.Push f (PushAt.Next new onto)) h = let waits = still f (PushAt.Next new onto) h in search slotted
    own_slots self spare sealed o (Place.Push f (PushAt.Help new onto next)) h = let waits = still f (PushAt.Help new onto next) h in (λ _. search slotted, λ _. search slotted)
    own_slots self spare sealed o (Place.Push f (PushAt.Link new onto)) h = let waits = still f (PushAt.Link new onto) h in (λ _. search slotted, λ _. search slotted)
    own_slots self spare sealed o (Place.Push f (PushAt.Move new onto)) h = let waits = still f (PushAt.Move new onto) h in (λ _. search slotted, λ _. search slotted)
    own_slots self spare sealed o Place.FinalWord h = search slotted
    own_slots self spare sealed o Place.FinalTag h = search slotted

-- ---- after a step

-- a table of records with one changed, by whose place it is
pub by_place : (P : Place → Type 0) (own own' : Tab Participant) (p : ℕ) (o : Participant) → own' ≡ put own p o → (q : ℕ) → (p ≡ q → P o.place) → (p ≢ q → P (own q).place)
    → P (own' q).place
by_place P own own' p o e q h k = rw e (put_ind (λ (r : Participant). P r.place) own p q o h k)

module _ (N M p : ℕ) (m : Machine) (g : Ghost) (inv : Inv N M m g) (st : Steps N M p m) where
  -- what each place holds of slots before it
  slots_before : (q : ℕ) → q < N → SlotsAt N m g (g.gpin q) (m.own q).place
  slots_before q hq = slots_of N M m g (g.gpin q) (m.own q).place (inv.held.holds q hq)

  -- the word of a participant that holds slots, or does not step, stays, and so its pin
  pin-kept : (q : ℕ) → (p ≡ q → holds_slots (m.own p).place ≡ true) → (stepped_ghost M p m g).gpin q ≡ g.gpin q
  unfolding stepped_ghost goes_ghost moved
  pin-kept q h = gpin_same (G m) m.shared.word (left_of M p m).word g.gpin q (same? p q
      (λ e. rw (← e) (own_word p (m.own p).place m.shared (left_of M p m) (turn_of p (m.own p).place (won_of M p m)) (step-change M p m) (h e)))
      (λ ne. word-kept p (m.own p).place m.shared (left_of M p m) (turn_of p (m.own p).place (won_of M p m)) (step-change M p m) q (λ e. ne (sym e))))

  -- whoever holds slots is pinned, so they stay
  step-holds : (q : ℕ) → q < N → holds_slots (m.own q).place ≡ true → Stays N m (stepped M p m) g (stepped_ghost M p m g) (g.gpin q)
  step-holds q hq i = step-stays N M p m g inv st q hq (under-pin N m g inv.records q hq (holder_under-pin (m.own q).place i))

  -- p's own next place
  step_own : SlotsAt N (stepped M p m) (stepped_ghost M p m g) ((stepped_ghost M p m g).gpin p) (after_of M p m).participant.place
  unfolding Slots after_of rule_of
  step_own = leads (λ won s a. Slots N (stepped M p m) (stepped_ghost M p m g) ((stepped_ghost M p m g).gpin p) a) m.shared
      (rule (record { 0 = p }) (record { 0 = least M m.node_free }) (λ n. (m.bag n.0).epoch) (m.own p) (m.own p).place)
      (own_slots N M m g inv (stepped M p m) (stepped_ghost M p m g) ((stepped_ghost M p m g).gpin p) (record { 0 = p }) (record { 0 = least M m.node_free }) (λ n. (m.bag n.0).epoch)
      (m.own p) (m.own p).place (λ i. rw (pin-kept p (λ _. i)) (step-holds p st.here i, slots_before p st.here)))

  -- what everybody holds of slots after a step
  pub slots_step : (q : ℕ) → q < N → SlotsAt N (stepped M p m) (stepped_ghost M p m g) ((stepped_ghost M p m g).gpin q) ((stepped M p m).own q).place
  slots_step q hq = by_place (SlotsAt N (stepped M p m) (stepped_ghost M p m g) ((stepped_ghost M p m g).gpin q)) m.own (stepped M p m).own p (after_of M p m).participant
      (stepped_own M p m) q
      (λ e. rw (← e) step_own)
      (λ ne. rw (pin-kept q (λ e. absurd (ne e)))
      (slots_stay N m (stepped M p m) g (stepped_ghost M p m g) (g.gpin q) (m.own q).place (step-holds q hq) (slots_before q hq)))

-- ---- after a call, and after registering

module _ (N M p : ℕ) (c : Call) (m : Machine) (g : Ghost) (inv : Inv N M m g) (ca : Calls N M p c m) where
  -- a call changes no use and no link
  call-stays : (b : ℕ) → Stays N m (called N p c m) g (called_ghost N p c m g) b
  unfolding called called_ghost moved use_turned gone_turned opens SafeSlot
  call-stays b = record {
    safe = λ x h. rw (light_uses m (begins c _) g.slot_use (begins_light c _)) h;
    next = λ x h tag. ap (λ (t : Tab ℕ). t x) (followed_next p (begins c _) m);
  }

  -- it stores no word
  call-pin : (q : ℕ) → (called_ghost N p c m g).gpin q ≡ g.gpin q
  unfolding called_ghost moved
  call-pin q = gpin_same (G m) m.shared.word m.shared.word g.gpin q refl

  -- and it leads to a place that holds nothing
  call_own : (b : ℕ) → SlotsAt N (called N p c m) (called_ghost N p c m g) b (opens N c (m.own p)).participant.place
  unfolding Slots opens
  call_own b = begins_slots N (called N p c m) (called_ghost N p c m g) b c _

  -- everybody else's record is as it was
  call-record : (called N p c m).own ≡ put m.own p (opens N c (m.own p)).participant
  unfolding called
  call-record = followed_own p (opens N c (m.own p)) m

  -- what everybody holds of slots after a call
  pub slots_call : (q : ℕ) → q < N → SlotsAt N (called N p c m) (called_ghost N p c m g) ((called_ghost N p c m g).gpin q) ((called N p c m).own q).place
  slots_call q hq = rw (call-pin q)
      (by_place (SlotsAt N (called N p c m) (called_ghost N p c m g) (g.gpin q)) m.own (called N p c m).own p (opens N c (m.own p)).participant call-record q
      (λ _. call_own (g.gpin q))
      (λ _. slots_stay N m (called N p c m) g (called_ghost N p c m g) (g.gpin q) (m.own q).place (λ _. call-stays (g.gpin q))
      (slots_of N M m g (g.gpin q) (m.own q).place (inv.held.holds q hq))))

module _ (N M p : ℕ) (m : Machine) (g : Ghost) (inv : Inv N M m g) (re : I.Registers N p m) where
  -- the slot that is registered was free, so nobody holds it
  not_held : (b x : ℕ) → SafeSlot N g b x → p ≢ x
  unfolding SafeSlot SafeUse
  not_held b x h e = rw (ap g.slot_use (sym e) ∙ free_unused N m g inv.records p re.here re.free) at h.1

  -- and what they hold stays
  register-stays : (b : ℕ) → Stays N m (registered p m) g (registered_ghost p g) b
  unfolding registered registered_ghost write SafeSlot
  register-stays b = record {
    safe = λ x h. (h.0, rw (put_other g.slot_use p x Use.registering (not_held b x h)) h.1);
    next = λ x h tag. put_other m.shared.entry_next p x null (not_held b x h);
  }

  -- everybody else's record and pin are as they were
  register-record : (registered p m).own ≡ put m.own p new_participant
  unfolding registered
  register-record = refl

  register-pin : (q : ℕ) → (registered_ghost p g).gpin q ≡ g.gpin q
  unfolding registered_ghost
  register-pin q = refl

  -- what everybody holds of slots after a registering
  pub slots_register : (q : ℕ) → q < N → SlotsAt N (registered p m) (registered_ghost p g) ((registered_ghost p g).gpin q) ((registered p m).own q).place
  slots_register q hq = rw (register-pin q)
      (by_place (SlotsAt N (registered p m) (registered_ghost p g) (g.gpin q)) m.own (registered p m).own p new_participant register-record q
      (λ _. unfold SlotsAt new_participant in tt)
      (λ _. slots_stay N m (registered p m) g (registered_ghost p g) (g.gpin q) (m.own q).place (λ _. register-stays (g.gpin q))
      (slots_of N M m g (g.gpin q) (m.own q).place (inv.held.holds q hq))))
