-- Room for the participant that moves: what its bag and the bags of its share can still take is enough for whatever its operation can still
-- retire. A walk retires at most the slots that left the list since its pin, N at most; a collect at most its pops; a push begun with a full
-- bag takes a node that was counted. One law for each function of specs/Flow, then one line a place and one a call. Assumes nothing.
use mathlib.Core.Path.{◌≡◌, refl, ap, sym, ◌∙◌}
use mathlib.Core.Bool.{Bool, true, false, true≢false}
use mathlib.Core.List.{List, []}
use Prim.Native.Nat.{ℕ, ◌+◌, ◌-◌, ◌*◌, ◌≤◌, ◌<◌}
use native.Mathlib.Omega.{arith}
use lib.Dec.{eqb, ltb, leb}
use lib.ListN.{length}
use borrow.Author.Tests.{eqb-true, eq-eqb, ltb-false, leb-false}
use Rattle.definition.specs.Base.{branch}
use Rattle.definition.specs.Bags.{max_objects}
use Rattle.definition.specs.Flow.{collect_steps, on, done, also, finalize, collected, pops, advanced, walk, placed, defer, pushed, holding}
use Rattle.definition.specs.Tables.{Shared}
use Rattle.definition.specs.List.{insert, delete, iterate}
use Rattle.definition.specs.Queue.{seal_bag, push, pop}
use Rattle.definition.specs.Internal.{collects, pin_epoch, pin_word, pin_counted, unpin_word, repin, advance_epoch, advance_word, advance_store, final_word, rule}
use Rattle.definition.specs.Calls.{finalizes, overflow, pin_needs, needs, begins, opens}
use Rattle.definition.proofs.Base.{branch_ind, branch-true, branch-false, and_intro}
use Rattle.definition.proofs.Within.{PlaceIn, ThenIn}
use Rattle.theorems.proofs.Leads.{Leads}
use Rattle.theorems.proofs.Ghost.{Use}
use Rattle.theorems.proofs.Linked.{under_pin}
use Rattle.theorems.proofs.Invariant.{FullFor, Live, Registers, InList, Fine, reserve_of, cap_of, RoomThen, RoomPush, RoomPin, RoomWalk, Room}
use Rattle.theorems.proofs.Types.{Epoch, Node, Ptr, Pred, Item, Owner, Try, Deferring, Then, RegisterAt, RepinAt, WalkAt, PopAt, PushAt}
use Rattle.theorems.proofs.Types.{Place, Participant, Work, After, Call}

-- ---- room where more slots have left

-- of what a push goes on with
then_up : (N k s w v : ℕ) (a : PushAt) (f : Then) → w ≤ v → RoomThen N k s w a f → RoomThen N k s v a f
unfolding RoomThen
then_up N k s w v a (Then.Defer (Deferring.Token token)) le h = tt
then_up N k s w v a (Then.Defer (Deferring.Slot t c succ)) le h = (h.0, let i = h.1 in omega arith)
then_up N k s w v a (Then.Defer (Deferring.Node p head next)) le h = h
then_up N k s w v a Then.Flush le h = h
then_up N k s w v a Then.Finalize le h = tt

-- the places whose room counts them: under a pin, all
unfoldable pub counts_left : Place → Bool
counts_left Place.Rest = false
counts_left (Place.Register a) = false
counts_left (Place.PinEpoch k) = false
counts_left (Place.PinWord k e) = false
counts_left (Place.Repin a) = false
counts_left Place.UnpinWord = false
counts_left (Place.AdvanceEpoch k) = true
counts_left (Place.Walk t a) = true
counts_left (Place.AdvanceWord t curr succ) = true
counts_left (Place.AdvanceStore t) = true
counts_left (Place.Pop q a) = false
counts_left (Place.Push f a) = true
counts_left Place.FinalWord = false
counts_left Place.FinalTag = false

-- each of them is a place under a pin
pub counts_under : (pl : Place) → counts_left pl ≡ true → under_pin pl ≡ true
unfolding counts_left under_pin
counts_under Place.Rest h = absurd (true≢false (sym h))
counts_under (Place.Register a) h = absurd (true≢false (sym h))
counts_under (Place.PinEpoch k) h = absurd (true≢false (sym h))
counts_under (Place.PinWord k e) h = absurd (true≢false (sym h))
counts_under (Place.Repin a) h = absurd (true≢false (sym h))
counts_under Place.UnpinWord h = absurd (true≢false (sym h))
counts_under (Place.AdvanceEpoch k) h = refl
counts_under (Place.Walk t a) h = refl
counts_under (Place.AdvanceWord t curr succ) h = refl
counts_under (Place.AdvanceStore t) h = refl
counts_under (Place.Pop q a) h = absurd (true≢false (sym h))
counts_under (Place.Push f a) h = refl
counts_under Place.FinalWord h = absurd (true≢false (sym h))
counts_under Place.FinalTag h = absurd (true≢false (sym h))

-- there more of them only help; elsewhere they do not matter
pub room_up : (N : ℕ) (pl : Place) (pins h k s w v : ℕ) → (counts_left pl ≡ true → w ≤ v) → Room N pl pins h k s w → Room N pl pins h k s v
unfolding Room counts_left
room_up N Place.Rest pins h k s w v le x = x
room_up N (Place.Register a) pins h k s w v le x = x
room_up N (Place.PinEpoch o) pins h k s w v le x = x
room_up N (Place.PinWord o e) pins h k s w v le x = x
room_up N (Place.Repin a) pins h k s w v le x = x
room_up N Place.UnpinWord pins h k s w v le x = x
room_up N (Place.AdvanceEpoch o) pins h k s w v le x = (x.0, let i = x.1 in let j = le refl in omega arith)
room_up N (Place.Walk t a) pins h k s w v le x = (x.0, let i = x.1 in let j = le refl in omega arith)
room_up N (Place.AdvanceWord t curr succ) pins h k s w v le x = (x.0, let i = x.1 in let j = le refl in omega arith)
room_up N (Place.AdvanceStore t) pins h k s w v le x = (x.0, let i = x.1 in let j = le refl in omega arith)
room_up N (Place.Pop q a) pins h k s w v le x = x
room_up N (Place.Push f a) pins h k s w v le x = (then_up N k s w v a f (le refl) x.0, x.1)
room_up N Place.FinalWord pins h k s w v le x = x
room_up N Place.FinalTag pins h k s w v le x = x

-- ---- what a place says of its bag, by its length: full where a push with an item begins, empty once a push has its node

-- by what the push goes on with
unfoldable pub FilledFor : Then → ℕ → Type 0
FilledFor (Then.Defer d) k = k ≡ max_objects
FilledFor Then.Flush k = Unit {0}
FilledFor Then.Finalize k = Unit {0}

-- by the place
unfoldable pub Filled : Place → ℕ → Type 0
Filled Place.Rest k = Unit {0}
Filled (Place.Register a) k = Unit {0}
Filled (Place.PinEpoch o) k = Unit {0}
Filled (Place.PinWord o e) k = Unit {0}
Filled (Place.Repin a) k = Unit {0}
Filled Place.UnpinWord k = Unit {0}
Filled (Place.AdvanceEpoch o) k = Unit {0}
Filled (Place.Walk t a) k = Unit {0}
Filled (Place.AdvanceWord t curr succ) k = Unit {0}
Filled (Place.AdvanceStore t) k = Unit {0}
Filled (Place.Pop q a) k = Unit {0}
Filled (Place.Push f PushAt.Epoch) k = FilledFor f k
Filled (Place.Push f (PushAt.Tail new)) k = k ≡ 0
Filled (Place.Push f (PushAt.Next new onto)) k = k ≡ 0
Filled (Place.Push f (PushAt.Help new onto next)) k = k ≡ 0
Filled (Place.Push f (PushAt.Link new onto)) k = k ≡ 0
Filled (Place.Push f (PushAt.Move new onto)) k = k ≡ 0
Filled Place.FinalWord k = Unit {0}
Filled Place.FinalTag k = Unit {0}

-- from the clause about records
filled_for : (f : Then) (b : List Item) (k : ℕ) → length b ≡ k → FullFor f b → FilledFor f k
unfolding FullFor FilledFor
filled_for (Then.Defer d) b k e h = sym e ∙ h
filled_for Then.Flush b k e h = tt
filled_for Then.Finalize b k e h = tt

-- an empty bag has no length
empty_is : (b : List Item) (k : ℕ) → length b ≡ k → b ≡ [] → k ≡ 0
empty_is b k e h = sym e ∙ ap (λ (l : List Item). length l) h

-- nothing is said at rest
rest-filled : (pl : Place) (k : ℕ) → pl ≡ Place.Rest → Filled pl k
unfolding Filled
rest-filled pl k e = rw e tt

-- nor while registering
registers-filled : (pl : Place) (k : ℕ) → Registers pl → Filled pl k
unfolding Filled Registers
registers-filled Place.Rest k h = absurd h
registers-filled (Place.Register a) k h = tt
registers-filled (Place.PinEpoch o) k h = absurd h
registers-filled (Place.PinWord o e) k h = absurd h
registers-filled (Place.Repin a) k h = absurd h
registers-filled Place.UnpinWord k h = absurd h
registers-filled (Place.AdvanceEpoch o) k h = absurd h
registers-filled (Place.Walk t a) k h = absurd h
registers-filled (Place.AdvanceWord t curr succ) k h = absurd h
registers-filled (Place.AdvanceStore t) k h = absurd h
registers-filled (Place.Pop q a) k h = absurd h
registers-filled (Place.Push f a) k h = absurd h
registers-filled Place.FinalWord k h = absurd h
registers-filled Place.FinalTag k h = absurd h

-- of a registered participant
live_filled : (pl : Place) (v : Bool) (g s : ℕ) (b : List Item) (k : ℕ) → length b ≡ k → Live pl v g s b → Filled pl k
unfolding Live Filled
live_filled Place.Rest v g s b k e h = tt
live_filled (Place.Register a) v g s b k e h = tt
live_filled (Place.PinEpoch o) v g s b k e h = tt
live_filled (Place.PinWord o x) v g s b k e h = tt
live_filled (Place.Repin a) v g s b k e h = tt
live_filled Place.UnpinWord v g s b k e h = tt
live_filled (Place.AdvanceEpoch o) v g s b k e h = tt
live_filled (Place.Walk t a) v g s b k e h = tt
live_filled (Place.AdvanceWord t curr succ) v g s b k e h = tt
live_filled (Place.AdvanceStore t) v g s b k e h = tt
live_filled (Place.Pop q a) v g s b k e h = tt
live_filled (Place.Push f PushAt.Epoch) v g s b k e h = filled_for f b k e h.1
live_filled (Place.Push f (PushAt.Tail new)) v g s b k e h = empty_is b k e h.1
live_filled (Place.Push f (PushAt.Next new onto)) v g s b k e h = empty_is b k e h.1
live_filled (Place.Push f (PushAt.Help new onto next)) v g s b k e h = empty_is b k e h.1
live_filled (Place.Push f (PushAt.Link new onto)) v g s b k e h = empty_is b k e h.1
live_filled (Place.Push f (PushAt.Move new onto)) v g s b k e h = empty_is b k e h.1
live_filled Place.FinalWord v g s b k e h = tt
live_filled Place.FinalTag v g s b k e h = tt

-- of any slot
pub fine_filled : (u : Use) (t v : Bool) (o : Participant) (b : List Item) → length b ≡ o.held → Fine u t v o b → Filled o.place o.held
unfolding Fine InList
fine_filled Use.unused t v o b e h = rest-filled o.place o.held h.0
fine_filled Use.registering t v o b e h = registers-filled o.place o.held h.0
fine_filled Use.linked true v o b e h = rest-filled o.place o.held h.0
fine_filled Use.linked false v o b e h = live_filled o.place v o.counts.guards o.share b o.held e h
fine_filled Use.out t v o b e h = rest-filled o.place o.held h.0.0

-- ---- what follows

-- room at the new place
unfoldable pub RoomAfter : (N w : ℕ) → After → Type 0
RoomAfter N w a = Room N a.participant.place a.participant.counts.pins a.participant.counts.handles a.participant.held a.participant.share w

-- room for an item that is deferred: a token needs a node where the bag is full
unfoldable pub RoomFor : (N : ℕ) → Deferring → (k share w : ℕ) → Type 0
RoomFor N (Deferring.Token token) k s w = max_objects ≤ k → 1 ≤ s
RoomFor N (Deferring.Slot t c succ) k s w = (reserve_of t.owner ≤ s) × (k + 1 + N + collect_steps ≤ cap_of s (reserve_of t.owner) + w)
RoomFor N (Deferring.Node p head next) k s w = (1 ≤ p.left) × ((reserve_of p.owner ≤ s) × (k + p.left ≤ cap_of s (reserve_of p.owner)))

module _ (N w : ℕ) where
  -- before an access
  on_room : (pl : Place) (o : Participant) → Room N pl o.counts.pins o.counts.handles o.held o.share w → RoomAfter N w (on pl o)
  unfolding RoomAfter on
  on_room pl o h = h

  -- at the end of an operation
  done_room : (v : ℕ) (o : Participant) → RoomAfter N w (done v o)
  unfolding RoomAfter done Room
  done_room v o = tt

  -- whatever the work
  also_room : (x : Work) (a : After) → RoomAfter N w a → RoomAfter N w (also x a)
  unfolding RoomAfter also
  also_room x a h = h

  -- either way
  pick_room : (b : Bool) (x y : After) → RoomAfter N w x → RoomAfter N w y → RoomAfter N w (branch b x y)
  pick_room b x y h k = branch_ind (RoomAfter N w) b (λ _. h) (λ _. k)

  -- a collect that is over leaves what a finalize still needs
  collected_room : (k : Owner) (o : Participant) → reserve_of k ≤ o.share → RoomAfter N w (collected k o)
  unfolding collected Room RoomThen RoomPush reserve_of
  collected_room Owner.Pin o h = done_room 0 o
  collected_room Owner.Flush o h = done_room 0 o
  collected_room Owner.Finalize o h = on_room (Place.Push Then.Finalize PushAt.Epoch) o (tt, h)

  -- a finalize pins
  finalize_room : (o : Participant) → RoomPin N o.counts.pins o.held o.share 1 → RoomAfter N w (finalize o)
  unfolding finalize Room reserve_of
  finalize_room o h = on_room (Place.PinEpoch Owner.Finalize) _ h

  -- another pop, or the end of the collect
  pops_room : (k : Owner) (e : Epoch) (left : ℕ) (o : Participant) → (reserve_of k ≤ o.share) × (o.held + left ≤ cap_of o.share (reserve_of k)) → RoomAfter N w (pops k e left o)
  unfolding pops Room
  pops_room k e left o h = pick_room _ _ _ (collected_room k o h.0) (on_room (Place.Pop (record { owner = k; epoch = e; left = left }) PopAt.Head) o h)

  -- the next entry, or the end of the list
  walk_room : (t : Try) (pred : Pred) (q : Ptr) (o : Participant) → RoomWalk N t.owner o.held o.share w → RoomAfter N w (walk t pred q o)
  unfolding walk Room
  walk_room t pred Ptr.Null o h = on_room (Place.AdvanceStore t) o h
  walk_room t pred (Ptr.At i) o h = on_room (Place.Walk t (WalkAt.Next (record { pred = pred; curr = i }))) o h

  -- the item is in the bag: one more is held, and one fewer is to come
  placed_room : (d : Deferring) (k : ℕ) (o : Participant) → o.held ≡ k + 1 → RoomFor N d k o.share w → RoomAfter N w (placed d o)
  unfolding placed RoomFor
  placed_room (Deferring.Token token) k o e h = also_room _ _ (done_room _ o)
  placed_room (Deferring.Slot t c succ) k o e h = also_room _ _ (walk_room t c.pred succ o (h.0, let i = h.1 in omega arith))
  placed_room (Deferring.Node p head next) k o e h =
      also_room _ _ (pops_room p.owner p.epoch (p.left - 1) o (h.1.0, let i = h.1.1 in let j = h.0 in omega arith))

  module _ (le : w ≤ N) where
    -- a walk that is over leaves room for the pops: no more than N slots can have left
    advanced_room : (k : Owner) (e : Epoch) (o : Participant) → RoomWalk N k o.held o.share w → RoomAfter N w (advanced k e o)
    unfolding advanced
    advanced_room k e o h = pops_room k e collect_steps o (h.0, let i = h.1 in omega arith)

    -- an item that finds the bag full: a node of the share is left for it
    full_room : (d : Deferring) (k s : ℕ) (a : PushAt) → max_objects ≤ k → RoomFor N d k s w → RoomThen N k s w a (Then.Defer d) × (1 ≤ s)
    unfolding RoomFor RoomThen max_objects collect_steps
    full_room (Deferring.Token token) k s a full h = (tt, h full)
    full_room (Deferring.Slot t c succ) k s a full h = (h, let i = h.1 in let j = h.0 in omega arith)
    full_room (Deferring.Node p head next) k s a full h = (h.1, let i = h.1.1 in let j = h.1.0 in let l = h.0 in omega arith)

    -- an item finds room, or a push comes first
    defer_room : (d : Deferring) (o : Participant) → RoomFor N d o.held o.share w → RoomAfter N w (defer d o)
    unfolding defer Room RoomPush
    defer_room d o h = branch_ind (RoomAfter N w) (ltb o.held max_objects) (λ _. placed_room d o.held (holding (o.held + 1) o) refl h)
        (λ z. on_room (Place.Push (Then.Defer d) PushAt.Epoch) o (full_room d o.held o.share PushAt.Epoch (ltb-false o.held max_objects z) h))

    -- a push whose item waits, before it has its node and after
    for_push : (M : ℕ) (d : Deferring) (k s : ℕ) (a : PushAt) → k < max_objects → ThenIn N M (Then.Defer d) → RoomThen N k s w a (Then.Defer d) → RoomFor N d k s w
    unfolding RoomFor RoomThen ThenIn
    for_push M (Deferring.Token token) k s a lt i h = λ full. absurd (omega arith)
    for_push M (Deferring.Slot t c succ) k s a lt i h = h
    for_push M (Deferring.Node p head next) k s a lt i h = (i.0.0, h)

    -- a push returns with an empty bag
    pushed_room : (M : ℕ) (f : Then) (a : PushAt) (o : Participant) → o.held ≡ 0 → ThenIn N M f → RoomThen N o.held o.share w a f → RoomAfter N w (pushed f o)
    unfolding pushed Room RoomThen reserve_of max_objects
    pushed_room M (Then.Defer d) a o e i h = defer_room d o (for_push M d o.held o.share a (unfold max_objects in (omega arith)) i h)
    pushed_room M Then.Flush a o e i h = on_room (Place.AdvanceEpoch Owner.Flush) o (omega arith, omega arith)
    pushed_room M Then.Finalize a o e i h = on_room Place.FinalWord _ tt

    -- the bag is sealed: it is empty, and one node of the share is gone
    seal_then : (M : ℕ) (f : Then) (k s : ℕ) (a : PushAt) → FilledFor f k → ThenIn N M f → RoomThen N k s w PushAt.Epoch f → RoomPush N s PushAt.Epoch f → RoomThen N 0 (s - 1) w a f
    unfolding FilledFor ThenIn RoomThen RoomPush max_objects collect_steps
    seal_then M (Then.Defer (Deferring.Token token)) k s a e i h r = tt
    seal_then M (Then.Defer (Deferring.Slot t c succ)) k s a e i h r = let j = h.1 in let l = h.0 in (omega arith, omega arith)
    seal_then M (Then.Defer (Deferring.Node p head next)) k s a e i h r = let j = h.1 in let l = h.0 in let q = i.0.0 in (omega arith, omega arith)
    seal_then M Then.Flush k s a e i h r = let j = r.1 in let l = r.0 in omega arith
    seal_then M Then.Finalize k s a e i h r = tt

    -- so a push that takes its node has room as before
    seal_room : (M : ℕ) (spare : Node) (f : Then) (v : ℕ) (o : Participant) → FilledFor f o.held → ThenIn N M f
        → RoomThen N o.held o.share w PushAt.Epoch f → RoomPush N o.share PushAt.Epoch f → RoomAfter N w (seal_bag spare f v o)
    unfolding seal_bag Room RoomPush
    seal_room M spare f v o e i h r = also_room _ _ (on_room (Place.Push f (PushAt.Tail spare)) _ (seal_then M f o.held o.share (PushAt.Tail spare) e i h r, tt))

    ruleset rooms = (on_room, done_room, also_room, pick_room, collected_room, finalize_room, pops_room, walk_room, advanced_room, defer_room, pushed_room, seal_room)

    -- a pin is counted, and collects or not
    pin-counted : (k : Owner) (o : Participant) → RoomPin N o.counts.pins o.held o.share (reserve_of k) → RoomAfter N w (pin_counted k o)
    unfolding pin_counted Room RoomPin
    pin-counted k o h = branch_ind (RoomAfter N w) (collects o.counts.pins) (λ z. on_room (Place.AdvanceEpoch k) _ (h.0, let i = h.1 z in omega arith)) (λ _. collected_room k _ h.0)

    -- a push that goes on wants what it wanted
    push_on : (f : Then) (a b : PushAt) (k s : ℕ) → RoomThen N k s w a f → RoomThen N k s w b f
    unfolding RoomThen
    push_on (Then.Defer (Deferring.Token token)) a b k s h = tt
    push_on (Then.Defer (Deferring.Slot t c succ)) a b k s h = h
    push_on (Then.Defer (Deferring.Node p head next)) a b k s h = h
    push_on Then.Flush a b k s h = h
    push_on Then.Finalize a b k s h = tt

    -- a slot that is unlinked now has left since the pin
    unfoldable pub Gains : Place → (k share : ℕ) → Type 0
    Gains Place.Rest k s = Unit {0}
    Gains (Place.Register a) k s = Unit {0}
    Gains (Place.PinEpoch o) k s = Unit {0}
    Gains (Place.PinWord o e) k s = Unit {0}
    Gains (Place.Repin a) k s = Unit {0}
    Gains Place.UnpinWord k s = Unit {0}
    Gains (Place.AdvanceEpoch o) k s = Unit {0}
    Gains (Place.Walk t WalkAt.Head) k s = Unit {0}
    Gains (Place.Walk t (WalkAt.Next c)) k s = Unit {0}
    Gains (Place.Walk t (WalkAt.Unlink c succ)) k s = k + 1 + N + collect_steps ≤ cap_of s (reserve_of t.owner) + w
    Gains (Place.Walk t WalkAt.Stalled) k s = Unit {0}
    Gains (Place.AdvanceWord t curr succ) k s = Unit {0}
    Gains (Place.AdvanceStore t) k s = Unit {0}
    Gains (Place.Pop q a) k s = Unit {0}
    Gains (Place.Push f a) k s = Unit {0}
    Gains Place.FinalWord k s = Unit {0}
    Gains Place.FinalTag k s = Unit {0}

    abbrev pub RoomQ : Place → Participant → Bool → Shared → After → Type 0
    RoomQ pl o won s a = (won ≡ true → Gains pl o.held o.share) → RoomAfter N w a

    -- after the access of each place
    pub room_step : (M p : ℕ) (spare : Node) (sealed : Node → ℕ) (o : Participant) (s : Shared) (pl : Place) → PlaceIn N M pl → Filled pl o.held
        → Room N pl o.counts.pins o.counts.handles o.held o.share w → Leads (RoomQ pl o) s (rule (record { 0 = p }) spare sealed o pl)
    unfolding Leads rule insert delete iterate push pop pin_epoch pin_word pin_counted unpin_word repin advance_epoch advance_word advance_store final_word Room Gains
        PlaceIn Filled RoomPush RoomFor
    room_step M p spare sealed o s Place.Rest i e h = search rooms
    room_step M p spare sealed o s (Place.Register RegisterAt.Head) i e h = search rooms
    room_step M p spare sealed o s (Place.Register (RegisterAt.Next next)) i e h = search rooms
    room_step M p spare sealed o s (Place.Register (RegisterAt.Link next)) i e h = search rooms
    room_step M p spare sealed o s (Place.PinEpoch k) i e h = search rooms
    room_step M p spare sealed o s (Place.PinWord k x) i e h = λ _. pin-counted k o h
    room_step M p spare sealed o s (Place.Repin RepinAt.Word) i e h = search rooms
    room_step M p spare sealed o s (Place.Repin (RepinAt.Epoch x)) i e h = search rooms
    room_step M p spare sealed o s (Place.Repin (RepinAt.Store x)) i e h = search rooms
    room_step M p spare sealed o s Place.UnpinWord i e h = λ _. branch_ind (RoomAfter N w) (eqb o.counts.handles 0) (λ z. finalize_room o (h (eqb-true o.counts.handles 0 z))) (λ _. done_room 0 o)
    room_step M p spare sealed o s (Place.AdvanceEpoch k) i e h = search rooms
    room_step M p spare sealed o s (Place.Walk t WalkAt.Head) i e h = search rooms
    room_step M p spare sealed o s (Place.Walk t (WalkAt.Next c)) i e h = search rooms
    room_step M p spare sealed o s (Place.Walk t (WalkAt.Unlink c succ)) i e h = (
      λ _ y. defer_room (Deferring.Slot t c succ) o (h.0, y refl),
      λ _ _. pick_room _ _ _ (on_room (Place.Walk t WalkAt.Stalled) o h) (walk_room t c.pred _ o h),
    )
    room_step M p spare sealed o s (Place.Walk t WalkAt.Stalled) i e h = search rooms
    room_step M p spare sealed o s (Place.AdvanceWord t curr succ) i e h = search rooms
    room_step M p spare sealed o s (Place.AdvanceStore t) i e h = search rooms
    room_step M p spare sealed o s (Place.Pop q PopAt.Head) i e h = search rooms
    room_step M p spare sealed o s (Place.Pop q (PopAt.Next head)) i e h = λ _.
        let over = collected_room q.owner o h.0 in
        pick_room _ _ _ over (pick_room _ _ _ (on_room (Place.Pop q (PopAt.Exchange head _)) o h) over)
    room_step M p spare sealed o s (Place.Pop q (PopAt.Exchange head next)) i e h = search rooms
    room_step M p spare sealed o s (Place.Pop q (PopAt.Tail head next)) i e h = λ _. pick_room _ _ _ (on_room (Place.Pop q (PopAt.TailMove head next)) o h) (defer_room (Deferring.Node q head next) o (i.0.0, h))
    room_step M p spare sealed o s (Place.Pop q (PopAt.TailMove head next)) i e h = (λ _ _. defer_room (Deferring.Node q head next) o (i.0.0, h), λ _ _. defer_room (Deferring.Node q head next) o (i.0.0, h))
    room_step M p spare sealed o s (Place.Push f PushAt.Epoch) i e h = λ _. seal_room M spare f _ o e i.0 h.0 h.1
    room_step M p spare sealed o s (Place.Push f (PushAt.Tail new)) i e h = λ _. on_room (Place.Push f (PushAt.Next new _)) o (push_on f (PushAt.Tail new) _ _ _ h.0, tt)
    room_step M p spare sealed o s (Place.Push f (PushAt.Next new onto)) i e h = λ _.
        let at : (b : PushAt) → RoomThen N o.held o.share w b f = λ b. push_on f (PushAt.Next new onto) b _ _ h.0 in
        pick_room _ _ _ (on_room (Place.Push f (PushAt.Link new onto)) o (at _, tt)) (on_room (Place.Push f (PushAt.Help new onto _)) o (at _, tt))
    room_step M p spare sealed o s (Place.Push f (PushAt.Help new onto next)) i e h =
        let again = on_room (Place.Push f (PushAt.Tail new)) o (push_on f (PushAt.Help new onto next) (PushAt.Tail new) _ _ h.0, tt) in
        (λ _ _. again, λ _ _. again)
    room_step M p spare sealed o s (Place.Push f (PushAt.Link new onto)) i e h =
        let at : (b : PushAt) → RoomThen N o.held o.share w b f = λ b. push_on f (PushAt.Link new onto) b _ _ h.0 in
        (λ _ _. on_room (Place.Push f (PushAt.Move new onto)) o (at _, tt), λ _ _. on_room (Place.Push f (PushAt.Tail new)) o (at _, tt))
    room_step M p spare sealed o s (Place.Push f (PushAt.Move new onto)) i e h = (λ _ _. pushed_room M f (PushAt.Move new onto) o e i.0 h.0, λ _ _. pushed_room M f (PushAt.Move new onto) o e i.0 h.0)
    room_step M p spare sealed o s Place.FinalWord i e h = search rooms
    room_step M p spare sealed o s Place.FinalTag i e h = search rooms

-- ---- calls: what a call sets aside is enough for it

-- k items, N slots and the pops of a collect fit into one bag more than the overflow
overflow-fits : (N k s : ℕ) → overflow N k ≤ s → k + N + collect_steps ≤ cap_of s 0
unfolding overflow max_objects collect_steps
overflow-fits N k s h = omega arith

module _ (N w : ℕ) (o : Participant) where
  -- a pin that may collect, with the nodes for it and r besides
  pin-fits : (s r : ℕ) → r + pin_needs N o ≤ s → RoomPin N o.counts.pins o.held s r
  unfolding RoomPin pin_needs max_objects
  pin-fits s r h = (
    omega arith,
    λ z. let e : branch (collects o.counts.pins) (overflow N o.held) 0 ≡ overflow N o.held = branch-true _ _ z in
        let f = overflow-fits N o.held (s - r) (omega arith) in unfold max_objects in (omega arith),
  )

  -- what each call sets aside
  needs-release : finalizes Call.Release o ≡ true → 1 + pin_needs N o ≤ needs N Call.Release o
  unfolding needs
  needs-release z = rw (branch-true (1 + pin_needs N o) 0 z) (omega arith)

  -- an outermost pin
  needs-pin : eqb o.counts.guards 0 ≡ true → 0 + pin_needs N o ≤ needs N Call.Pin o
  unfolding needs
  needs-pin z = rw (branch-true (pin_needs N o) 0 z) (omega arith)

  -- an unpin that finalizes
  needs-unpin : eqb o.counts.guards 1 ≡ true → o.counts.handles ≡ 0 → 1 + pin_needs N o ≤ needs N Call.Unpin o
  unfolding needs finalizes
  needs-unpin z h = rw (branch-true (1 + pin_needs N o) 0 (and_intro (eqb o.counts.guards 1) (eqb o.counts.handles 0) z (eq-eqb o.counts.handles 0 h))) (omega arith)

  -- a token for a full bag
  needs-defer : (token : ℕ) → o.held ≤ max_objects → max_objects ≤ o.held → 1 ≤ needs N (Call.Defer token) o
  unfolding needs
  needs-defer token le ge = rw (branch-true {A = ℕ} 1 0 (eq-eqb o.held max_objects (omega arith))) (omega arith)

  -- a flush with a bag to push has a node for it, beside what its collect needs; one without holds nothing
  flush_pushes : leb 1 o.held ≡ true → (1 ≤ needs N Call.Flush o) × (N + collect_steps ≤ max_objects * needs N Call.Flush o)
  unfolding needs overflow max_objects collect_steps
  flush_pushes z = rw (branch-true {A = ℕ} 1 0 z) (omega arith, omega arith)

  -- without a bag to push
  flush-collects : leb 1 o.held ≡ false → RoomWalk N Owner.Flush o.held (needs N Call.Flush o) w
  unfolding needs overflow max_objects collect_steps reserve_of
  flush-collects z = rw (branch-false {A = ℕ} 1 0 z) (omega arith, omega (arith, leb-false 1 o.held z))

  -- at the place with which each call begins
  pub call_room : (c : Call) → w ≤ N → o.held ≤ max_objects → RoomAfter N w (opens N c o)
  unfolding opens begins Room RoomThen RoomPush RoomFor reserve_of finalizes
  call_room Call.Acquire l le = done_room N w 0 _
  call_room Call.Release l le = branch_ind (RoomAfter N w) (finalizes Call.Release o) (λ z. finalize_room N w _ (pin-fits (needs N Call.Release o) 1 (needs-release z))) (λ _. done_room N w 0 _)
  call_room Call.Pin l le = branch_ind (RoomAfter N w) (eqb o.counts.guards 0) (λ z. on_room N w (Place.PinEpoch Owner.Pin) _ (pin-fits (needs N Call.Pin o) 0 (needs-pin z))) (λ _. done_room N w 0 _)
  call_room Call.Unpin l le = branch_ind (RoomAfter N w) (eqb o.counts.guards 1)
      (λ z. on_room N w Place.UnpinWord _ (λ h. pin-fits (needs N Call.Unpin o) 1 (needs-unpin z h))) (λ _. done_room N w 0 _)
  call_room Call.Repin l le = pick_room N w _ _ _ (on_room N w (Place.Repin RepinAt.Word) _ tt) (done_room N w 0 _)
  call_room (Call.Defer token) l le = defer_room N w l (Deferring.Token token) _ (needs-defer token le)
  call_room Call.Flush l le = branch_ind (RoomAfter N w) (leb 1 o.held)
      (λ z. let f = flush_pushes z in on_room N w (Place.Push Then.Flush PushAt.Epoch) _ (flush_then f, f))
      (λ z. on_room N w (Place.AdvanceEpoch Owner.Flush) _ (flush-collects z))
    where
      flush_then : (1 ≤ needs N Call.Flush o) × (N + collect_steps ≤ max_objects * needs N Call.Flush o) → N + collect_steps ≤ max_objects * (needs N Call.Flush o + 1)
      flush_then f = unfold max_objects in (let i = f.1 in omega arith)
