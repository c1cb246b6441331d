-- A marked step whose weak exchange fails for no reason: the participant that was about to link its entry is to store its own next again. Its place is all
-- that changes, from the link of a registering to the store before it. Every clause reads the same of both places, but for the one on what the entry's
-- own next holds, which asks nothing before that store. So the invariant holds, with the ghost as it was, and nothing of its groups is argued again.
-- Leans on Inv. Assumes nothing.
use mathlib.Core.Path.{◌≡◌, refl, ap, sym, ◌∙◌}
use mathlib.Core.Bool.{Bool, true, false≢true}
use mathlib.Core.List.{List}
use lib.ListN.{length}
use Prim.Native.Nat.{ℕ, ◌+◌, ◌≤◌, ◌<◌}
use native.Mathlib.Omega.{arith}
use Rattle.epoch.specs.Epoch.{is_pinned}
use Rattle.definition.specs.Base.{put, sum}
use Rattle.definition.specs.Links.{is_tagged, is_null}
use Rattle.definition.specs.Bags.{max_objects}
use Rattle.definition.specs.Calls.{max_count}
use Rattle.definition.specs.Ranges.{is_rest}
use Rattle.definition.specs.Flow.{at}
use Rattle.definition.proofs.Base.{put_ind, sum_ext}
use Rattle.definition.proofs.Within.{PlaceIn, RegisterIn, ItemIn}
use Rattle.theorems.proofs.Machine.{Machine, with_own}
use Rattle.theorems.proofs.Ghost.{Ghost, Use, NodeUse, num, G, head_of}
use Rattle.theorems.proofs.Invariant.{Registers, Fine, Records, Epochs, Listed, Queued, Held, Used, Bagged, Roomy, RepinPins, walk_epoch, pop_epoch, store_epoch}
use Rattle.theorems.proofs.Invariant.{Of, OwnNext, HoldsAt, HoldsWalk, HoldsPop, HoldsThen, HoldsPush, has, waits, waiting_item, occurs, taken_node, old_head}
use Rattle.theorems.proofs.Invariant.{is, poppers, popped_node, Room, Unseen, Each, times, W}
use Rattle.theorems.proofs.Inv.{Inv, Ranged, Misses, missed}
use Rattle.theorems.proofs.Linked.{registers_use}
use Rattle.theorems.proofs.Types.{Ptr, Item, Deferring, Then, RegisterAt, WalkAt, PopAt, PushAt, Place, Participant}

-- what a place holds is said of the shared words and the bags
holds_same : (N M : ℕ) (m : Machine) (g : Ghost) (b p : ℕ) (o : Participant) (pl : Place) → HoldsAt N M m g b pl → HoldsAt N M (with_own p o m) g b pl
unfolding HoldsAt HoldsPop HoldsThen HoldsPush
holds_same N M m g b p o Place.Rest h = tt
holds_same N M m g b p o (Place.Register a) h = tt
holds_same N M m g b p o (Place.PinEpoch k) h = tt
holds_same N M m g b p o (Place.PinWord k e) h = tt
holds_same N M m g b p o (Place.Repin a) h = tt
holds_same N M m g b p o Place.UnpinWord h = tt
holds_same N M m g b p o (Place.AdvanceEpoch k) h = tt
holds_same N M m g b p o (Place.Walk t WalkAt.Head) h = unfold HoldsWalk in tt
holds_same N M m g b p o (Place.Walk t (WalkAt.Next c)) h = unfold HoldsWalk in h
holds_same N M m g b p o (Place.Walk t (WalkAt.Unlink c succ)) h = unfold HoldsWalk in h
holds_same N M m g b p o (Place.Walk t WalkAt.Stalled) h = unfold HoldsWalk in tt
holds_same N M m g b p o (Place.AdvanceWord t curr succ) h = h
holds_same N M m g b p o (Place.AdvanceStore t) h = tt
holds_same N M m g b p o (Place.Pop q a) h = pop_same a h
  where
    pop_same : (a : PopAt) → HoldsPop M m g b q.epoch.0 a → HoldsPop M (with_own p o m) g b q.epoch.0 a
    pop_same PopAt.Head h = tt
    pop_same (PopAt.Next head) h = h
    pop_same (PopAt.Exchange head next) h = h
    pop_same (PopAt.Tail head next) h = h
    pop_same (PopAt.TailMove head next) h = h
holds_same N M m g b p o (Place.Push f a) h = (then_same f h.0, push_same a h.1)
  where
    then_same : (f : Then) → HoldsThen N M m g b f → HoldsThen N M (with_own p o m) g b f
    then_same (Then.Defer (Deferring.Token token)) h = tt
    then_same (Then.Defer (Deferring.Slot t c succ)) h = h
    then_same (Then.Defer (Deferring.Node q head next)) h = h
    then_same Then.Flush h = tt
    then_same Then.Finalize h = tt

    push_same : (a : PushAt) → HoldsPush M m g b a → HoldsPush M (with_own p o m) g b a
    push_same PushAt.Epoch h = tt
    push_same (PushAt.Tail new) h = tt
    push_same (PushAt.Next new onto) h = h
    push_same (PushAt.Help new onto next) h = h
    push_same (PushAt.Link new onto) h = h
    push_same (PushAt.Move new onto) h = h
holds_same N M m g b p o Place.FinalWord h = tt
holds_same N M m g b p o Place.FinalTag h = tt

-- the participant that goes back
abbrev pub back : ℕ → Ptr → Machine → Participant
back p next m = at (Place.Register (RegisterAt.Next next)) (m.own p)

module _ (N p : ℕ) (next : Ptr) (m : Machine) where
  -- what is said of everybody is said of p where it now stands, and of the others as before
  pub each : (P : ℕ → Participant → Type 0) → P p (back p next m) → ((q : ℕ) → q < N → P q (m.own q)) → (q : ℕ) → q < N → P q ((missed p next m).own q)
  each P h k q hq = put_ind (P q) m.own p q (back p next m) (λ i. rw (sym i) h) (λ _. k q hq)

  -- what reads a place only, and reads both alike, reads what it read
  pub reads : {A : Type 0} (f : Place → A) → (m.own p).place ≡ Place.Register (RegisterAt.Link next)
      → f (Place.Register (RegisterAt.Next next)) ≡ f (Place.Register (RegisterAt.Link next)) → (q : ℕ) → f ((missed p next m).own q).place ≡ f (m.own q).place
  reads f stands h q = put_ind (λ o. f o.place ≡ f (m.own q).place) m.own p q (back p next m) (λ i. h ∙ rw (← i, stands) refl) (λ _. refl)

  -- what reads the same of p adds up to the same
  pub sums : (w : ℕ → Participant → ℕ) → w p (back p next m) ≡ w p (m.own p) → sum N (λ q. w q ((missed p next m).own q)) ≡ sum N (λ q. w q (m.own q))
  sums w h = sum_ext N (λ q. w q (put m.own p (back p next m) q)) (λ q. w q (m.own q))
      (λ q hq. put_ind (λ o. w q o ≡ w q (m.own q)) m.own p q (back p next m) (λ i. rw (sym i) h) (λ _. refl))

module _ (N M p : ℕ) (next : Ptr) (m : Machine) (g : Ghost) (inv : Inv N M m g) (st : Misses N p next m) where
  ranged : Ranged N M (missed p next m)
  unfolding PlaceIn RegisterIn
  ranged = record {
    places = each N p next m (λ q o. PlaceIn N M o.place) (place_back (m.own p).place st.stands (inv.ranged.places p st.here)) inv.ranged.places;
    list_head = inv.ranged.list_head;
    entry_next = inv.ranged.entry_next;
    queue_head = inv.ranged.queue_head;
    queue_tail = inv.ranged.queue_tail;
    node_next = inv.ranged.node_next;
    counts = each N p next m (λ q o. (o.counts.guards ≤ max_count) × (o.counts.handles ≤ max_count)) (inv.ranged.counts p st.here) inv.ranged.counts;
    held = each N p next m (λ q o. (o.held ≤ max_objects) × Each (ItemIn N M) (m.held q)) (inv.ranged.held p st.here) inv.ranged.held;
    bags = inv.ranged.bags;
    shares = each N p next m (λ q o. o.place ≡ Place.Rest → o.share ≡ 0) (λ r. absurd (not_rest r)) inv.ranged.shares;
  }
    where
      place_back : (pl : Place) → pl ≡ Place.Register (RegisterAt.Link next) → PlaceIn N M pl → PlaceIn N M (Place.Register (RegisterAt.Next next))
      place_back pl i h = rw i at h

      not_rest : Place.Register (RegisterAt.Next next) ≡ Place.Rest → ⊥
      not_rest r = false≢true (unfold is_rest in (ap is_rest r))

  -- p is registering
  registering : g.slot_use p ≡ Use.registering
  registering = registers_use N m g inv.records p st.here (rw st.stands (unfold Registers in tt))

  fine_back : (u : Use) (tag pinned : Bool) (o : Participant) (b : List Item) → u ≡ Use.registering → Fine u tag pinned o b
      → Fine u tag pinned (at (Place.Register (RegisterAt.Next next)) o) b
  unfolding Fine Registers
  fine_back Use.unused tag pinned o b r h = let z : ◌≡◌ {A = ℕ} 0 1 = cc in absurd (omega arith)
  fine_back Use.registering tag pinned o b r h = (tt, h.1)
  fine_back Use.linked tag pinned o b r h = let z : ◌≡◌ {A = ℕ} 0 1 = cc in absurd (omega arith)
  fine_back Use.out tag pinned o b r h = let z : ◌≡◌ {A = ℕ} 0 1 = cc in absurd (omega arith)

  records : Records N (missed p next m) g
  records = record {
    repins = each N p next m (λ q o. RepinPins o.place) (unfold RepinPins in tt) inv.records.repins;
    fine = each N p next m (λ q o. Fine (g.slot_use q) (is_tagged (m.shared.entry_next q)) (is_pinned (m.shared.word q)) o (m.held q))
        (fine_back (g.slot_use p) _ _ (m.own p) (m.held p) registering (inv.records.fine p st.here)) inv.records.fine;
    bits = inv.records.bits;
    lengths = λ q. put_ind (λ o. length (m.held q) ≡ o.held) m.own p q (back p next m) (λ i. rw (sym i) (inv.records.lengths p)) (λ _. inv.records.lengths q);
  }

  epochs : Epochs N M (missed p next m) g
  unfolding G
  epochs = record {
    own_le = inv.epochs.own_le;
    pin_le = inv.epochs.pin_le;
    near = inv.epochs.near;
    walk_le = each N p next m (λ q o. Of (λ w. num w ≤ G m) (walk_epoch o.place)) (unfold walk_epoch Of in tt) inv.epochs.walk_le;
    pop_le = each N p next m (λ q o. Of (λ w. num w ≤ G m) (pop_epoch o.place)) (unfold pop_epoch Of in tt) inv.epochs.pop_le;
    store_le = each N p next m (λ q o. Of (λ w. num w ≤ G m) (store_epoch o.place)) (unfold store_epoch Of in tt) inv.epochs.store_le;
    seal_le = inv.epochs.seal_le;
    gone_le = inv.epochs.gone_le;
    past_le = inv.epochs.past_le;
    tries = each N p next m (λ q o. Of (λ w. g.gpin q ≤ num w) (walk_epoch o.place)) (unfold walk_epoch Of in tt) inv.epochs.tries;
    walks = λ q d hq hd pin. put_ind (λ o. Of (λ w. g.gpin d < num w → Unseen g.birth o.place d) (walk_epoch o.place)) m.own p q (back p next m)
        (λ _. unfold walk_epoch Of in tt) (λ _. inv.epochs.walks q d hq hd pin);
  }

  listed : Listed N (missed p next m) g
  listed = record {
    birth_le = inv.listed.birth_le;
    differ = inv.listed.differ;
    head = inv.listed.head;
    next = inv.listed.next;
    falls = inv.listed.falls;
    head_reaches = inv.listed.head_reaches;
    next_reaches = inv.listed.next_reaches;
    own_next = each N p next m (λ q o. OwnNext o.place (m.shared.entry_next q)) (unfold OwnNext in tt) inv.listed.own_next;
  }

  queued : Queued M (missed p next m) g
  queued = record {
    pos_le = inv.queued.pos_le;
    differ = inv.queued.differ;
    head = inv.queued.head;
    tail = inv.queued.tail;
    near = inv.queued.near;
    ends = inv.queued.ends;
    goes_on = inv.queued.goes_on;
  }

  -- nothing waits behind a place of registering, and it holds no node
  waits_same : (x : Item) → waits x (waiting_item (back p next m).place) ≡ waits x (waiting_item (m.own p).place)
  waits_same x = rw st.stands (unfold waiting_item in refl)

  pub occurs_misses : (x : Item) → occurs N M (missed p next m) x ≡ occurs N M m x
  unfolding occurs has
  occurs_misses x = rw (sums N p next m (λ q o. times x (m.held q) + waits x (waiting_item o.place)) (rw (waits_same x) refl)) refl

  nodes_same : (x : ℕ) → is x (taken_node (back p next m).place) + is x (old_head (back p next m).place)
      ≡ is x (taken_node (m.own p).place) + is x (old_head (m.own p).place)
  nodes_same x = rw st.stands (unfold taken_node old_head in refl)

  poppers_same : (x : ℕ) → poppers N (missed p next m) x ≡ poppers N m x
  unfolding poppers
  poppers_same x = sums N p next m (λ q o. is x (popped_node o.place)) (rw st.stands (unfold popped_node in refl))

  used : Used N M (missed p next m) g
  used = record {
    slots = λ x hx. rw (occurs_misses (Item.Slot (record { 0 = x }))) (inv.used.slots x hx);
    nodes = λ x hx. rw (occurs_misses (Item.Node (record { 0 = x })), sums N p next m (λ q o. is x (taken_node o.place) + is x (old_head o.place)) (nodes_same x))
        (inv.used.nodes x hx);
    slot_out = λ x hx h. inv.used.slot_out x hx (λ z. h (occurs_misses (Item.Slot (record { 0 = x })) ∙ z));
    node_out = λ x hx h. inv.used.node_out x hx (λ z. h (occurs_misses (Item.Node (record { 0 = x })) ∙ z));
    bits = inv.used.bits;
    taken = each N p next m (λ q o. Of (λ k. (g.node_use k ≡ NodeUse.taken) × (is_null (m.shared.node_next k) ≡ true)) (taken_node o.place))
        (unfold taken_node Of in tt) inv.used.taken;
    old = each N p next m (λ q o. Of (λ k. (g.node_use k ≡ NodeUse.placed) × (g.pos k < g.pos (head_of m.shared))) (old_head o.place))
        (unfold old_head Of in tt) inv.used.old;
  }

  bagged : Bagged N M (missed p next m) g
  bagged = record {
    sealed = inv.bagged.sealed;
    spare = inv.bagged.spare;
    freed = λ x hx u le none. inv.bagged.freed x hx u le (sym (poppers_same x) ∙ none);
  }

  roomy : Roomy N M (missed p next m) g
  roomy = record {
    total = inv.roomy.total ∙ sym (sums N p next m (λ q o. o.share) refl);
    enough = inv.roomy.enough;
    room = each N p next m (λ q o. Room N o.place o.counts.pins o.counts.handles o.held o.share (W N g (g.gpin q))) (unfold Room in tt) inv.roomy.room;
  }

  -- what places hold: the shared words and bags are as they were
  held : Held N M (missed p next m) g
  held = record {
    holds = each N p next m (λ q o. HoldsAt N M (missed p next m) g (g.gpin q) o.place) (unfold HoldsAt in tt)
        (λ q hq. holds_same N M m g (g.gpin q) p (back p next m) (m.own q).place (inv.held.holds q hq));
  }

  pub inv_misses : Inv N M (missed p next m) g
  inv_misses = record { ranged = ranged; records = records; epochs = epochs; listed = listed; queued = queued; held = held; used = used; bagged = bagged; roomy = roomy }
