-- A fresh start has the invariant: nobody is registered, pinned or at work, the list is empty, the queue is its sentinel, node 0, with position 1, and
-- every other node is free. Assumes nothing.
use mathlib.Core.Path.{◌≡◌, refl, sym, ◌∙◌}
use mathlib.Core.Logic.{◌≢◌}
use mathlib.Core.Bool.{◌&&◌, true≢false}
use mathlib.Core.List.{[]}
use Prim.Native.Nat.{ℕ, zero, suc, ◌+◌, ◌≤◌, ◌<◌}
use native.Mathlib.Omega.{arith}
use lib.Dec.{ltb, leb}
use borrow.Author.Tests.{lt-ltb, le-leb}
use Rattle.epoch.proofs.Laws.{is_pinned-starting}
use Rattle.definition.specs.Base.{branch, put, sum, listed}
use Rattle.definition.specs.Links.{null, link, is_null, pointee}
use Rattle.definition.specs.Bags.{items}
use Rattle.definition.specs.Codec.{participant_of}
use Rattle.definition.specs.Ranges.{fresh}
use Rattle.definition.proofs.Base.{same?, put_same, put_other}
use Rattle.definition.proofs.Codec.{place_back, index-link}
use Rattle.definition.proofs.Within.{PlaceIn}
use Rattle.theorems.proofs.Machine.{Machine, view}
use Rattle.theorems.proofs.Ghost.{Use, NodeUse, Ghost, num, G, head_of}
use Rattle.theorems.proofs.Invariant.{Of, walk_epoch, pop_epoch, store_epoch, taken_node, old_head, waiting_item, RepinPins, Fine, is_unused}
use Rattle.theorems.proofs.Invariant.{Records, Pinned, Epochs, Born, ToLinked, OwnNext, Listed, Queued, HoldsAt, Held}
use Rattle.theorems.proofs.Invariant.{waits, is, has, times, occurs, not_out, in_queue, is_spare, Used, Each, Bagged, Room, Roomy}
use Rattle.theorems.proofs.Inv.{Ranged, Inv}
use Rattle.theorems.proofs.Nodes.{null_is}
use Rattle.theorems.proofs.Types.{Item, Place, Participant}

-- the ghost of a fresh start
unfoldable pub start_ghost : Ghost
start_ghost = record {
  slot_use = λ _. Use.unused;
  birth = λ _. 0;
  births = 0;
  gpin = λ _. 0;
  gone = λ _. 0;
  node_use = put (λ _. NodeUse.spare) 0 NodeUse.placed;
  pos = λ _. 1;
  last = 1;
  past = λ _. 0;
}

-- a record that nobody uses, and the machine of a fresh start
unfoldable resting : Participant
resting = record { counts = record { guards = 0; handles = 0; pins = 0 }; held = 0; share = 0; place = Place.Rest }

-- the machine of a fresh start
unfoldable start_machine : (N M : ℕ) → Machine
start_machine N M = record {
  shared = (fresh N M).shared;
  own = λ _. resting;
  held = λ _. [];
  bag = λ _. record { epoch = 0; holds = [] };
  slot_free = λ i. ltb i N;
  node_free = λ n. leb 1 n && ltb n M;
  aside = 0;
}

-- the tables of a fresh start are this machine
view_fresh : (N M : ℕ) → view (fresh N M) ≡ start_machine N M
unfolding fresh start_machine resting participant_of items listed
view_fresh N M = λ i. record {
  shared = (fresh N M).shared;
  own = λ _. record { counts = record { guards = 0; handles = 0; pins = 0 }; held = 0; share = 0; place = place_back Place.Rest i };
  held = λ _. [];
  bag = λ _. record { epoch = 0; holds = [] };
  slot_free = λ i. ltb i N;
  node_free = λ n. leb 1 n && ltb n M;
  aside = 0;
}

module _ (N M : ℕ) (h_m : 2 ≤ M) where
  -- ranges
  ranged : Ranged N M (start_machine N M)
  unfolding start_machine resting fresh
  ranged = record {
    places = λ q hq. unfold PlaceIn in tt;
    list_head = unfold null in (omega arith, refl);
    entry_next = λ q hq. unfold null in (omega arith);
    queue_head = unfold link in (omega arith, (omega arith, refl));
    queue_tail = unfold link in (omega arith, (omega arith, refl));
    node_next = λ n hn. unfold null in (omega arith, refl);
    counts = λ q hq. (omega arith, omega arith);
    held = λ q hq. (omega arith, unfold Each in tt);
    bags = λ n hn. unfold Each in tt;
    shares = λ q hq e. refl;
  }

  -- group C: every slot is unused and quiet
  records : Records N (start_machine N M) start_ghost
  unfolding start_machine resting fresh start_ghost
  records = record {
    repins = λ q hq. unfold RepinPins in tt;
    fine = λ q hq. unfold Fine in (refl, (is_pinned-starting, (refl, refl)));
    bits = λ q hq. unfold is_unused in (lt-ltb q N hq);
    lengths = λ q. refl;
  }

  -- nobody is pinned
  unpinned : (q : ℕ) → Pinned (start_machine N M) q → ⊥
  unfolding start_machine fresh
  unpinned q h = true≢false (sym h ∙ is_pinned-starting)

  -- group E: nobody is pinned or carries an epoch
  epochs : Epochs N M (start_machine N M) start_ghost
  unfolding start_ghost
  epochs = record {
    own_le = λ q hq pq. absurd (unpinned q pq);
    pin_le = λ q hq pq. absurd (unpinned q pq);
    near = λ q hq pq. absurd (unpinned q pq);
    walk_le = λ q hq. unfold start_machine resting walk_epoch Of in tt;
    pop_le = λ q hq. unfold start_machine resting pop_epoch Of in tt;
    store_le = λ q hq. unfold start_machine resting store_epoch Of in tt;
    seal_le = λ n hn ne. unfold start_machine num G in (omega arith);
    gone_le = λ q hq e. omega arith;
    past_le = λ n hn e lt. omega arith;
    tries = λ q hq. unfold start_machine resting walk_epoch Of in tt;
    walks = λ q d hq hd pd. absurd (unpinned d pd);
  }

  -- no slot is in the list
  unlinked : Use.unused ≡ Use.linked → ⊥
  unlinked e = let z : ◌≡◌ {A = ℕ} 0 1 = cc in omega arith

  -- group L: the list is empty
  listed-start : Listed N (start_machine N M) start_ghost
  unfolding start_ghost
  listed-start = record {
    birth_le = λ q hq b. omega arith;
    differ = λ a b ha hb i j e. absurd (unfold Born in i);
    head = unfold start_machine fresh pointee is_null null branch ToLinked in tt;
    next = λ q hq e. absurd (unlinked e);
    falls = λ q hq e. absurd (unlinked e);
    head_reaches = λ y hy e. absurd (unlinked e);
    next_reaches = λ x y hx hy e. absurd (unlinked e);
    own_next = λ q hq. unfold start_machine resting OwnNext in tt;
  }

  -- the one node that is placed is the sentinel
  sentinel : (n : ℕ) → put (λ _. NodeUse.spare) 0 NodeUse.placed n ≡ NodeUse.placed → n ≡ 0
  sentinel n e = same? 0 n (λ i. sym i) (λ ne. let k = sym (put_other (λ _. NodeUse.spare) 0 n NodeUse.placed ne) ∙ e in let z : ◌≡◌ {A = ℕ} 0 1 = cc in absurd (omega arith))

  -- group Q: the queue is its sentinel
  queued : Queued M (start_machine N M) start_ghost
  unfolding start_machine fresh start_ghost
  queued = record {
    pos_le = λ n hn e. omega arith;
    differ = λ a b ha hb ea eb e. sentinel a ea ∙ sym (sentinel b eb);
    head = rw (index-link 0, put_same (λ _. NodeUse.spare) 0 NodeUse.placed) refl;
    tail = rw (index-link 0, put_same (λ _. NodeUse.spare) 0 NodeUse.placed) refl;
    near = omega arith;
    ends = λ n hn e z. refl;
    goes_on = λ n hn e lo z. absurd (true≢false (sym null_is ∙ z));
  }

  -- group H: nobody holds anything
  held : Held N M (start_machine N M) start_ghost
  held = record { holds = λ q hq. unfold start_machine resting HoldsAt in tt }

  -- nothing occurs
  nothing : (n : ℕ) → sum n (λ _. 0) ≡ 0
  unfolding sum
  nothing zero = refl
  nothing (suc n) = let k = nothing n in omega arith

  -- no item is anywhere
  occurs_none : (x : Item) → occurs N M (start_machine N M) x ≡ 0
  unfolding start_machine resting occurs has times waits waiting_item
  occurs_none x = rw (nothing N, nothing M) refl

  -- no node is held by a place
  held_none : (x : ℕ) → sum N (λ q. is x (taken_node ((start_machine N M).own q).place) + is x (old_head ((start_machine N M).own q).place)) ≡ 0
  unfolding start_machine resting taken_node old_head is
  held_none x = nothing N

  -- a node but the sentinel is free
  bits : (x : ℕ) → x < M → (start_machine N M).node_free x ≡ is_spare (start_ghost.node_use x)
  unfolding start_machine start_ghost
  bits x hx = same? 0 x
      (λ e. rw (← e, put_same (λ _. NodeUse.spare) 0 NodeUse.placed) (unfold is_spare in refl))
      (λ ne. rw (put_other (λ _. NodeUse.spare) 0 x NodeUse.placed ne, lt-ltb x M hx, le-leb 1 x (positive x ne)) (unfold is_spare in refl))
    where
      positive : (x : ℕ) → 0 ≢ x → 1 ≤ x
      positive zero ne = absurd (ne refl)
      positive (suc x) ne = omega arith

  -- the sentinel is in the queue, any other node is free
  one : (x : ℕ) → branch (is_spare (start_ghost.node_use x)) 1 0 + in_queue (start_ghost.node_use x) (start_ghost.pos x) (start_ghost.pos (head_of (start_machine N M).shared)) ≡ 1
  unfolding start_ghost
  one x = same? 0 x
      (λ e. rw (← e, put_same (λ _. NodeUse.spare) 0 NodeUse.placed) (unfold is_spare in_queue branch in refl))
      (λ ne. rw (put_other (λ _. NodeUse.spare) 0 x NodeUse.placed ne) (unfold is_spare in_queue branch in refl))

  -- every node has one use
  nodes : (x : ℕ) → x < M → branch ((start_machine N M).node_free x) 1 0 + in_queue (start_ghost.node_use x) (start_ghost.pos x) (start_ghost.pos (head_of (start_machine N M).shared))
      + sum N (λ q. is x (taken_node ((start_machine N M).own q).place) + is x (old_head ((start_machine N M).own q).place)) + occurs N M (start_machine N M) (Item.Node (record { 0 = x })) ≡ 1
  nodes x hx = let k = one x in rw (held_none x, occurs_none (Item.Node (record { 0 = x })), bits x hx) (omega arith)

  -- group U
  used : Used N M (start_machine N M) start_ghost
  used = record {
    slots = λ x hx. rw (occurs_none (Item.Slot (record { 0 = x }))) (unfold start_ghost not_out in refl);
    nodes = nodes;
    slot_out = λ x hx ne. absurd (ne (occurs_none (Item.Slot (record { 0 = x }))));
    node_out = λ x hx ne. absurd (ne (occurs_none (Item.Node (record { 0 = x }))));
    bits = bits;
    taken = λ q hq. unfold start_machine resting taken_node Of in tt;
    old = λ q hq. unfold start_machine resting old_head Of in tt;
  }

  -- group B: every bag is empty
  bagged : Bagged N M (start_machine N M) start_ghost
  unfolding start_machine
  bagged = record { sealed = λ n hn. unfold Each in tt; spare = λ n hn e. refl; freed = λ n hn e le z. refl }

  -- group R: nothing is set aside
  roomy : Roomy N M (start_machine N M) start_ghost
  unfolding start_machine resting
  roomy = record { total = sym (nothing N); enough = omega arith; room = λ q hq. unfold Room in tt }

-- the invariant at a fresh start
pub inv_start : (N M : ℕ) → 1 ≤ N → 2 ≤ M → Inv N M (view (fresh N M)) start_ghost
inv_start N M h_n h_m = rw (view_fresh N M) (record {
  ranged = ranged N M h_m;
  records = records N M h_m;
  epochs = epochs N M h_m;
  listed = listed-start N M h_m;
  queued = queued N M h_m;
  held = held N M h_m;
  used = used N M h_m;
  bagged = bagged N M h_m;
  roomy = roomy N M h_m;
})

-- and nothing waits
pub nothing-waits : (N M : ℕ) → 2 ≤ M → (x : Item) → occurs N M (view (fresh N M)) x ≡ 0
nothing-waits N M h_m x = rw (view_fresh N M) (occurs_none N M h_m x)
