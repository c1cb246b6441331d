-- What a move does to nodes, said once for everybody: a step's access turns the queue by one of five changes (`Turned`), and its work then
-- frees nodes that head and tail have left or takes a spare one. So the queue stays in order (group Q), and for all others a node that was
-- linked stays linked at its position, keeps its next and its seal, and head and tail only go forward (`Onward`). Leans on `Queue` (the order
-- itself), `Change` and `Moves` (what a step can do), `Safety` (nothing that is held is freed). Assumes nothing.
use mathlib.Core.Path.{◌≡◌, refl, ap, sym, ◌∙◌}
use mathlib.Core.Logic.{◌≢◌}
use mathlib.Core.Bool.{true, false, true≢false}
use mathlib.Core.Option.{Option, some}
use Prim.Native.Nat.{ℕ, zero, suc, ◌≤◌, ◌<◌, min}
use native.Mathlib.Omega.{arith}
use Rattle.definition.specs.Base.{Tab, least}
use Rattle.definition.specs.Links.{null, link, is_null, index, pointer}
use Rattle.definition.proofs.Kept.{not_null}
use Rattle.definition.specs.Tables.{Shared, write}
use Rattle.definition.specs.List.{pred_word}
use Rattle.definition.specs.Calls.{opens}
use Rattle.definition.specs.Public.{takes_node}
use Rattle.definition.proofs.Base.{put_ind, put_other, least_marked}
use Rattle.definition.proofs.Codec.{index-link}
use Rattle.definition.proofs.Within.{PlaceIn, PushIn, ItemIn}
use Rattle.theorems.proofs.Machine.{Machine, Sealed, with_shared, works, followed}
use Rattle.theorems.proofs.Ghost.{NodeUse, Ghost, Turn, turn_of, G, head_of, tail_of, low, node_turned, pos_turned, last_turned, node_worked, moved}
use Rattle.theorems.proofs.Invariant.{Of, taken_node, popped_node, Pinned, Queued, SafeNode, HoldsAt, HoldsPop, HoldsPush, times, occurs, is_spare}
use Rattle.theorems.proofs.Change.{MovesTail, Change}
use Rattle.theorems.proofs.Worked.{pop_of}
use Rattle.theorems.proofs.Inv.{Inv, Steps, Calls, Registers, rule_of, won_of, left_of, after_of, goes, goes_ghost, stepped, stepped_ghost, called, called_ghost, registered, registered_ghost}
use Rattle.theorems.proofs.Linked.{step-change}
use Rattle.theorems.proofs.Moves.{gained, gained_by, work_of, Deferred, Kind, step_kind, call_kind}
use Rattle.theorems.proofs.Safety.{each_at, popped_in, in_bag-occurs, node_unfreed, node_use_unfreed, past_kept}
use Rattle.theorems.proofs.Queue.{Lined, spare≢placed, spare≢taken, apart, goes_to, line-pop, line_tail, line-link, use_linked, pos-linked, line-free, line-seal}
use Rattle.theorems.proofs.Types.{Node, Pred, Item, Pops, Deferring, Then, PopAt, PushAt, Place, Word, Work, Call}

-- ---- group Q, over the tables and back

-- the group says the same of the tables that it reads
pub lined : (M : ℕ) (m : Machine) (g : Ghost) → Queued M m g → Lined M (head_of m.shared) (tail_of m.shared) m.shared.node_next g.node_use g.pos g.last
unfolding low
lined M m g q = record
    { pos_le = q.pos_le; differ = q.differ; head = q.head; tail = q.tail; near = q.near; ends = q.ends; goes_on = q.goes_on }

-- and the tables say it of the machine
unlined : (M : ℕ) (m : Machine) (g : Ghost) → Lined M (head_of m.shared) (tail_of m.shared) m.shared.node_next g.node_use g.pos g.last → Queued M m g
unfolding low
unlined M m g q = record
    { pos_le = q.pos_le; differ = q.differ; head = q.head; tail = q.tail; near = q.near; ends = q.ends; goes_on = q.goes_on }

-- a next that is not null names a node of the table
pub next_inside : (N M : ℕ) (m : Machine) (g : Ghost) → Inv N M m g → (x : ℕ) → x < M → is_null (m.shared.node_next x) ≡ false → index (m.shared.node_next x) < M
unfolding index
next_inside N M m g inv x hx e = let r = inv.ranged.node_next x hx in let k = not_null N M (m.shared.node_next x) e in omega arith

-- ---- the access

-- what the turn v and the words s' left by an access do to nodes
pub record Turned (M : ℕ) (g : Ghost) (s : Shared) (v : Turn) (s' : Shared) : Type 0 where
  pub line : Lined M (head_of s') (tail_of s') s'.node_next (node_turned v g.node_use) (pos_turned v g.last g.pos) (last_turned v g.last)
  pub placed : (x : ℕ) → g.node_use x ≡ NodeUse.placed → node_turned v g.node_use x ≡ NodeUse.placed
  pub spare : (x : ℕ) → g.node_use x ≡ NodeUse.spare → node_turned v g.node_use x ≡ NodeUse.spare
  pub pos : (x : ℕ) → g.node_use x ≡ NodeUse.placed → pos_turned v g.last g.pos x ≡ g.pos x
  pub next : (x : ℕ) → (g.node_use x ≡ NodeUse.placed → is_null (s.node_next x) ≡ false) → s'.node_next x ≡ s.node_next x
  pub head : g.pos (head_of s) ≤ pos_turned v g.last g.pos (head_of s')
  pub tail : g.pos (tail_of s) ≤ pos_turned v g.last g.pos (tail_of s')

-- the null word
pub null_is : is_null null ≡ true
unfolding is_null null
null_is = refl

module _ (N M p : ℕ) (m : Machine) (g : Ghost) (inv : Inv N M m g) (hp : p < N) where
  line : Lined M (head_of m.shared) (tail_of m.shared) m.shared.node_next g.node_use g.pos g.last
  line = lined M m g inv.queued

  -- head and tail are nodes
  pub head_in : head_of m.shared < M
  unfolding index
  head_in = let h = inv.ranged.queue_head in omega arith

  pub tail_in : tail_of m.shared < M
  unfolding index
  tail_in = let h = inv.ranged.queue_tail in omega arith

  -- what p holds at its place
  held : (pl : Place) → (m.own p).place ≡ pl → HoldsAt N M m g (g.gpin p) pl
  held pl e = rw e at (inv.held.holds p hp)

  -- nothing in the queue is written
  quiet : (v : Turn) → node_turned v g.node_use ≡ g.node_use → pos_turned v g.last g.pos ≡ g.pos → last_turned v g.last ≡ g.last
      → (s' : Shared) → s'.queue_head ≡ m.shared.queue_head → s'.queue_tail ≡ m.shared.queue_tail → s'.node_next ≡ m.shared.node_next → Turned M g m.shared v s'
  quiet v eu ep el s' eh et en = record {
    line = rw (eu, ep, el, eh, et, en) line;
    placed = λ x h. rw eu h;
    spare = λ x h. rw eu h;
    pos = λ x h. rw ep;
    next = λ x h. rw en;
    head = rw (ep, eh) (omega arith);
    tail = rw (ep, et) (omega arith);
  }

  -- a tail is moved to the next of the node that it stands on
  pub moves_next : (pl : Place) (from to : ℕ) → MovesTail pl from to → HoldsAt N M m g (g.gpin p) pl → m.shared.node_next from ≡ link to
  unfolding HoldsAt HoldsPop HoldsPush
  moves_next pl from to MovesTail.pop_moves h = h.0
  moves_next pl from to MovesTail.helps h = h.1.1
  moves_next pl from to MovesTail.push_moves h = h.1.1

  -- an entry is unlinked
  unlink : (c : ℕ) (pred : Pred) (w : ℕ) → Turned M g m.shared (Turn.unlinks c) (write (pred_word pred) w m.shared)
  unfolding write pred_word node_turned pos_turned last_turned
  unlink c Pred.Head w = quiet (Turn.unlinks c) refl refl refl _ refl refl refl
  unlink c (Pred.Entry s) w = quiet (Turn.unlinks c) refl refl refl _ refl refl refl

  -- the head goes to its next
  turned_pop : (q : Pops) (head next : Node) → (m.own p).place ≡ Place.Pop q (PopAt.Exchange head next) → m.shared.queue_head ≡ link head.0
      → Turned M g m.shared Turn.quiet (write Word.QueueHead (link next.0) m.shared)
  unfolding write node_turned pos_turned last_turned HoldsAt HoldsPop
  turned_pop q head next at won =
      let h = held (Place.Pop q (PopAt.Exchange head next)) at in
      let e : head_of m.shared ≡ head.0 = ap index won ∙ index-link head.0 in
      let to : m.shared.node_next (head_of m.shared) ≡ link next.0 = rw e h.1.0 in
      let k = (goes_to line (head_of m.shared) next.0 head_in line.head (omega arith) to).1 in
      record {
        line = rw (index-link next.0) (line-pop line next.0 head_in to);
        placed = λ x h. h;
        spare = λ x h. h;
        pos = λ x h. refl;
        next = λ x h. refl;
        head = rw (index-link next.0) (omega arith);
        tail = omega arith;
      }

  -- the tail goes to its next
  turned_tail : (from to : ℕ) → MovesTail (m.own p).place from to → m.shared.queue_tail ≡ link from
      → Turned M g m.shared Turn.quiet (write Word.QueueTail (link to) m.shared)
  unfolding write node_turned pos_turned last_turned
  turned_tail from to moves won =
      let e : tail_of m.shared ≡ from = ap index won ∙ index-link from in
      let z : m.shared.node_next (tail_of m.shared) ≡ link to = rw e (moves_next (m.own p).place from to moves (inv.held.holds p hp)) in
      let k = (goes_to line (tail_of m.shared) to tail_in line.tail (omega arith) z).1 in
      record {
        line = rw (index-link to) (line_tail line to tail_in z);
        placed = λ x h. h;
        spare = λ x h. h;
        pos = λ x h. refl;
        next = λ x h. refl;
        head = omega arith;
        tail = rw (index-link to) (omega arith);
      }

  -- what it has taken, and that its place is in range
  taken_at : (pl : Place) → (m.own p).place ≡ pl → Of (λ n. (g.node_use n ≡ NodeUse.taken) × (is_null (m.shared.node_next n) ≡ true)) (taken_node pl)
  taken_at pl e = rw e at (inv.used.taken p hp)

  place_in_lem : (pl : Place) → (m.own p).place ≡ pl → PlaceIn N M pl
  place_in_lem pl e = rw e at (inv.ranged.places p hp)

  -- a taken node is linked
  turned_link : (f : Then) (new onto : Node) → (m.own p).place ≡ Place.Push f (PushAt.Link new onto) → m.shared.node_next onto.0 ≡ null
      → Turned M g m.shared (Turn.links new.0) (write (Word.NodeNext onto) (link new.0) m.shared)
  unfolding write node_turned pos_turned last_turned HoldsAt HoldsPush SafeNode Of taken_node PlaceIn PushIn
  turned_link f new onto at won =
      let h = (held (Place.Push f (PushAt.Link new onto)) at).1 in
      let t = taken_at (Place.Push f (PushAt.Link new onto)) at in
      let i = (place_in_lem (Place.Push f (PushAt.Link new onto)) at).1 in
      let z : is_null (m.shared.node_next onto.0) ≡ true = rw won null_is in
      let same = pos-linked line new.0 onto.0 i.0 i.1 head_in tail_in t.0 t.1 h.0.1.0 z h.1 in
      let sameHead = same (head_of m.shared) line.head in
      let sameTail = same (tail_of m.shared) line.tail in
      record {
        line = line-link line new.0 onto.0 i.0 i.1 head_in tail_in t.0 t.1 h.0.1.0 z h.1;
        placed = use_linked line new.0 onto.0 i.0 i.1 head_in tail_in t.0 t.1 h.0.1.0 z h.1;
        spare = λ x e. rw (put_other g.node_use new.0 x NodeUse.placed (λ j. apart g.node_use x new.0 spare≢taken e t.0 (sym j))) e;
        pos = same;
        next = λ x k. put_other m.shared.node_next onto.0 x (link new.0) (λ j. true≢false (sym z ∙ rw j (k (rw (← j) h.0.1.0))));
        head = omega arith;
        tail = omega arith;
      }

  -- whatever the access changed
  turned : (v : Turn) (s' : Shared) → Change p (m.own p).place m.shared v s' → Turned M g m.shared v s'
  unfolding write node_turned pos_turned last_turned
  turned v s' (Change.none i e) = rw (i, e) (quiet Turn.quiet refl refl refl m.shared refl refl refl)
  turned v s' (Change.advances t _ i e) = rw (i, e) (quiet Turn.quiet refl refl refl _ refl refl refl)
  turned v s' (Change.pins k w _ i e) = rw (i, e) (quiet Turn.quiet refl refl refl _ refl refl refl)
  turned v s' (Change.repins w _ i e) = rw (i, e) (quiet Turn.quiet refl refl refl _ refl refl refl)
  turned v s' (Change.unpins _ i e) = rw (i, e) (quiet Turn.quiet refl refl refl _ refl refl refl)
  turned v s' (Change.finals _ i e) = rw (i, e) (quiet Turn.quiet refl refl refl _ refl refl refl)
  turned v s' (Change.aims next _ i e) = rw (i, e) (quiet Turn.quiet refl refl refl _ refl refl refl)
  turned v s' (Change.enlists next _ i _ e) = rw (i, e) (quiet (Turn.enlists p) refl refl refl _ refl refl refl)
  turned v s' (Change.unlinks t c succ _ i _ e) = rw (i, e) (unlink c.curr.0 c.pred (pointer succ))
  turned v s' (Change.tags _ i e) = rw (i, e) (quiet Turn.quiet refl refl refl _ refl refl refl)
  turned v s' (Change.pops q head next at i won e) = rw (i, e) (turned_pop q head next at won)
  turned v s' (Change.tails from to at i won e) = rw (i, e) (turned_tail from to at won)
  turned v s' (Change.links f new onto at i won e) = rw (i, e) (turned_link f new onto at won)

-- ---- the work

-- the bit of a node says whether it is spare
pub spare_is : (u : NodeUse) → is_spare u ≡ true → u ≡ NodeUse.spare
unfolding is_spare
spare_is NodeUse.spare h = refl
spare_is NodeUse.taken h = absurd (true≢false (sym h))
spare_is NodeUse.placed h = absurd (true≢false (sym h))

-- a number that cannot be other than 0
pub none_of : (k : ℕ) → ((k ≢ 0) → ⊥) → k ≡ 0
none_of zero h = refl
none_of (suc k) h = absurd (h (λ e. omega arith))

-- what a move does to nodes, for everybody: from machine m and ghost g to shared words s', bags b' and ghost g'
pub record Onward (N M : ℕ) (m : Machine) (g : Ghost) (s' : Shared) (b' : Tab Sealed) (g' : Ghost) : Type 0 where
  pub safe : (d x : ℕ) → d < N → Pinned m d → SafeNode M g m.shared (g.gpin d) x → g'.node_use x ≡ NodeUse.placed
  pub kept : (x : ℕ) → g.node_use x ≡ NodeUse.placed → occurs N M m (Item.Node (record { 0 = x })) ≡ 0 → g'.node_use x ≡ NodeUse.placed
  pub pos : (x : ℕ) → g.node_use x ≡ NodeUse.placed → g'.pos x ≡ g.pos x
  pub next : (x : ℕ) → g.node_use x ≡ NodeUse.placed → is_null (m.shared.node_next x) ≡ false → s'.node_next x ≡ m.shared.node_next x
  pub seal : (x : ℕ) → g.node_use x ≡ NodeUse.placed → (b' x).epoch ≡ (m.bag x).epoch
  pub head : g.pos (head_of m.shared) ≤ g'.pos (head_of s')
  pub tail : g.pos (tail_of m.shared) ≤ g'.pos (tail_of s')
  pub past : (b x : ℕ) → g.node_use x ≡ NodeUse.placed → b ≤ G m → (g.pos x < low g.pos m.shared → b ≤ g.past x) → g'.pos x < low g'.pos s' → b ≤ g'.past x

-- work that is in order: a bag is freed that p has popped, a free node is taken
unfoldable pub Sound : (M p : ℕ) → Machine → Work → Type 0
Sound M p m Work.Nothing = Unit {0}
Sound M p m (Work.Put i) = Unit {0}
Sound M p m (Work.PutThenFree i n) = popped_node (m.own p).place ≡ some n.0
Sound M p m (Work.Seal n e) = (n.0 < M) × (m.node_free n.0 ≡ true)

module _ (N M p : ℕ) (m : Machine) (g : Ghost) (inv : Inv N M m g) (hp : p < N) where
  -- what the bag of a popped node holds is out of the queue
  pub freed_out : (n x : ℕ) → popped_node (m.own p).place ≡ some n → times (Item.Node (record { 0 = x })) (m.bag n).holds ≢ 0
      → (g.node_use x ≡ NodeUse.placed) × (g.pos x < low g.pos m.shared)
  unfolding ItemIn
  freed_out n x e ne =
      let hn = popped_in N M m g inv p hp n e in
      inv.used.node_out x (each_at (ItemIn N M) (Item.Node (record { 0 = x })) (m.bag n).holds (inv.ranged.bags n hn) ne)
      (in_bag-occurs N M m n (Item.Node (record { 0 = x })) hn ne)

  -- a free node is spare
  pub free_spare : (x : ℕ) → x < M → m.node_free x ≡ true → g.node_use x ≡ NodeUse.spare
  free_spare x hx e = spare_is (g.node_use x) (sym (inv.used.bits x hx) ∙ e)

  module _ (v : Turn) (s : Shared) (t : Turned M g m.shared v s) where
    -- low only grows
    low_grows : low g.pos m.shared ≤ low (pos_turned v g.last g.pos) s
    unfolding low
    low_grows = let a = t.head in let b = t.tail in omega arith

    -- what is freed is out of the queue, also after the access
    out_still : (n x : ℕ) → popped_node (m.own p).place ≡ some n → times (Item.Node (record { 0 = x })) (m.bag n).holds ≢ 0
        → pos_turned v g.last g.pos x < min (pos_turned v g.last g.pos (head_of s)) (pos_turned v g.last g.pos (tail_of s))
    unfolding low
    out_still n x e ne =
        let o = freed_out n x e ne in
        let lt = o.1 in
        let same = t.pos x o.0 in
        let up = low_grows in
        omega arith

    -- the queue after the work
    worked_line : (w : Work) → Sound M p m w → Lined M (head_of (works p w (with_shared s m)).shared) (tail_of (works p w (with_shared s m)).shared)
        (works p w (with_shared s m)).shared.node_next (node_worked w m (node_turned v g.node_use)) (pos_turned v g.last g.pos) (last_turned v g.last)
    unfolding works node_worked write Sound
    worked_line Work.Nothing k = t.line
    worked_line (Work.Put i) k = t.line
    worked_line (Work.PutThenFree i n) k = line-free t.line (m.bag n.0).holds (λ x ne. out_still n.0 x k ne)
    worked_line (Work.Seal n e) k = line-seal t.line n.0 (t.spare n.0 (free_spare n.0 k.0 k.1))

    -- what the work leaves as it was: uses, next words and seals of placed nodes
    worked_safe : (w : Work) → Sound M p m w → (x : ℕ) → g.node_use x ≡ NodeUse.placed
        → ((n : ℕ) → popped_node (m.own p).place ≡ some n → times (Item.Node (record { 0 = x })) (m.bag n).holds ≡ 0)
        → node_worked w m (node_turned v g.node_use) x ≡ NodeUse.placed
    unfolding node_worked Sound
    worked_safe Work.Nothing k x h un = t.placed x h
    worked_safe (Work.Put i) k x h un = t.placed x h
    worked_safe (Work.PutThenFree i n) k x h un = node_use_unfreed (m.bag n.0).holds x (node_turned v g.node_use) (un n.0 k) ∙ t.placed x h
    worked_safe (Work.Seal n e) k x h un =
        put_other (node_turned v g.node_use) n.0 x NodeUse.taken (apart g.node_use n.0 x spare≢placed (free_spare n.0 k.0 k.1) h) ∙ t.placed x h

    pub worked_next : (w : Work) → Sound M p m w → (x : ℕ) → g.node_use x ≢ NodeUse.spare → (works p w (with_shared s m)).shared.node_next x ≡ s.node_next x
    unfolding works write Sound
    worked_next Work.Nothing k x h = refl
    worked_next (Work.Put i) k x h = refl
    worked_next (Work.PutThenFree i n) k x h = refl
    worked_next (Work.Seal n e) k x h = put_other s.node_next n.0 x null (λ i. h (rw (← i) (free_spare n.0 k.0 k.1)))

    worked_seal : (w : Work) → Sound M p m w → (x : ℕ) → g.node_use x ≡ NodeUse.placed → ((works p w (with_shared s m)).bag x).epoch ≡ (m.bag x).epoch
    unfolding works Sound
    worked_seal Work.Nothing k x h = refl
    worked_seal (Work.Put i) k x h = refl
    worked_seal (Work.PutThenFree i n) k x h = put_ind (λ (b : Sealed). b.epoch ≡ (m.bag x).epoch) m.bag n.0 x _ (λ j. rw j) (λ _. refl)
    worked_seal (Work.Seal n e) k x h =
        ap (λ (b : Sealed). b.epoch) (put_other m.bag n.0 x _ (apart g.node_use n.0 x spare≢placed (free_spare n.0 k.0 k.1) h))

    -- neither head nor tail is written by work
    pub worked_ends : (w : Work) → (head_of (works p w (with_shared s m)).shared ≡ head_of s) × (tail_of (works p w (with_shared s m)).shared ≡ tail_of s)
    unfolding works write
    worked_ends Work.Nothing = (refl, refl)
    worked_ends (Work.Put i) = (refl, refl)
    worked_ends (Work.PutThenFree i n) = (refl, refl)
    worked_ends (Work.Seal n e) = (refl, refl)

    -- all of it
    worked_onward : (w : Work) → Sound M p m w
        → Onward N M m g (works p w (with_shared s m)).shared (works p w (with_shared s m)).bag (moved v w m s g)
    unfolding moved low SafeNode
    worked_onward w k = record {
      safe = λ d x hd pinned h. worked_safe w k x h.1.0 (λ n e. node_unfreed N M m g inv p hp n e d x hd pinned h);
      kept = λ x h z. worked_safe w k x h (λ n e. unoccurring n x (popped_in N M m g inv p hp n e) z);
      pos = t.pos;
      next = λ x h z. worked_next w k x (λ e. spare≢placed (sym e ∙ h)) ∙ t.next x (λ _. z);
      seal = worked_seal w k;
      head = rw (worked_ends w).0 t.head;
      tail = rw (worked_ends w).1 t.tail;
      past = λ b x h le before after.
          past_kept (G m) b (low g.pos m.shared) (low (pos_turned v g.last g.pos) s) x g.pos g.past le before
          (rw (t.pos x h, (worked_ends w).0, (worked_ends w).1) at after);
    }
      where
        unoccurring : (n x : ℕ) → n < M → occurs N M m (Item.Node (record { 0 = x })) ≡ 0 → times (Item.Node (record { 0 = x })) (m.bag n).holds ≡ 0
        unoccurring n x hn z = none_of (times (Item.Node (record { 0 = x })) (m.bag n).holds) (λ ne. in_bag-occurs N M m n (Item.Node (record { 0 = x })) hn ne z)

-- ---- the work of a move is in order: by the ten kinds of moves

-- a deferring puts its item, and frees the bag that its pop had popped
deferred-sound : (M p : ℕ) (m : Machine) (d : Deferring) (w : Work) (pl' : Place) → Deferred d w pl' → popped_node (m.own p).place ≡ pop_of d → Sound M p m w
unfolding work_of Sound pop_of
deferred-sound M p m (Deferring.Token token) w pl' (Deferred.stored k) e = tt
deferred-sound M p m (Deferring.Slot t c succ) w pl' (Deferred.stored k) e = tt
deferred-sound M p m (Deferring.Node q head next) w pl' (Deferred.stored k) e = e
deferred-sound M p m d w pl' Deferred.waits e = tt

-- a push has popped what its item belongs to
push_popped : (d : Deferring) (a : PushAt) → popped_node (Place.Push (Then.Defer d) a) ≡ pop_of d
unfolding popped_node pop_of
push_popped (Deferring.Token token) a = refl
push_popped (Deferring.Slot t c succ) a = refl
push_popped (Deferring.Node q head next) a = refl

-- each kind
kind_sound : (M p : ℕ) (m : Machine) (spare : Node) (s s' : Shared) (pl : Place) (v : Turn) (i : Option Item) (w : Work) (pl' : Place)
    → Kind p spare s s' pl v i w pl' → (m.own p).place ≡ pl → (takes_node pl ≡ true → (spare.0 < M) × (m.node_free spare.0 ≡ true)) → Sound M p m w
unfolding Sound takes_node
kind_sound M p m spare s s' pl v i w pl' (Kind.idle h k) here takes = tt
kind_sound M p m spare s s' pl v i w pl' (Kind.enlists h k) here takes = tt
kind_sound M p m spare s s' pl v i w pl' (Kind.seals h) here takes = takes refl
kind_sound M p m spare s s' pl v i w pl' (Kind.links h) here takes = tt
kind_sound M p m spare s s' pl v i w pl' (Kind.pops h k) here takes = tt
kind_sound M p m spare s s' pl v i w pl' (Kind.unlinks h e k) here takes = deferred-sound M p m _ w pl' k (ap popped_node here ∙ (unfold popped_node pop_of in refl))
kind_sound M p m spare s s' pl v i w pl' (Kind.retires h e k) here takes = deferred-sound M p m _ w pl' k (ap popped_node here ∙ (unfold popped_node pop_of in refl))
kind_sound M p m spare s s' pl v i w pl' (Kind.moves h e k) here takes = deferred-sound M p m _ w pl' k (ap popped_node here ∙ (unfold popped_node pop_of in refl))
kind_sound M p m spare s s' pl v i w pl' (Kind.pushes h k) here takes = deferred-sound M p m _ w pl' k (ap popped_node here ∙ push_popped _ _)
kind_sound M p m spare s s' pl v i w pl' (Kind.accepts h k) here takes = deferred-sound M p m _ w pl' k (ap popped_node here ∙ (unfold popped_node pop_of in refl))

-- ---- a step

module _ (N M p : ℕ) (m : Machine) (g : Ghost) (inv : Inv N M m g) (st : Steps N M p m) where
  -- the kind of the step
  pub kind_of : Kind p (record { 0 = least M m.node_free }) m.shared (left_of M p m) (m.own p).place (turn_of p (m.own p).place (won_of M p m))
      (gained (m.own p).place (won_of M p m) m.shared.queue_tail) (after_of M p m).work (after_of M p m).participant.place
  unfolding left_of won_of after_of rule_of
  kind_of = step_kind p (record { 0 = least M m.node_free }) m.shared (λ n. (m.bag n.0).epoch) (m.own p) (m.own p).place

  -- what its access does to the queue, and that its work is in order
  pub step_turned : Turned M g m.shared (turn_of p (m.own p).place (won_of M p m)) (left_of M p m)
  step_turned = turned N M p m g inv st.here _ _ (step-change M p m)

  pub step-sound : Sound M p m (after_of M p m).work
  step-sound = kind_sound M p m _ _ _ (m.own p).place _ _ _ _ kind_of refl (λ h. let k = (st.spare h).0 in (k, least_marked M m.node_free k))

  -- group Q is kept
  pub queued-step : Queued M (stepped M p m) (stepped_ghost M p m g)
  unfolding stepped stepped_ghost goes goes_ghost followed moved
  queued-step = unlined M _ _ (worked_line N M p m g inv st.here _ _ step_turned (after_of M p m).work step-sound)

  -- and for everybody nodes go on
  pub onward-step : Onward N M m g (stepped M p m).shared (stepped M p m).bag (stepped_ghost M p m g)
  unfolding stepped stepped_ghost goes goes_ghost followed
  onward-step = worked_onward N M p m g inv st.here _ _ step_turned (after_of M p m).work step-sound

  -- the work writes no next word but that of the node it takes
  pub step_wrote : (x : ℕ) → g.node_use x ≢ NodeUse.spare → (stepped M p m).shared.node_next x ≡ (left_of M p m).node_next x
  unfolding stepped goes followed
  step_wrote x ne = worked_next N M p m g inv st.here _ _ step_turned (after_of M p m).work step-sound x ne

  -- nor the head
  pub step_head : head_of (stepped M p m).shared ≡ head_of (left_of M p m)
  unfolding stepped goes followed
  step_head = (worked_ends N M p m g inv st.here _ _ step_turned (after_of M p m).work).0

-- ---- a call

module _ (N M p : ℕ) (c : Call) (m : Machine) (g : Ghost) (inv : Inv N M m g) (ca : Calls N M p c m) where
  -- the kind of the call
  pub call_of : Kind p (record { 0 = least M m.node_free }) m.shared m.shared (m.own p).place Turn.quiet (gained_by c)
      (opens N c (m.own p)).work (opens N c (m.own p)).participant.place
  call_of = call_kind p (record { 0 = least M m.node_free }) m.shared N c (m.own p) (m.own p).place ca.resting

  -- a call takes no node and frees nothing
  pub call-sound : Sound M p m (opens N c (m.own p)).work
  call-sound = kind_sound M p m _ _ _ (m.own p).place _ _ _ _ call_of refl (λ h. absurd (true≢false (sym h ∙ ap takes_node ca.resting ∙ (unfold takes_node in refl))))

  -- it makes no access
  pub still : Turned M g m.shared Turn.quiet m.shared
  unfolding node_turned pos_turned last_turned
  still = quiet N M p m g inv ca.here Turn.quiet refl refl refl m.shared refl refl refl

  -- group Q is kept
  pub queued-call : Queued M (called N p c m) (called_ghost N p c m g)
  unfolding called called_ghost followed moved
  queued-call = unlined M _ _ (worked_line N M p m g inv ca.here Turn.quiet m.shared still (opens N c (m.own p)).work call-sound)

  -- and for everybody nodes go on
  pub onward-call : Onward N M m g (called N p c m).shared (called N p c m).bag (called_ghost N p c m g)
  unfolding called called_ghost followed
  onward-call = worked_onward N M p m g inv ca.here Turn.quiet m.shared still (opens N c (m.own p)).work call-sound

  -- the head stays
  pub call_head : head_of (called N p c m).shared ≡ head_of m.shared
  unfolding called followed
  call_head = (worked_ends N M p m g inv ca.here Turn.quiet m.shared still (opens N c (m.own p)).work).0

-- ---- registering

module _ (N M p : ℕ) (m : Machine) (g : Ghost) (inv : Inv N M m g) (re : Registers N p m) where
  -- group Q is kept: no word of the queue is written
  pub queued-register : Queued M (registered p m) (registered_ghost p g)
  unfolding registered registered_ghost write low
  queued-register =
      let q = inv.queued in
      record { pos_le = q.pos_le; differ = q.differ; head = q.head; tail = q.tail; near = q.near; ends = q.ends; goes_on = q.goes_on }

  -- and for everybody nodes go on
  pub onward-register : Onward N M m g (registered p m).shared (registered p m).bag (registered_ghost p g)
  unfolding registered registered_ghost write low SafeNode
  onward-register = record {
    safe = λ d x hd pinned h. h.1.0;
    kept = λ x h z. h;
    pos = λ x h. refl;
    next = λ x h z. refl;
    seal = λ x h. refl;
    head = omega arith;
    tail = omega arith;
    past = λ b x h le before after. before after;
  }
