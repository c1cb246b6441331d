-- Each slot and each node stays in exactly one use. A slot is unused, registering, in the list, or it occurs as an item; a node is free, in the
-- queue, held by a participant (taken and not yet linked, or an old head not yet retired), or it occurs as an item. The balance of items (Balance)
-- gives the last of these; here the others are counted, by the ten kinds of moves: a slot that is unlinked leaves the list and is retired in the
-- same step, a node goes from free to taken to the queue to old head to retired, and what is freed is unused again. A slot that occurs is out, since
-- the sum is 1. A node that occurs has been left by head and tail, which never go back (`Turned` of Nodes): a pop retires its old head only once the tail is
-- elsewhere or was moved on from it, and the tail is never further back than that, since at most one node stands behind it. Leans on the order of the
-- queue (`Queued`), on what places hold (`Held`), on Linked for the list, on Moves and Nodes for what a move does. Assumes nothing.
use mathlib.Core.Path.{◌≡◌, refl, ap, sym, ◌∙◌}
use mathlib.Core.Logic.{◌≢◌}
use mathlib.Core.Bool.{Bool, true, false}
use mathlib.Core.List.{List, [], ◌∷◌}
use mathlib.Core.Option.{Option, none, some}
use Prim.Native.Nat.{ℕ, zero, suc, ◌+◌, ◌*◌, ◌/◌, ◌%◌, ◌≤◌, ◌<◌}
use native.Mathlib.Omega.{arith}
use lib.Dec.{eqb, leb}
use borrow.Author.Tests.{eqb-true, eqb-false, eq-eqb, ne_eqb, leb-true, leb-false, le-leb, lt-leb}
use Rattle.definition.specs.Base.{branch, Tab, put, sum}
use Rattle.definition.specs.Links.{link, is_null, index, is_tagged, pointee, pointer}
use Rattle.definition.specs.Bags.{free_nodes}
use Rattle.definition.specs.List.{pred_word}
use Rattle.definition.specs.Tables.{Shared, read, write}
use Rattle.definition.specs.Calls.{opens}
use Rattle.definition.specs.Public.{new_participant}
use Rattle.definition.proofs.Base.{same?, put_same, put_other, sum-put, branch-true, branch-false}
use Rattle.definition.proofs.Codec.{link_not_null, index-link, pointee-pointer}
use Rattle.theorems.proofs.Machine.{Machine, with_shared, works, followed}
use Rattle.theorems.proofs.Ghost.{Use, NodeUse, Ghost, Turn, head_of, tail_of, low, moved, use_turned, node_turned, pos_turned, use_worked, node_worked, slots_freed, nodes_freed}
use Rattle.theorems.proofs.Invariant.{taken_node, old_head, Of, same_item, times, waits, is, occurs, not_out, in_queue, Fine, ToLinked, SafePred, SafeNode, HoldsWalk, HoldsPop, HoldsAt}
use Rattle.theorems.proofs.Inv.{Inv, left_of, after_of, goes, goes_ghost, stepped, stepped_ghost, Steps, called, called_ghost, Calls, registered, registered_ghost, Registers}
use Rattle.theorems.proofs.Safety.{sum_at, use_unfreed, node_use_unfreed}
use Rattle.theorems.proofs.Linked.{in_range_lem, safe_linked, followed_own}
use Rattle.theorems.proofs.Moves.{Bare, work_of, Deferred, Left, Kind}
use Rattle.theorems.proofs.Nodes.{Turned, step_turned, still, kind_of, call_of}
use Rattle.theorems.proofs.Balance.{freed_items, Fit, step-fits, balance-goes, call-fits, balance-register, unused, free_quiet}
use Rattle.theorems.proofs.Types.{Node, Ptr, Pred, Cursor, Item, Try, Pops, Deferring, Then, RegisterAt, WalkAt, PopAt, PushAt, Place, Participant, Work, After, Call}

-- ---- pointers

-- a pointer is not tagged, names its index, and points to it
link-plain : (k : ℕ) → is_tagged (link k) ≡ false
unfolding is_tagged link
link-plain k = ne_eqb (2 * (k + 1) % 2) 1 (λ e. omega arith)

pub link_back : (w : ℕ) → 1 ≤ w / 2 → w % 2 ≡ 0 → w ≡ link (index w)
unfolding link index
link_back w h e = omega arith

link-pointee : (k : ℕ) → pointee (link k) ≡ Ptr.At (record { 0 = k })
link-pointee k = unfold pointer in (pointee-pointer (Ptr.At (record { 0 = k })))

-- an index is the one meant, or not
pub is_same : (x y : ℕ) → x ≡ y → is x (some y) ≡ 1
unfolding is
is_same x y e = branch-true 1 0 (eq-eqb x y e)

pub is_other : (x y : ℕ) → x ≢ y → is x (some y) ≡ 0
unfolding is
is_other x y ne = branch-false 1 0 (ne_eqb x y ne)

-- ---- slots

-- a slot that is freed is unused
slots_hit : (l : List Item) (x : ℕ) (u : Tab Use) → times (Item.Slot (record { 0 = x })) l ≢ 0 → slots_freed l u x ≡ Use.unused
unfolding slots_freed times same_item branch
slots_hit [] x u h = absurd (h refl)
slots_hit (Item.Token t ∷ l) x u h = slots_hit l x u (λ z. h (omega arith))
slots_hit (Item.Node n ∷ l) x u h = slots_hit l x u (λ z. h (omega arith))
slots_hit (Item.Slot s ∷ l) x u h = go (times (Item.Slot (record { 0 = x })) l) refl (eqb x s.0) refl h (λ k. slots_hit l x (put u s.0 Use.unused) k)
  where
    go : (k : ℕ) → times (Item.Slot (record { 0 = x })) l ≡ k → (b : Bool) → eqb x s.0 ≡ b → branch b 1 0 + times (Item.Slot (record { 0 = x })) l ≢ 0
        → (times (Item.Slot (record { 0 = x })) l ≢ 0 → slots_freed l (put u s.0 Use.unused) x ≡ Use.unused) → slots_freed l (put u s.0 Use.unused) x ≡ Use.unused
    go (suc k) e b i z later = later (λ y. omega arith)
    go zero e true i z later = use_unfreed l x (put u s.0 Use.unused) e ∙ (rw (eqb-true x s.0 i) (put_same u s.0 Use.unused))
    go zero e false i z later = absurd (z (omega arith))

-- what is freed was out, and is not out afterwards
slots_freed_lem : (l : List Item) (x : ℕ) (u : Tab Use) → not_out (u x) + times (Item.Slot (record { 0 = x })) l ≤ 1
    → not_out (slots_freed l u x) ≡ not_out (u x) + times (Item.Slot (record { 0 = x })) l
unfolding not_out
slots_freed_lem l x u h = go (times (Item.Slot (record { 0 = x })) l) refl h
  where
    go : (k : ℕ) → times (Item.Slot (record { 0 = x })) l ≡ k → not_out (u x) + k ≤ 1 → not_out (slots_freed l u x) ≡ not_out (u x) + k
    go zero e le = rw (use_unfreed l x u e) (omega arith)
    go (suc k) e le = rw (slots_hit l x u (λ z. omega arith)) (omega arith)

-- any work
slots_worked : (w : Work) (m : Machine) (x : ℕ) (u : Tab Use) → not_out (u x) + times (Item.Slot (record { 0 = x })) (freed_items w m.bag) ≤ 1
    → not_out (use_worked w m u x) ≡ not_out (u x) + times (Item.Slot (record { 0 = x })) (freed_items w m.bag)
unfolding use_worked freed_items times
slots_worked Work.Nothing m x u h = omega arith
slots_worked (Work.Put i) m x u h = omega arith
slots_worked (Work.PutThenFree i n) m x u h = slots_freed_lem (m.bag n.0).holds x u h
slots_worked (Work.Seal n e) m x u h = omega arith

-- a slot that goes out of the list, and one that comes into it
put_out : (x c : ℕ) (u : Tab Use) → not_out (u c) ≡ 1 → not_out (put u c Use.out x) + is x (some c) ≡ not_out (u x)
unfolding not_out
put_out x c u h = same? c x
    (λ e. rw (← e, put_same u c Use.out, is_same c c refl) (omega arith))
    (λ ne. rw (put_other u c x Use.out ne, is_other x c (λ i. ne (sym i))) (omega arith))

put-linked : (x c : ℕ) (u : Tab Use) → not_out (u c) ≡ 1 → not_out (put u c Use.linked x) ≡ not_out (u x)
unfolding not_out
put-linked x c u h = same? c x (λ e. rw (← e, put_same u c Use.linked) (omega arith)) (λ ne. rw (put_other u c x Use.linked ne))

-- a turn of the list: a slot that is inserted was not out, and one that is unlinked was in the list and is retired
slots_turned : {p : ℕ} {spare : Node} {s s' : Shared} {pl : Place} {v : Turn} {i : Option Item} {w : Work} {pl' : Place} (x : ℕ) (u : Tab Use) → Kind p spare s s' pl v i w pl'
    → ((next : Ptr) → pl ≡ Place.Register (RegisterAt.Link next) → not_out (u p) ≡ 1)
    → ((t : Try) (c : Cursor) (succ : Ptr) → pl ≡ Place.Walk t (WalkAt.Unlink c succ) → read (pred_word c.pred) s ≡ link c.curr.0 → not_out (u c.curr.0) ≡ 1)
    → not_out (use_turned v u x) + waits (Item.Slot (record { 0 = x })) i ≡ not_out (u x)
unfolding use_turned waits same_item branch is
slots_turned x u (Kind.idle h k) enlist unlink = omega arith
slots_turned {p = p} x u (Kind.enlists {next} h k) enlist unlink = let z = put-linked x p u (enlist next refl) in omega arith
slots_turned x u (Kind.seals h) enlist unlink = omega arith
slots_turned x u (Kind.links h) enlist unlink = omega arith
slots_turned x u (Kind.pops h k) enlist unlink = omega arith
slots_turned x u (Kind.unlinks {t} {c} {succ} h e k) enlist unlink = put_out x c.curr.0 u (unlink t c succ refl e)
slots_turned x u (Kind.retires h e k) enlist unlink = omega arith
slots_turned x u (Kind.moves h e k) enlist unlink = omega arith
slots_turned x u (Kind.pushes h k) enlist unlink = omega arith
slots_turned x u (Kind.accepts h k) enlist unlink = omega arith

-- the work and what was there, seen field by field
works_head : (p : ℕ) (w : Work) (m : Machine) → (works p w m).shared.queue_head ≡ m.shared.queue_head
unfolding works write
works_head p Work.Nothing m = refl
works_head p (Work.Put i) m = refl
works_head p (Work.PutThenFree i n) m = refl
works_head p (Work.Seal n e) m = refl

works_tail : (p : ℕ) (w : Work) (m : Machine) → (works p w m).shared.queue_tail ≡ m.shared.queue_tail
unfolding works write
works_tail p Work.Nothing m = refl
works_tail p (Work.Put i) m = refl
works_tail p (Work.PutThenFree i n) m = refl
works_tail p (Work.Seal n e) m = refl

-- a slot that registers is not out; one that is unlinked is in the list
registering_in : (u : Use) (tag pinned : Bool) (o : Participant) (b : List Item) (pl : Place) (next : Ptr) → o.place ≡ pl → pl ≡ Place.Register (RegisterAt.Link next)
    → Fine u tag pinned o b → not_out u ≡ 1
unfolding not_out Fine
registering_in Use.unused tag pinned o b pl next e k h = refl
registering_in Use.registering tag pinned o b pl next e k h = refl
registering_in Use.linked tag pinned o b pl next e k h = refl
registering_in Use.out tag pinned o b pl next e k h = let z : ◌≡◌ {A = ℕ} 0 1 = cc h.0.0 in absurd (omega arith)

-- a slot in the list is counted; one that is not counted is out
linked_one : (u : Use) → u ≡ Use.linked → not_out u ≡ 1
linked_one u e = rw e (unfold not_out in refl)

not_out_lem : (u : Use) (k : ℕ) → not_out u + k ≡ 1 → k ≢ 0 → u ≡ Use.out
unfolding not_out
not_out_lem Use.unused k h ne = absurd (ne (omega arith))
not_out_lem Use.registering k h ne = absurd (ne (omega arith))
not_out_lem Use.linked k h ne = absurd (ne (omega arith))
not_out_lem Use.out k h ne = refl

-- what a word of the list points to is in the list
to_linked : (N : ℕ) (u : Tab Use) (k w : ℕ) → w ≡ link k → ToLinked N u (pointee w) → u k ≡ Use.linked
to_linked N u k w e h = unfold ToLinked in (rw (e, link-pointee k) at h).1

module _ (N M : ℕ) (m : Machine) (g : Ghost) (inv : Inv N M m g) where
  -- what the word of a safe predecessor points to is in the list
  pub pred-linked : (b : ℕ) (q : Pred) (k : ℕ) → SafePred N g b q → read (pred_word q) m.shared ≡ link k → g.slot_use k ≡ Use.linked
  unfolding SafePred pred_word read
  pred-linked b Pred.Head k safe e = to_linked N g.slot_use k m.shared.list_head e inv.listed.head
  pred-linked b (Pred.Entry q) k safe e =
      let plain : is_tagged (m.shared.entry_next q.0) ≡ false = rw e (link-plain k) in
      let linked = safe_linked N m g inv.records b q.0 safe plain in
      to_linked N g.slot_use k (m.shared.entry_next q.0) e (inv.listed.next q.0 (in_range_lem N g b q.0 safe) linked)

  -- the slot that an unlinking takes out was in the list
  pub unlinked_in : (b : ℕ) (pl : Place) (t : Try) (c : Cursor) (succ : Ptr) → HoldsAt N M m g b pl → pl ≡ Place.Walk t (WalkAt.Unlink c succ)
      → read (pred_word c.pred) m.shared ≡ link c.curr.0 → g.slot_use c.curr.0 ≡ Use.linked
  unlinked_in b pl t c succ h e r = unfold HoldsAt HoldsWalk in (pred-linked b c.pred c.curr.0 (rw e at h).0.0 r)

-- ---- nodes

-- the node that a work takes
unfoldable seal_of : Work → Option ℕ
seal_of Work.Nothing = none
seal_of (Work.Put i) = none
seal_of (Work.PutThenFree i n) = none
seal_of (Work.Seal n e) = some n.0

-- how often a place holds node x: taken and not linked, or an old head not retired
unfoldable holds_node : ℕ → Place → ℕ
holds_node x pl = is x (taken_node pl) + is x (old_head pl)

-- a node at the head or behind it, and one before it
queue_in : (a h : ℕ) → h ≤ a → in_queue NodeUse.placed a h ≡ 1
unfolding in_queue
queue_in a h le = branch-true 1 0 (le-leb h a le)

queue_out : (a h : ℕ) → a < h → in_queue NodeUse.placed a h ≡ 0
unfolding in_queue
queue_out a h lt = branch-false 1 0 (lt-leb h a lt)

-- a node is not in two uses
pub taken-placed : (u : NodeUse) → u ≡ NodeUse.taken → u ≡ NodeUse.placed → ⊥
taken-placed u h k = let z : ◌≡◌ {A = ℕ} 0 1 = cc in omega arith

pub spare_placed : (u : NodeUse) → u ≡ NodeUse.spare → u ≡ NodeUse.placed → ⊥
spare_placed u h k = let z : ◌≡◌ {A = ℕ} 0 1 = cc in omega arith

-- a node that is linked now is in the queue, behind the head
link_in : (x new head last : ℕ) (u : Tab NodeUse) (pos : Tab ℕ) → u new ≡ NodeUse.taken → u head ≡ NodeUse.placed → pos head ≤ last
    → in_queue (put u new NodeUse.placed x) (put pos new (last + 1) x) (put pos new (last + 1) head) ≡ in_queue (u x) (pos x) (pos head) + is x (some new)
link_in x new head last u pos t h le =
    let other : new ≢ head = λ e. taken-placed (u head) (rw (← e) t) h in
    rw (put_other pos new head (last + 1) other) (same? new x
    (λ e. rw (← e, put_same u new NodeUse.placed, put_same pos new (last + 1), queue_in (last + 1) (pos head) (omega arith), t, is_same new new refl) (unfold in_queue in refl))
    (λ ne. rw (put_other u new x NodeUse.placed ne, put_other pos new x (last + 1) ne, is_other x new (λ i. ne (sym i))) (omega arith)))

-- the head goes on by one: just the old head leaves the queue
head_left : (u : NodeUse) (a h k x head : ℕ) → k ≡ h + 1 → (u ≡ NodeUse.placed → a ≡ h → x ≡ head) → (x ≡ head → (u ≡ NodeUse.placed) × (a ≡ h))
    → in_queue u a k + is x (some head) ≡ in_queue u a h
head_left NodeUse.spare a h k x head e only here = unfold in_queue in (rw (is_other x head (λ i. spare_placed NodeUse.spare refl (here i).0)))
head_left NodeUse.taken a h k x head e only here = unfold in_queue in (rw (is_other x head (λ i. taken-placed NodeUse.taken refl (here i).0)))
head_left NodeUse.placed a h k x head e only here = same? x head
    (λ i. let z = (here i).1 in rw (is_same x head i, queue_in a h (omega arith), queue_out a k (omega arith)))
    (λ ne. rw (is_other x head ne) (far ne (leb h a) refl))
  where
    far : x ≢ head → (b : Bool) → leb h a ≡ b → in_queue NodeUse.placed a k + 0 ≡ in_queue NodeUse.placed a h
    far ne true l =
        let le = leb-true h a l in
        let off : a ≢ h = λ e. ne (only refl e) in
        rw (queue_in a h le, queue_in a k (omega arith))
    far ne false l = let lt = leb-false h a l in rw (queue_out a h lt, queue_out a k (omega arith))

-- a place after a deferring holds no node, and the work takes none
deferred-holds : (x : ℕ) (d : Deferring) {w : Work} {pl' : Place} → Deferred d w pl' → (holds_node x pl' ≡ 0) × (is x (seal_of w) ≡ 0)
unfolding Bare holds_node is
deferred-holds x (Deferring.Token token) (Deferred.stored h) = unfold work_of seal_of in (rw (h.1.0, h.1.1.0), refl)
deferred-holds x (Deferring.Slot t c succ) (Deferred.stored h) = unfold work_of seal_of in (rw (h.1.0, h.1.1.0), refl)
deferred-holds x (Deferring.Node p head next) (Deferred.stored h) = unfold work_of seal_of in (rw (h.1.0, h.1.1.0), refl)
deferred-holds x d Deferred.waits = unfold taken_node old_head seal_of in (refl, refl)

-- the queue and what p holds, by the kind of the move, before its work
nodes_turned : {p : ℕ} {spare : Node} {s s' : Shared} {pl : Place} {v : Turn} {i : Option Item} {w : Work} {pl' : Place} (x : ℕ) (u : Tab NodeUse) (pos : Tab ℕ) (last : ℕ)
    → Kind p spare s s' pl v i w pl'
    → ((f : Then) (new onto : Node) → pl ≡ Place.Push f (PushAt.Link new onto) → (u new.0 ≡ NodeUse.taken) × ((u (head_of s) ≡ NodeUse.placed) × (pos (head_of s) ≤ last)))
    → ((q : Pops) (head next : Node) → pl ≡ Place.Pop q (PopAt.Exchange head next) → s.queue_head ≡ link head.0
    → (pos next.0 ≡ pos head.0 + 1) × ((u head.0 ≡ NodeUse.placed) × (u x ≡ NodeUse.placed → pos x ≡ pos head.0 → x ≡ head.0)))
    → in_queue (node_turned v u x) (pos_turned v last pos x) (pos_turned v last pos (head_of s')) + holds_node x pl' + waits (Item.Node (record { 0 = x })) i
    ≡ in_queue (u x) (pos x) (pos (head_of s)) + holds_node x pl + is x (seal_of w)
unfolding node_turned pos_turned waits same_item seal_of holds_node taken_node old_head is branch Bare
nodes_turned x u pos last (Kind.idle h k) linking popping = rw (h, k.taken, k.old)
nodes_turned x u pos last (Kind.enlists h k) linking popping = rw (h, k.1.0, k.1.1.0)
nodes_turned x u pos last (Kind.seals h) linking popping = rw h (omega arith)
nodes_turned {s = s} x u pos last (Kind.links {f} {new} {onto} h) linking popping =
    let k = linking f new onto refl in
    let z = link_in x new.0 (head_of s) last u pos k.0 k.1.0 k.1.1 in
    rw h (omega arith)
nodes_turned x u pos last (Kind.pops {q} {head} {next} h k) linking popping =
    let b = popping q head next refl h in
    let z = head_left (u x) (pos x) (pos head.0) (pos next.0) x head.0 b.0 b.1.1 (λ e. rw e (b.1.0, refl)) in
    rw (h, k, index-link head.0, index-link next.0) (omega arith)
nodes_turned x u pos last (Kind.unlinks h e k) linking popping = let z = deferred-holds x _ k in rw (h, z.0, z.1)
nodes_turned x u pos last (Kind.retires h e k) linking popping = let z = deferred-holds x _ k in rw (h, z.0, z.1) (omega arith)
nodes_turned x u pos last (Kind.moves h e k) linking popping = let z = deferred-holds x _ k in rw (h, z.0, z.1) (omega arith)
nodes_turned x u pos last (Kind.pushes h k) linking popping = let z = deferred-holds x _ k in rw (h, z.0, z.1)
nodes_turned x u pos last (Kind.accepts h k) linking popping = let z = deferred-holds x _ k in rw (h, z.0, z.1)

-- a node that a work takes is held afterwards
seal-held : {p : ℕ} {spare : Node} {s s' : Shared} {pl : Place} {v : Turn} {i : Option Item} {w : Work} {pl' : Place} (x : ℕ) → Kind p spare s s' pl v i w pl'
    → is x (seal_of w) ≤ holds_node x pl'
unfolding seal_of holds_node taken_node is
seal-held x (Kind.idle h k) = omega arith
seal-held x (Kind.enlists h k) = omega arith
seal-held x (Kind.seals h) = omega arith
seal-held x (Kind.links h) = omega arith
seal-held x (Kind.pops h k) = omega arith
seal-held x (Kind.unlinks h e k) = let z = deferred-holds x _ k in rw z.1 (omega arith)
seal-held x (Kind.retires h e k) = let z = deferred-holds x _ k in rw z.1 (omega arith)
seal-held x (Kind.moves h e k) = let z = deferred-holds x _ k in rw z.1 (omega arith)
seal-held x (Kind.pushes h k) = let z = deferred-holds x _ k in rw z.1 (omega arith)
seal-held x (Kind.accepts h k) = let z = deferred-holds x _ k in rw z.1 (omega arith)

-- a node that is freed is spare, and its free bit is set; one that is not is as it was
pub nodes_hit : (l : List Item) (x : ℕ) (u : Tab NodeUse) → times (Item.Node (record { 0 = x })) l ≢ 0 → nodes_freed l u x ≡ NodeUse.spare
unfolding nodes_freed times same_item branch
nodes_hit [] x u h = absurd (h refl)
nodes_hit (Item.Token t ∷ l) x u h = nodes_hit l x u (λ z. h (omega arith))
nodes_hit (Item.Slot n ∷ l) x u h = nodes_hit l x u (λ z. h (omega arith))
nodes_hit (Item.Node s ∷ l) x u h = go (times (Item.Node (record { 0 = x })) l) refl (eqb x s.0) refl h (λ k. nodes_hit l x (put u s.0 NodeUse.spare) k)
  where
    go : (k : ℕ) → times (Item.Node (record { 0 = x })) l ≡ k → (b : Bool) → eqb x s.0 ≡ b → branch b 1 0 + times (Item.Node (record { 0 = x })) l ≢ 0
        → (times (Item.Node (record { 0 = x })) l ≢ 0 → nodes_freed l (put u s.0 NodeUse.spare) x ≡ NodeUse.spare) → nodes_freed l (put u s.0 NodeUse.spare) x ≡ NodeUse.spare
    go (suc k) e b i z later = later (λ y. omega arith)
    go zero e true i z later = node_use_unfreed l x (put u s.0 NodeUse.spare) e ∙ (rw (eqb-true x s.0 i) (put_same u s.0 NodeUse.spare))
    go zero e false i z later = absurd (z (omega arith))

bits_miss : (l : List Item) (x : ℕ) (f : Tab Bool) → times (Item.Node (record { 0 = x })) l ≡ 0 → free_nodes l f x ≡ f x
unfolding free_nodes times same_item branch
bits_miss [] x f h = refl
bits_miss (Item.Token t ∷ l) x f h = bits_miss l x f (omega arith)
bits_miss (Item.Slot n ∷ l) x f h = bits_miss l x f (omega arith)
bits_miss (Item.Node s ∷ l) x f h = go (eqb x s.0) refl h (λ k. bits_miss l x (put f s.0 true) k)
  where
    go : (b : Bool) → eqb x s.0 ≡ b → branch b 1 0 + times (Item.Node (record { 0 = x })) l ≡ 0
        → (times (Item.Node (record { 0 = x })) l ≡ 0 → free_nodes l (put f s.0 true) x ≡ put f s.0 true x) → free_nodes l (put f s.0 true) x ≡ f x
    go true e z later = absurd (omega arith)
    go false e z later = later (omega arith) ∙ put_other f s.0 x true (λ i. eqb-false x s.0 e (sym i))

bits_hit : (l : List Item) (x : ℕ) (f : Tab Bool) → times (Item.Node (record { 0 = x })) l ≢ 0 → free_nodes l f x ≡ true
unfolding free_nodes times same_item branch
bits_hit [] x f h = absurd (h refl)
bits_hit (Item.Token t ∷ l) x f h = bits_hit l x f (λ z. h (omega arith))
bits_hit (Item.Slot n ∷ l) x f h = bits_hit l x f (λ z. h (omega arith))
bits_hit (Item.Node s ∷ l) x f h = go (times (Item.Node (record { 0 = x })) l) refl (eqb x s.0) refl h (λ k. bits_hit l x (put f s.0 true) k)
  where
    go : (k : ℕ) → times (Item.Node (record { 0 = x })) l ≡ k → (b : Bool) → eqb x s.0 ≡ b → branch b 1 0 + times (Item.Node (record { 0 = x })) l ≢ 0
        → (times (Item.Node (record { 0 = x })) l ≢ 0 → free_nodes l (put f s.0 true) x ≡ true) → free_nodes l (put f s.0 true) x ≡ true
    go (suc k) e b i z later = later (λ y. omega arith)
    go zero e true i z later = bits_miss l x (put f s.0 true) e ∙ (rw (eqb-true x s.0 i) (put_same f s.0 true))
    go zero e false i z later = absurd (z (omega arith))

-- a bit as a number
unfoldable bit : Bool → ℕ
bit b = branch b 1 0

-- a node that was free, and is taken
only_free : (k a h : ℕ) → bit true + k ≤ 1 → bit false + in_queue NodeUse.taken a h + 1 ≡ bit true + k
unfolding bit in_queue branch
only_free k a h le = omega arith

-- what is freed was in no use, and is free
nodes-freed : (l : List Item) (x a h : ℕ) (f : Tab Bool) (u : Tab NodeUse) → bit (f x) + in_queue (u x) a h + times (Item.Node (record { 0 = x })) l ≤ 1
    → bit (free_nodes l f x) + in_queue (nodes_freed l u x) a h ≡ bit (f x) + in_queue (u x) a h + times (Item.Node (record { 0 = x })) l
unfolding bit in_queue branch
nodes-freed l x a h f u le = go (times (Item.Node (record { 0 = x })) l) refl le
  where
    go : (k : ℕ) → times (Item.Node (record { 0 = x })) l ≡ k → bit (f x) + in_queue (u x) a h + k ≤ 1
        → bit (free_nodes l f x) + in_queue (nodes_freed l u x) a h ≡ bit (f x) + in_queue (u x) a h + k
    go zero e le = rw (bits_miss l x f e, node_use_unfreed l x u e) (omega arith)
    go (suc k) e le = rw (bits_hit l x f (λ z. omega arith), nodes_hit l x u (λ z. omega arith)) (omega arith)

-- a node that is taken was free
nodes-taken : (x n a h : ℕ) (f : Tab Bool) (u : Tab NodeUse) → f n ≡ true → bit (f x) + in_queue (u x) a h ≤ 1
    → bit (put f n false x) + in_queue (put u n NodeUse.taken x) a h + is x (some n) ≡ bit (f x) + in_queue (u x) a h
nodes-taken x n a h f u t le = same? n x
    (λ e. here e (rw (← e, t) at le))
    (λ ne. rw (put_other f n x false ne, put_other u n x NodeUse.taken ne, is_other x n (λ i. ne (sym i))) (omega arith))
  where
    here : n ≡ x → bit true + in_queue (u n) a h ≤ 1 → bit (put f n false x) + in_queue (put u n NodeUse.taken x) a h + is x (some n) ≡ bit (f x) + in_queue (u x) a h
    here e le = rw (← e, put_same f n false, put_same u n NodeUse.taken, t, is_same n n refl) (only_free (in_queue (u n) a h) a h le)

-- any work
nodes_worked : (x p a h M : ℕ) (s : Shared) (w : Work) (m : Machine) (u : Tab NodeUse) → Fit M m.node_free m.bag w
    → bit (m.node_free x) + in_queue (u x) a h + times (Item.Node (record { 0 = x })) (freed_items w m.bag) ≤ 1
    → bit ((works p w (with_shared s m)).node_free x) + in_queue (node_worked w m u x) a h + is x (seal_of w)
    ≡ bit (m.node_free x) + in_queue (u x) a h + times (Item.Node (record { 0 = x })) (freed_items w m.bag)
unfolding works node_worked seal_of freed_items times is Fit
nodes_worked x p a h M s Work.Nothing m u fit le = omega arith
nodes_worked x p a h M s (Work.Put i) m u fit le = omega arith
nodes_worked x p a h M s (Work.PutThenFree i n) m u fit le = let z = nodes-freed (m.bag n.0).holds x a h m.node_free u le in omega arith
nodes_worked x p a h M s (Work.Seal n e) m u fit le = let z = nodes-taken x n.0 a h m.node_free u fit.1.0 (omega arith) in omega arith

-- a node that is retired was an old head
gain_held : {p : ℕ} {spare : Node} {s s' : Shared} {pl : Place} {v : Turn} {i : Option Item} {w : Work} {pl' : Place} (x : ℕ) → Kind p spare s s' pl v i w pl'
    → waits (Item.Node (record { 0 = x })) i ≤ holds_node x pl
unfolding waits same_item branch holds_node taken_node old_head is
gain_held x (Kind.idle h k) = omega arith
gain_held x (Kind.enlists h k) = omega arith
gain_held x (Kind.seals h) = omega arith
gain_held x (Kind.links h) = omega arith
gain_held x (Kind.pops h k) = omega arith
gain_held x (Kind.unlinks h e k) = omega arith
gain_held x (Kind.retires h e k) = omega arith
gain_held x (Kind.moves h e k) = omega arith
gain_held x (Kind.pushes h k) = omega arith
gain_held x (Kind.accepts h k) = omega arith

-- a work that does not free a node, if it was not free, leaves its use
work_keeps : (x M : ℕ) (w : Work) (m : Machine) (u : Tab NodeUse) → Fit M m.node_free m.bag w → bit (m.node_free x) ≡ 0
    → times (Item.Node (record { 0 = x })) (freed_items w m.bag) ≡ 0 → node_worked w m u x ≡ u x
unfolding node_worked freed_items Fit bit branch
work_keeps x M Work.Nothing m u fit b z = refl
work_keeps x M (Work.Put i) m u fit b z = refl
work_keeps x M (Work.PutThenFree i n) m u fit b z = node_use_unfreed (m.bag n.0).holds x u z
work_keeps x M (Work.Seal n e) m u fit b z = put_other u n.0 x NodeUse.taken (λ same. let c : bit (m.node_free x) ≡ 1 = rw (← same, fit.1.0) in omega arith)

-- ---- the queue, from the invariant

module _ (N M : ℕ) (m : Machine) (g : Ghost) (inv : Inv N M m g) where
  -- head and tail are there
  head_in : head_of m.shared < M
  unfolding index
  head_in = let h = inv.ranged.queue_head in omega arith

  tail_in : tail_of m.shared < M
  unfolding index
  tail_in = let h = inv.ranged.queue_tail in omega arith

  -- neither head nor tail is before `low`
  pub low_head : low g.pos m.shared ≤ g.pos (head_of m.shared)
  unfolding low
  low_head = omega arith

  low_tail : low g.pos m.shared ≤ g.pos (tail_of m.shared)
  unfolding low
  low_tail = omega arith

  tail_low : (x : ℕ) → m.shared.queue_tail ≡ link x → low g.pos m.shared ≤ g.pos x
  tail_low x e = let same : tail_of m.shared ≡ x = rw e (index-link x) in rw same at low_tail

  -- the next of a node in reach stands one behind it
  next_of : (k n : ℕ) → k < M → g.node_use k ≡ NodeUse.placed → low g.pos m.shared ≤ g.pos k → m.shared.node_next k ≡ link n
      → (g.node_use n ≡ NodeUse.placed) × (g.pos n ≡ g.pos k + 1)
  next_of k n lt placed le e =
      let h = inv.queued.goes_on k lt placed le (rw e (link_not_null n)) in
      rw (e, index-link n) at h

  -- of the head, at a pop's exchange that is won
  pub popped_next : (b : ℕ) (pl : Place) (q : Pops) (head next : Node) → HoldsAt N M m g b pl → pl ≡ Place.Pop q (PopAt.Exchange head next) → m.shared.queue_head ≡ link head.0
      → (head.0 < M) × ((g.node_use head.0 ≡ NodeUse.placed) × ((g.node_use next.0 ≡ NodeUse.placed) × (g.pos next.0 ≡ g.pos head.0 + 1)))
  unfolding HoldsAt HoldsPop SafeNode
  popped_next b pl q head next h e k =
      let z : HoldsAt N M m g b (Place.Pop q (PopAt.Exchange head next)) = rw e at h in
      let same : head_of m.shared ≡ head.0 = rw k (index-link head.0) in
      let le : low g.pos m.shared ≤ g.pos head.0 = rw same at low_head in
      (z.0.0.0, (z.0.0.1.0, next_of head.0 next.0 z.0.0.0 z.0.0.1.0 le z.1.0))

  -- the node that a push is about to link is taken
  taken_here : (pl : Place) (f : Then) (new onto : Node) → Of (λ n. (g.node_use n ≡ NodeUse.taken) × (is_null (m.shared.node_next n) ≡ true)) (taken_node pl)
      → pl ≡ Place.Push f (PushAt.Link new onto) → g.node_use new.0 ≡ NodeUse.taken
  unfolding taken_node Of
  taken_here pl f new onto h e = (rw e at h).0

  -- a node about to be linked is taken, and the head stands before all that will be linked
  pub linking : (q : ℕ) → q < N → (f : Then) (new onto : Node) → (m.own q).place ≡ Place.Push f (PushAt.Link new onto)
      → (g.node_use new.0 ≡ NodeUse.taken) × ((g.node_use (head_of m.shared) ≡ NodeUse.placed) × (g.pos (head_of m.shared) ≤ g.last))
  linking q hq f new onto e =
      (taken_here (m.own q).place f new onto (inv.used.taken q hq) e, (inv.queued.head, inv.queued.pos_le (head_of m.shared) head_in inv.queued.head))

  -- an old head has been left by the tail: it is out
  head_out : (x next : ℕ) (s' : Shared) → x < M → m.shared.node_next x ≡ link next → (g.node_use x ≡ NodeUse.placed) × (g.pos x < g.pos (head_of m.shared))
      → s'.queue_head ≡ m.shared.queue_head → Left x next m.shared s' → g.pos x < low g.pos s'
  unfolding low
  head_out x next s' hx e old h (Left.elsewhere ne same) =
      let near = inv.queued.near in
      let last = inv.queued.pos_le (head_of m.shared) head_in inv.queued.head in
      let word = link_back m.shared.queue_tail inv.ranged.queue_tail.0 inv.ranged.queue_tail.1.1 in
      let off : g.pos (tail_of m.shared) ≢ g.pos x = λ k. ne (word ∙ ap link (inv.queued.differ (tail_of m.shared) x tail_in hx inv.queued.tail old.0 k)) in
      let lt = old.1 in
      rw (h, same) (omega arith)
  head_out x next s' hx e old h (Left.moved here there) =
      let k = (next_of x next hx old.0 (tail_low x here) e).1 in
      let lt = old.1 in
      rw (h, there, index-link next) (omega arith)

  -- a node that is retired now is out: by the ten kinds
  retired_out : {p : ℕ} {spare : Node} {s' : Shared} {pl : Place} {v : Turn} {i : Option Item} {w : Work} {pl' : Place} (b x : ℕ) → Kind p spare m.shared s' pl v i w pl'
      → HoldsAt N M m g b pl → Of (λ n. (g.node_use n ≡ NodeUse.placed) × (g.pos n < g.pos (head_of m.shared))) (old_head pl) → x < M
      → waits (Item.Node (record { 0 = x })) i ≢ 0
      → (node_turned v g.node_use x ≡ NodeUse.placed) × (pos_turned v g.last g.pos x < low (pos_turned v g.last g.pos) s')
  unfolding node_turned pos_turned waits same_item branch HoldsAt HoldsPop Of old_head is
  retired_out b x (Kind.idle h k) holds old hx ne = absurd (ne refl)
  retired_out b x (Kind.enlists h k) holds old hx ne = absurd (ne refl)
  retired_out b x (Kind.seals h) holds old hx ne = absurd (ne refl)
  retired_out b x (Kind.links h) holds old hx ne = absurd (ne refl)
  retired_out b x (Kind.pops h k) holds old hx ne = absurd (ne refl)
  retired_out b x (Kind.unlinks h e k) holds old hx ne = absurd (ne refl)
  retired_out {s' = s'} b x (Kind.retires {q} {head} {next} h e k) holds old hx ne = same? x head.0
      (λ here. rw here (old.0, head_out head.0 next.0 s' (rw (← here) hx) holds.0 old h e))
      (λ off. absurd (ne (is_other x head.0 off)))
  retired_out {s' = s'} b x (Kind.moves {q} {head} {next} h e k) holds old hx ne = same? x head.0
      (λ here. rw here (old.0, head_out head.0 next.0 s' (rw (← here) hx) holds.0 old h e))
      (λ off. absurd (ne (is_other x head.0 off)))
  retired_out b x (Kind.pushes h k) holds old hx ne = absurd (ne refl)
  retired_out b x (Kind.accepts h k) holds old hx ne = absurd (ne refl)

-- ---- any move

module _ (N M p : ℕ) {spare : Node} (m : Machine) (g : Ghost) (inv : Inv N M m g) (hp : p < N) {v : Turn} {i : Option Item} (s : Shared) (a : After)
    (kind : Kind p spare m.shared s (m.own p).place v i a.work a.participant.place) (fit : Fit M m.node_free m.bag a.work) where
  -- the machine and the ghost afterwards
  abbrev next : Machine
  next = goes p m s a

  abbrev ghost : Ghost
  ghost = moved v a.work m s g

  -- slots
  turned_slot : (x : ℕ) → not_out (use_turned v g.slot_use x) + waits (Item.Slot (record { 0 = x })) i ≡ not_out (g.slot_use x)
  turned_slot x = slots_turned x g.slot_use kind
      (λ n e. registering_in (g.slot_use p) _ _ (m.own p) (m.held p) (m.own p).place n refl e (inv.records.fine p hp))
      (λ t c succ e r. linked_one (g.slot_use c.curr.0) (unlinked_in N M m g inv (g.gpin p) (m.own p).place t c succ (inv.held.holds p hp) e r))

  -- each slot is in one use, and occurs only if it is out
  pub slots_goes : (x : ℕ) → x < N → not_out (ghost.slot_use x) + occurs N M next (Item.Slot (record { 0 = x })) ≡ 1
  unfolding moved
  slots_goes x hx =
      let before = inv.used.slots x hx in
      let turned = turned_slot x in
      let kept = balance-goes N M p m s a (Item.Slot (record { 0 = x })) hp kind fit in
      let freed = slots_worked a.work m x (use_turned v g.slot_use) (omega arith) in
      omega arith

  pub slot_out-goes : (x : ℕ) → x < N → occurs N M next (Item.Slot (record { 0 = x })) ≢ 0 → ghost.slot_use x ≡ Use.out
  slot_out-goes x hx ne = not_out_lem (ghost.slot_use x) (occurs N M next (Item.Slot (record { 0 = x }))) (slots_goes x hx) ne

  -- nodes: the queue and p's place before the work; all places; and the work
  turned_node : (x : ℕ) → x < M
      → in_queue (node_turned v g.node_use x) (pos_turned v g.last g.pos x) (pos_turned v g.last g.pos (head_of s)) + holds_node x a.participant.place + waits (Item.Node (record { 0 = x })) i
      ≡ in_queue (g.node_use x) (g.pos x) (g.pos (head_of m.shared)) + holds_node x (m.own p).place + is x (seal_of a.work)
  turned_node x hx = nodes_turned x g.node_use g.pos g.last kind
      (linking N M m g inv p hp)
      (λ q head n e k.
      let z = popped_next N M m g inv (g.gpin p) (m.own p).place q head n (inv.held.holds p hp) e k in
      (z.1.1.1, (z.1.0, λ u same. inv.queued.differ x head.0 hx z.0 u z.1.0 same)))

  -- what all places hold: p's changes
  held-nodes : (x : ℕ) → sum N (λ q. holds_node x (next.own q).place) + holds_node x (m.own p).place
      ≡ sum N (λ q. holds_node x (m.own q).place) + holds_node x a.participant.place
  unfolding goes
  held-nodes x = rw (followed_own p a (with_shared s m)) (sum-put N (λ (o : Participant). holds_node x o.place) m.own p a.participant hp)

  -- the work leaves head and tail
  pub next_head : head_of next.shared ≡ head_of s
  unfolding goes followed
  next_head = ap index (works_head p a.work (with_shared s m))

  next_tail : tail_of next.shared ≡ tail_of s
  unfolding goes followed
  next_tail = ap index (works_tail p a.work (with_shared s m))

  -- the count before the move, in the terms of this module
  before-node : (x : ℕ) → x < M → bit (m.node_free x) + in_queue (g.node_use x) (g.pos x) (g.pos (head_of m.shared)) + sum N (λ q. holds_node x (m.own q).place)
      + occurs N M m (Item.Node (record { 0 = x })) ≡ 1
  unfolding bit holds_node
  before-node x hx = inv.used.nodes x hx

  -- the free bit and the queue, after the work
  worked_node : (x h : ℕ) → x < M → bit (m.node_free x) + in_queue (node_turned v g.node_use x) (ghost.pos x) h + times (Item.Node (record { 0 = x })) (freed_items a.work m.bag) ≤ 1
      → bit (next.node_free x) + in_queue (ghost.node_use x) (ghost.pos x) h + is x (seal_of a.work)
      ≡ bit (m.node_free x) + in_queue (node_turned v g.node_use x) (ghost.pos x) h + times (Item.Node (record { 0 = x })) (freed_items a.work m.bag)
  unfolding goes followed moved
  worked_node x h hx le = nodes_worked x p _ h M s a.work m (node_turned v g.node_use) fit le

  -- each node is in one use
  pub nodes-goes : (x : ℕ) → x < M → branch (next.node_free x) 1 0 + in_queue (ghost.node_use x) (ghost.pos x) (ghost.pos (head_of next.shared))
      + sum N (λ q. is x (taken_node (next.own q).place) + is x (old_head (next.own q).place)) + occurs N M next (Item.Node (record { 0 = x })) ≡ 1
  unfolding moved
  nodes-goes x hx =
      let before = before-node x hx in
      let turned = turned_node x hx in
      let places = held-nodes x in
      let mine = sum_at N (λ q. holds_node x (m.own q).place) p hp in
      let seal = seal-held x kind in
      let kept = balance-goes N M p m s a (Item.Node (record { 0 = x })) hp kind fit in
      let worked = worked_node x (pos_turned v g.last g.pos (head_of s)) hx (omega arith) in
      unfold bit holds_node in (rw next_head (omega arith))

  -- neither head nor tail goes back
  low_turned : Turned M g m.shared v s → low g.pos m.shared ≤ low (pos_turned v g.last g.pos) s
  unfolding low
  low_turned turned = let h = turned.head in let k = turned.tail in omega arith

  -- before the work: a node that occurred, or is retired now
  turned_out : Turned M g m.shared v s → (x : ℕ) → x < M → occurs N M m (Item.Node (record { 0 = x })) + waits (Item.Node (record { 0 = x })) i ≢ 0
      → (node_turned v g.node_use x ≡ NodeUse.placed) × (pos_turned v g.last g.pos x < low (pos_turned v g.last g.pos) s)
  turned_out turned x hx ne = go (occurs N M m (Item.Node (record { 0 = x }))) refl
    where
      go : (k : ℕ) → occurs N M m (Item.Node (record { 0 = x })) ≡ k
          → (node_turned v g.node_use x ≡ NodeUse.placed) × (pos_turned v g.last g.pos x < low (pos_turned v g.last g.pos) s)
      go zero e = retired_out N M m g inv (g.gpin p) x kind (inv.held.holds p hp) (inv.used.old p hp) hx (λ z. ne (omega arith))
      go (suc k) e =
          let old = inv.used.node_out x hx (λ z. omega arith) in
          let lt = old.1 in
          let eq = turned.pos x old.0 in
          let le = low_turned turned in
          (turned.placed x old.0, omega arith)

  -- so it leaves `low`
  next_low : (pos : Tab ℕ) → low pos next.shared ≡ low pos s
  unfolding low
  next_low pos = rw (next_head, next_tail)

  -- a node that occurs has been left by head and tail; `Turned` says that neither goes back
  pub node_out-goes : Turned M g m.shared v s → (x : ℕ) → x < M → occurs N M next (Item.Node (record { 0 = x })) ≢ 0
      → (ghost.node_use x ≡ NodeUse.placed) × (ghost.pos x < low ghost.pos next.shared)
  unfolding moved
  node_out-goes turned x hx ne =
      let before = before-node x hx in
      let mine = sum_at N (λ q. holds_node x (m.own q).place) p hp in
      let gain = gain_held x kind in
      let kept = balance-goes N M p m s a (Item.Node (record { 0 = x })) hp kind fit in
      let out = turned_out turned x hx (λ z. ne (omega arith)) in
      (work_keeps x M a.work m (node_turned v g.node_use) fit (omega arith) (omega arith) ∙ out.0, rw (next_low (pos_turned v g.last g.pos)) out.1)

-- ---- a step

module _ (N M p : ℕ) (m : Machine) (g : Ghost) (inv : Inv N M m g) (steps : Steps N M p m) where
  pub slots_step : (x : ℕ) → x < N → not_out ((stepped_ghost M p m g).slot_use x) + occurs N M (stepped M p m) (Item.Slot (record { 0 = x })) ≡ 1
  unfolding stepped stepped_ghost goes_ghost
  slots_step = slots_goes N M p m g inv steps.here (left_of M p m) (after_of M p m)
      (kind_of N M p m g inv steps) (step-fits N M p m g inv steps)

  pub slot_out-step : (x : ℕ) → x < N → occurs N M (stepped M p m) (Item.Slot (record { 0 = x })) ≢ 0 → (stepped_ghost M p m g).slot_use x ≡ Use.out
  unfolding stepped stepped_ghost goes_ghost
  slot_out-step = slot_out-goes N M p m g inv steps.here (left_of M p m) (after_of M p m)
      (kind_of N M p m g inv steps) (step-fits N M p m g inv steps)

  pub nodes-step : (x : ℕ) → x < M → branch ((stepped M p m).node_free x) 1 0
      + in_queue ((stepped_ghost M p m g).node_use x) ((stepped_ghost M p m g).pos x) ((stepped_ghost M p m g).pos (head_of (stepped M p m).shared))
      + sum N (λ q. is x (taken_node ((stepped M p m).own q).place) + is x (old_head ((stepped M p m).own q).place)) + occurs N M (stepped M p m) (Item.Node (record { 0 = x })) ≡ 1
  unfolding stepped stepped_ghost goes_ghost
  nodes-step = nodes-goes N M p m g inv steps.here (left_of M p m) (after_of M p m)
      (kind_of N M p m g inv steps) (step-fits N M p m g inv steps)

  pub node_out-step : (x : ℕ) → x < M → occurs N M (stepped M p m) (Item.Node (record { 0 = x })) ≢ 0
      → ((stepped_ghost M p m g).node_use x ≡ NodeUse.placed) × ((stepped_ghost M p m g).pos x < low (stepped_ghost M p m g).pos (stepped M p m).shared)
  unfolding stepped stepped_ghost goes_ghost
  node_out-step = node_out-goes N M p m g inv steps.here (left_of M p m) (after_of M p m)
      (kind_of N M p m g inv steps) (step-fits N M p m g inv steps) (step_turned N M p m g inv steps)

-- ---- a call

module _ (N M p : ℕ) (c : Call) (m : Machine) (g : Ghost) (inv : Inv N M m g) (calls : Calls N M p c m) where
  pub slots_call : (x : ℕ) → x < N → not_out ((called_ghost N p c m g).slot_use x) + occurs N M (called N p c m) (Item.Slot (record { 0 = x })) ≡ 1
  unfolding called called_ghost goes
  slots_call = slots_goes N M p m g inv calls.here m.shared (opens N c (m.own p)) (call_of N M p c m g inv calls) (call-fits N M p c m g inv calls)

  pub slot_out-call : (x : ℕ) → x < N → occurs N M (called N p c m) (Item.Slot (record { 0 = x })) ≢ 0 → (called_ghost N p c m g).slot_use x ≡ Use.out
  unfolding called called_ghost goes
  slot_out-call = slot_out-goes N M p m g inv calls.here m.shared (opens N c (m.own p)) (call_of N M p c m g inv calls) (call-fits N M p c m g inv calls)

  pub nodes-call : (x : ℕ) → x < M → branch ((called N p c m).node_free x) 1 0
      + in_queue ((called_ghost N p c m g).node_use x) ((called_ghost N p c m g).pos x) ((called_ghost N p c m g).pos (head_of (called N p c m).shared))
      + sum N (λ q. is x (taken_node ((called N p c m).own q).place) + is x (old_head ((called N p c m).own q).place)) + occurs N M (called N p c m) (Item.Node (record { 0 = x })) ≡ 1
  unfolding called called_ghost goes
  nodes-call = nodes-goes N M p m g inv calls.here m.shared (opens N c (m.own p)) (call_of N M p c m g inv calls) (call-fits N M p c m g inv calls)

  pub node_out-call : (x : ℕ) → x < M → occurs N M (called N p c m) (Item.Node (record { 0 = x })) ≢ 0
      → ((called_ghost N p c m g).node_use x ≡ NodeUse.placed) × ((called_ghost N p c m g).pos x < low (called_ghost N p c m g).pos (called N p c m).shared)
  unfolding called called_ghost goes
  node_out-call = node_out-goes N M p m g inv calls.here m.shared (opens N c (m.own p)) (call_of N M p c m g inv calls) (call-fits N M p c m g inv calls) (still N M p c m g inv calls)

-- ---- a registering: one use for another; nothing else is counted

-- no node is held at rest, nor where registering begins
rest-holds : (x : ℕ) → holds_node x Place.Rest ≡ 0
unfolding holds_node taken_node old_head is
rest-holds x = refl

new_holds : (x : ℕ) → holds_node x new_participant.place ≡ 0
unfolding new_participant holds_node taken_node old_head is
new_holds x = refl

module _ (N M p : ℕ) (m : Machine) (g : Ghost) (inv : Inv N M m g) (registers : Registers N p m) where
  use_register : (x : ℕ) → not_out ((registered_ghost p g).slot_use x) ≡ not_out (g.slot_use x)
  unfolding registered_ghost not_out
  use_register x = same? p x
      (λ e. rw (← e, put_same g.slot_use p Use.registering, unused N M p m g inv registers))
      (λ ne. rw (put_other g.slot_use p x Use.registering ne))

  -- the counts
  pub slots_register : (x : ℕ) → x < N → not_out ((registered_ghost p g).slot_use x) + occurs N M (registered p m) (Item.Slot (record { 0 = x })) ≡ 1
  slots_register x hx =
      let a = use_register x in
      let b = balance-register N M p m g inv registers (Item.Slot (record { 0 = x })) in
      let c = inv.used.slots x hx in
      omega arith

  pub slot_out-register : (x : ℕ) → x < N → occurs N M (registered p m) (Item.Slot (record { 0 = x })) ≢ 0 → (registered_ghost p g).slot_use x ≡ Use.out
  slot_out-register x hx ne = not_out_lem ((registered_ghost p g).slot_use x) (occurs N M (registered p m) (Item.Slot (record { 0 = x }))) (slots_register x hx) ne

  -- a slot that registers holds no node, before or after
  held-register : (x : ℕ) → sum N (λ q. holds_node x ((registered p m).own q).place) ≡ sum N (λ q. holds_node x (m.own q).place)
  unfolding registered
  held-register x =
      let a = sum-put N (λ (o : Participant). holds_node x o.place) m.own p new_participant registers.here in
      let b = ap (holds_node x) (free_quiet N M p m g inv registers).0 ∙ rest-holds x in
      let c = new_holds x in
      omega arith

  pub nodes-register : (x : ℕ) → x < M → branch ((registered p m).node_free x) 1 0
      + in_queue ((registered_ghost p g).node_use x) ((registered_ghost p g).pos x) ((registered_ghost p g).pos (head_of (registered p m).shared))
      + sum N (λ q. is x (taken_node ((registered p m).own q).place) + is x (old_head ((registered p m).own q).place)) + occurs N M (registered p m) (Item.Node (record { 0 = x })) ≡ 1
  unfolding registered registered_ghost write holds_node
  nodes-register x hx =
      let a = held-register x in
      let b = balance-register N M p m g inv registers (Item.Node (record { 0 = x })) in
      let c = inv.used.nodes x hx in
      omega arith

  pub node_out-register : (x : ℕ) → x < M → occurs N M (registered p m) (Item.Node (record { 0 = x })) ≢ 0
      → ((registered_ghost p g).node_use x ≡ NodeUse.placed) × ((registered_ghost p g).pos x < low (registered_ghost p g).pos (registered p m).shared)
  unfolding registered registered_ghost write low
  node_out-register x hx ne = inv.used.node_out x hx (λ z. ne (balance-register N M p m g inv registers (Item.Node (record { 0 = x })) ∙ z))
