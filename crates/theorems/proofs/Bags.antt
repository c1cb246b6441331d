-- Bags in nodes. What is sealed was retired no later than the seal: at a seal the global epoch is the seal, every item of the bag is out (Uses), and
-- whatever is out went out no later than now; afterwards neither its time of retirement nor the seal changes. A spare node has an empty bag: a node
-- that is freed was left by head and tail, nobody had popped it (Safety: what is freed nobody holds), and so its bag had been freed before it. And a node
-- at the head or before it has an empty bag unless somebody has popped it and is about to free it. Assumes nothing.
use mathlib.Core.Path.{◌≡◌, refl, ap, sym, ◌∙◌}
use mathlib.Core.Logic.{◌≢◌}
use mathlib.Core.Bool.{Bool, true, ◌&&◌}
use mathlib.Core.List.{List, [], ◌∷◌}
use mathlib.Core.Option.{Option, none, some}
use Prim.Native.Nat.{ℕ, zero, suc, ◌+◌, ◌≤◌, ◌<◌}
use native.Mathlib.Omega.{arith}
use lib.Dec.{ltb}
use borrow.Author.Tests.{eq-eqb, lt-leb}
use Rattle.definition.specs.Base.{branch, Tab, put, sum}
use Rattle.definition.specs.Links.{link}
use Rattle.definition.specs.List.{pred_word}
use Rattle.definition.specs.Tables.{Shared, read, write}
use Rattle.definition.specs.Calls.{opens}
use Rattle.definition.specs.Public.{new_participant}
use Rattle.definition.proofs.Base.{same?, put_ind, put_same, put_other, sum-put, branch-true, branch-false}
use Rattle.definition.proofs.Codec.{index-link}
use Rattle.definition.proofs.Within.{ItemIn, PlaceIn, PopIn}
use Rattle.theorems.proofs.Machine.{Machine, Sealed, with_shared, works, followed}
use Rattle.theorems.proofs.Ghost.{Use, NodeUse, Ghost, Turn, num, G, head_of, low, moved, gone_turned, node_turned, pos_turned, node_worked, nodes_freed, past_after}
use Rattle.theorems.proofs.Invariant.{waiting_item, popped_node, Of, same_item, times, waits, is, has, occurs, SafeNode, HoldsThen, HoldsPop, HoldsAt, Retired, Each, poppers, Bagged}
use Rattle.theorems.proofs.Inv.{Inv, left_of, after_of, goes, goes_ghost, stepped, stepped_ghost, Steps, called, called_ghost, Calls, registered, registered_ghost, Registers}
use Rattle.theorems.proofs.Safety.{each_map, each_at, sum_at, in_bag-occurs, node_use_unfreed, node_unfreed}
use Rattle.theorems.proofs.Linked.{under_pin, under-pin, followed_own}
use Rattle.theorems.proofs.Moves.{work_of, Deferred, Kind}
use Rattle.theorems.proofs.Nodes.{kind_of, call_of}
use Rattle.theorems.proofs.Balance.{freed_items, Fit, step-fits, call-fits, free_quiet}
use Rattle.theorems.proofs.Uses.{popped_next, unlinked_in, linking, low_head, spare_placed, taken-placed, is_same, is_other, next_head, nodes_hit}
use Rattle.theorems.proofs.Types.{Node, Ptr, Cursor, Item, Try, Pops, Deferring, Then, WalkAt, PopAt, PushAt, Place, Participant, Work, After, Call}

-- ---- lists and sums

-- an item is itself
same_refl : (x : Item) → same_item x x ≡ true
unfolding same_item
same_refl (Item.Token t) = eq-eqb t t refl
same_refl (Item.Node n) = eq-eqb n.0 n.0 refl
same_refl (Item.Slot s) = eq-eqb s.0 s.0 refl

-- what holds of each item passes on, by what is known of the items that are there
each_in : (P Q : Item → Type 0) (l : List Item) → ((i : Item) → times i l ≢ 0 → P i → Q i) → Each P l → Each Q l
unfolding Each times branch
each_in P Q [] f h = tt
each_in P Q (i ∷ l) f h =
    let k : branch {A = ℕ} (same_item i i) 1 0 ≡ 1 = branch-true 1 0 (same_refl i) in
    (f i (λ z. omega arith) h.0, each_in P Q l (λ j ne. f j (λ z. ne (omega arith))) h.1)

-- a sum of nothing; an index that is not meant
pub sum_none : (n : ℕ) (f : Tab ℕ) → ((i : ℕ) → i < n → f i ≡ 0) → sum n f ≡ 0
unfolding sum
sum_none zero f h = refl
sum_none (suc n) f h = let a = sum_none n f (λ i lt. h i (omega arith)) in let b = h n (omega arith) in omega arith

pub is_none : (n : ℕ) (o : Option ℕ) → (o ≡ some n → ⊥) → is n o ≡ 0
is_none n none h = unfold is in refl
is_none n (some y) h = same? n y (λ e. absurd (h (ap (λ (k : ℕ). some k) (sym e)))) (λ ne. is_other n y ne)

-- ---- who has popped a node is pinned, and the node is safe for it

-- by the place
popped_held : (N M : ℕ) (m : Machine) (g : Ghost) (b : ℕ) (pl : Place) → HoldsAt N M m g b pl
    → Of (λ n. SafeNode M g m.shared b n × (under_pin pl ≡ true)) (popped_node pl)
unfolding Of popped_node HoldsAt HoldsPop HoldsThen under_pin
popped_held N M m g b Place.Rest h = tt
popped_held N M m g b (Place.Register a) h = tt
popped_held N M m g b (Place.PinEpoch k) h = tt
popped_held N M m g b (Place.PinWord k w) h = tt
popped_held N M m g b (Place.Repin a) h = tt
popped_held N M m g b Place.UnpinWord h = tt
popped_held N M m g b (Place.AdvanceEpoch k) h = tt
popped_held N M m g b (Place.Walk t a) h = tt
popped_held N M m g b (Place.AdvanceWord t curr succ) h = tt
popped_held N M m g b (Place.AdvanceStore t) h = tt
popped_held N M m g b (Place.Pop p PopAt.Head) h = tt
popped_held N M m g b (Place.Pop p (PopAt.Next head)) h = tt
popped_held N M m g b (Place.Pop p (PopAt.Exchange head next)) h = tt
popped_held N M m g b (Place.Pop p (PopAt.Tail head next)) h = (h.1.0, refl)
popped_held N M m g b (Place.Pop p (PopAt.TailMove head next)) h = (h.1.0, refl)
popped_held N M m g b (Place.Push (Then.Defer (Deferring.Token token)) a) h = tt
popped_held N M m g b (Place.Push (Then.Defer (Deferring.Slot t c succ)) a) h = tt
popped_held N M m g b (Place.Push (Then.Defer (Deferring.Node p head next)) a) h = (h.0.0, refl)
popped_held N M m g b (Place.Push Then.Flush a) h = tt
popped_held N M m g b (Place.Push Then.Finalize a) h = tt
popped_held N M m g b Place.FinalWord h = tt
popped_held N M m g b Place.FinalTag h = tt

-- the node that a pop goes on to is there
next_in : (N M : ℕ) (pl : Place) (q : Pops) (head next : Node) → PlaceIn N M pl → pl ≡ Place.Pop q (PopAt.Exchange head next) → next.0 < M
unfolding PlaceIn PopIn
next_in N M pl q head next h e = (rw e at h).1.1

-- what a place carries, if it is known
of_some : (P : ℕ → Type 0) (n : ℕ) (o : Option ℕ) → o ≡ some n → Of P o → P n
unfolding Of
of_some P n o e h = rw e at h

-- ---- the moves: what they do to popped nodes, to positions and to times of retirement

-- the node whose bag a work frees
unfoldable frees_of : Work → Option ℕ
frees_of Work.Nothing = none
frees_of (Work.Put i) = none
frees_of (Work.PutThenFree i n) = some n.0
frees_of (Work.Seal n e) = none

-- what the item that waits belongs to has popped: in a push, however far it is
pub push_popped : (f : Then) (a b : PushAt) → popped_node (Place.Push f a) ≡ popped_node (Place.Push f b)
unfolding popped_node
push_popped (Then.Defer (Deferring.Token token)) a b = refl
push_popped (Then.Defer (Deferring.Slot t c succ)) a b = refl
push_popped (Then.Defer (Deferring.Node p head next)) a b = refl
push_popped Then.Flush a b = refl
push_popped Then.Finalize a b = refl

-- a deferring ends with the popped node kept, or with its bag freed
deferred-pops : (n : ℕ) (d : Deferring) {w : Work} {pl' : Place} (a : PushAt) → Deferred d w pl'
    → is n (popped_node (Place.Push (Then.Defer d) a)) ≤ is n (popped_node pl') + is n (frees_of w)
unfolding popped_node frees_of work_of is
deferred-pops n (Deferring.Token token) a (Deferred.stored h) = omega arith
deferred-pops n (Deferring.Slot t c succ) a (Deferred.stored h) = omega arith
deferred-pops n (Deferring.Node q head next) a (Deferred.stored h) = omega arith
deferred-pops n d a Deferred.waits = rw (push_popped (Then.Defer d) a PushAt.Epoch) (omega arith)

-- any kind of move: a popped node stays popped until its bag is freed
popped_kept : {p : ℕ} {spare : Node} {s s' : Shared} {pl : Place} {v : Turn} {i : Option Item} {w : Work} {pl' : Place} (n : ℕ) → Kind p spare s s' pl v i w pl'
    → is n (popped_node pl) ≤ is n (popped_node pl') + is n (frees_of w)
popped_kept n (Kind.idle h k) = rw k.popped (omega arith)
popped_kept n (Kind.enlists h k) = unfold popped_node is in (omega arith)
popped_kept {spare = spare} n (Kind.seals {f} h) = rw (push_popped f (PushAt.Tail spare) PushAt.Epoch) (omega arith)
popped_kept n (Kind.links {f} {new} {onto} h) = rw (push_popped f (PushAt.Move new onto) (PushAt.Link new onto)) (omega arith)
popped_kept n (Kind.pops h k) = unfold popped_node is in (omega arith)
popped_kept n (Kind.unlinks h e k) = unfold popped_node is in (omega arith)
popped_kept n (Kind.retires h e k) = unfold popped_node in (deferred-pops n _ PushAt.Epoch k)
popped_kept n (Kind.moves h e k) = unfold popped_node in (deferred-pops n _ PushAt.Epoch k)
popped_kept n (Kind.pushes {d} {new} {onto} h k) = deferred-pops n d (PushAt.Move new onto) k
popped_kept n (Kind.accepts h k) = unfold popped_node is in (omega arith)

-- a bag that is freed is that of the popped node
deferred-frees : (d : Deferring) {w : Work} {pl' : Place} (a : PushAt) → Deferred d w pl' → Of (λ n. popped_node (Place.Push (Then.Defer d) a) ≡ some n) (frees_of w)
unfolding popped_node frees_of work_of Of
deferred-frees (Deferring.Token token) a (Deferred.stored h) = tt
deferred-frees (Deferring.Slot t c succ) a (Deferred.stored h) = tt
deferred-frees (Deferring.Node q head next) a (Deferred.stored h) = refl
deferred-frees d a Deferred.waits = tt

-- any kind of move
frees_popped : {p : ℕ} {spare : Node} {s s' : Shared} {pl : Place} {v : Turn} {i : Option Item} {w : Work} {pl' : Place} → Kind p spare s s' pl v i w pl'
    → Of (λ n. popped_node pl ≡ some n) (frees_of w)
unfolding frees_of Of popped_node
frees_popped (Kind.idle h k) = tt
frees_popped (Kind.enlists h k) = tt
frees_popped (Kind.seals h) = tt
frees_popped (Kind.links h) = tt
frees_popped (Kind.pops h k) = tt
frees_popped (Kind.unlinks h e k) = deferred-frees _ PushAt.Epoch k
frees_popped (Kind.retires h e k) = deferred-frees _ PushAt.Epoch k
frees_popped (Kind.moves h e k) = deferred-frees _ PushAt.Epoch k
frees_popped (Kind.pushes {d} {new} {onto} h k) = deferred-frees d (PushAt.Move new onto) k
frees_popped (Kind.accepts h k) = deferred-frees _ PushAt.Epoch k

-- a node that stands at the head or before it did so before, but for the one that the head goes on to
link-behind : (n new head last : ℕ) (u : Tab NodeUse) (pos : Tab ℕ) → u new ≡ NodeUse.taken → u head ≡ NodeUse.placed → pos head ≤ last
    → put u new NodeUse.placed n ≡ NodeUse.placed → put pos new (last + 1) n ≤ put pos new (last + 1) head → (u n ≡ NodeUse.placed) × (pos n ≤ pos head)
link-behind n new head last u pos t h le e k =
    let other : new ≢ head = λ z. taken-placed (u head) (rw (← z) t) h in
    let k' : put pos new (last + 1) n ≤ pos head = rw (put_other pos new head (last + 1) other) at k in
    same? new n
    (λ z. let y : put pos new (last + 1) n ≡ last + 1 = rw (← z) (put_same pos new (last + 1)) in absurd (omega arith))
    (λ ne. (sym (put_other u new n NodeUse.placed ne) ∙ e, rw (put_other pos new n (last + 1) ne) at k'))

-- any kind of move
head_kept : {p : ℕ} {spare : Node} {s s' : Shared} {pl : Place} {v : Turn} {i : Option Item} {w : Work} {pl' : Place} (n : ℕ) (u : Tab NodeUse) (pos : Tab ℕ) (last : ℕ)
    → Kind p spare s s' pl v i w pl'
    → ((f : Then) (new onto : Node) → pl ≡ Place.Push f (PushAt.Link new onto) → (u new.0 ≡ NodeUse.taken) × ((u (head_of s) ≡ NodeUse.placed) × (pos (head_of s) ≤ last)))
    → ((q : Pops) (head next : Node) → pl ≡ Place.Pop q (PopAt.Exchange head next) → s.queue_head ≡ link head.0
    → (pos next.0 ≡ pos head.0 + 1) × (u n ≡ NodeUse.placed → pos n ≡ pos next.0 → n ≡ next.0))
    → node_turned v u n ≡ NodeUse.placed → pos_turned v last pos n ≤ pos_turned v last pos (head_of s') → is n (popped_node pl') ≡ 0
    → (u n ≡ NodeUse.placed) × (pos n ≤ pos (head_of s))
unfolding node_turned pos_turned popped_node
head_kept n u pos last (Kind.idle h k) linking popping e le z = (e, rw h at le)
head_kept n u pos last (Kind.enlists h k) linking popping e le z = (e, rw h at le)
head_kept n u pos last (Kind.seals h) linking popping e le z = (e, rw h at le)
head_kept {s = s} n u pos last (Kind.links {f} {new} {onto} h) linking popping e le z =
    let k = linking f new onto refl in
    link-behind n new.0 (head_of s) last u pos k.0 k.1.0 k.1.1 e (rw h at le)
head_kept n u pos last (Kind.pops {q} {head} {next} h k) linking popping e le z =
    let y = popping q head next refl h in
    let b : pos n ≤ pos next.0 = rw (k, index-link next.0) at le in
    let c = y.0 in
    let off : pos n ≢ pos next.0 = λ same. not_popped n next.0 z (y.1 e same) in
    (e, rw (h, index-link head.0) (omega arith))
  where
    not_popped : (n k : ℕ) → is n (some k) ≡ 0 → n ≡ k → ⊥
    not_popped n k z same = let one = is_same n k same in omega arith
head_kept n u pos last (Kind.unlinks h r k) linking popping e le z = (e, rw h at le)
head_kept n u pos last (Kind.retires h r k) linking popping e le z = (e, rw h at le)
head_kept n u pos last (Kind.moves h r k) linking popping e le z = (e, rw h at le)
head_kept n u pos last (Kind.pushes h k) linking popping e le z = (e, rw h at le)
head_kept n u pos last (Kind.accepts h k) linking popping e le z = (e, rw h at le)

-- a turn makes no node spare
turn_spare : (v : Turn) (u : Tab NodeUse) (n : ℕ) → node_turned v u n ≡ NodeUse.spare → u n ≡ NodeUse.spare
unfolding node_turned
turn_spare Turn.quiet u n e = e
turn_spare (Turn.enlists p) u n e = e
turn_spare (Turn.unlinks s) u n e = e
turn_spare (Turn.links k) u n e = put_ind (λ w. w ≡ NodeUse.spare → u n ≡ NodeUse.spare) u k n NodeUse.placed (λ _ z. absurd (spare_placed NodeUse.placed z refl)) (λ _ z. z) e

-- the time at which a slot that is out went out is not changed by a turn
gone-kept : {p : ℕ} {spare : Node} {s s' : Shared} {pl : Place} {v : Turn} {i : Option Item} {w : Work} {pl' : Place} (x b : ℕ) (u : Tab Use) (r : Tab ℕ)
    → Kind p spare s s' pl v i w pl'
    → ((t : Try) (c : Cursor) (succ : Ptr) → pl ≡ Place.Walk t (WalkAt.Unlink c succ) → read (pred_word c.pred) s ≡ link c.curr.0 → u c.curr.0 ≡ Use.linked)
    → u x ≡ Use.out → gone_turned v b r x ≡ r x
unfolding gone_turned
gone-kept x b u r (Kind.idle h k) unlinking e = refl
gone-kept x b u r (Kind.enlists h k) unlinking e = refl
gone-kept x b u r (Kind.seals h) unlinking e = refl
gone-kept x b u r (Kind.links h) unlinking e = refl
gone-kept x b u r (Kind.pops h k) unlinking e = refl
gone-kept x b u r (Kind.unlinks {t} {c} {succ} h q k) unlinking e =
    put_other r c.curr.0 x b (λ same. linked_out (u x) (rw (← same) (unlinking t c succ refl q)) e)
  where
    linked_out : (u : Use) → u ≡ Use.linked → u ≡ Use.out → ⊥
    linked_out u h k = let z : ◌≡◌ {A = ℕ} 0 1 = cc in omega arith
gone-kept x b u r (Kind.retires h q k) unlinking e = refl
gone-kept x b u r (Kind.moves h q k) unlinking e = refl
gone-kept x b u r (Kind.pushes h k) unlinking e = refl
gone-kept x b u r (Kind.accepts h k) unlinking e = refl

-- nor is the time at which head and tail left a node behind them
past_same : (e lo lo' n : ℕ) (pos r : Tab ℕ) → pos n < lo → past_after e lo lo' pos r n ≡ r n
unfolding past_after
past_same e lo lo' n pos r h = branch-false e (r n) (ap (λ (b : Bool). b && ltb (pos n) lo') (lt-leb lo (pos n) h))

-- a bag is sealed with the global epoch
unfoldable SealedAt : ℕ → Work → Type 0
SealedAt e Work.Nothing = Unit {0}
SealedAt e (Work.Put i) = Unit {0}
SealedAt e (Work.PutThenFree i n) = Unit {0}
SealedAt e (Work.Seal n w) = w.0 ≡ e

deferred_sealed : (e : ℕ) (d : Deferring) {w : Work} {pl' : Place} → Deferred d w pl' → SealedAt e w
unfolding SealedAt work_of
deferred_sealed e (Deferring.Token token) (Deferred.stored h) = tt
deferred_sealed e (Deferring.Slot t c succ) (Deferred.stored h) = tt
deferred_sealed e (Deferring.Node q head next) (Deferred.stored h) = tt
deferred_sealed e d Deferred.waits = tt

-- any kind of move
kind_sealed : {p : ℕ} {spare : Node} {s s' : Shared} {pl : Place} {v : Turn} {i : Option Item} {w : Work} {pl' : Place} → Kind p spare s s' pl v i w pl'
    → SealedAt s.global_epoch w
unfolding SealedAt
kind_sealed (Kind.idle h k) = tt
kind_sealed (Kind.enlists h k) = tt
kind_sealed (Kind.seals h) = refl
kind_sealed (Kind.links h) = tt
kind_sealed (Kind.pops h k) = tt
kind_sealed (Kind.unlinks h q k) = deferred_sealed _ _ k
kind_sealed (Kind.retires h q k) = deferred_sealed _ _ k
kind_sealed (Kind.moves h q k) = deferred_sealed _ _ k
kind_sealed (Kind.pushes h k) = deferred_sealed _ _ k
kind_sealed (Kind.accepts h k) = deferred_sealed _ _ k

-- ---- the works: what they leave in the bag of a node

-- what is sealed was retired: a bag emptied, a bag sealed now, a bag left alone
sealed_worked : (p n : ℕ) (e : ℕ) (s : Shared) (w : Work) (m : Machine) (g : Ghost) → Each (Retired g (num (m.bag n).epoch)) (m.bag n).holds
    → Each (Retired g (num e)) (m.held p) → SealedAt e w
    → Each (Retired g (num ((works p w (with_shared s m)).bag n).epoch)) ((works p w (with_shared s m)).bag n).holds
unfolding works SealedAt
sealed_worked p n e s Work.Nothing m g h k at = h
sealed_worked p n e s (Work.Put i) m g h k at = h
sealed_worked p n e s (Work.PutThenFree i j) m g h k at =
    put_ind (λ (b : Sealed). Each (Retired g (num b.epoch)) b.holds) m.bag j.0 n (record { epoch = (m.bag j.0).epoch; holds = [] }) (λ _. unfold Each in tt) (λ _. h)
sealed_worked p n e s (Work.Seal j w) m g h k at =
    put_ind (λ (b : Sealed). Each (Retired g (num b.epoch)) b.holds) m.bag j.0 n (record { epoch = w.0; holds = m.held p }) (λ _. rw at k) (λ _. h)

-- a spare node has an empty bag: it was spare before, or is freed now
spare_worked : (p n : ℕ) (s : Shared) (w : Work) (m : Machine) (u : Tab NodeUse) → (u n ≡ NodeUse.spare → (m.bag n).holds ≡ [])
    → (times (Item.Node (record { 0 = n })) (freed_items w m.bag) ≢ 0 → (m.bag n).holds ≡ [])
    → node_worked w m u n ≡ NodeUse.spare → ((works p w (with_shared s m)).bag n).holds ≡ []
unfolding works node_worked freed_items
spare_worked p n s Work.Nothing m u was freed e = was e
spare_worked p n s (Work.Put i) m u was freed e = was e
spare_worked p n s (Work.PutThenFree i j) m u was freed e =
    put_ind (λ (b : Sealed). b.holds ≡ []) m.bag j.0 n (record { epoch = (m.bag j.0).epoch; holds = [] }) (λ _. refl)
    (λ _. go (times (Item.Node (record { 0 = n })) (m.bag j.0).holds) refl)
  where
    go : (k : ℕ) → times (Item.Node (record { 0 = n })) (m.bag j.0).holds ≡ k → (m.bag n).holds ≡ []
    go zero z = was (sym (node_use_unfreed (m.bag j.0).holds n u z) ∙ e)
    go (suc k) z = freed (λ y. omega arith)
spare_worked p n s (Work.Seal j w) m u was freed e = same? j.0 n
    (λ here. absurd (taken_spare (put u j.0 NodeUse.taken n) (rw (← here) (put_same u j.0 NodeUse.taken)) e))
    (λ ne. ap (λ (b : Sealed). b.holds) (put_other m.bag j.0 n (record { epoch = w.0; holds = m.held p }) ne) ∙ was (sym (put_other u j.0 n NodeUse.taken ne) ∙ e))
  where
    taken_spare : (u : NodeUse) → u ≡ NodeUse.taken → u ≡ NodeUse.spare → ⊥
    taken_spare u h k = let z : ◌≡◌ {A = ℕ} 0 1 = cc in omega arith

-- a placed node whose bag must be empty: it was freed now, or was empty before
freed_worked : (p n : ℕ) (s : Shared) (w : Work) (m : Machine) (u : Tab NodeUse) → (is n (frees_of w) ≡ 0 → u n ≡ NodeUse.placed → (m.bag n).holds ≡ [])
    → node_worked w m u n ≡ NodeUse.placed → ((works p w (with_shared s m)).bag n).holds ≡ []
unfolding works node_worked frees_of
freed_worked p n s Work.Nothing m u f e = f (unfold is in refl) e
freed_worked p n s (Work.Put i) m u f e = f (unfold is in refl) e
freed_worked p n s (Work.PutThenFree i j) m u f e =
    put_ind (λ (b : Sealed). b.holds ≡ []) m.bag j.0 n (record { epoch = (m.bag j.0).epoch; holds = [] }) (λ _. refl)
    (λ ne. f (is_other n j.0 (λ z. ne (sym z))) (go (times (Item.Node (record { 0 = n })) (m.bag j.0).holds) refl))
  where
    go : (k : ℕ) → times (Item.Node (record { 0 = n })) (m.bag j.0).holds ≡ k → u n ≡ NodeUse.placed
    go zero z = sym (node_use_unfreed (m.bag j.0).holds n u z) ∙ e
    go (suc k) z = absurd (spare_placed (nodes_freed (m.bag j.0).holds u n) (nodes_hit (m.bag j.0).holds n u (λ y. omega arith)) e)
freed_worked p n s (Work.Seal j w) m u f e = same? j.0 n
    (λ here. absurd (taken-placed (put u j.0 NodeUse.taken n) (rw (← here) (put_same u j.0 NodeUse.taken)) e))
    (λ ne. ap (λ (b : Sealed). b.holds) (put_other m.bag j.0 n (record { epoch = w.0; holds = m.held p }) ne)
    ∙ f (unfold is in refl) (sym (put_other u j.0 n NodeUse.taken ne) ∙ e))

-- ---- what is retired, and whose bag is empty, from the invariant

-- an item in the bag of a participant occurs
held-occurs : (N M : ℕ) (m : Machine) (q : ℕ) (x : Item) → q < N → times x (m.held q) ≢ 0 → occurs N M m x ≢ 0
unfolding occurs has
held-occurs N M m q x h ne z = let k = sum_at N (λ q. times x (m.held q) + waits x (waiting_item (m.own q).place)) q h in ne (omega arith)

module _ (N M : ℕ) (m : Machine) (g : Ghost) (inv : Inv N M m g) where
  -- whatever occurs was retired by now
  retired_now : (i : Item) → ItemIn N M i → occurs N M m i ≢ 0 → Retired g (G m) i
  unfolding Retired ItemIn
  retired_now (Item.Token t) within ne = tt
  retired_now (Item.Node n) within ne = let out = inv.used.node_out n.0 within ne in inv.epochs.past_le n.0 within out.0 out.1
  retired_now (Item.Slot s) within ne = inv.epochs.gone_le s.0 within (inv.used.slot_out s.0 within ne)

  -- nobody has popped a node that is freed now: it would be safe for whoever had
  unpopped : (p j n : ℕ) → p < N → popped_node (m.own p).place ≡ some j → times (Item.Node (record { 0 = n })) (m.bag j).holds ≢ 0 → poppers N m n ≡ 0
  unfolding poppers
  unpopped p j n hp popped ne = sum_none N (λ q. is n (popped_node (m.own q).place)) (λ q hq. is_none n (popped_node (m.own q).place) (λ e. refuted q hq e))
    where
      held_by : (q : ℕ) → q < N → popped_node (m.own q).place ≡ some n → SafeNode M g m.shared (g.gpin q) n × (under_pin (m.own q).place ≡ true)
      held_by q hq e = of_some (λ k. SafeNode M g m.shared (g.gpin q) k × (under_pin (m.own q).place ≡ true)) n (popped_node (m.own q).place) e (popped_held N M m g (g.gpin q) (m.own q).place (inv.held.holds q hq))

      refuted : (q : ℕ) → q < N → popped_node (m.own q).place ≡ some n → ⊥
      refuted q hq e =
          let h = held_by q hq e in
          ne (node_unfreed N M m g inv p hp j popped q n hq (under-pin N m g inv.records q hq h.1) h.0)

  -- a node that is freed now has an empty bag
  freed-empty : (p : ℕ) (w : Work) (n : ℕ) → p < N → n < M → Fit M m.node_free m.bag w → Of (λ k. popped_node (m.own p).place ≡ some k) (frees_of w)
      → times (Item.Node (record { 0 = n })) (freed_items w m.bag) ≢ 0 → (m.bag n).holds ≡ []
  unfolding Fit frees_of freed_items Of times
  freed-empty p Work.Nothing n hp hn fit popped ne = absurd (ne refl)
  freed-empty p (Work.Put i) n hp hn fit popped ne = absurd (ne refl)
  freed-empty p (Work.Seal j w) n hp hn fit popped ne = absurd (ne refl)
  freed-empty p (Work.PutThenFree i j) n hp hn fit popped ne =
      let out = inv.used.node_out n hn (in_bag-occurs N M m j.0 (Item.Node (record { 0 = n })) fit ne) in
      let lt = out.1 in
      let le = low_head N M m g inv in
      inv.bagged.freed n hn out.0 (omega arith) (unpopped p j.0 n hp popped ne)

module _ (N M p : ℕ) {spare : Node} (m : Machine) (g : Ghost) (inv : Inv N M m g) (hp : p < N) {v : Turn} {i : Option Item} (s : Shared) (a : After)
    (kind : Kind p spare m.shared s (m.own p).place v i a.work a.participant.place) (fit : Fit M m.node_free m.bag a.work) where
  -- the machine and the ghost afterwards
  abbrev next : Machine
  next = goes p m s a

  abbrev ghost : Ghost
  ghost = moved v a.work m s g

  -- what was retired stays retired at its time
  retired-kept : (e : ℕ) (x : Item) → ItemIn N M x → occurs N M m x ≢ 0 → Retired g e x → Retired ghost e x
  unfolding Retired ItemIn moved
  retired-kept e (Item.Token t) within ne h = tt
  retired-kept e (Item.Node n) within ne h = rw (past_same (G m) (low g.pos m.shared) (low (pos_turned v g.last g.pos) s) n.0 g.pos g.past (inv.used.node_out n.0 within ne).1) h
  retired-kept e (Item.Slot q) within ne h =
      rw (gone-kept q.0 (G m) g.slot_use g.gone kind
      (λ t c succ k r. unlinked_in N M m g inv (g.gpin p) (m.own p).place t c succ (inv.held.holds p hp) k r) (inv.used.slot_out q.0 within ne)) h

  -- B1, and the two parts of B2
  sealed_goes : (n : ℕ) → n < M → Each (Retired ghost (num (next.bag n).epoch)) (next.bag n).holds
  unfolding goes followed G
  sealed_goes n hn = sealed_worked p n m.shared.global_epoch s a.work m ghost
      (each_in _ _ (m.bag n).holds (λ x ne h. retired-kept _ x (each_at (ItemIn N M) x (m.bag n).holds (inv.ranged.bags n hn) ne) (in_bag-occurs N M m n x hn ne) h) (inv.bagged.sealed n hn))
      (each_in _ _ (m.held p) (λ x ne within. retired-kept _ x within (held-occurs N M m p x hp ne) (retired_now N M m g inv x within (held-occurs N M m p x hp ne))) (inv.ranged.held p hp).1)
      (kind_sealed kind)

  spare_goes : (n : ℕ) → n < M → ghost.node_use n ≡ NodeUse.spare → (next.bag n).holds ≡ []
  unfolding goes followed moved
  spare_goes n hn e = spare_worked p n s a.work m (node_turned v g.node_use) (λ z. inv.bagged.spare n hn (turn_spare v g.node_use n z))
      (freed-empty N M m g inv p a.work n hp hn fit (frees_popped kind)) e

  -- who has popped a node: p's place changes
  popped_sum : (n : ℕ) → poppers N next n + is n (popped_node (m.own p).place) ≡ poppers N m n + is n (popped_node a.participant.place)
  unfolding goes poppers
  popped_sum n = rw (followed_own p a (with_shared s m)) (sum-put N (λ (o : Participant). is n (popped_node o.place)) m.own p a.participant hp)

  popped_own : (n : ℕ) → is n (popped_node a.participant.place) ≤ poppers N next n
  unfolding goes poppers
  popped_own n = rw (followed_own p a (with_shared s m))
      (let h = sum_at N (λ q. is n (popped_node (put m.own p a.participant q).place)) p hp in
      let k = ap (λ (o : Participant). is n (popped_node o.place)) (put_same m.own p a.participant) in
      omega arith)

  freed-goes : (n : ℕ) → n < M → ghost.node_use n ≡ NodeUse.placed → ghost.pos n ≤ ghost.pos (head_of next.shared) → poppers N next n ≡ 0 → (next.bag n).holds ≡ []
  unfolding goes followed moved
  freed-goes n hn e le nobody = freed_worked p n s a.work m (node_turned v g.node_use)
      (λ kept placed.
      let own = popped_own n in
      let all = popped_sum n in
      let mine = popped_kept n kind in
      let was = head_kept n g.node_use g.pos g.last kind (linking N M m g inv p hp)
      (λ q head after k h.
      let z = popped_next N M m g inv (g.gpin p) (m.own p).place q head after (inv.held.holds p hp) k h in
      (z.1.1.1, λ u same. inv.queued.differ n after.0 hn (next_in N M (m.own p).place q head after (inv.ranged.places p hp) k) u z.1.1.0 same))
      placed (rw (next_head N M p m g inv hp s a kind fit) at le) (omega arith) in
      inv.bagged.freed n hn was.0 was.1 (omega arith))
      e

  -- the group
  pub bagged_goes : Bagged N M next ghost
  bagged_goes = record { sealed = sealed_goes; spare = spare_goes; freed = freed-goes }

-- ---- a step, a call, a registering

pub bagged_step : (N M p : ℕ) (m : Machine) (g : Ghost) → Inv N M m g → Steps N M p m → Bagged N M (stepped M p m) (stepped_ghost M p m g)
unfolding stepped stepped_ghost goes_ghost
bagged_step N M p m g inv steps =
    bagged_goes N M p m g inv steps.here (left_of M p m) (after_of M p m)
    (kind_of N M p m g inv steps) (step-fits N M p m g inv steps)

pub bagged_call : (N M p : ℕ) (c : Call) (m : Machine) (g : Ghost) → Inv N M m g → Calls N M p c m → Bagged N M (called N p c m) (called_ghost N p c m g)
unfolding called called_ghost goes
bagged_call N M p c m g inv calls =
    bagged_goes N M p m g inv calls.here m.shared (opens N c (m.own p)) (call_of N M p c m g inv calls) (call-fits N M p c m g inv calls)

-- a slot that registers has popped nothing, before or after
new_popped : (n : ℕ) → is n (popped_node new_participant.place) ≡ 0
unfolding new_participant popped_node is
new_popped n = refl

rest_popped : (n : ℕ) → is n (popped_node Place.Rest) ≡ 0
unfolding popped_node is
rest_popped n = refl

-- so nothing changes for popped nodes
poppers-register : (N M p n : ℕ) (m : Machine) (g : Ghost) → Inv N M m g → Registers N p m → poppers N (registered p m) n ≡ poppers N m n
unfolding registered poppers
poppers-register N M p n m g inv registers =
    let a = sum-put N (λ (o : Participant). is n (popped_node o.place)) m.own p new_participant registers.here in
    let b = ap (λ (pl : Place). is n (popped_node pl)) (free_quiet N M p m g inv registers).0 ∙ rest_popped n in
    let c = new_popped n in
    omega arith

-- times of retirement stay
retired-register : (p : ℕ) (g : Ghost) (e : ℕ) (i : Item) → Retired g e i → Retired (registered_ghost p g) e i
unfolding registered_ghost Retired
retired-register p g e (Item.Token t) h = tt
retired-register p g e (Item.Node n) h = h
retired-register p g e (Item.Slot s) h = h

pub bagged_register : (N M p : ℕ) (m : Machine) (g : Ghost) → Inv N M m g → Registers N p m → Bagged N M (registered p m) (registered_ghost p g)
unfolding registered registered_ghost write
bagged_register N M p m g inv registers = record {
  sealed = λ n hn. each_map _ _ (retired-register p g _) (m.bag n).holds (inv.bagged.sealed n hn);
  spare = inv.bagged.spare;
  freed = λ n hn e le nobody. inv.bagged.freed n hn e le (sym (poppers-register N M p n m g inv registers) ∙ nobody);
}
