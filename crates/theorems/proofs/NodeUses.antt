-- Three clauses of group U that say what a node is used for: its free bit is set exactly where it is spare; the node that a push has taken is
-- its own and has no next; the old head of a pop was linked and is behind the head. Freeing sets the bit where it makes a node spare, taking
-- clears it, linking finds it clear. A node has one use (the count of group U), so nobody else links the taken node, and no bag that is freed
-- holds the old head. Leans on `Moves` for what p itself takes and leaves. Assumes nothing.
use mathlib.Core.Path.{◌≡◌, refl, ap, sym, ◌∙◌}
use mathlib.Core.Logic.{◌≢◌}
use mathlib.Core.Bool.{true, false}
use mathlib.Core.Option.{Option, none, some}
use Prim.Native.Nat.{ℕ, zero, suc, ◌+◌, ◌≤◌, ◌<◌}
use native.Mathlib.Omega.{arith}
use borrow.Author.Tests.{eq-eqb}
use Rattle.definition.specs.Base.{branch, Tab, sum}
use Rattle.definition.specs.Links.{null, link, is_null, index}
use Rattle.definition.specs.Tables.{Shared, write}
use Rattle.definition.specs.Calls.{opens}
use Rattle.definition.specs.Public.{new_participant}
use Rattle.definition.proofs.Base.{same?, put_ind, put_same, put_other}
use Rattle.definition.proofs.Codec.{index-link}
use Rattle.definition.proofs.Within.{PlaceIn, PushIn, PopIn}
use Rattle.theorems.proofs.Machine.{Machine, with_shared, works, followed}
use Rattle.theorems.proofs.Ghost.{NodeUse, Ghost, Turn, head_of, node_turned, node_worked, moved}
use Rattle.theorems.proofs.Invariant.{Of, taken_node, old_head, SafeNode, HoldsPop, HoldsAt, is, occurs, is_spare}
use Rattle.theorems.proofs.Change.{Change}
use Rattle.theorems.proofs.Inv.{Inv, Steps, Calls, Registers, left_of, after_of, goes, goes_ghost, stepped, stepped_ghost, called, called_ghost, registered, registered_ghost}
use Rattle.theorems.proofs.Epochs.{of_none}
use Rattle.theorems.proofs.Safety.{sum_at, node_use_unfreed}
use Rattle.theorems.proofs.Linked.{step-change}
use Rattle.theorems.proofs.Moves.{Bare, Deferred, Kind}
use Rattle.theorems.proofs.Queue.{taken≢placed, spare≢taken, apart, freed_ind, goes_to}
use Rattle.theorems.proofs.Nodes.{Turned, Onward, Sound, lined, head_in, freed_out, free_spare, null_is, none_of, worked_next}
use Rattle.theorems.proofs.Nodes.{kind_of, step-sound, step_turned, onward-step, step_head, call_of, call-sound, still, onward-call, call_head}
use Rattle.theorems.proofs.QueuePlaces.{in_queue?}
use Rattle.theorems.proofs.HeldNodes.{queue-pinned, place_mine, place_other, call-place_mine, call-place_other}
use Rattle.theorems.proofs.Types.{Epoch, Node, Item, Pops, Deferring, PopAt, PushAt, Place, Participant, Work, Call}

-- ---- the free bit

-- a node that was taken is not spare after a turn
taken-bit : (v : Turn) (u : Tab NodeUse) (x : ℕ) → u x ≡ NodeUse.taken → is_spare (node_turned v u x) ≡ false
unfolding node_turned is_spare
taken-bit Turn.quiet u x e = ap is_spare e
taken-bit (Turn.enlists p) u x e = ap is_spare e
taken-bit (Turn.unlinks s) u x e = ap is_spare e
taken-bit (Turn.links n) u x e = put_ind (λ w. is_spare w ≡ false) u n x NodeUse.placed (λ _. refl) (λ _. ap is_spare e)

module _ (N M p : ℕ) (m : Machine) (g : Ghost) (inv : Inv N M m g) (hp : p < N) (v : Turn) (s : Shared) (t : Turned M g m.shared v s) where
  -- a turn makes no node spare, and none that is
  turned_bit : (x : ℕ) (w : NodeUse) → g.node_use x ≡ w → is_spare (node_turned v g.node_use x) ≡ is_spare w
  unfolding is_spare
  turned_bit x NodeUse.spare e = ap is_spare (t.spare x e)
  turned_bit x NodeUse.placed e = ap is_spare (t.placed x e)
  turned_bit x NodeUse.taken e = taken-bit v g.node_use x e

  -- the bits after the work
  bits-after : (w : Work) → Sound M p m w → (x : ℕ) → x < M → (works p w (with_shared s m)).node_free x ≡ is_spare (node_worked w m (node_turned v g.node_use) x)
  unfolding works node_worked Sound
  bits-after Work.Nothing k x hx = inv.used.bits x hx ∙ sym (turned_bit x _ refl)
  bits-after (Work.Put i) k x hx = inv.used.bits x hx ∙ sym (turned_bit x _ refl)
  bits-after (Work.PutThenFree i n) k x hx = freed_ind (λ b w. b ≡ is_spare w) (m.bag n.0).holds x m.node_free (node_turned v g.node_use)
      (λ _. inv.used.bits x hx ∙ sym (turned_bit x _ refl)) (λ _. unfold is_spare in refl)
  bits-after (Work.Seal n e) k x hx = same? n.0 x
      (λ i. rw (← i, put_same m.node_free n.0 false, put_same (node_turned v g.node_use) n.0 NodeUse.taken) (unfold is_spare in refl))
      (λ ne. rw (put_other m.node_free n.0 x false ne, put_other (node_turned v g.node_use) n.0 x NodeUse.taken ne) (inv.used.bits x hx ∙ sym (turned_bit x _ refl)))

-- ---- a node has one use

-- two entries are together at most the sum
sum_two : (n : ℕ) (f : Tab ℕ) (i j : ℕ) → i < n → j < n → i ≢ j → f i + f j ≤ sum n f
unfolding sum
sum_two zero f i j hi hj ne = absurd (omega arith)
sum_two (suc n) f i j hi hj ne = same? i n
    (λ e. let k = sum_at n f j (omega arith) in rw e (omega arith))
    (λ ni. same? j n (λ e. let k = sum_at n f i (omega arith) in rw e (omega arith)) (λ nj. let k = sum_two n f i j (omega arith) (omega arith) ne in omega arith))

-- who has the node counts for one
is_self : (x : ℕ) (o : Option ℕ) → o ≡ some x → is x o ≡ 1
unfolding is branch
is_self x o e = rw (e, eq-eqb x x refl)

-- a fact about what a place carries follows from another
of_map : (P Q : ℕ → Type 0) (o : Option ℕ) → ((n : ℕ) → o ≡ some n → P n → Q n) → Of P o → Of Q o
unfolding Of
of_map P Q none f h = tt
of_map P Q (some n) f h = f n refl h

-- a quiet turn links nothing
quiet≢links : (n : ℕ) → Turn.quiet ≢ Turn.links n
quiet≢links n e = let z : ◌≡◌ {A = ℕ} 0 1 = cc in omega arith

-- a place that holds no node, and one to which a deferring leads, has taken none and has no old head
bare-taken : (pl : Place) → Bare pl → taken_node pl ≡ none
unfolding Bare
bare-taken pl h = h.1.0

bare_old : (pl : Place) → Bare pl → old_head pl ≡ none
unfolding Bare
bare_old pl h = h.1.1.0

deferred-taken : (d : Deferring) (w : Work) (pl : Place) → Deferred d w pl → taken_node pl ≡ none
deferred-taken d w pl (Deferred.stored h) = bare-taken pl h
deferred-taken d w pl Deferred.waits = unfold taken_node in refl

deferred_old : (d : Deferring) (w : Work) (pl : Place) → Deferred d w pl → old_head pl ≡ none
deferred_old d w pl (Deferred.stored h) = bare_old pl h
deferred_old d w pl Deferred.waits = unfold old_head in refl

-- an old head is in range
old_range : (N M : ℕ) (pl : Place) → PlaceIn N M pl → Of (λ n. n < M) (old_head pl)
unfolding Of old_head PlaceIn PopIn
old_range N M Place.Rest h = tt
old_range N M (Place.Register a) h = tt
old_range N M (Place.PinEpoch k) h = tt
old_range N M (Place.PinWord k e) h = tt
old_range N M (Place.Repin a) h = tt
old_range N M Place.UnpinWord h = tt
old_range N M (Place.AdvanceEpoch k) h = tt
old_range N M (Place.Walk t a) h = tt
old_range N M (Place.AdvanceWord t curr succ) h = tt
old_range N M (Place.AdvanceStore t) h = tt
old_range N M (Place.Pop q PopAt.Head) h = tt
old_range N M (Place.Pop q (PopAt.Next head)) h = tt
old_range N M (Place.Pop q (PopAt.Exchange head next)) h = tt
old_range N M (Place.Pop q (PopAt.Tail head next)) h = h.1.0
old_range N M (Place.Pop q (PopAt.TailMove head next)) h = h.1.0
old_range N M (Place.Push f a) h = tt
old_range N M Place.FinalWord h = tt
old_range N M Place.FinalTag h = tt

-- what a turn links is what its place had taken
turn-taken : (N M p : ℕ) (pl : Place) (s : Shared) (v : Turn) (s' : Shared) (n : ℕ) → PlaceIn N M pl → Change p pl s v s' → v ≡ Turn.links n → (taken_node pl ≡ some n) × (n < M)
unfolding PlaceIn PushIn taken_node
turn-taken N M p pl s v s' n hin (Change.none i e) h = absurd (let z : ◌≡◌ {A = ℕ} 0 1 = cc in omega arith)
turn-taken N M p pl s v s' n hin (Change.advances t _ i e) h = absurd (let z : ◌≡◌ {A = ℕ} 0 1 = cc in omega arith)
turn-taken N M p pl s v s' n hin (Change.pins k w _ i e) h = absurd (let z : ◌≡◌ {A = ℕ} 0 1 = cc in omega arith)
turn-taken N M p pl s v s' n hin (Change.repins w _ i e) h = absurd (let z : ◌≡◌ {A = ℕ} 0 1 = cc in omega arith)
turn-taken N M p pl s v s' n hin (Change.unpins _ i e) h = absurd (let z : ◌≡◌ {A = ℕ} 0 1 = cc in omega arith)
turn-taken N M p pl s v s' n hin (Change.finals _ i e) h = absurd (let z : ◌≡◌ {A = ℕ} 0 1 = cc in omega arith)
turn-taken N M p pl s v s' n hin (Change.aims next _ i e) h = absurd (let z : ◌≡◌ {A = ℕ} 0 1 = cc in omega arith)
turn-taken N M p pl s v s' n hin (Change.enlists next _ i _ e) h = absurd (let z : ◌≡◌ {A = ℕ} 0 1 = cc in omega arith)
turn-taken N M p pl s v s' n hin (Change.unlinks t c succ _ i _ e) h = absurd (let z : ◌≡◌ {A = ℕ} 0 1 = cc in omega arith)
turn-taken N M p pl s v s' n hin (Change.tags _ i e) h = absurd (let z : ◌≡◌ {A = ℕ} 0 1 = cc in omega arith)
turn-taken N M p pl s v s' n hin (Change.pops q head next at i won e) h = absurd (let z : ◌≡◌ {A = ℕ} 0 1 = cc in omega arith)
turn-taken N M p pl s v s' n hin (Change.tails from to at i won e) h = absurd (let z : ◌≡◌ {A = ℕ} 0 1 = cc in omega arith)
turn-taken N M p pl s v s' n hin (Change.links f new onto here i won e) h =
    let same : new.0 ≡ n = cc in
    let k : PlaceIn N M (Place.Push f (PushAt.Link new onto)) = rw here at hin in
    (rw (here, same), rw same at k.1.0)

module _ (N M : ℕ) (m : Machine) (g : Ghost) (inv : Inv N M m g) where
  -- nobody else has taken the node that p has
  taken_once : (p q x : ℕ) → p < N → q < N → p ≢ q → x < M → taken_node (m.own p).place ≡ some x → taken_node (m.own q).place ≡ some x → ⊥
  taken_once p q x hp hq ne hx a b =
      let k = sum_two N (λ q. is x (taken_node (m.own q).place) + is x (old_head (m.own q).place)) p q hp hq ne in
      let i = is_self x (taken_node (m.own p).place) a in
      let j = is_self x (taken_node (m.own q).place) b in
      let u = inv.used.nodes x hx in
      omega arith

  -- an old head is in no bag
  old_alone : (q x : ℕ) → q < N → x < M → old_head (m.own q).place ≡ some x → occurs N M m (Item.Node (record { 0 = x })) ≡ 0
  old_alone q x hq hx a =
      let k = sum_at N (λ q. is x (taken_node (m.own q).place) + is x (old_head (m.own q).place)) q hq in
      let i = is_self x (old_head (m.own q).place) a in
      let u = inv.used.nodes x hx in
      omega arith

-- ---- the taken node

-- what a push has taken, afterwards
abbrev TakenAfter : Machine → Ghost → Place → Type 0
TakenAfter m g pl = Of (λ n. (g.node_use n ≡ NodeUse.taken) × (is_null (m.shared.node_next n) ≡ true)) (taken_node pl)

-- what a pop has taken from the head, afterwards
abbrev OldAfter : Machine → Ghost → Place → Type 0
OldAfter m g pl = Of (λ n. (g.node_use n ≡ NodeUse.placed) × (g.pos n < g.pos (head_of m.shared))) (old_head pl)

-- a turn that does not link it leaves a taken node taken
taken_turned : (v : Turn) (u : Tab NodeUse) (x : ℕ) → ((n : ℕ) → v ≡ Turn.links n → n ≢ x) → u x ≡ NodeUse.taken → node_turned v u x ≡ NodeUse.taken
unfolding node_turned
taken_turned Turn.quiet u x other e = e
taken_turned (Turn.enlists p) u x other e = e
taken_turned (Turn.unlinks s) u x other e = e
taken_turned (Turn.links n) u x other e = put_other u n x NodeUse.placed (other n refl) ∙ e

module _ (N M p : ℕ) (m : Machine) (g : Ghost) (inv : Inv N M m g) (hp : p < N) (v : Turn) (s : Shared) (t : Turned M g m.shared v s) where
  taken_worked : (w : Work) → Sound M p m w → (x : ℕ) → ((n : ℕ) → v ≡ Turn.links n → n ≢ x) → g.node_use x ≡ NodeUse.taken
      → node_worked w m (node_turned v g.node_use) x ≡ NodeUse.taken
  unfolding node_worked Sound
  taken_worked Work.Nothing k x other e = taken_turned v g.node_use x other e
  taken_worked (Work.Put i) k x other e = taken_turned v g.node_use x other e
  taken_worked (Work.PutThenFree i n) k x other e =
      node_use_unfreed (m.bag n.0).holds x (node_turned v g.node_use)
      (none_of _ (λ ne. taken≢placed (sym e ∙ (freed_out N M p m g inv hp n.0 x k ne).0)))
      ∙ taken_turned v g.node_use x other e
  taken_worked (Work.Seal n e') k x other e =
      put_other (node_turned v g.node_use) n.0 x NodeUse.taken (apart g.node_use n.0 x spare≢taken (free_spare N M p m g inv hp n.0 k.0 k.1) e)
      ∙ taken_turned v g.node_use x other e

  -- whoever had taken it
  taken-stays : (w : Work) → Sound M p m w → (x : ℕ) → ((n : ℕ) → v ≡ Turn.links n → n ≢ x) → (g.node_use x ≡ NodeUse.taken) × (is_null (m.shared.node_next x) ≡ true)
      → (node_worked w m (node_turned v g.node_use) x ≡ NodeUse.taken) × (is_null ((works p w (with_shared s m)).shared.node_next x) ≡ true)
  taken-stays w k x other h = (
    taken_worked w k x other h.0,
    rw (worked_next N M p m g inv hp v s t w k x (λ e. spare≢taken (sym e ∙ h.0)), t.next x (λ e. absurd (taken≢placed (sym h.0 ∙ e)))) h.1,
  )

  -- the node that is taken now
  sealed_taken : (spare : Node) (e : Epoch) → (node_worked (Work.Seal spare e) m (node_turned v g.node_use) spare.0 ≡ NodeUse.taken)
      × (is_null ((works p (Work.Seal spare e) (with_shared s m)).shared.node_next spare.0) ≡ true)
  unfolding works node_worked write
  sealed_taken spare e = (put_same (node_turned v g.node_use) spare.0 NodeUse.taken, ap is_null (put_same s.node_next spare.0 null) ∙ null_is)

module _ (N M p : ℕ) (m : Machine) (g : Ghost) (inv : Inv N M m g) (hp : p < N) where
  -- what p itself has taken, by the kind of its move
  own_taken : (s : Shared) (spare : Node) (pl : Place) (v : Turn) (i : Option Item) (w : Work) (pl' : Place) → Kind p spare m.shared s pl v i w pl'
      → Turned M g m.shared v s → Sound M p m w → TakenAfter m g pl
      → Of (λ n. (node_worked w m (node_turned v g.node_use) n ≡ NodeUse.taken) × (is_null ((works p w (with_shared s m)).shared.node_next n) ≡ true)) (taken_node pl')
  unfolding taken_node
  own_taken s spare pl v i w pl' (Kind.idle h same) t k was = rw same.taken
      (of_map _ _ (taken_node pl) (λ n e hn. taken-stays N M p m g inv hp v s t w k n (λ j z. absurd (quiet≢links j z)) hn) was)
  own_taken s spare pl v i w pl' (Kind.enlists h bare) t k was = of_none _ _ (bare-taken pl' bare)
  own_taken s spare pl v i w pl' (Kind.seals h) t k was = unfold Of in (sealed_taken N M p m g inv hp v s t spare _)
  own_taken s spare pl v i w pl' (Kind.links h) t k was = of_none _ _ refl
  own_taken s spare pl v i w pl' (Kind.pops h e) t k was = of_none _ _ refl
  own_taken s spare pl v i w pl' (Kind.unlinks h e d) t k was = of_none _ _ (deferred-taken _ w pl' d)
  own_taken s spare pl v i w pl' (Kind.retires h e d) t k was = of_none _ _ (deferred-taken _ w pl' d)
  own_taken s spare pl v i w pl' (Kind.moves h e d) t k was = of_none _ _ (deferred-taken _ w pl' d)
  own_taken s spare pl v i w pl' (Kind.pushes h d) t k was = of_none _ _ (deferred-taken _ w pl' d)
  own_taken s spare pl v i w pl' (Kind.accepts h d) t k was = of_none _ _ (deferred-taken _ w pl' d)

-- ---- the old head

module _ (N M : ℕ) (m m' : Machine) (g g' : Ghost) (inv : Inv N M m g) (ow : Onward N M m g m'.shared m'.bag g') where
  -- it stays behind the head, and is not freed
  old_stays : (q : ℕ) → q < N → OldAfter m' g' (m.own q).place
  old_stays q hq = of_map _ _ (old_head (m.own q).place)
      (λ n e h. let a = ow.pos n h.0 in let b = ow.head in let c = h.1 in
      (ow.kept n h.0 (old_alone N M m g inv q n hq (in_range_lem n e) e), omega arith))
      (inv.used.old q hq)
    where
      in_range_lem : (n : ℕ) → old_head (m.own q).place ≡ some n → n < M
      in_range_lem n e = unfold Of in (rw e at (old_range N M (m.own q).place (inv.ranged.places q hq)))

  -- an exchanged head is behind the new one
  exchanged : (p : ℕ) → p < N → (q : Pops) (head next : Node) → (m.own p).place ≡ Place.Pop q (PopAt.Exchange head next) → m.shared.queue_head ≡ link head.0
      → head_of m'.shared ≡ next.0 → (g'.node_use head.0 ≡ NodeUse.placed) × (g'.pos head.0 < g'.pos (head_of m'.shared))
  unfolding HoldsAt HoldsPop SafeNode in_queue?
  exchanged p hp q head next here won to =
      let h = rw here at (inv.held.holds p hp) in
      let now : head_of m.shared ≡ head.0 = ap index won ∙ index-link head.0 in
      let k = goes_to (lined M m g inv.queued) (head_of m.shared) next.0 (head_in N M p m g inv hp) inv.queued.head (omega arith) (rw now h.1.0) in
      let e : g.pos next.0 ≡ g.pos head.0 + 1 = rw now at k.1 in
      let a = ow.pos head.0 h.0.0.1.0 in
      let b = ow.pos next.0 k.0 in
      (ow.safe p head.0 hp (queue-pinned N M m g inv p hp (ap in_queue? here)) h.0.0, rw to (omega arith))

  -- what p itself has as its old head, by the kind of its move
  own_old : (p : ℕ) → p < N → (spare : Node) (s : Shared) (pl : Place) (v : Turn) (i : Option Item) (w : Work) (pl' : Place) → Kind p spare m.shared s pl v i w pl'
      → (m.own p).place ≡ pl → head_of m'.shared ≡ head_of s → OldAfter m' g' pl'
  unfolding old_head
  own_old p hp spare s pl v i w pl' (Kind.idle h same) here to = rw (same.old, ← here) (old_stays p hp)
  own_old p hp spare s pl v i w pl' (Kind.enlists h bare) here to = of_none _ _ (bare_old pl' bare)
  own_old p hp spare s pl v i w pl' (Kind.seals h) here to = of_none _ _ refl
  own_old p hp spare s pl v i w pl' (Kind.links h) here to = of_none _ _ refl
  own_old p hp spare s pl v i w pl' (Kind.pops won e) here to = unfold Of in (exchanged p hp _ _ _ here won (to ∙ ap index e ∙ index-link _))
  own_old p hp spare s pl v i w pl' (Kind.unlinks h e d) here to = of_none _ _ (deferred_old _ w pl' d)
  own_old p hp spare s pl v i w pl' (Kind.retires h e d) here to = of_none _ _ (deferred_old _ w pl' d)
  own_old p hp spare s pl v i w pl' (Kind.moves h e d) here to = of_none _ _ (deferred_old _ w pl' d)
  own_old p hp spare s pl v i w pl' (Kind.pushes h d) here to = of_none _ _ (deferred_old _ w pl' d)
  own_old p hp spare s pl v i w pl' (Kind.accepts h d) here to = of_none _ _ (deferred_old _ w pl' d)

-- ---- after a step

module _ (N M p : ℕ) (m : Machine) (g : Ghost) (inv : Inv N M m g) (st : Steps N M p m) where
  -- the bit of each node
  pub node-bits-step : (x : ℕ) → x < M → (stepped M p m).node_free x ≡ is_spare ((stepped_ghost M p m g).node_use x)
  unfolding stepped stepped_ghost goes goes_ghost followed moved
  node-bits-step x hx = bits-after N M p m g inv st.here _ _ (step_turned N M p m g inv st) (after_of M p m).work (step-sound N M p m g inv st) x hx

  -- what p has taken
  mine_taken : TakenAfter (stepped M p m) (stepped_ghost M p m g) (after_of M p m).participant.place
  unfolding stepped stepped_ghost goes goes_ghost followed moved
  mine_taken = own_taken N M p m g inv st.here (left_of M p m) _ (m.own p).place _ _ _ _ (kind_of N M p m g inv st) (step_turned N M p m g inv st) (step-sound N M p m g inv st) (inv.used.taken p st.here)

  -- what others have taken: p links another node
  others_taken : (q : ℕ) → q < N → p ≢ q → TakenAfter (stepped M p m) (stepped_ghost M p m g) (m.own q).place
  unfolding stepped stepped_ghost goes goes_ghost followed moved
  others_taken q hq ne = of_map _ _ (taken_node (m.own q).place)
      (λ n e h. taken-stays N M p m g inv st.here _ _ (step_turned N M p m g inv st) (after_of M p m).work (step-sound N M p m g inv st) n
      (λ k v i. let z = turn-taken N M p (m.own p).place m.shared _ _ k (inv.ranged.places p st.here) (step-change M p m) v in
      taken_once N M m g inv p q k st.here hq ne z.1 z.0 (rw i e)) h)
      (inv.used.taken q hq)

  -- the taken node of each
  pub taken-step : (q : ℕ) → q < N
      → Of (λ n. ((stepped_ghost M p m g).node_use n ≡ NodeUse.taken) × (is_null ((stepped M p m).shared.node_next n) ≡ true)) (taken_node ((stepped M p m).own q).place)
  taken-step q hq = same? p q
      (λ e. rw (← e, place_mine N M p m g inv st) mine_taken)
      (λ ne. rw (place_other N M p m g inv st q ne) (others_taken q hq ne))

  -- the old head of each
  pub old_step : (q : ℕ) → q < N
      → Of (λ n. ((stepped_ghost M p m g).node_use n ≡ NodeUse.placed) × ((stepped_ghost M p m g).pos n < (stepped_ghost M p m g).pos (head_of (stepped M p m).shared))) (old_head ((stepped M p m).own q).place)
  old_step q hq =
      let ow = onward-step N M p m g inv st in
      same? p q
      (λ e. rw (← e, place_mine N M p m g inv st)
      (own_old N M m (stepped M p m) g (stepped_ghost M p m g) inv ow p st.here _ (left_of M p m) (m.own p).place _ _ _ _ (kind_of N M p m g inv st) refl (step_head N M p m g inv st)))
      (λ ne. rw (place_other N M p m g inv st q ne) (old_stays N M m (stepped M p m) g (stepped_ghost M p m g) inv ow q hq))

-- ---- after a call, and after registering

module _ (N M p : ℕ) (c : Call) (m : Machine) (g : Ghost) (inv : Inv N M m g) (ca : Calls N M p c m) where
  -- the bit of each node
  pub node-bits-call : (x : ℕ) → x < M → (called N p c m).node_free x ≡ is_spare ((called_ghost N p c m g).node_use x)
  unfolding called called_ghost followed moved
  node-bits-call x hx = bits-after N M p m g inv ca.here Turn.quiet m.shared (still N M p c m g inv ca) (opens N c (m.own p)).work (call-sound N M p c m g inv ca) x hx

  -- what p has taken, and what others have
  mine_taken-call : TakenAfter (called N p c m) (called_ghost N p c m g) (opens N c (m.own p)).participant.place
  unfolding called called_ghost followed moved
  mine_taken-call = own_taken N M p m g inv ca.here m.shared _ (m.own p).place _ _ _ _ (call_of N M p c m g inv ca) (still N M p c m g inv ca) (call-sound N M p c m g inv ca)
      (inv.used.taken p ca.here)

  others_taken-call : (q : ℕ) → q < N → TakenAfter (called N p c m) (called_ghost N p c m g) (m.own q).place
  unfolding called called_ghost followed moved
  others_taken-call q hq = of_map _ _ (taken_node (m.own q).place)
      (λ n e h. taken-stays N M p m g inv ca.here Turn.quiet m.shared (still N M p c m g inv ca) (opens N c (m.own p)).work (call-sound N M p c m g inv ca) n
      (λ k v i. quiet≢links k v) h)
      (inv.used.taken q hq)

  -- the taken node of each
  pub taken-call : (q : ℕ) → q < N
      → Of (λ n. ((called_ghost N p c m g).node_use n ≡ NodeUse.taken) × (is_null ((called N p c m).shared.node_next n) ≡ true)) (taken_node ((called N p c m).own q).place)
  taken-call q hq = same? p q
      (λ e. rw (← e, call-place_mine N M p c m g inv ca) mine_taken-call)
      (λ ne. rw (call-place_other N M p c m g inv ca q ne) (others_taken-call q hq))

  -- the old head of each
  pub old_call : (q : ℕ) → q < N
      → Of (λ n. ((called_ghost N p c m g).node_use n ≡ NodeUse.placed) × ((called_ghost N p c m g).pos n < (called_ghost N p c m g).pos (head_of (called N p c m).shared))) (old_head ((called N p c m).own q).place)
  old_call q hq =
      let onward = onward-call N M p c m g inv ca in
      let kind = call_of N M p c m g inv ca in
      let head = call_head N M p c m g inv ca in
      same? p q
      (λ e. rw (← e, call-place_mine N M p c m g inv ca)
      (own_old N M m (called N p c m) g (called_ghost N p c m g) inv onward p ca.here _ m.shared (m.own p).place _ _ _ _ kind refl head))
      (λ ne. rw (call-place_other N M p c m g inv ca q ne) (old_stays N M m (called N p c m) g (called_ghost N p c m g) inv onward q hq))

module _ (N M p : ℕ) (m : Machine) (g : Ghost) (inv : Inv N M m g) (re : Registers N p m) where
  -- the bit of each node
  pub node-bits-register : (x : ℕ) → x < M → (registered p m).node_free x ≡ is_spare ((registered_ghost p g).node_use x)
  unfolding registered registered_ghost
  node-bits-register x hx = inv.used.bits x hx

  -- the taken node of each
  pub taken-register : (q : ℕ) → q < N
      → Of (λ n. ((registered_ghost p g).node_use n ≡ NodeUse.taken) × (is_null ((registered p m).shared.node_next n) ≡ true)) (taken_node ((registered p m).own q).place)
  unfolding registered registered_ghost write
  taken-register q hq = put_ind (λ (o : Participant). Of (λ n. (g.node_use n ≡ NodeUse.taken) × (is_null (m.shared.node_next n) ≡ true)) (taken_node o.place)) m.own p q new_participant
      (λ _. unfold taken_node new_participant Of in tt) (λ _. inv.used.taken q hq)

  -- the old head of each
  pub old_register : (q : ℕ) → q < N
      → Of (λ n. ((registered_ghost p g).node_use n ≡ NodeUse.placed) × ((registered_ghost p g).pos n < (registered_ghost p g).pos (head_of (registered p m).shared))) (old_head ((registered p m).own q).place)
  unfolding registered registered_ghost write
  old_register q hq = put_ind (λ (o : Participant). Of (λ n. (g.node_use n ≡ NodeUse.placed) × (g.pos n < g.pos (head_of m.shared))) (old_head o.place)) m.own p q new_participant
      (λ _. unfold old_head new_participant Of in tt) (λ _. inv.used.old q hq)
