-- A bag stays as it was sealed from its link until it leaves the queue. A node that somebody has popped and not yet freed stands no later in the
-- queue than the head (`Popped`): the head was moved to it by that pop, and only goes on; so nobody pops it again. So the bag that a step frees is none of those that
-- hang on the head; nor is the one that is sealed, for its node was free. Beside the invariant of Inv, which it needs and does not
-- change. Leans on Nodes (what a move does to nodes), Moves and Safety. Assumes nothing.
use mathlib.Core.Path.{◌≡◌, refl, ap, sym, ◌∙◌}
use mathlib.Core.Logic.{◌≢◌}
use mathlib.Core.List.{List, [], ◌∷◌}
use mathlib.Core.Option.{Option, none, some}
use Prim.Native.Nat.{ℕ, ◌+◌, ◌^◌, ◌≤◌, ◌<◌}
use native.Mathlib.Omega.{arith}
use native.Mathlib.Nat.{le_refl}
use Rattle.definition.specs.Base.{Tab, put}
use Rattle.definition.specs.Links.{link, index}
use Rattle.definition.specs.Tables.{Tables, Shared, write}
use Rattle.definition.specs.Calls.{opens}
use Rattle.definition.specs.Codec.{participant_of}
use Rattle.definition.specs.Public.{new_participant}
use Rattle.definition.specs.Ranges.{fresh}
use Rattle.definition.specs.Step.{Out}
use Rattle.definition.proofs.Base.{same?, put_same, put_other}
use Rattle.definition.proofs.Codec.{place_back, index-link}
use Rattle.theorems.specs.OnTables.{Event, does, after, advances}
use Rattle.theorems.proofs.Machine.{Machine, Sealed, view, with_shared, works, followed}
use Rattle.theorems.proofs.Ghost.{NodeUse, Ghost, Turn, G, head_of}
use Rattle.theorems.proofs.Invariant.{Of, popped_node, SafeNode}
use Rattle.theorems.proofs.Inv.{Inv, Steps, Calls, Registers, Misses, missed, left_of, after_of, goes, stepped, stepped_ghost, called, called_ghost, registered, registered_ghost, view_step, view_call, view_back}
use Rattle.theorems.proofs.Moves.{Deferred, Kind}
use Rattle.theorems.proofs.Moves as Mv
use Rattle.theorems.proofs.Queue.{spare≢placed}
use Rattle.theorems.proofs.Nodes.{Onward, Sound, free_spare, kind_of, call_of, step_head, step-sound, onward-step, call-sound, onward-call, worked_ends, still}
use Rattle.theorems.proofs.HeldNodes.{place_mine, place_other, call-place_mine, call-place_other}
use Rattle.theorems.proofs.Uses.{popped_next}
use Rattle.theorems.proofs.Bags.{push_popped}
use Rattle.theorems.proofs.Epochs.{none_not_some, of_none, of_known}
use Rattle.theorems.proofs.Safety.{popped_here}
use Rattle.theorems.proofs.Start.{start_ghost}
use Rattle.theorems.proofs.Checks.{view_register}
use Rattle.theorems.proofs.Misses.{reads}
use Rattle.theorems.proofs.Runs.{Happens, happens, ghost_after, inv_happens, stored_happens, epoch-does, sound-fresh, fresh-epoch}
use Rattle.theorems.proofs.Runs as R
use Rattle.theorems.proofs.Types.{Ptr, Node, Item, Pops, Deferring, Then, PopAt, PushAt, Place, Participant, Work, Call}

-- ---- what a move does to the popped node of who makes it

-- a deferring ends with the popped node kept, or with none
deferred_popped : (n : ℕ) (d : Deferring) (w : Work) (pl : Place) (a : PushAt) → Deferred d w pl → popped_node pl ≡ some n → popped_node (Place.Push (Then.Defer d) a) ≡ some n
unfolding Mv.Bare
deferred_popped n d w pl a (Deferred.stored k) e = absurd (none_not_some n (sym k.1.1.1 ∙ e))
deferred_popped n d w pl a Deferred.waits e = push_popped (Then.Defer d) a PushAt.Epoch ∙ e

-- a node that is popped afterwards was popped, or the head goes to it now
kind_popped : (R : Type 0) (p : ℕ) (spare : Node) (s s' : Shared) (pl : Place) (v : Turn) (i : Option Item) (w : Work) (pl' : Place) → Kind p spare s s' pl v i w pl'
    → (n : ℕ) → popped_node pl' ≡ some n → (popped_node pl ≡ some n → R)
    → ((q : Pops) (head next : Node) → pl ≡ Place.Pop q (PopAt.Exchange head next) → s.queue_head ≡ link head.0 → s'.queue_head ≡ link next.0 → some next.0 ≡ some n → R) → R
kind_popped R p spare s s' pl v i w pl' (Kind.idle h k) n e a b = a (sym k.popped ∙ e)
kind_popped R p spare s s' pl v i w pl' (Kind.enlists h k) n e a b = absurd (none_not_some n (unfold Mv.Bare in (sym k.1.1.1 ∙ e)))
kind_popped R p spare s s' pl v i w pl' (Kind.seals {f} h) n e a b = a (push_popped f PushAt.Epoch (PushAt.Tail spare) ∙ e)
kind_popped R p spare s s' pl v i w pl' (Kind.links {f} {new} {onto} h) n e a b = a (push_popped f (PushAt.Link new onto) (PushAt.Move new onto) ∙ e)
kind_popped R p spare s s' pl v i w pl' (Kind.pops {q} {head} {next} h k) n e a b = b q head next refl h k (unfold popped_node in e)
kind_popped R p spare s s' pl v i w pl' (Kind.unlinks h _ k) n e a b =
    absurd (none_not_some n (unfold popped_node in (deferred_popped n _ w pl' PushAt.Epoch k e)))
kind_popped R p spare s s' pl v i w pl' (Kind.retires h _ k) n e a b = a (unfold popped_node in (deferred_popped n _ w pl' PushAt.Epoch k e))
kind_popped R p spare s s' pl v i w pl' (Kind.moves h _ k) n e a b = a (unfold popped_node in (deferred_popped n _ w pl' PushAt.Epoch k e))
kind_popped R p spare s s' pl v i w pl' (Kind.pushes {d} {new} {onto} h k) n e a b = a (deferred_popped n d w pl' (PushAt.Move new onto) k e)
kind_popped R p spare s s' pl v i w pl' (Kind.accepts h k) n e a b =
    absurd (none_not_some n (unfold popped_node in (deferred_popped n _ w pl' PushAt.Epoch k e)))

-- ---- the clause

pub record Popped (N : ℕ) (m : Machine) (g : Ghost) : Type 0 where
  pub behind : (q : ℕ) → q < N → Of (λ n. g.pos n ≤ g.pos (head_of m.shared)) (popped_node (m.own q).place)
  pub single : (a b : ℕ) → a < N → b < N → (n : ℕ) → popped_node (m.own a).place ≡ some n → popped_node (m.own b).place ≡ some n → a ≡ b

-- where only p's place changes, a node is popped by one only if p pops none that another has popped
single_put : (N p : ℕ) (was now : Tab Place) → ((a b : ℕ) → a < N → b < N → (n : ℕ) → popped_node (was a) ≡ some n → popped_node (was b) ≡ some n → a ≡ b)
    → ((q : ℕ) → p ≢ q → now q ≡ was q) → ((b : ℕ) → b < N → (n : ℕ) → popped_node (now p) ≡ some n → popped_node (was b) ≡ some n → p ≡ b)
    → (a b : ℕ) → a < N → b < N → (n : ℕ) → popped_node (now a) ≡ some n → popped_node (now b) ≡ some n → a ≡ b
single_put N p was now one other mine a b ha hb n ea eb = same? p a
    (λ i. same? p b (λ j. sym i ∙ j)
    (λ nb. sym i ∙ mine b hb n (ap (λ (q : ℕ). popped_node (now q)) i ∙ ea) (ap popped_node (sym (other b nb)) ∙ eb)))
    (λ na. let was-a : popped_node (was a) ≡ some n = ap popped_node (sym (other a na)) ∙ ea in
    same? p b
    (λ j. sym (sym j ∙ mine a ha n (ap (λ (q : ℕ). popped_node (now q)) j ∙ eb) was-a))
    (λ nb. one a b ha hb n was-a (ap popped_node (sym (other b nb)) ∙ eb)))

-- the same number in `some`
pub some_same : (a b : ℕ) → some a ≡ some b → a ≡ b
some_same a b e = cc

module _ (N M : ℕ) (m : Machine) (g : Ghost) (inv : Inv N M m g) (b : Popped N m g) where
  -- of one participant
  pub popped_le : (q : ℕ) → q < N → (n : ℕ) → popped_node (m.own q).place ≡ some n → g.pos n ≤ g.pos (head_of m.shared)
  popped_le q hq n e = unfold Of in (rw e at (b.behind q hq))

  -- a popped node keeps its number, and the head only goes on
  popped_stays : (s' : Shared) (b' : Tab Sealed) (g' : Ghost) → Onward N M m g s' b' g' → (q : ℕ) → q < N → (n : ℕ) → popped_node (m.own q).place ≡ some n
      → g'.pos n ≤ g'.pos (head_of s')
  unfolding SafeNode
  popped_stays s' b' g' ow q hq n e =
      let was = popped_le q hq n e in
      let same = ow.pos n (popped_here N M m g inv q hq n e).0.1.0 in
      let up = ow.head in
      omega arith

  -- a node that p pops now is one that nobody had popped: it stood behind the head
  single_kind : (p : ℕ) → p < N → (spare : Node) (s' : Shared) (v : Turn) (i : Option Item) (w : Work) (pl' : Place) → Kind p spare m.shared s' (m.own p).place v i w pl'
      → (q : ℕ) → q < N → (n : ℕ) → popped_node pl' ≡ some n → popped_node (m.own q).place ≡ some n → p ≡ q
  single_kind p hp spare s' v i w pl' kind q hq n e eq = kind_popped _ p spare m.shared s' (m.own p).place v i w pl' kind n e
      (λ was. b.single p q hp hq n was eq)
      (λ r head next at won to same.
      let new = (popped_next N M m g inv (g.gpin p) (m.own p).place r head next (inv.held.holds p hp) at won).1.1.1 in
      let first : head_of m.shared ≡ head.0 = ap index won ∙ index-link head.0 in
      let old : g.pos n ≤ g.pos head.0 = rw first at (popped_le q hq n eq) in
      let here : g.pos next.0 ≡ g.pos n = ap g.pos (some_same next.0 n same) in
      absurd (omega arith))

  -- a node that hangs on the head: neither the work of a step nor that of a call touches its bag
  pub bag-stays : (p : ℕ) → p < N → (s : Shared) (w : Work) → Sound M p m w → (x : ℕ) → g.node_use x ≡ NodeUse.placed → g.pos (head_of m.shared) < g.pos x
      → (works p w (with_shared s m)).bag x ≡ m.bag x
  unfolding works Sound
  bag-stays p hp s Work.Nothing k x h lt = refl
  bag-stays p hp s (Work.Put i) k x h lt = refl
  bag-stays p hp s (Work.PutThenFree i n) k x h lt = put_other m.bag n.0 x _
      (λ e. let le = popped_le p hp n.0 k in let i = ap g.pos e in omega arith)
  bag-stays p hp s (Work.Seal n e) k x h lt = put_other m.bag n.0 x _
      (λ i. spare≢placed (sym (free_spare N M p m g inv hp n.0 k.0 k.1) ∙ ap g.node_use i ∙ h))

module _ (N M p : ℕ) (m : Machine) (g : Ghost) (inv : Inv N M m g) (b : Popped N m g) (st : Steps N M p m) where
  -- by a step of p, what p has popped
  popped_own : (n : ℕ) → popped_node (after_of M p m).participant.place ≡ some n → (stepped_ghost M p m g).pos n ≤ (stepped_ghost M p m g).pos (head_of (stepped M p m).shared)
  popped_own n e = kind_popped _ p _ _ _ _ _ _ _ _ (kind_of N M p m g inv st) n e
      (λ was. popped_stays N M m g inv b _ _ _ (onward-step N M p m g inv st) p st.here n was)
      (λ q head next at won to same.
      let i : head_of (stepped M p m).shared ≡ n = step_head N M p m g inv st ∙ ap index to ∙ index-link next.0 ∙ some_same next.0 n same in
      rw i (le_refl ((stepped_ghost M p m g).pos n)))

  popped_step : Popped N (stepped M p m) (stepped_ghost M p m g)
  popped_step = record {
    behind = λ q hq. same? p q
        (λ e. rw (← e, place_mine N M p m g inv st) (of_known _ (popped_node (after_of M p m).participant.place) popped_own))
        (λ ne. rw (place_other N M p m g inv st q ne)
        (of_known _ (popped_node (m.own q).place) (popped_stays N M m g inv b _ _ _ (onward-step N M p m g inv st) q hq)));
    single = single_put N p (λ q. (m.own q).place) (λ q. ((stepped M p m).own q).place) b.single (place_other N M p m g inv st)
        (λ q hq n e. single_kind N M m g inv b p st.here _ _ _ _ _ _ (kind_of N M p m g inv st) q hq n (ap popped_node (sym (place_mine N M p m g inv st)) ∙ e));
  }

  bag-step : (x : ℕ) → g.node_use x ≡ NodeUse.placed → g.pos (head_of m.shared) < g.pos x → (stepped M p m).bag x ≡ m.bag x
  unfolding stepped goes followed
  bag-step x h lt = bag-stays N M m g inv b p st.here (left_of M p m) (after_of M p m).work (step-sound N M p m g inv st) x h lt

module _ (N M p : ℕ) (c : Call) (m : Machine) (g : Ghost) (inv : Inv N M m g) (b : Popped N m g) (ca : Calls N M p c m) where
  call_head : head_of (called N p c m).shared ≡ head_of m.shared
  unfolding called followed
  call_head = (worked_ends N M p m g inv ca.here Turn.quiet m.shared (still N M p c m g inv ca) (opens N c (m.own p)).work).0

  -- by a call
  popped_begun : (n : ℕ) → popped_node (opens N c (m.own p)).participant.place ≡ some n → (called_ghost N p c m g).pos n ≤ (called_ghost N p c m g).pos (head_of (called N p c m).shared)
  popped_begun n e = kind_popped _ p _ _ _ _ _ _ _ _ (call_of N M p c m g inv ca) n e
      (λ was. popped_stays N M m g inv b _ _ _ (onward-call N M p c m g inv ca) p ca.here n was)
      (λ q head next at won to same.
      let i : head_of (called N p c m).shared ≡ n = call_head ∙ ap index to ∙ index-link next.0 ∙ some_same next.0 n same in
      rw i (le_refl ((called_ghost N p c m g).pos n)))

  popped_call : Popped N (called N p c m) (called_ghost N p c m g)
  popped_call = record {
    behind = λ q hq. same? p q
        (λ e. rw (← e, call-place_mine N M p c m g inv ca) (of_known _ (popped_node (opens N c (m.own p)).participant.place) popped_begun))
        (λ ne. rw (call-place_other N M p c m g inv ca q ne)
        (of_known _ (popped_node (m.own q).place) (popped_stays N M m g inv b _ _ _ (onward-call N M p c m g inv ca) q hq)));
    single = single_put N p (λ q. (m.own q).place) (λ q. ((called N p c m).own q).place) b.single (call-place_other N M p c m g inv ca)
        (λ q hq n e. single_kind N M m g inv b p ca.here _ _ _ _ _ _ (call_of N M p c m g inv ca) q hq n (ap popped_node (sym (call-place_mine N M p c m g inv ca)) ∙ e));
  }

  bag-call : (x : ℕ) → g.node_use x ≡ NodeUse.placed → g.pos (head_of m.shared) < g.pos x → (called N p c m).bag x ≡ m.bag x
  unfolding called followed
  bag-call x h lt = bag-stays N M m g inv b p ca.here m.shared (opens N c (m.own p)).work (call-sound N M p c m g inv ca) x h lt

-- by a marked step that fails: a registering has popped nothing
popped_misses : (N p : ℕ) (next : Ptr) (m : Machine) (g : Ghost) → Popped N m g → Misses N p next m → Popped N (missed p next m) g
popped_misses N p next m g b s = record {
  behind = λ q hq. rw (popped q) (b.behind q hq);
  single = λ a c ha hc n ea ec. b.single a c ha hc n (sym (popped a) ∙ ea) (sym (popped c) ∙ ec);
}
  where
    popped : (q : ℕ) → popped_node ((missed p next m).own q).place ≡ popped_node (m.own q).place
    popped = reads N p next m popped_node s.stands (unfold popped_node in refl)

-- by registering, which touches neither the queue nor its bags
popped_register : (N M p : ℕ) (m : Machine) (g : Ghost) → Inv N M m g → Popped N m g → Registers N p m → Popped N (registered p m) (registered_ghost p g)
unfolding registered registered_ghost
popped_register N M p m g inv b re = record {
  behind = λ q hq. same? p q
      (λ e. rw (← e, put_same m.own p new_participant) (of_none _ (popped_node new_participant.place) (unfold new_participant popped_node in refl)))
      (λ ne. rw (put_other m.own p q new_participant ne) (unfold write in (b.behind q hq)));
  single = single_put N p (λ q. (m.own q).place) (λ q. (put m.own p new_participant q).place) b.single (λ q ne. ap (λ (o : Participant). o.place) (put_other m.own p q new_participant ne))
      (λ q hq n e. absurd (none_not_some n (sym new_none ∙ e)));
}
  where
    new_none : popped_node (put m.own p new_participant p).place ≡ none
    new_none = rw (put_same m.own p new_participant) (unfold new_participant popped_node in refl)

-- ---- along a run

-- at a fresh start everybody rests
pub popped_start : (N M : ℕ) → Popped N (view (fresh N M)) start_ghost
popped_start N M = record {
  behind = λ q hq. rw (rests q) (of_none _ (popped_node Place.Rest) (unfold popped_node in refl));
  single = λ a b ha hb n ea. absurd (none_not_some n (sym (ap popped_node (rests a) ∙ (unfold popped_node in refl)) ∙ ea));
}
  where
    rests : (q : ℕ) → ((view (fresh N M)).own q).place ≡ Place.Rest
    rests q = unfold fresh participant_of in (place_back Place.Rest)

module _ (N M : ℕ) (t : Tables) (g : Ghost) (inv : Inv N M (view t) g) (b : Popped N (view t) g) where
  -- after an event
  pub popped_happens : {v : Event} {o : Out} (h : Happens N M t v o) → Popped N (view o.tables) (ghost_after h g)
  unfolding ghost_after
  popped_happens (Happens.refuses r h) = b
  popped_happens (Happens.goes {p = p} s) = rw (view_step M p t) (popped_step N M p (view t) g inv b s)
  popped_happens (Happens.misses {p = p} {next = next} s) = rw (view_back p next t) (popped_misses N p next (view t) g b s)
  popped_happens (Happens.calls {p = p} {c = c} ca) = rw (view_call N p c t) (popped_call N M p c (view t) g inv b ca)
  popped_happens (Happens.enrols {p = p} re) = rw (view_register p t) (popped_register N M p (view t) g inv b re)

  -- bags that hang on the head are as they were
  pub bag_happens : {v : Event} {o : Out} → Happens N M t v o → (x : ℕ) → g.node_use x ≡ NodeUse.placed → g.pos (head_of t.shared) < g.pos x
      → (view o.tables).bag x ≡ (view t).bag x
  bag_happens (Happens.refuses r h) x placed lt = refl
  bag_happens (Happens.goes {p = p} s) x placed lt = ap (λ (m : Machine). m.bag x) (view_step M p t) ∙ bag-step N M p (view t) g inv b s x placed lt
  bag_happens (Happens.misses s) x placed lt = refl
  bag_happens (Happens.calls {p = p} {c = c} ca) x placed lt = ap (λ (m : Machine). m.bag x) (view_call N p c t) ∙ bag-call N M p c (view t) g inv b ca x placed lt
  bag_happens (Happens.enrols {p = p} re) x placed lt = ap (λ (m : Machine). m.bag x) (view_register p t) ∙ (unfold registered in refl)

-- at every point of a run the invariant holds, and this beside it
pub record Along (N M : ℕ) (t : Tables) : Type 0 where
  pub ghost : Ghost
  pub inv : Inv N M (view t) ghost
  pub popped : Popped N (view t) ghost

module _ (N M : ℕ) where
  along-after : (l : List Event) (t : Tables) (s : R.Sound N M t) → Popped N (view t) s.ghost → G (view t) + advances N M l t < 2 ^ 62 → Along N M (after N M l t)
  unfolding after advances
  along-after [] t s b lt = record { ghost = s.ghost; inv = s.inv; popped = b }
  along-after (v ∷ l) t s b lt =
      let u = epoch-does N M t s (omega arith) v in
      let h = happens N M t s.ghost s.inv s.stored (omega arith) v in
      let s' : R.Sound N M (does N M v t).tables = record
      { ghost = ghost_after h s.ghost; inv = inv_happens N M t s.ghost s.inv s.stored h; stored = stored_happens N M t s.ghost s.inv s.stored h } in
      along-after l (does N M v t).tables s' (popped_happens N M t s.ghost s.inv b h) (omega arith)

  pub along-run : 1 ≤ N → 2 ≤ M → (l : List Event) → advances N M l (fresh N M) < 2 ^ 62 → Along N M (after N M l (fresh N M))
  unfolding sound-fresh
  along-run h_n h_m l lt = let e = fresh-epoch N M in along-after l (fresh N M) (sound-fresh N M h_n h_m) (popped_start N M) (omega arith)
