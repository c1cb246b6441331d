-- From a fresh start bags leave the queue in the order in which they were linked (`in_order`). What hangs on the head, followed by next words, is
-- just what was linked and has not left: an event that links puts the new node at its end, since the node it is linked to has no next and so is
-- the last; an event that moves the head takes its first; every other event leaves it, since a node that is taken is none of it. No event changes the
-- bags of what hangs there (Popped). Leans on Queue (positions: what hangs on the head is placed, and only the last has no next), Change (what
-- a step can do) and Runs. Assumes nothing.
use mathlib.Core.Path.{◌≡◌, refl, ap, sym, ◌∙◌}
use mathlib.Core.Logic.{◌≢◌}
use mathlib.Core.Bool.{Bool, true, false, ◌&&◌, not, true≢false}
use mathlib.Core.List.{List, [], ◌∷◌, ◌++◌}
use Prim.Native.Nat.{ℕ, zero, suc, ◌+◌, ◌*◌, ◌/◌, ◌^◌, ◌≤◌, ◌<◌, min}
use native.Mathlib.Omega.{arith}
use lib.Dec.{eqb}
use borrow.Author.Tests.{eqb-true, eq-eqb}
use Rattle.definition.specs.Base.{Tab, put}
use Rattle.definition.specs.Links.{null, link, is_null, index, pointer}
use Rattle.definition.specs.Bags.{items}
use Rattle.definition.specs.Tables.{Shared, Tables, write}
use Rattle.definition.specs.List.{pred_word}
use Rattle.definition.specs.Calls.{opens}
use Rattle.definition.specs.Ranges.{fresh}
use Rattle.definition.specs.Step.{Out}
use Rattle.definition.proofs.Base.{same?, branch_ind, branch-true, branch-false, put_same, put_other}
use Rattle.definition.proofs.Codec.{link_not_null, index-link}
use Rattle.definition.proofs.Within.{PlaceIn, PushIn}
use Rattle.theorems.specs.OnTables.{Event, does, after, advances, links, leaves, InOrder}
use Rattle.theorems.specs.Order.{turns, linked, left, bags, Hangs}
use Rattle.theorems.proofs.Machine.{Machine, view, with_shared, works, followed}
use Rattle.theorems.proofs.Ghost.{NodeUse, Ghost, Turn, G, head_of, tail_of}
use Rattle.theorems.proofs.Invariant.{Of, taken_node, SafeNode, HoldsAt, HoldsPop, HoldsPush}
use Rattle.theorems.proofs.Change.{Change}
use Rattle.theorems.proofs.Inv.{Inv, Steps, Calls, left_of, after_of, goes, stepped, called, registered, view_step, view_call}
use Rattle.theorems.proofs.Frames.{works-queue_head}
use Rattle.theorems.proofs.Linked.{step-change}
use Rattle.theorems.proofs.Queue.{Lined, spare≢placed, taken≢placed, spare≢taken, goes_to}
use Rattle.theorems.proofs.Nodes.{lined, head_in, null_is, worked_next, step_turned, step-sound, call-sound, still}
use Rattle.theorems.proofs.Checks.{view_register}
use Rattle.theorems.proofs.Runs.{Happens, happens, ghost_after, inv_happens, stored_happens, epoch-does, sound-fresh, fresh-epoch}
use Rattle.theorems.proofs.Runs as R
use Rattle.theorems.proofs.Popped.{Popped, popped_start, popped_happens, bag_happens}
use Rattle.theorems.proofs.Types.{Node, Pred, Pops, Then, PopAt, PushAt, Place, Word, Work, Call}

-- ---- lists

joined : {A : Type 0} (a b c : List A) → (a ++ b) ++ c ≡ a ++ (b ++ c)
joined [] b c = refl
joined (x ∷ a) b c = ap (λ l. x ∷ l) (joined a b c)

no_more : {A : Type 0} (a : List A) → a ++ [] ≡ a
no_more [] = refl
no_more (x ∷ a) = ap (λ l. x ∷ l) (no_more a)

-- what came in and went out of a, and then of the rest of it
in_turn : {A : Type 0} (a in₁ in₂ out₁ out₂ b c : List A) → a ++ in₁ ≡ out₁ ++ b → b ++ in₂ ≡ out₂ ++ c → a ++ (in₁ ++ in₂) ≡ (out₁ ++ out₂) ++ c
in_turn a in₁ in₂ out₁ out₂ b c h k =
    sym (joined a in₁ in₂) ∙ ap (λ l. l ++ in₂) h ∙ joined out₁ b in₂ ∙ ap (λ l. out₁ ++ l) k ∙ sym (joined out₁ out₂ c)

-- ---- what hangs on a node in reach

module _ {M h t : ℕ} {next : Tab ℕ} {u : Tab NodeUse} {pos : Tab ℕ} {last : ℕ} (q : Lined M h t next u pos last)
    (within : (x : ℕ) → x < M → next x / 2 ≤ M) where
  -- a next names a node
  next_in : (n k : ℕ) → n < M → next n ≡ link k → k < M
  next_in n k hn e =
      let w = within n hn in
      let e' : next n ≡ 2 * (k + 1) = unfold link in e in
      omega arith

  -- next words of placed nodes stay, so the same hangs
  hangs-stays : (next' : Tab ℕ) → ((x : ℕ) → u x ≡ NodeUse.placed → next' x ≡ next x) → (n : ℕ) (l : List ℕ) → n < M → u n ≡ NodeUse.placed
      → min (pos h) (pos t) ≤ pos n → Hangs next n l → Hangs next' n l
  unfolding Hangs
  hangs-stays next' same n [] hn placed reach e = rw (same n placed) e
  hangs-stays next' same n (k ∷ l) hn placed reach e =
      let z = goes_to q n k hn placed reach e.0 in
      let p = z.1 in
      (same n placed ∙ e.0, hangs-stays next' same k l (next_in n k hn e.0) z.0 (omega arith) e.1)

  -- a node is linked to one with no next: it hangs at the end
  module _ (next' : Tab ℕ) (onto new : ℕ) (ho : onto < M) (placed : u onto ≡ NodeUse.placed) (free : is_null (next onto) ≡ true)
      (at : next' onto ≡ link new) (same : (x : ℕ) → u x ≡ NodeUse.placed → onto ≢ x → next' x ≡ next x) (bare : is_null (next' new) ≡ true) where
    hangs-linked : (n : ℕ) (l : List ℕ) → n < M → u n ≡ NodeUse.placed → min (pos h) (pos t) ≤ pos n → Hangs next n l → Hangs next' n (l ++ new ∷ [])
    unfolding Hangs
    hangs-linked n [] hn p reach e =
        let i : onto ≡ n = q.differ onto n ho hn placed p (q.ends onto ho placed free ∙ sym (q.ends n hn p e)) in
        (rw (← i) at, bare)
    hangs-linked n (k ∷ l) hn p reach e =
        let z = goes_to q n k hn p reach e.0 in
        let pz = z.1 in (
          same n p (λ i. true≢false (sym free ∙ ap (λ x. is_null (next x)) i ∙ ap is_null e.0 ∙ link_not_null k)) ∙ e.0,
          hangs-linked k l (next_in n k hn e.0) z.0 (omega arith) e.1,
        )

-- the first that hangs is the next
record First (next : Tab ℕ) (z : ℕ) (l : List ℕ) : Type 0 where
  others : List ℕ
  is : l ≡ z ∷ others
  hangs : Hangs next z others

hangs_first : (next : Tab ℕ) (n z : ℕ) (l : List ℕ) → next n ≡ link z → Hangs next n l → First next z l
unfolding Hangs
hangs_first next n z [] to e = absurd (true≢false (sym e ∙ ap is_null to ∙ link_not_null z))
hangs_first next n z (k ∷ l) to e =
    let i : k ≡ z = sym (index-link k) ∙ ap index (sym e.0 ∙ to) ∙ index-link z in
    record { others = l; is = ap (λ x. x ∷ l) i; hangs = rw (← i) e.1 }

-- ---- what was linked and what left between two moments

-- no next turned
pub linked_none : (M : ℕ) (s s' : Shared) → ((x : ℕ) → x < M → turns s s' x ≡ false) → linked M s s' ≡ []
unfolding linked
linked_none zero s s' h = refl
linked_none (suc k) s s' h = rw (linked_none k s s' (λ x hx. h x (omega arith)), branch-false (index (s'.node_next k) ∷ []) [] (h k (omega arith))) refl

-- one turned
linked_one : (M : ℕ) (s s' : Shared) (onto new : ℕ) → onto < M → turns s s' onto ≡ true → ((x : ℕ) → x < M → onto ≢ x → turns s s' x ≡ false)
    → s'.node_next onto ≡ link new → linked M s s' ≡ new ∷ []
unfolding linked
linked_one zero s s' onto new ho at others to = absurd (omega arith)
linked_one (suc k) s s' onto new ho at others to = same? onto k
    (λ i. rw (← i, linked_none onto s s' (λ x hx. others x (omega arith) (λ j. omega arith)), branch-true (index (s'.node_next onto) ∷ []) [] at, to, index-link new) refl)
    (λ ne. rw (linked_one k s s' onto new (omega arith) at (λ x hx nx. others x (omega arith) nx) to, branch-false (index (s'.node_next k) ∷ []) [] (others k (omega arith) ne)) refl)

-- a next that stays, or is null afterwards, did not turn
pub turns_same : (s s' : Shared) (x : ℕ) → s'.node_next x ≡ s.node_next x → turns s s' x ≡ false
unfolding turns
turns_same s s' x e = rw e (go (is_null (s.node_next x)))
  where
    go : (b : Bool) → (b && not b) ≡ false
    go true = refl
    go false = refl

turns-null : (s s' : Shared) (x : ℕ) → is_null (s'.node_next x) ≡ true → turns s s' x ≡ false
unfolding turns
turns-null s s' x e = rw e (go (is_null (s.node_next x)))
  where
    go : (b : Bool) → (b && not true) ≡ false
    go true = refl
    go false = refl

turns_on : (s s' : Shared) (x : ℕ) → is_null (s.node_next x) ≡ true → is_null (s'.node_next x) ≡ false → turns s s' x ≡ true
unfolding turns
turns_on s s' x a b = rw (a, b) refl

-- the head stays, or moves
pub left_none : (s s' : Shared) → s'.queue_head ≡ s.queue_head → left s s' ≡ []
unfolding left
left_none s s' e = branch-true _ _ (eq-eqb s'.queue_head s.queue_head e)

left_one : (s s' : Shared) (z : ℕ) → s'.queue_head ≡ link z → index s.queue_head ≢ z → left s s' ≡ z ∷ []
unfolding left
left_one s s' z e ne = branch_ind (λ l. l ≡ z ∷ []) (eqb s'.queue_head s.queue_head)
    (λ i. absurd (ne (ap index (sym (eqb-true s'.queue_head s.queue_head i) ∙ e) ∙ index-link z)))
    (λ _. rw (e, index-link z))

-- ---- one event: what hangs on the head, and then what it linked, is what left, and then what hangs on the head

record Passed (M : ℕ) (s s' : Shared) (l : List ℕ) : Type 0 where
  rest : List ℕ
  splits : l ++ linked M s s' ≡ left s s' ++ rest
  hangs : Hangs s'.node_next (head_of s') rest

-- nothing linked, nothing left
passed_still : (M : ℕ) (s s' : Shared) (l : List ℕ) → ((x : ℕ) → x < M → turns s s' x ≡ false) → s'.queue_head ≡ s.queue_head
    → Hangs s'.node_next (head_of s) l → Passed M s s' l
passed_still M s s' l none e h = record {
  rest = l;
  splits = rw (linked_none M s s' none, left_none s s' e) (no_more l);
  hangs = rw e h;
}

-- the work of a step writes no next word of a node that is not spare, turns none, and leaves the head
record Settled (g : Ghost) (s s' : Shared) : Type 0 where
  kept : (x : ℕ) → g.node_use x ≢ NodeUse.spare → s'.node_next x ≡ s.node_next x
  head : s'.queue_head ≡ s.queue_head
  turn : (s₀ : Shared) (x : ℕ) → turns s₀ s x ≡ false → turns s₀ s' x ≡ false

work_turn : (p : ℕ) (m : Machine) (s : Shared) (w : Work) (s₀ : Shared) (x : ℕ) → turns s₀ s x ≡ false → turns s₀ (works p w (with_shared s m)).shared x ≡ false
unfolding works write turns
work_turn p m s Work.Nothing s₀ x h = h
work_turn p m s (Work.Put i) s₀ x h = h
work_turn p m s (Work.PutThenFree i n) s₀ x h = h
work_turn p m s (Work.Seal n e) s₀ x h = same? n.0 x
    (λ i. turns-null s₀ (write (Word.NodeNext n) null s) x (rw (← i, put_same s.node_next n.0 null) null_is))
    (λ ne. rw (put_other s.node_next n.0 x null ne) h)

module _ (N M p : ℕ) (m : Machine) (g : Ghost) (inv : Inv N M m g) (hp : p < N) (l : List ℕ) (hangs : Hangs m.shared.node_next (head_of m.shared) l) where
  line : Lined M (head_of m.shared) (tail_of m.shared) m.shared.node_next g.node_use g.pos g.last
  line = lined M m g inv.queued

  within : (x : ℕ) → x < M → m.shared.node_next x / 2 ≤ M
  within x hx = (inv.ranged.node_next x hx).0

  unspare : (x : ℕ) → g.node_use x ≡ NodeUse.placed → g.node_use x ≢ NodeUse.spare
  unspare x h e = spare≢placed (sym e ∙ h)

  -- what p holds at its place, what it has taken, and that its place is in range
  held_at_lem : (pl : Place) → (m.own p).place ≡ pl → HoldsAt N M m g (g.gpin p) pl
  held_at_lem pl e = rw e at (inv.held.holds p hp)

  taken_at : (pl : Place) → (m.own p).place ≡ pl → Of (λ n. (g.node_use n ≡ NodeUse.taken) × (is_null (m.shared.node_next n) ≡ true)) (taken_node pl)
  taken_at pl e = rw e at (inv.used.taken p hp)

  place_at : (pl : Place) → (m.own p).place ≡ pl → PlaceIn N M pl
  place_at pl e = rw e at (inv.ranged.places p hp)

  module _ (s s' : Shared) (done : Settled g s s') where
    -- the access wrote no word of the queue but perhaps its tail
    passed_quiet : s.queue_head ≡ m.shared.queue_head → s.node_next ≡ m.shared.node_next → Passed M m.shared s' l
    passed_quiet eh en = passed_still M m.shared s' l
        (λ x hx. done.turn m.shared x (turns_same m.shared s x (ap (λ (f : Tab ℕ). f x) en)))
        (done.head ∙ eh)
        (hangs-stays line within s'.node_next (λ x h. done.kept x (unspare x h) ∙ ap (λ (f : Tab ℕ). f x) en) (head_of m.shared) l
        (head_in N M p m g inv hp) line.head (omega arith) hangs)

    -- an entry of the list is unlinked
    passed_unlink : (pred : Pred) (w : ℕ) → s ≡ write (pred_word pred) w m.shared → Passed M m.shared s' l
    unfolding write pred_word
    passed_unlink Pred.Head w e = passed_quiet (ap (λ (x : Shared). x.queue_head) e) (ap (λ (x : Shared). x.node_next) e)
    passed_unlink (Pred.Entry i) w e = passed_quiet (ap (λ (x : Shared). x.queue_head) e) (ap (λ (x : Shared). x.node_next) e)

    -- the head goes to its next: the first leaves
    passed_pop : (q : Pops) (head next : Node) → (m.own p).place ≡ Place.Pop q (PopAt.Exchange head next) → m.shared.queue_head ≡ link head.0
        → s.queue_head ≡ link next.0 → s.node_next ≡ m.shared.node_next → Passed M m.shared s' l
    unfolding HoldsAt HoldsPop
    passed_pop q head next at won eh en =
        let h = held_at_lem (Place.Pop q (PopAt.Exchange head next)) at in
        let e : head_of m.shared ≡ head.0 = ap index won ∙ index-link head.0 in
        let to : m.shared.node_next (head_of m.shared) ≡ link next.0 = rw e h.1.0 in
        let k = goes_to line (head_of m.shared) next.0 (head_in N M p m g inv hp) line.head (omega arith) to in
        let after = k.1 in
        let f = hangs_first m.shared.node_next (head_of m.shared) next.0 l to hangs in
        let moved : s'.queue_head ≡ link next.0 = done.head ∙ eh in
        let new : left m.shared s' ≡ next.0 ∷ [] =
        left_one m.shared s' next.0 moved (λ i. let j = ap g.pos i in omega arith) in
        record {
          rest = f.others;
          splits = rw (linked_none M m.shared s' (λ x hx. done.turn m.shared x (turns_same m.shared s x (ap (λ (f : Tab ℕ). f x) en))), new)
              (no_more l ∙ f.is);
          hangs = rw (moved, index-link next.0)
              (hangs-stays line within s'.node_next (λ x h. done.kept x (unspare x h) ∙ ap (λ (f : Tab ℕ). f x) en) next.0 f.others
              (next_in line within (head_of m.shared) next.0 (head_in N M p m g inv hp) to) k.0 (omega arith) f.hangs);
        }

    -- a taken node is linked: it hangs at the end
    passed_link : (f : Then) (new onto : Node) → (m.own p).place ≡ Place.Push f (PushAt.Link new onto) → m.shared.node_next onto.0 ≡ null
        → s.queue_head ≡ m.shared.queue_head → s.node_next ≡ put m.shared.node_next onto.0 (link new.0) → Passed M m.shared s' l
    unfolding HoldsAt HoldsPush SafeNode Of taken_node PlaceIn PushIn
    passed_link f new onto at won eh en =
        let h = (held_at_lem (Place.Push f (PushAt.Link new onto)) at).1 in
        let t = taken_at (Place.Push f (PushAt.Link new onto)) at in
        let i = (place_at (Place.Push f (PushAt.Link new onto)) at).1 in
        let placed : g.node_use onto.0 ≡ NodeUse.placed = h.0.1.0 in
        let free : is_null (m.shared.node_next onto.0) ≡ true = rw won null_is in
        let wrote : (x : ℕ) → s.node_next x ≡ put m.shared.node_next onto.0 (link new.0) x = λ x. ap (λ (f : Tab ℕ). f x) en in
        let to : s'.node_next onto.0 ≡ link new.0 =
        done.kept onto.0 (unspare onto.0 placed) ∙ wrote onto.0 ∙ put_same m.shared.node_next onto.0 (link new.0) in
        let other : (x : ℕ) → onto.0 ≢ x → s.node_next x ≡ m.shared.node_next x = λ x ne. wrote x ∙ put_other m.shared.node_next onto.0 x (link new.0) ne in
        let apart : onto.0 ≢ new.0 = λ j. taken≢placed (sym t.0 ∙ ap g.node_use (sym j) ∙ placed) in
        let bare : is_null (s'.node_next new.0) ≡ true =
        ap is_null (done.kept new.0 (λ j. spare≢taken (sym j ∙ t.0)) ∙ other new.0 apart) ∙ t.1 in
        let one : linked M m.shared s' ≡ new.0 ∷ [] = linked_one M m.shared s' onto.0 new.0 i.1
        (turns_on m.shared s' onto.0 free (ap is_null to ∙ link_not_null new.0))
        (λ x hx ne. done.turn m.shared x (turns_same m.shared s x (other x ne))) to in
        record {
          rest = l ++ new.0 ∷ [];
          splits = rw (one, left_none m.shared s' (done.head ∙ eh)) refl;
          hangs = rw (done.head ∙ eh)
              (hangs-linked line within s'.node_next onto.0 new.0 i.1 placed free to
              (λ x p ne. done.kept x (unspare x p) ∙ other x ne) bare (head_of m.shared) l (head_in N M p m g inv hp) line.head (omega arith) hangs);
        }

    -- whatever the access changed
    passed : (v : Turn) → Change p (m.own p).place m.shared v s → Passed M m.shared s' l
    unfolding write
    passed v (Change.none i e) = passed_quiet (ap (λ (x : Shared). x.queue_head) e) (ap (λ (x : Shared). x.node_next) e)
    passed v (Change.advances t _ i e) = passed_quiet (ap (λ (x : Shared). x.queue_head) e) (ap (λ (x : Shared). x.node_next) e)
    passed v (Change.pins k w _ i e) = passed_quiet (ap (λ (x : Shared). x.queue_head) e) (ap (λ (x : Shared). x.node_next) e)
    passed v (Change.repins w _ i e) = passed_quiet (ap (λ (x : Shared). x.queue_head) e) (ap (λ (x : Shared). x.node_next) e)
    passed v (Change.unpins _ i e) = passed_quiet (ap (λ (x : Shared). x.queue_head) e) (ap (λ (x : Shared). x.node_next) e)
    passed v (Change.finals _ i e) = passed_quiet (ap (λ (x : Shared). x.queue_head) e) (ap (λ (x : Shared). x.node_next) e)
    passed v (Change.aims next _ i e) = passed_quiet (ap (λ (x : Shared). x.queue_head) e) (ap (λ (x : Shared). x.node_next) e)
    passed v (Change.enlists next _ i _ e) = passed_quiet (ap (λ (x : Shared). x.queue_head) e) (ap (λ (x : Shared). x.node_next) e)
    passed v (Change.unlinks t c succ _ i _ e) = passed_unlink c.pred (pointer succ) e
    passed v (Change.tags _ i e) = passed_quiet (ap (λ (x : Shared). x.queue_head) e) (ap (λ (x : Shared). x.node_next) e)
    passed v (Change.pops q head next at i won e) = passed_pop q head next at won (ap (λ (x : Shared). x.queue_head) e) (ap (λ (x : Shared). x.node_next) e)
    passed v (Change.tails from to at i won e) = passed_quiet (ap (λ (x : Shared). x.queue_head) e) (ap (λ (x : Shared). x.node_next) e)
    passed v (Change.links f new onto at i won e) = passed_link f new onto at won (ap (λ (x : Shared). x.queue_head) e) (ap (λ (x : Shared). x.node_next) e)

module _ (N M p : ℕ) (m : Machine) (g : Ghost) (inv : Inv N M m g) (l : List ℕ) (hangs : Hangs m.shared.node_next (head_of m.shared) l) where
  -- a step
  passed_step : Steps N M p m → Passed M m.shared (stepped M p m).shared l
  unfolding stepped goes followed
  passed_step st = passed N M p m g inv st.here l hangs (left_of M p m) _
      (record {
        kept = worked_next N M p m g inv st.here _ _ (step_turned N M p m g inv st) (after_of M p m).work (step-sound N M p m g inv st);
        head = works-queue_head p (with_shared (left_of M p m) m) (after_of M p m).work;
        turn = work_turn p m (left_of M p m) (after_of M p m).work;
      }) _ (step-change M p m)

  -- a call makes no access
  passed_call : (c : Call) → Calls N M p c m → Passed M m.shared (called N p c m).shared l
  unfolding called followed
  passed_call c ca = passed_quiet N M p m g inv ca.here l hangs m.shared _
      (record {
        kept = worked_next N M p m g inv ca.here _ _ (still N M p c m g inv ca) (opens N c (m.own p)).work (call-sound N M p c m g inv ca);
        head = works-queue_head p m (opens N c (m.own p)).work;
        turn = work_turn p m m.shared (opens N c (m.own p)).work;
      }) refl refl

  -- nor does registering touch the queue
  passed_register : Passed M m.shared (registered p m).shared l
  unfolding registered write
  passed_register = passed_still M m.shared _ l (λ x hx. turns_same m.shared _ x refl) refl hangs

-- an event of a run
module _ (N M : ℕ) (t : Tables) (g : Ghost) (inv : Inv N M (view t) g) (l : List ℕ) (hangs : Hangs t.shared.node_next (head_of t.shared) l) where
  passed_same : Passed M t.shared t.shared l
  passed_same = passed_still M t.shared t.shared l (λ x hx. turns_same t.shared t.shared x refl) refl hangs

  passed_happens : {v : Event} {o : Out} → Happens N M t v o → Passed M t.shared (view o.tables).shared l
  passed_happens (Happens.refuses r h) = passed_same
  passed_happens (Happens.misses s) = passed_same
  passed_happens (Happens.goes {p = p} s) = rw (ap (λ (m : Machine). m.shared) (view_step M p t)) (passed_step N M p (view t) g inv l hangs s)
  passed_happens (Happens.calls {p = p} {c = c} ca) = rw (ap (λ (m : Machine). m.shared) (view_call N p c t)) (passed_call N M p (view t) g inv l hangs c ca)
  passed_happens (Happens.enrols {p = p} re) = rw (ap (λ (m : Machine). m.shared) (view_register p t)) (passed_register N M p (view t) g inv l hangs)

-- ---- a run

-- bags of two lists of nodes, one after the other
bags_more : (t : Tables) (a b : List ℕ) → bags t (a ++ b) ≡ bags t a ++ bags t b
unfolding bags
bags_more t [] b = refl
bags_more t (n ∷ a) b = λ i. record { node = n; seal = (t.bag n).epoch; holds = items (t.bag n).len (t.bag n).deferreds } ∷ bags_more t a b i

module _ (N M : ℕ) (t t' : Tables) (g : Ghost) (inv : Inv N M (view t) g)
    (same : (x : ℕ) → g.node_use x ≡ NodeUse.placed → g.pos (head_of t.shared) < g.pos x → (view t').bag x ≡ (view t).bag x) where
  -- bags that hang on a node no earlier than the head are as they were
  bags_stay : (n : ℕ) (l : List ℕ) → n < M → g.node_use n ≡ NodeUse.placed → g.pos (head_of t.shared) ≤ g.pos n → Hangs t.shared.node_next n l → bags t l ≡ bags t' l
  unfolding bags Hangs
  bags_stay n [] hn placed le h = refl
  bags_stay n (k ∷ l) hn placed le h =
      let line = lined M (view t) g inv.queued in
      let z = goes_to line n k hn placed (omega arith) h.0 in
      let after = z.1 in
      let e : (view t).bag k ≡ (view t').bag k = sym (same k z.0 (omega arith)) in
      let more = bags_stay k l (next_in line (λ x hx. (inv.ranged.node_next x hx).0) n k hn h.0) z.0 (omega arith) h.1 in
      λ i. record { node = k; seal = (e i).epoch; holds = (e i).holds } ∷ more i

-- from tables on whose head nodes hang: their bags and then what is linked is what leaves and then what hangs on the head
record Continues (N M : ℕ) (l : List Event) (t : Tables) (hung : List ℕ) : Type 0 where
  rest : List ℕ
  splits : bags t hung ++ links N M l t ≡ leaves N M l t ++ bags (after N M l t) rest
  hangs : Hangs (after N M l t).shared.node_next (head_of (after N M l t).shared) rest

runs_in_order : (N M : ℕ) → 1 ≤ N → (l : List Event) (t : Tables) (s : R.Sound N M t) → Popped N (view t) s.ghost → G (view t) + advances N M l t < 2 ^ 62
    → (hung : List ℕ) → Hangs t.shared.node_next (head_of t.shared) hung → Continues N M l t hung
unfolding after advances links leaves
runs_in_order N M h_n [] t s b lt hung h = record { rest = hung; splits = no_more (bags t hung); hangs = h }
runs_in_order N M h_n (v ∷ l) t s b lt hung h =
    let t' : Tables = (does N M v t).tables in
    let u = epoch-does N M t s (omega arith) v in
    let o = happens N M t s.ghost s.inv s.stored (omega arith) v in
    let one = passed_happens N M t s.ghost s.inv hung h o in
    let s' : R.Sound N M t' = record
    { ghost = ghost_after o s.ghost; inv = inv_happens N M t s.ghost s.inv s.stored o; stored = stored_happens N M t s.ghost s.inv s.stored o } in
    let more = runs_in_order N M h_n l t' s' (popped_happens N M t s.ghost s.inv b o) (omega arith) one.rest one.hangs in
    let kept : bags t hung ≡ bags t' hung = bags_stay N M t t' s.ghost s.inv (bag_happens N M t s.ghost s.inv b o) (head_of t.shared) hung
    (head_in N M 0 (view t) s.ghost s.inv h_n) s.inv.queued.head (omega arith) h in
    let both : bags t hung ++ bags t' (linked M t.shared t'.shared) ≡ bags t' (left t.shared t'.shared) ++ bags t' one.rest
    = rw kept (sym (bags_more t' hung (linked M t.shared t'.shared)) ∙ ap (bags t') one.splits ∙ bags_more t' (left t.shared t'.shared) one.rest) in
    record {
      rest = more.rest;
      splits = in_turn (bags t hung) (bags t' (linked M t.shared t'.shared)) (links N M l t')
          (bags t' (left t.shared t'.shared)) (leaves N M l t') (bags t' one.rest) (bags (after N M l t') more.rest) both more.splits;
      hangs = more.hangs;
    }

-- nothing hangs on the head of a fresh start
fresh-hangs : (N M : ℕ) → Hangs (fresh N M).shared.node_next (head_of (fresh N M).shared) []
unfolding Hangs fresh
fresh-hangs N M = null_is

-- bags leave the queue in the order in which they were linked, and what was linked and has not left hangs on the head, in that order
pub in_order : (N M : ℕ) → 1 ≤ N → 2 ≤ M → (l : List Event) → advances N M l (fresh N M) < 2 ^ 62 → InOrder N M l (fresh N M)
unfolding sound-fresh bags
in_order N M h_n h_m l lt =
    let e = fresh-epoch N M in
    let k = runs_in_order N M h_n l (fresh N M) (sound-fresh N M h_n h_m) (popped_start N M) (omega arith) [] (fresh-hangs N M) in
    record { rest = k.rest; splits = k.splits; hangs = k.hangs }
