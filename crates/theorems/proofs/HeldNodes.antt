-- What places hold of nodes stays held, and what the next place of a pop or a push holds is there: the queue half of group H. A pinned
-- participant's nodes are not freed (`Safety`), a node that was linked keeps its position, its next and its seal, and head and tail only go
-- forward (`Onward`). So what others hold stays by itself; a pop's head and its next, a push's tail and its next are safe when they are
-- read, since head and tail are in reach. The test of the seal at a pop says two epochs, as numbers are small. Assumes nothing.
use mathlib.Core.Path.{◌≡◌, refl, ap, sym, ◌∙◌}
use mathlib.Core.Logic.{◌≢◌}
use mathlib.Core.Bool.{Bool, true, false, ◌&&◌, not, true≢false}
use Prim.Native.Nat.{ℕ, ◌+◌, ◌^◌, ◌≤◌, ◌<◌}
use native.Mathlib.Omega.{arith}
use lib.Dec.{eqb}
use borrow.Author.Tests.{eq-eqb, leb-true}
use Rattle.epoch.specs.Epoch.{is_pinned, unpinned}
use Rattle.epoch.proofs.Laws.{expiry}
use Rattle.definition.specs.Base.{branch, Tab, put, least}
use Rattle.definition.specs.Links.{link, is_null, index, node_at, pointer}
use Rattle.definition.specs.Bags.{is_expired}
use Rattle.definition.specs.Tables.{Shared, read, write}
use Rattle.definition.specs.Flow.{on, also, defer, pushed}
use Rattle.definition.specs.Rule.{asks, follows, sees, leaves}
use Rattle.definition.specs.List.{pred_word}
use Rattle.definition.specs.Queue.{seal_bag, push, pop}
use Rattle.definition.specs.Internal.{rule}
use Rattle.definition.specs.Calls.{opens}
use Rattle.definition.specs.Public.{new_participant}
use Rattle.definition.proofs.Base.{same?, put_same, put_other, branch_ind}
use Rattle.definition.proofs.Codec.{link_not_null, index-link}
use Rattle.theorems.proofs.Machine.{Machine}
use Rattle.theorems.proofs.Leads.{Leads, leads}
use Rattle.theorems.proofs.Ghost.{NodeUse, Ghost, Turn, num, G, head_of, tail_of, low, gpin_after, moved}
use Rattle.theorems.proofs.Invariant.{Of, pop_epoch, old_head, Pinned, SafeNode, PoppedSafe, HoldsPop, HoldsPush, HoldsAt}
use Rattle.theorems.proofs.Change.{Change}
use Rattle.theorems.proofs.Inv.{Inv, Steps, Calls, Registers, rule_of, left_of, after_of, goes_ghost, stepped, stepped_ghost, called, called_ghost, registered, registered_ghost}
use Rattle.theorems.proofs.Linked.{under-pin, followed_own, step-change, stepped_own}
use Rattle.theorems.proofs.Queue.{Lined, spare≢placed, link-index, goes_to}
use Rattle.theorems.proofs.Nodes.{Onward, lined, next_inside, head_in, tail_in, onward-step, step_wrote, onward-call, onward-register}
use Rattle.theorems.proofs.QueuePlaces.{NodesThen, NodesAt, then_of_lem, in_queue?, by_queue, BareThen, BareAt, bare-nodes, out_bare, queue-under-pin}
use Rattle.theorems.proofs.QueuePlaces.{Bare, collected-bare, placed-bare, defer-bare, bare-after, bare-begins}
use Rattle.theorems.proofs.Types.{Node, Pred, Pops, Deferring, Then, RepinAt, PopAt, PushAt, Place, Participant, After, Call}

-- ---- what is held stays held

module _ (N M : ℕ) (m m' : Machine) (g g' : Ghost) (inv : Inv N M m g) (ow : Onward N M m g m'.shared m'.bag g') where
  line : Lined M (head_of m.shared) (tail_of m.shared) m.shared.node_next g.node_use g.pos g.last
  line = lined M m g inv.queued

  -- positions only go forward
  behind_head : (x : ℕ) → g.node_use x ≡ NodeUse.placed → g.pos x ≤ g.pos (head_of m.shared) → g'.pos x ≤ g'.pos (head_of m'.shared)
  behind_head x p le = let a = ow.pos x p in let b = ow.head in omega arith

  behind_tail : (x : ℕ) → g.node_use x ≡ NodeUse.placed → g.pos x ≤ g.pos (tail_of m.shared) → g'.pos x ≤ g'.pos (tail_of m'.shared)
  behind_tail x p le = let a = ow.pos x p in let b = ow.tail in omega arith

  -- a node not ahead of the head that is the head afterwards was the head
  head_was : (h : head_of m.shared < M) (x : ℕ) → x < M → g.node_use x ≡ NodeUse.placed → g.pos x ≤ g.pos (head_of m.shared) → head_of m'.shared ≡ x → head_of m.shared ≡ x
  head_was h x hx p le e =
      let a = ow.pos x p in
      let b : g.pos (head_of m.shared) ≤ g'.pos x = rw e at ow.head in
      line.differ (head_of m.shared) x h hx line.head p (omega arith)

  -- a next word that links stays
  next_stays : (x z : ℕ) → g.node_use x ≡ NodeUse.placed → m.shared.node_next x ≡ link z → m'.shared.node_next x ≡ link z
  next_stays x z p e = ow.next x p (rw e (link_not_null z)) ∙ e

  -- the next of the head is placed
  head_next : (h : head_of m.shared < M) (x z : ℕ) → head_of m.shared ≡ x → m.shared.node_next x ≡ link z → g.node_use z ≡ NodeUse.placed
  head_next h x z e to = (goes_to line (head_of m.shared) z h line.head (omega arith) (rw e to)).0

  module _ (d : ℕ) (hd : d < N) (pinned : Pinned m d) where
    -- a node that is safe for d stays safe
    pub safe_stays : (x : ℕ) → SafeNode M g m.shared (g.gpin d) x → SafeNode M g' m'.shared (g.gpin d) x
    safe_stays x h =
        let p = ow.safe d x hd pinned h in
        unfold SafeNode in (h.0, (p, λ lt. ow.past (g.gpin d) x h.1.0 (inv.epochs.pin_le d hd pinned) h.1.1 lt))

    -- a popped node stays safe, and its seal as it was
    pub popped_stays : (e n : ℕ) → PoppedSafe M m g (g.gpin d) e n → PoppedSafe M m' g' (g.gpin d) e n
    unfolding SafeNode num
    popped_stays e n h = (safe_stays n h.0, rw (ow.seal n h.0.1.0) h.1)

    -- what d holds in a pop; its old head is placed, so its next stays
    pub pop-stays : (q : Pops) (a : PopAt) → Of (λ n. (g.node_use n ≡ NodeUse.placed) × (g.pos n < g.pos (head_of m.shared))) (old_head (Place.Pop q a))
        → HoldsPop M m g (g.gpin d) q.epoch.0 a → HoldsPop M m' g' (g.gpin d) q.epoch.0 a
    unfolding HoldsPop SafeNode Of old_head
    pop-stays q PopAt.Head old h = tt
    pop-stays q (PopAt.Next head) old h = (safe_stays head.0 h.0, behind_head head.0 h.0.1.0 h.1)
    pop-stays q (PopAt.Exchange head next) old h = (
      (safe_stays head.0 h.0.0, behind_head head.0 h.0.0.1.0 h.0.1),
      (
        next_stays head.0 next.0 h.0.0.1.0 h.1.0,
        λ e. let was = head_was (head_in N M d m g inv hd) head.0 h.0.0.0 h.0.0.1.0 h.0.1 e in
            rw (ow.seal next.0 (head_next (head_in N M d m g inv hd) head.0 next.0 was h.1.0)) (h.1.1 was),
      ),
    )
    pop-stays q (PopAt.Tail head next) old h = (next_stays head.0 next.0 old.0 h.0, popped_stays q.epoch.0 next.0 h.1)
    pop-stays q (PopAt.TailMove head next) old h = (next_stays head.0 next.0 old.0 h.0, popped_stays q.epoch.0 next.0 h.1)

    -- what d holds in a push
    pub push-stays : (a : PushAt) → HoldsPush M m g (g.gpin d) a → HoldsPush M m' g' (g.gpin d) a
    unfolding HoldsPush SafeNode
    push-stays PushAt.Epoch h = tt
    push-stays (PushAt.Tail new) h = tt
    push-stays (PushAt.Next new onto) h = (safe_stays onto.0 h.0, behind_tail onto.0 h.0.1.0 h.1)
    push-stays (PushAt.Help new onto next) h = (safe_stays onto.0 h.0, next_stays onto.0 next.0 h.0.1.0 h.1)
    push-stays (PushAt.Link new onto) h = (safe_stays onto.0 h.0, behind_tail onto.0 h.0.1.0 h.1)
    push-stays (PushAt.Move new onto) h = (safe_stays onto.0 h.0, next_stays onto.0 new.0 h.0.1.0 h.1)

    -- what d holds besides, in a push for an old head
    pub then_stays : (f : Then) → NodesThen M m g (g.gpin d) f → NodesThen M m' g' (g.gpin d) f
    unfolding NodesThen
    then_stays (Then.Defer (Deferring.Token token)) h = tt
    then_stays (Then.Defer (Deferring.Slot t c succ)) h = tt
    then_stays (Then.Defer (Deferring.Node p head next)) h = popped_stays p.epoch.0 next.0 h
    then_stays Then.Flush h = tt
    then_stays Then.Finalize h = tt

    -- ---- what the next place holds

    module _ (small : G m < 2 ^ 62) where
      -- of what follows the access, and of the shared words that the access left, which the work leaves to placed nodes
      unfoldable Nodes : After → Type 0
      Nodes a = NodesAt M m' g' (g.gpin d) a.participant.place

      unfoldable Holding : Bool → Shared → After → Type 0
      Holding won s a = ((x : ℕ) → g.node_use x ≡ NodeUse.placed → m'.shared.node_next x ≡ s.node_next x) → Nodes a

      -- a place that holds nothing
      bare-holds : (a : After) → Bare a → Nodes a
      unfolding Nodes Bare
      bare-holds a h = bare-nodes M m' g' (g.gpin d) a.participant.place h

      -- any place
      on_holds : (pl : Place) (o : Participant) → NodesAt M m' g' (g.gpin d) pl → Nodes (on pl o)
      unfolding Nodes on
      on_holds pl o h = h

      -- head and tail are in reach, so they are safe
      head_safe : SafeNode M g m.shared (g.gpin d) (head_of m.shared)
      unfolding SafeNode low
      head_safe = (head_in N M d m g inv hd, (inv.queued.head, λ lt. absurd (omega arith)))

      tail_safe : SafeNode M g m.shared (g.gpin d) (tail_of m.shared)
      unfolding SafeNode low
      tail_safe = (tail_in N M d m g inv hd, (inv.queued.tail, λ lt. absurd (omega arith)))

      -- an old head is deferred: into the bag, and nothing is held any more; or a push begins, which holds the popped node
      defer-holds : (q : Pops) (head next : Node) (o : Participant) → PoppedSafe M m' g' (g.gpin d) q.epoch.0 next.0 → Nodes (defer (Deferring.Node q head next) o)
      unfolding defer
      defer-holds q head next o h = branch_ind Nodes _ (λ _. bare-holds _ (placed-bare (Deferring.Node q head next) _)) (λ _. begun)
        where
          begun : Nodes (on (Place.Push (Then.Defer (Deferring.Node q head next)) PushAt.Epoch) o)
          begun = unfold Nodes NodesAt NodesThen HoldsPush on in (h, tt)

      -- what goes on after a push
      pushed-holds : (f : Then) (o : Participant) → NodesThen M m' g' (g.gpin d) f → Nodes (pushed f o)
      unfolding pushed NodesThen
      pushed-holds (Then.Defer (Deferring.Token token)) o h = bare-holds _ (defer-bare (Deferring.Token token) o (unfold BareThen in tt))
      pushed-holds (Then.Defer (Deferring.Slot t c succ)) o h = bare-holds _ (defer-bare (Deferring.Slot t c succ) o (unfold BareThen in tt))
      pushed-holds (Then.Defer (Deferring.Node q head next)) o h = defer-holds q head next o h
      pushed-holds Then.Flush o h = bare-holds _ (unfold Bare BareAt on in tt)
      pushed-holds Then.Finalize o h = bare-holds _ (unfold Bare BareAt on in tt)

      -- what a test of a seal says, where numbers are small
      expired_says : (seal e : ℕ) → num seal ≤ G m → num e ≤ G m → is_expired seal e ≡ true → num seal + 2 ≤ num e
      unfolding is_expired num unpinned
      expired_says seal e a b h =
          let k = leb-true (unpinned seal + 4) e (sym (expiry e seal (omega arith) (omega arith)) ∙ h) in
          omega arith

      -- a next word that is not null names a node in range
      next_in : (x : ℕ) → x < M → is_null (m.shared.node_next x) ≡ false → index (m.shared.node_next x) < M
      next_in = next_inside N M m g inv

      -- the next of a head, tested: it is two epochs old, if the head is still the head
      exchanges : (q : Pops) (head : Node) → num q.epoch.0 ≤ G m → HoldsPop M m g (g.gpin d) q.epoch.0 (PopAt.Next head)
          → is_null (m.shared.node_next head.0) ≡ false → is_expired (m.bag (index (m.shared.node_next head.0))).epoch q.epoch.0 ≡ true
          → HoldsPop M m' g' (g.gpin d) q.epoch.0 (PopAt.Exchange head (node_at (m.shared.node_next head.0)))
      unfolding HoldsPop SafeNode node_at
      exchanges q head le h nn ex =
          let hh = head_in N M d m g inv hd in
          let to = link-index (m.shared.node_next head.0) nn (inv.ranged.node_next head.0 h.0.0).1 in (
            (safe_stays head.0 h.0, behind_head head.0 h.0.1.0 h.1),
            (
              ow.next head.0 h.0.1.0 nn ∙ to,
              λ e.
                  let was = head_was hh head.0 h.0.0 h.0.1.0 h.1 e in
                  let z = index (m.shared.node_next head.0) in
                  let placed = head_next hh head.0 z was to in
                  let old = expired_says (m.bag z).epoch q.epoch.0 (inv.epochs.seal_le z (next_in head.0 h.0.0 nn) (λ i. spare≢placed (sym i ∙ placed))) le ex in
                  rw (ow.seal z placed) old,
            ),
          )

      -- a head was exchanged for its next: the next was in reach
      tails : (q : Pops) (head next : Node) → HoldsPop M m g (g.gpin d) q.epoch.0 (PopAt.Exchange head next) → m.shared.queue_head ≡ link head.0
          → HoldsPop M m' g' (g.gpin d) q.epoch.0 (PopAt.Tail head next)
      unfolding HoldsPop SafeNode low
      tails q head next h won =
          let hh = head_in N M d m g inv hd in
          let is : head_of m.shared ≡ head.0 = ap index won ∙ index-link head.0 in
          let k = goes_to line (head_of m.shared) next.0 hh inv.queued.head (omega arith) (rw is h.1.0) in
          let e = k.1 in
          let inr : next.0 < M = rw (h.1.0, index-link next.0) at (next_in head.0 h.0.0.0 (rw h.1.0 (link_not_null next.0))) in (
            next_stays head.0 next.0 h.0.0.1.0 h.1.0,
            popped_stays q.epoch.0 next.0 ((inr, (k.0, λ lt. absurd (omega arith))), h.1.1 is),
          )

      module _ (sealed : Node → ℕ) (seals : (n : Node) → sealed n ≡ (m.bag n.0).epoch) (o : Participant) where
        -- from each place of a pop
        own_pop : (q : Pops) (a : PopAt) → num q.epoch.0 ≤ G m
            → Of (λ n. (g.node_use n ≡ NodeUse.placed) × (g.pos n < g.pos (head_of m.shared))) (old_head (Place.Pop q a))
            → HoldsPop M m g (g.gpin d) q.epoch.0 a → Leads Holding m.shared (pop sealed q o a)
        unfolding Leads pop HoldsPop Of old_head SafeNode Holding read NodesAt node_at
        own_pop q PopAt.Head le old h = λ wrote. on_holds (Place.Pop q (PopAt.Next (node_at m.shared.queue_head))) o (
          safe_stays (head_of m.shared) head_safe,
          behind_head (head_of m.shared) inv.queued.head (omega arith),
        )
        own_pop q (PopAt.Next head) le old h = λ wrote. branch_ind Nodes (is_null (m.shared.node_next head.0)) (λ _. bare-holds _ (collected-bare q.owner o))
            (λ nn. branch_ind Nodes (is_expired (sealed (node_at (m.shared.node_next head.0))) q.epoch.0)
            (λ ex. on_holds (Place.Pop q (PopAt.Exchange head (node_at (m.shared.node_next head.0)))) o (exchanges q head le h nn (rw (seals (node_at (m.shared.node_next head.0))) at ex)))
            (λ _. bare-holds _ (collected-bare q.owner o)))
        own_pop q (PopAt.Exchange head next) le old h = (
          (λ won wrote. on_holds (Place.Pop q (PopAt.Tail head next)) o (tails q head next h won)),
          (λ lost wrote. bare-holds _ (unfold Bare BareAt on in tt)),
        )
        own_pop q (PopAt.Tail head next) le old h = λ wrote. branch_ind Nodes _
            (λ _. on_holds (Place.Pop q (PopAt.TailMove head next)) o (pop-stays q (PopAt.Tail head next) old h))
            (λ _. defer-holds q head next o (popped_stays q.epoch.0 next.0 h.1))
        own_pop q (PopAt.TailMove head next) le old h = (
          (λ won wrote. defer-holds q head next o (popped_stays q.epoch.0 next.0 h.1)),
          (λ lost wrote. defer-holds q head next o (popped_stays q.epoch.0 next.0 h.1)),
        )

        -- from each place of a push
        own_push : (spare : Node) (f : Then) (a : PushAt) → NodesThen M m g (g.gpin d) f → HoldsPush M m g (g.gpin d) a → Leads Holding m.shared (push spare f o a)
        unfolding Leads push HoldsPush SafeNode Holding read NodesAt node_at
        own_push spare f PushAt.Epoch ht h = λ wrote. unfold Nodes seal_bag also on in (then_stays f ht, tt)
        own_push spare f (PushAt.Tail new) ht h = λ wrote. on_holds (Place.Push f (PushAt.Next new (node_at m.shared.queue_tail))) o (
          then_stays f ht,
          (
            safe_stays (tail_of m.shared) tail_safe,
            behind_tail (tail_of m.shared) inv.queued.tail (omega arith),
          ),
        )
        own_push spare f (PushAt.Next new onto) ht h = λ wrote. branch_ind Nodes (is_null (m.shared.node_next onto.0))
            (λ _. on_holds (Place.Push f (PushAt.Link new onto)) o
            (then_stays f ht, push-stays (PushAt.Link new onto) h))
            (λ nn. on_holds (Place.Push f (PushAt.Help new onto (node_at (m.shared.node_next onto.0)))) o (
              then_stays f ht,
              (
                safe_stays onto.0 h.0,
                ow.next onto.0 h.0.1.0 nn ∙ link-index (m.shared.node_next onto.0) nn (inv.ranged.node_next onto.0 h.0.0).1,
              ),
            ))
        own_push spare f (PushAt.Help new onto next) ht h = (
          (λ won wrote. on_holds (Place.Push f (PushAt.Tail new)) o (then_stays f ht, tt)),
          (λ lost wrote. on_holds (Place.Push f (PushAt.Tail new)) o (then_stays f ht, tt)),
        )
        own_push spare f (PushAt.Link new onto) ht h = (
          (λ won wrote. on_holds (Place.Push f (PushAt.Move new onto)) o (
            then_stays f ht,
            (
              safe_stays onto.0 h.0,
              wrote onto.0 h.0.1.0 ∙ (unfold write in (put_same m.shared.node_next onto.0 (link new.0))),
            ),
          )),
          (λ lost wrote. on_holds (Place.Push f (PushAt.Tail new)) o (then_stays f ht, tt)),
        )
        own_push spare f (PushAt.Move new onto) ht h = (
          (λ won wrote. pushed-holds f o (then_stays f ht)),
          (λ lost wrote. pushed-holds f o (then_stays f ht)),
        )

      -- the access of d's place, wherever it stands in a pop or a push
      own_leads : (spare : Node) (pl : Place) → (m.own d).place ≡ pl → in_queue? pl ≡ true
          → Leads Holding m.shared (rule (record { 0 = d }) spare (λ n. (m.bag n.0).epoch) (m.own d) pl)
      unfolding rule HoldsAt Of pop_epoch
      own_leads spare = by_queue
          (λ pl. (m.own d).place ≡ pl → in_queue? pl ≡ true → Leads Holding m.shared (rule (record { 0 = d }) spare (λ n. (m.bag n.0).epoch) (m.own d) pl))
          (λ q a e _. own_pop (λ n. (m.bag n.0).epoch) (λ n. refl) (m.own d) q a (rw e at (inv.epochs.pop_le d hd)) (rw e at (inv.used.old d hd)) (rw e at (inv.held.holds d hd)))
          (λ f a e _. let h = rw e at (inv.held.holds d hd) in own_push (λ n. (m.bag n.0).epoch) (λ n. refl) (m.own d) spare f a (then_of_lem N M m g (g.gpin d) f h.0) h.1)
          (λ pl out e i. absurd (true≢false (sym i ∙ out)))

      -- and what follows it
      own_holds : (spare : Node) → in_queue? (m.own d).place ≡ true → let r = rule (record { 0 = d }) spare (λ n. (m.bag n.0).epoch) (m.own d) (m.own d).place in
          ((x : ℕ) → g.node_use x ≡ NodeUse.placed → m'.shared.node_next x ≡ (leaves (asks r) m.shared).node_next x)
          → NodesAt M m' g' (g.gpin d) (follows r (sees (asks r) m.shared)).participant.place
      unfolding Holding Nodes
      own_holds spare i wrote =
          leads Holding m.shared (rule (record { 0 = d }) spare (λ n. (m.bag n.0).epoch) (m.own d) (m.own d).place) (own_leads spare (m.own d).place refl i) wrote

-- ---- everybody, after a step

-- a place that stores a word is none of the queue
stores_out : (pl pl' : Place) → pl ≡ pl' → in_queue? pl ≡ true → in_queue? pl' ≡ false → ⊥
stores_out pl pl' e i j = true≢false (sym i ∙ ap in_queue? e ∙ j)

-- nor is a word stored where an entry is unlinked
pred-word : (pred : Pred) (w : ℕ) (s : Shared) (q : ℕ) → (write (pred_word pred) w s).word q ≡ s.word q
unfolding write pred_word
pred-word Pred.Head w s q = refl
pred-word (Pred.Entry i) w s q = refl

-- the test for a new pin, where the word is the same
same_keeps : (b c : Bool) (e x : ℕ) → c ≡ true → branch (b && not c) e x ≡ x
unfolding branch
same_keeps true c e x h = rw h
same_keeps false c e x h = refl

-- the word of anybody else stays, and the own word of who stands at a place of a pop or a push
pub word-kept : (p : ℕ) (pl : Place) (s : Shared) (v : Turn) (s' : Shared) → Change p pl s v s' → (q : ℕ) → (p ≡ q → in_queue? pl ≡ true) → s'.word q ≡ s.word q
unfolding write
word-kept p pl s v s' (Change.none _ e) q h = rw e
word-kept p pl s v s' (Change.advances t _ _ e) q h = rw e
word-kept p pl s v s' (Change.pins k w at _ e) q h = rw e (put_other s.word p q _ (λ i. stores_out pl (Place.PinWord k w) at (h i) (unfold in_queue? in refl)))
word-kept p pl s v s' (Change.repins w at _ e) q h = rw e (put_other s.word p q _ (λ i. stores_out pl (Place.Repin (RepinAt.Store w)) at (h i) (unfold in_queue? in refl)))
word-kept p pl s v s' (Change.unpins at _ e) q h = rw e (put_other s.word p q _ (λ i. stores_out pl Place.UnpinWord at (h i) (unfold in_queue? in refl)))
word-kept p pl s v s' (Change.finals at _ e) q h = rw e (put_other s.word p q _ (λ i. stores_out pl Place.FinalWord at (h i) (unfold in_queue? in refl)))
word-kept p pl s v s' (Change.aims next _ _ e) q h = rw e
word-kept p pl s v s' (Change.enlists next _ _ _ e) q h = rw e
word-kept p pl s v s' (Change.unlinks t c succ _ _ _ e) q h = rw e (pred-word c.pred (pointer succ) s q)
word-kept p pl s v s' (Change.tags _ _ e) q h = rw e
word-kept p pl s v s' (Change.pops q' head next _ _ _ e) q h = rw e
word-kept p pl s v s' (Change.tails from to _ _ _ e) q h = rw e
word-kept p pl s v s' (Change.links f new onto _ _ _ e) q h = rw e

-- a word that stays leaves the epoch of its pin
pub gpin_kept : (e : ℕ) (w v t : Tab ℕ) (q : ℕ) → v q ≡ w q → gpin_after e w v t q ≡ t q
unfolding gpin_after
gpin_kept e w v t q h = same_keeps (is_pinned (v q)) (eqb (v q) (w q)) e (t q) (eq-eqb (v q) (w q) h)

-- who stands at a place of a pop or a push is pinned
pub queue-pinned : (N M : ℕ) (m : Machine) (g : Ghost) → Inv N M m g → (q : ℕ) → q < N → in_queue? (m.own q).place ≡ true → Pinned m q
queue-pinned N M m g inv q hq i = under-pin N m g inv.records q hq (queue-under-pin (m.own q).place i)

-- what anybody holds of nodes after a move that leaves its place and its pin
module _ (N M : ℕ) (m m' : Machine) (g g' : Ghost) (inv : Inv N M m g) (ow : Onward N M m g m'.shared m'.bag g') (q : ℕ) (hq : q < N) where
  pub nodes_stay : NodesAt M m' g' (g.gpin q) (m.own q).place
  unfolding NodesAt HoldsAt in_queue?
  nodes_stay = by_queue (λ pl. (m.own q).place ≡ pl → NodesAt M m' g' (g.gpin q) pl)
      (λ r a e. pop-stays N M m m' g g' inv ow q hq (queue-pinned N M m g inv q hq (ap in_queue? e)) r a (rw e at (inv.used.old q hq)) (rw e at (inv.held.holds q hq)))
      (λ f a e. let h = rw e at (inv.held.holds q hq) in (
        then_stays N M m m' g g' inv ow q hq (queue-pinned N M m g inv q hq (ap in_queue? e)) f (then_of_lem N M m g (g.gpin q) f h.0),
        push-stays N M m m' g g' inv ow q hq (queue-pinned N M m g inv q hq (ap in_queue? e)) a h.1,
      ))
      (λ pl out e. bare-nodes M m' g' (g.gpin q) pl (out_bare pl out)) (m.own q).place refl

module _ (N M p : ℕ) (m : Machine) (g : Ghost) (inv : Inv N M m g) (st : Steps N M p m) where
  -- p's next place, and everybody else's
  pub place_mine : ((stepped M p m).own p).place ≡ (after_of M p m).participant.place
  place_mine = ap (λ (t : Tab Participant). (t p).place) (stepped_own M p m) ∙ ap (λ (o : Participant). o.place) (put_same m.own p (after_of M p m).participant)

  pub place_other : (q : ℕ) → p ≢ q → ((stepped M p m).own q).place ≡ (m.own q).place
  place_other q ne = ap (λ (t : Tab Participant). (t q).place) (stepped_own M p m) ∙ ap (λ (o : Participant). o.place) (put_other m.own p q (after_of M p m).participant ne)

  -- the epoch of a pin stays, unless p stores its word
  pub step_gpin : (q : ℕ) → (p ≡ q → in_queue? (m.own p).place ≡ true) → (stepped_ghost M p m g).gpin q ≡ g.gpin q
  unfolding stepped_ghost goes_ghost moved
  step_gpin q h = gpin_kept (G m) m.shared.word (left_of M p m).word g.gpin q (word-kept p (m.own p).place m.shared _ _ (step-change M p m) q h)

  -- p itself, at a place of a pop or a push, and elsewhere
  own_queue : in_queue? (m.own p).place ≡ true → NodesAt M (stepped M p m) (stepped_ghost M p m g) (g.gpin p) (after_of M p m).participant.place
  unfolding after_of left_of rule_of
  own_queue i = own_holds N M m (stepped M p m) g (stepped_ghost M p m g) inv (onward-step N M p m g inv st) p st.here
      (queue-pinned N M m g inv p st.here i) st.small
      (record { 0 = least M m.node_free }) i (λ x h. step_wrote N M p m g inv st x (λ e. spare≢placed (sym e ∙ h)))

  own_out : (b : ℕ) → in_queue? (m.own p).place ≡ false → NodesAt M (stepped M p m) (stepped_ghost M p m g) b (after_of M p m).participant.place
  unfolding after_of rule_of Bare
  own_out b i = bare-nodes M (stepped M p m) (stepped_ghost M p m g) b _
      (bare-after (record { 0 = p }) (record { 0 = least M m.node_free }) (λ n. (m.bag n.0).epoch) (m.own p) (m.own p).place _ i)

  -- so wherever it stands
  own_nodes : (b : Bool) → in_queue? (m.own p).place ≡ b
      → NodesAt M (stepped M p m) (stepped_ghost M p m g) ((stepped_ghost M p m g).gpin p) (after_of M p m).participant.place
  own_nodes true i = rw (step_gpin p (λ _. i)) (own_queue i)
  own_nodes false i = own_out ((stepped_ghost M p m g).gpin p) i

  -- what everybody holds of nodes after a step
  pub nodes-held-step : (q : ℕ) → q < N → NodesAt M (stepped M p m) (stepped_ghost M p m g) ((stepped_ghost M p m g).gpin q) ((stepped M p m).own q).place
  nodes-held-step q hq = same? p q
      (λ e. rw (← e, place_mine) (own_nodes (in_queue? (m.own p).place) refl))
      (λ ne. rw (place_other q ne, step_gpin q (λ e. absurd (ne e)))
      (nodes_stay N M m (stepped M p m) g (stepped_ghost M p m g) inv (onward-step N M p m g inv st) q hq))

-- ---- after a call, and after registering

module _ (N M p : ℕ) (c : Call) (m : Machine) (g : Ghost) (inv : Inv N M m g) (ca : Calls N M p c m) where
  -- a call stores no word
  pub call_gpin : (q : ℕ) → (called_ghost N p c m g).gpin q ≡ g.gpin q
  unfolding called_ghost moved
  call_gpin q = gpin_kept (G m) m.shared.word m.shared.word g.gpin q refl

  -- it changes the record of its participant
  call_own : (called N p c m).own ≡ put m.own p (opens N c (m.own p)).participant
  unfolding called
  call_own = followed_own p (opens N c (m.own p)) m

  -- p's next place, and everybody else's
  pub call-place_mine : ((called N p c m).own p).place ≡ (opens N c (m.own p)).participant.place
  call-place_mine = ap (λ (t : Tab Participant). (t p).place) call_own ∙ ap (λ (o : Participant). o.place) (put_same m.own p (opens N c (m.own p)).participant)

  pub call-place_other : (q : ℕ) → p ≢ q → ((called N p c m).own q).place ≡ (m.own q).place
  call-place_other q ne = ap (λ (t : Tab Participant). (t q).place) call_own ∙ ap (λ (o : Participant). o.place) (put_other m.own p q (opens N c (m.own p)).participant ne)

  -- a call begins a place that holds nothing of nodes
  pub call-bare : BareAt (opens N c (m.own p)).participant.place
  unfolding opens Bare
  call-bare = unfold Bare in (bare-begins c _)

  -- what everybody holds of nodes after a call
  pub nodes-held-call : (q : ℕ) → q < N → NodesAt M (called N p c m) (called_ghost N p c m g) ((called_ghost N p c m g).gpin q) ((called N p c m).own q).place
  nodes-held-call q hq = same? p q
      (λ e. rw (← e, call-place_mine) (bare-nodes M (called N p c m) (called_ghost N p c m g) ((called_ghost N p c m g).gpin p) _ call-bare))
      (λ ne. rw (call-place_other q ne, call_gpin q)
      (nodes_stay N M m (called N p c m) g (called_ghost N p c m g) inv (onward-call N M p c m g inv ca) q hq))

module _ (N M p : ℕ) (m : Machine) (g : Ghost) (inv : Inv N M m g) (re : Registers N p m) where
  -- what everybody holds of nodes after registering
  pub nodes-held-register : (q : ℕ) → q < N → NodesAt M (registered p m) (registered_ghost p g) ((registered_ghost p g).gpin q) ((registered p m).own q).place
  nodes-held-register q hq = same? p q
      (λ e. rw (← e, mine) (bare-nodes M (registered p m) (registered_ghost p g) ((registered_ghost p g).gpin p) _ new_bare))
      (λ ne. rw (other q ne, gpin_same) (nodes_stay N M m (registered p m) g (registered_ghost p g) inv (onward-register N M p m g inv re) q hq))
    where
      mine : ((registered p m).own p).place ≡ new_participant.place
      mine = unfold registered in (ap (λ (o : Participant). o.place) (put_same m.own p new_participant))

      other : (q : ℕ) → p ≢ q → ((registered p m).own q).place ≡ (m.own q).place
      other q ne = unfold registered in (ap (λ (o : Participant). o.place) (put_other m.own p q new_participant ne))

      gpin_same : (registered_ghost p g).gpin q ≡ g.gpin q
      gpin_same = unfold registered_ghost in refl

      new_bare : BareAt new_participant.place
      new_bare = unfold BareAt new_participant in tt
