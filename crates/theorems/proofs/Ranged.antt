-- Ranges, kept by every step, call and registering: every pointer stays within its table, every place carries slots, nodes, pops and tokens within
-- their limits, counts and bags stay within theirs, and at rest no share is left. What a step stores it had in its place, what it loads was in
-- range, and the node that it takes is one of the table's. Leans on Tidy for the numbers and on Kept and Within of the definition for the
-- places. Assumes nothing.
use mathlib.Core.Path.{◌≡◌, refl}
use mathlib.Core.Bool.{Bool, true, false, true≢false}
use mathlib.Core.List.{List, [], ◌∷◌, ◌++◌}
use Prim.Native.Nat.{ℕ, ◌/◌, ◌%◌, ◌≤◌, ◌<◌}
use native.Mathlib.Omega.{arith}
use Rattle.epoch.specs.Epoch.{starting}
use Rattle.definition.specs.Base.{put, least}
use Rattle.definition.specs.Links.{null, link, tagged, pointer}
use Rattle.definition.specs.Bags.{max_objects}
use Rattle.definition.specs.Tables.{Shared, read, write}
use Rattle.definition.specs.Rule.{asks, follows, sees}
use Rattle.definition.specs.List.{insert, delete, iterate, pred_word}
use Rattle.definition.specs.Queue.{push, pop}
use Rattle.definition.specs.Internal.{pin_epoch, pin_word, unpin_word, repin, advance_epoch, advance_word, advance_store, final_word, rule}
use Rattle.definition.specs.Calls.{max_count, opens}
use Rattle.definition.specs.Public.{takes_node, new_participant}
use Rattle.definition.proofs.Base.{put_ind}
use Rattle.definition.proofs.Within.{PtrIn, PredIn, CursorIn, PopsIn, ThenIn, RegisterIn, WalkIn, PopIn, PushIn, PlaceIn, ItemIn, WorkIn, AfterIn, follows_in}
use Rattle.definition.proofs.Opens.{opens_in}
use Rattle.definition.proofs.Kept.{ask_word, ValueIn, PlacedIn, place-kept}
use Rattle.theorems.proofs.Machine.{Machine, Sealed, works, followed}
use Rattle.theorems.proofs.Ghost.{Ghost, Turn, turn_of}
use Rattle.theorems.proofs.Change.{Change, MovesTail}
use Rattle.theorems.proofs.Frames.{own_goes, held-goes}
use Rattle.theorems.proofs.Live.{bag_after}
use Rattle.theorems.proofs.Records.{chg}
use Rattle.theorems.proofs.Tidy.{RestShare, rests_none, Counted}
use Rattle.theorems.proofs.Roomy.{tidy_after, tidy_called}
use Rattle.theorems.proofs.Invariant.{Each}
use Rattle.theorems.proofs.Inv.{Inv, Ranged, Steps, Calls, rule_of, won_of, left_of, after_of, goes, stepped, called, registered}
use Rattle.theorems.proofs.Inv as I
use Rattle.theorems.proofs.Types.{Slot, Node, Ptr, Pred, Cursor, Item, Try, Pops, Then, RegisterAt, RepinAt, WalkAt, PopAt, PushAt}
use Rattle.theorems.proofs.Types.{Place, Participant, Word, Seen, Work, After, Call}

-- ---- shared words

-- the words of the list and of the queue point into their tables
pub record Words (N M : ℕ) (s : Shared) : Type 0 where
  pub list_head : (s.list_head / 2 ≤ N) × (s.list_head % 2 ≡ 0)
  pub entry_next : (q : ℕ) → q < N → s.entry_next q / 2 ≤ N
  pub queue_head : (1 ≤ s.queue_head / 2) × ((s.queue_head / 2 ≤ M) × (s.queue_head % 2 ≡ 0))
  pub queue_tail : (1 ≤ s.queue_tail / 2) × ((s.queue_tail / 2 ≤ M) × (s.queue_tail % 2 ≡ 0))
  pub node_next : (n : ℕ) → n < M → (s.node_next n / 2 ≤ M) × (s.node_next n % 2 ≡ 0)

-- as the group has them
pub words_of : (N M : ℕ) (m : Machine) → Ranged N M m → Words N M m.shared
words_of N M m r = record { list_head = r.list_head; entry_next = r.entry_next; queue_head = r.queue_head; queue_tail = r.queue_tail; node_next = r.node_next }

-- links and pointers to what is in range
link_in : (N i : ℕ) → i < N → (link i / 2 ≤ N) × (link i % 2 ≡ 0)
unfolding link
link_in N i h = (omega arith, omega arith)

-- a link of the queue, which is not null
end_in : (M i : ℕ) → i < M → (1 ≤ link i / 2) × ((link i / 2 ≤ M) × (link i % 2 ≡ 0))
unfolding link
end_in M i h = (omega arith, (omega arith, omega arith))

-- a pointer that may be null
pointer_in : (N M : ℕ) (q : Ptr) → PtrIn N M q → (pointer q / 2 ≤ N) × (pointer q % 2 ≡ 0)
unfolding pointer PtrIn null
pointer_in N M Ptr.Null h = (omega arith, omega arith)
pointer_in N M (Ptr.At s) h = link_in N s.0 h

-- a tag leaves a link where it points
tagged_in : (N w : ℕ) → w / 2 ≤ N → tagged w / 2 ≤ N
unfolding tagged
tagged_in N w h = omega arith

-- a word written with a value in range
module _ (N M : ℕ) (s : Shared) (h : Words N M s) where
  -- the epoch
  epoch-words : (v : ℕ) → Words N M (write Word.GlobalEpoch v s)
  unfolding write
  epoch-words v = record { list_head = h.list_head; entry_next = h.entry_next; queue_head = h.queue_head; queue_tail = h.queue_tail; node_next = h.node_next }

  -- a participant's word
  pub word-words : (i : Slot) (v : ℕ) → Words N M (write (Word.ParticipantWord i) v s)
  unfolding write
  word-words i v = record { list_head = h.list_head; entry_next = h.entry_next; queue_head = h.queue_head; queue_tail = h.queue_tail; node_next = h.node_next }

  -- the list's head
  head_words : (v : ℕ) → (v / 2 ≤ N) × (v % 2 ≡ 0) → Words N M (write Word.ListHead v s)
  unfolding write
  head_words v k = record { list_head = k; entry_next = h.entry_next; queue_head = h.queue_head; queue_tail = h.queue_tail; node_next = h.node_next }

  -- an entry's next
  pub entry_words : (i : Slot) (v : ℕ) → v / 2 ≤ N → Words N M (write (Word.EntryNext i) v s)
  unfolding write
  entry_words i v k = record {
    list_head = h.list_head;
    queue_head = h.queue_head;
    queue_tail = h.queue_tail;
    node_next = h.node_next;
    entry_next = λ q hq. put_ind (λ (w : ℕ). w / 2 ≤ N) s.entry_next i.0 q v (λ _. k) (λ _. h.entry_next q hq);
  }

  -- the queue's head
  queue-words : (v : ℕ) → (1 ≤ v / 2) × ((v / 2 ≤ M) × (v % 2 ≡ 0)) → Words N M (write Word.QueueHead v s)
  unfolding write
  queue-words v k = record { list_head = h.list_head; entry_next = h.entry_next; queue_head = k; queue_tail = h.queue_tail; node_next = h.node_next }

  -- the queue's tail
  tail_words : (v : ℕ) → (1 ≤ v / 2) × ((v / 2 ≤ M) × (v % 2 ≡ 0)) → Words N M (write Word.QueueTail v s)
  unfolding write
  tail_words v k = record { list_head = h.list_head; entry_next = h.entry_next; queue_head = h.queue_head; queue_tail = k; node_next = h.node_next }

  -- a node's next
  node-words : (n : Node) (v : ℕ) → (v / 2 ≤ M) × (v % 2 ≡ 0) → Words N M (write (Word.NodeNext n) v s)
  unfolding write
  node-words n v k = record {
    list_head = h.list_head;
    entry_next = h.entry_next;
    queue_head = h.queue_head;
    queue_tail = h.queue_tail;
    node_next = λ q hq. put_ind (λ (w : ℕ). (w / 2 ≤ M) × (w % 2 ≡ 0)) s.node_next n.0 q v (λ _. k) (λ _. h.node_next q hq);
  }

  -- the predecessor's link
  pred-words : (q : Pred) (v : ℕ) → (v / 2 ≤ N) × (v % 2 ≡ 0) → Words N M (write (pred_word q) v s)
  unfolding pred_word
  pred-words Pred.Head v k = head_words v k
  pred-words (Pred.Entry i) v k = entry_words i v k.0

-- what the places that store carry
module _ (N M : ℕ) (pl : Place) (h : PlaceIn N M pl) where
  -- an insertion
  aims_in : (next : Ptr) → pl ≡ Place.Register (RegisterAt.Next next) → PtrIn N M next
  unfolding PlaceIn RegisterIn
  aims_in next e = rw e at h

  -- an unlinking
  unlinks_in : (t : Try) (c : Cursor) (succ : Ptr) → pl ≡ Place.Walk t (WalkAt.Unlink c succ) → PtrIn N M succ
  unfolding PlaceIn WalkIn
  unlinks_in t c succ e = let k : CursorIn N M c × PtrIn N M succ = rw e at h in k.1

  -- a pop
  pops_to : (q : Pops) (head next : Node) → pl ≡ Place.Pop q (PopAt.Exchange head next) → next.0 < M
  unfolding PlaceIn PopIn
  pops_to q head next e = let k : PopsIn N M q × ((head.0 < M) × (next.0 < M)) = rw e at h in k.1.1

  -- a link of the queue
  links_to : (f : Then) (new onto : Node) → pl ≡ Place.Push f (PushAt.Link new onto) → new.0 < M
  unfolding PlaceIn PushIn
  links_to f new onto e = let k : ThenIn N M f × ((new.0 < M) × (onto.0 < M)) = rw e at h in k.1.0

-- a move of the tail
moves_to : (N M : ℕ) (pl : Place) (from to : ℕ) → MovesTail pl from to → PlaceIn N M pl → to < M
unfolding PlaceIn PopIn PushIn
moves_to N M pl from to MovesTail.pop_moves h = h.1.1
moves_to N M pl from to MovesTail.helps h = h.1.1
moves_to N M pl from to MovesTail.push_moves h = h.1.0

-- the thirteen changes
words-changed : (N M p : ℕ) (pl : Place) (s s' : Shared) (v : Turn) → p < N → PlaceIn N M pl → Words N M s → Change p pl s v s' → Words N M s'
words-changed N M p pl s s' v hp i h (Change.none t e) = rw e h
words-changed N M p pl s s' v hp i h (Change.advances y k t e) = rw e (epoch-words N M s h _)
words-changed N M p pl s s' v hp i h (Change.pins o y k t e) = rw e (word-words N M s h _ _)
words-changed N M p pl s s' v hp i h (Change.repins y k t e) = rw e (word-words N M s h _ _)
words-changed N M p pl s s' v hp i h (Change.unpins k t e) = rw e (word-words N M s h _ _)
words-changed N M p pl s s' v hp i h (Change.finals k t e) = rw e (word-words N M s h _ _)
words-changed N M p pl s s' v hp i h (Change.aims next k t e) = rw e (entry_words N M s h _ _ (pointer_in N M next (aims_in N M pl i next k)).0)
words-changed N M p pl s s' v hp i h (Change.enlists next k t w e) = rw e (head_words N M s h _ (link_in N p hp))
words-changed N M p pl s s' v hp i h (Change.unlinks y c succ k t w e) = rw e (pred-words N M s h c.pred _ (pointer_in N M succ (unlinks_in N M pl i y c succ k)))
words-changed N M p pl s s' v hp i h (Change.tags k t e) = rw e (entry_words N M s h _ _ (tagged_in N (s.entry_next p) (h.entry_next p hp)))
words-changed N M p pl s s' v hp i h (Change.pops q x y k t w e) = rw e (queue-words N M s h _ (end_in M y.0 (pops_to N M pl i q x y k)))
words-changed N M p pl s s' v hp i h (Change.tails f y k t w e) = rw e (tail_words N M s h _ (end_in M y (moves_to N M pl f y k i)))
words-changed N M p pl s s' v hp i h (Change.links f n o k t w e) = rw e (node-words N M s h _ _ (link_in M n.0 (links_to N M pl i f n o k)))

-- ---- what a step sees, and its place afterwards

-- what stands in the predecessor's link
pred-value : (N M : ℕ) (q : Pred) (s : Shared) → PredIn N M q → Words N M s → ValueIn N M (pred_word q) (read (pred_word q) s)
unfolding ValueIn pred_word read PredIn
pred-value N M Pred.Head s i h = h.list_head.0
pred-value N M (Pred.Entry x) s i h = h.entry_next x.0 i

module _ (N M p : ℕ) (spare : Node) (sealed : Node → ℕ) (o : Participant) (s : Shared) (hp : p < N) (w : Words N M s) where
  -- the value that comes back is one that may stand in the word asked for
  value_in : (pl : Place) → PlaceIn N M pl → let r = rule (record { 0 = p }) spare sealed o pl in ValueIn N M (ask_word (asks r)) (sees (asks r) s).value
  unfolding ValueIn ask_word asks sees read rule insert delete iterate push pop pin_epoch pin_word unpin_word repin advance_epoch advance_word advance_store final_word
      PlaceIn RegisterIn WalkIn PopIn PushIn
  value_in Place.Rest i = tt
  value_in (Place.Register RegisterAt.Head) i = w.list_head.0
  value_in (Place.Register (RegisterAt.Next next)) i = omega arith
  value_in (Place.Register (RegisterAt.Link next)) i = w.list_head.0
  value_in (Place.PinEpoch k) i = tt
  value_in (Place.PinWord k e) i = tt
  value_in (Place.Repin RepinAt.Word) i = tt
  value_in (Place.Repin (RepinAt.Epoch e)) i = tt
  value_in (Place.Repin (RepinAt.Store e)) i = tt
  value_in Place.UnpinWord i = tt
  value_in (Place.AdvanceEpoch k) i = tt
  value_in (Place.Walk t WalkAt.Head) i = w.list_head.0
  value_in (Place.Walk t (WalkAt.Next c)) i = w.entry_next c.curr.0 i.1
  value_in (Place.Walk t (WalkAt.Unlink c succ)) i = pred-value N M c.pred s i.0.0 w
  value_in (Place.Walk t WalkAt.Stalled) i = w.list_head.0
  value_in (Place.AdvanceWord t curr succ) i = tt
  value_in (Place.AdvanceStore t) i = tt
  value_in (Place.Pop q PopAt.Head) i = (w.queue_head.0, w.queue_head.1.0)
  value_in (Place.Pop q (PopAt.Next head)) i = (w.node_next head.0 i.1).0
  value_in (Place.Pop q (PopAt.Exchange head next)) i = (w.queue_head.0, w.queue_head.1.0)
  value_in (Place.Pop q (PopAt.Tail head next)) i = (w.queue_tail.0, w.queue_tail.1.0)
  value_in (Place.Pop q (PopAt.TailMove head next)) i = (w.queue_tail.0, w.queue_tail.1.0)
  value_in (Place.Push f PushAt.Epoch) i = tt
  value_in (Place.Push f (PushAt.Tail new)) i = (w.queue_tail.0, w.queue_tail.1.0)
  value_in (Place.Push f (PushAt.Next new onto)) i = (w.node_next onto.0 i.1.1).0
  value_in (Place.Push f (PushAt.Help new onto next)) i = (w.queue_tail.0, w.queue_tail.1.0)
  value_in (Place.Push f (PushAt.Link new onto)) i = (w.node_next onto.0 i.1.1).0
  value_in (Place.Push f (PushAt.Move new onto)) i = (w.queue_tail.0, w.queue_tail.1.0)
  value_in Place.FinalWord i = tt
  value_in Place.FinalTag i = w.entry_next p hp

-- where no node is taken it does not matter which one is spare
spare_same : (self : Slot) (a b : Node) (sealed : Node → ℕ) (o : Participant) (pl : Place) → takes_node pl ≡ false → rule self a sealed o pl ≡ rule self b sealed o pl
unfolding rule push takes_node
spare_same self a b sealed o Place.Rest h = refl
spare_same self a b sealed o (Place.Register x) h = refl
spare_same self a b sealed o (Place.PinEpoch k) h = refl
spare_same self a b sealed o (Place.PinWord k e) h = refl
spare_same self a b sealed o (Place.Repin x) h = refl
spare_same self a b sealed o Place.UnpinWord h = refl
spare_same self a b sealed o (Place.AdvanceEpoch k) h = refl
spare_same self a b sealed o (Place.Walk t x) h = refl
spare_same self a b sealed o (Place.AdvanceWord t curr succ) h = refl
spare_same self a b sealed o (Place.AdvanceStore t) h = refl
spare_same self a b sealed o (Place.Pop q x) h = refl
spare_same self a b sealed o (Place.Push f PushAt.Epoch) h = absurd (true≢false h)
spare_same self a b sealed o (Place.Push f (PushAt.Tail new)) h = refl
spare_same self a b sealed o (Place.Push f (PushAt.Next new onto)) h = refl
spare_same self a b sealed o (Place.Push f (PushAt.Help new onto next)) h = refl
spare_same self a b sealed o (Place.Push f (PushAt.Link new onto)) h = refl
spare_same self a b sealed o (Place.Push f (PushAt.Move new onto)) h = refl
spare_same self a b sealed o Place.FinalWord h = refl
spare_same self a b sealed o Place.FinalTag h = refl

-- so a place in range leads to a place in range, with a work in range, if the node that it must take is one of the table's
module _ (N M p : ℕ) (spare : Node) (sealed : Node → ℕ) (o : Participant) (pl : Place) (seen : Seen) (hp : p < N) (h_m : 0 < M) (hs : takes_node pl ≡ true → spare.0 < M) (i : PlaceIn N M pl) where
  -- the place
  place_by : (b : Bool) → takes_node pl ≡ b → ValueIn N M (ask_word (asks (rule (record { 0 = p }) spare sealed o pl))) seen.value
      → PlacedIn N M (follows (rule (record { 0 = p }) spare sealed o pl) seen)
  place_by true e = place-kept N M p spare sealed o pl seen hp (hs e) i
  place_by false e = rw (spare_same (record { 0 = p }) spare (record { 0 = 0 }) sealed o pl e) (place-kept N M p (record { 0 = 0 }) sealed o pl seen hp h_m i)

  -- the work
  work_by : (b : Bool) → takes_node pl ≡ b → AfterIn N M (follows (rule (record { 0 = p }) spare sealed o pl) seen)
  work_by true e = follows_in N M p spare sealed o pl seen (hs e) i
  work_by false e = rw (spare_same (record { 0 = p }) spare (record { 0 = 0 }) sealed o pl e) (follows_in N M p (record { 0 = 0 }) sealed o pl seen h_m i)

-- ---- a move, whatever the access left and whatever follows

-- an item put at the end of a bag
each_add : (P : Item → Type 0) (l : List Item) (i : Item) → Each P l → P i → Each P (l ++ i ∷ [])
unfolding Each
each_add P [] i h k = (k, tt)
each_add P (x ∷ l) i h k = (h.0, each_add P l i h.1 k)

-- the own bag after the work
bag_in_lem : (N M : ℕ) (w : Work) (b : List Item) → WorkIn N M w → Each (ItemIn N M) b → Each (ItemIn N M) (bag_after w b)
unfolding WorkIn bag_after Each
bag_in_lem N M Work.Nothing b i h = h
bag_in_lem N M (Work.Put x) b i h = each_add (ItemIn N M) b x h i
bag_in_lem N M (Work.PutThenFree x n) b i h = each_add (ItemIn N M) b x h i.0
bag_in_lem N M (Work.Seal n e) b i h = tt

-- null is in range
null_in : (M : ℕ) → (null / 2 ≤ M) × (null % 2 ≡ 0)
unfolding null
null_in M = (omega arith, omega arith)

-- the shared words after the work
works-words : (N M p : ℕ) (w : Work) (m : Machine) → Words N M m.shared → Words N M (works p w m).shared
unfolding works
works-words N M p Work.Nothing m h = h
works-words N M p (Work.Put x) m h = h
works-words N M p (Work.PutThenFree x n) m h = h
works-words N M p (Work.Seal n e) m h = node-words N M m.shared h _ null (null_in M)

-- the nodes' bags after the work
works-bags : (N M p : ℕ) (w : Work) (m : Machine) → Each (ItemIn N M) (m.held p) → (n : ℕ) → Each (ItemIn N M) (m.bag n).holds → Each (ItemIn N M) ((works p w m).bag n).holds
unfolding works Each
works-bags N M p Work.Nothing m b n h = h
works-bags N M p (Work.Put x) m b n h = h
works-bags N M p (Work.PutThenFree x k) m b n h = put_ind (λ (z : Sealed). Each (ItemIn N M) z.holds) m.bag k.0 n _ (λ _. tt) (λ _. h)
works-bags N M p (Work.Seal k e) m b n h = put_ind (λ (z : Sealed). Each (ItemIn N M) z.holds) m.bag k.0 n _ (λ _. b) (λ _. h)

module _ (N M p : ℕ) (m : Machine) (s : Shared) (a : After) (r : Ranged N M m) (hp : p < N) (w : Words N M s) (pa : PlacedIn N M a) (wa : AfterIn N M a)
    (rs : RestShare a.participant.place a.participant.share) (cs : Counted a.participant) (hs : a.participant.held ≤ max_objects) where
  abbrev m' : Machine
  m' = goes p m s a

  -- the shared words
  words-goes : Words N M m'.shared
  unfolding goes followed
  words-goes = works-words N M p a.work (record { shared = s; own = m.own; held = m.held; bag = m.bag; slot_free = m.slot_free; node_free = m.node_free; aside = m.aside }) w

  -- a fact about each record
  own_by : (P : Participant → Type 0) (q : ℕ) → P a.participant → P (m.own q) → P (m'.own q)
  own_by P q h k = rw (own_goes p m s a q) (put_ind P m.own p q a.participant (λ _. h) (λ _. k))

  -- the bags of participants
  held_by : (q : ℕ) → q < N → Each (ItemIn N M) (m'.held q)
  unfolding AfterIn
  held_by q hq = rw (held-goes p m s a q) (put_ind (Each (ItemIn N M)) m.held p q (bag_after a.work (m.held p))
      (λ _. bag_in_lem N M a.work (m.held p) wa (r.held p hp).1) (λ _. (r.held q hq).1))

  -- the bags of nodes
  bags-goes : (n : ℕ) → n < M → Each (ItemIn N M) (m'.bag n).holds
  unfolding goes followed
  bags-goes n hn = works-bags N M p a.work (record { shared = s; own = m.own; held = m.held; bag = m.bag; slot_free = m.slot_free; node_free = m.node_free; aside = m.aside }) (r.held p hp).1 n (r.bags n hn)

  -- all of it
  pub ranged_goes : Ranged N M m'
  unfolding PlacedIn
  ranged_goes = record {
    places = λ q hq. own_by (λ (o : Participant). PlaceIn N M o.place) q pa (r.places q hq);
    list_head = words-goes.list_head;
    entry_next = words-goes.entry_next;
    queue_head = words-goes.queue_head;
    queue_tail = words-goes.queue_tail;
    node_next = words-goes.node_next;
    counts = λ q hq. own_by Counted q cs (r.counts q hq);
    held = λ q hq. (own_by (λ (o : Participant). o.held ≤ max_objects) q hs (r.held q hq).0, held_by q hq);
    bags = bags-goes;
    shares = λ q hq. own_by (λ (o : Participant). o.place ≡ Place.Rest → o.share ≡ 0) q (rests_none a.participant.place a.participant.share rs) (r.shares q hq);
  }

-- ---- the step

module _ (N M p : ℕ) (m : Machine) (g : Ghost) (inv : Inv N M m g) (st : Steps N M p m) where
  -- the queue has a head, so there is a node
  some_node : 0 < M
  some_node = let k = inv.ranged.queue_head.0 in let l = inv.ranged.queue_head.1.0 in omega arith

  abbrev spare : Node
  spare = record { 0 = least M m.node_free }

  -- the place afterwards
  pub placed-after : PlacedIn N M (after_of M p m)
  unfolding after_of rule_of
  placed-after = place_by N M p spare (λ n. (m.bag n.0).epoch) (m.own p) (m.own p).place _ st.here some_node (λ e. (st.spare e).0) (inv.ranged.places p st.here) (takes_node (m.own p).place) refl
      (value_in N M p spare (λ n. (m.bag n.0).epoch) (m.own p) m.shared st.here (words_of N M m inv.ranged) (m.own p).place (inv.ranged.places p st.here))

  -- the work
  pub work_after : AfterIn N M (after_of M p m)
  unfolding after_of rule_of
  work_after = work_by N M p spare (λ n. (m.bag n.0).epoch) (m.own p) (m.own p).place _ st.here some_node (λ e. (st.spare e).0) (inv.ranged.places p st.here) (takes_node (m.own p).place) refl

  -- all of it
  ranged_at : Ranged N M (stepped M p m)
  unfolding stepped
  ranged_at = let t = tidy_after N M p m g inv st in
      ranged_goes N M p m (left_of M p m) (after_of M p m) inv.ranged st.here
      (words-changed N M p (m.own p).place m.shared (left_of M p m) (turn_of p (m.own p).place (won_of M p m)) st.here (inv.ranged.places p st.here) (words_of N M m inv.ranged) (chg N M p m g inv st))
      placed-after work_after t.rests t.counts t.held

-- the ranges are kept by a step
pub ranged_step : (N M p : ℕ) (m : Machine) (g : Ghost) → Inv N M m g → Steps N M p m → Ranged N M (stepped M p m)
ranged_step N M p m g inv st = ranged_at N M p m g inv st

-- ---- a call

-- the ranges are kept by a call
pub ranged_call : (N M p : ℕ) (c : Call) (m : Machine) (g : Ghost) → Inv N M m g → Calls N M p c m → Ranged N M (called N p c m)
unfolding called goes
ranged_call N M p c m g inv cl =
    let t = tidy_called N M p c m g inv cl in let k = opens_in N M c (m.own p) cl.token in
    ranged_goes N M p m m.shared (opens N c (m.own p)) inv.ranged cl.here (words_of N M m inv.ranged) k.0 k.1 t.rests t.counts t.held

-- ---- registering

module _ (N M p : ℕ) (m : Machine) (r : Ranged N M m) where
  -- its two shared words
  new_words : Words N M (write (Word.ParticipantWord (record { 0 = p })) starting (write (Word.EntryNext (record { 0 = p })) null m.shared))
  new_words = word-words N M _ (entry_words N M m.shared (words_of N M m r) (record { 0 = p }) null (null_in N).0) (record { 0 = p }) starting

  -- its place
  new_place : PlaceIn N M new_participant.place
  unfolding new_participant PlaceIn RegisterIn
  new_place = tt

  -- its counts
  new_counts : Counted new_participant
  unfolding new_participant max_count
  new_counts = (omega arith, omega arith)

  -- the length of its bag
  new_held : new_participant.held ≤ max_objects
  unfolding new_participant
  new_held = omega arith

  -- its share
  new_none : new_participant.place ≡ Place.Rest → new_participant.share ≡ 0
  unfolding new_participant
  new_none e = refl

  -- its bag
  new_bag : Each (ItemIn N M) []
  unfolding Each
  new_bag = tt

  -- a fact about each record
  own_new : (P : Participant → Type 0) (q : ℕ) → P new_participant → P (m.own q) → P (put m.own p new_participant q)
  own_new P q h k = put_ind P m.own p q new_participant (λ _. h) (λ _. k)

  -- all of it
  ranged_new : Ranged N M (registered p m)
  unfolding registered
  ranged_new = record {
    places = λ q hq. own_new (λ (o : Participant). PlaceIn N M o.place) q new_place (r.places q hq);
    list_head = new_words.list_head;
    entry_next = new_words.entry_next;
    queue_head = new_words.queue_head;
    queue_tail = new_words.queue_tail;
    node_next = new_words.node_next;
    counts = λ q hq. own_new Counted q new_counts (r.counts q hq);
    held = λ q hq. (
      own_new (λ (o : Participant). o.held ≤ max_objects) q new_held (r.held q hq).0,
      put_ind (Each (ItemIn N M)) m.held p q [] (λ _. new_bag) (λ _. (r.held q hq).1),
    );
    bags = r.bags;
    shares = λ q hq. own_new (λ (o : Participant). o.place ≡ Place.Rest → o.share ≡ 0) q new_none (r.shares q hq);
  }

-- the ranges are kept by a registering
pub ranged_register : (N M p : ℕ) (m : Machine) (g : Ghost) → Inv N M m g → I.Registers N p m → Ranged N M (registered p m)
ranged_register N M p m g inv rg = ranged_new N M p m inv.ranged
