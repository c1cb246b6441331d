-- How many steps a participant has left, at most, if nobody else moves: a number for each place (docs/PROOF.md has them as a table). It looks at the shared
-- words, at the participant's own record, at the number of slots in the list (L) and at how many of these are ahead of a pointer (a). It falls at every
-- step of the participant, from every state with the invariant (Falls, Stepped); others may raise it, which is why the theorem speaks of one alone.
--
-- The numbers go down along each operation by one a place. Where a place goes on by what a word now holds, its number asks whether the word is
-- still the one that was read: if so the place goes through, and if not it begins again, once, with what it finds. Assumes nothing.
use Prim.Native.Nat.{ℕ, ◌+◌, ◌-◌, ◌*◌}
use lib.Dec.{eqb}
use Rattle.definition.specs.Base.{branch}
use Rattle.definition.specs.Links.{link, pointer, is_null, index}
use Rattle.definition.specs.Tables.{Shared, read}
use Rattle.definition.specs.Flow.{collect_steps}
use Rattle.definition.specs.List.{pred_word}
use Rattle.definition.specs.Internal.{collects}
use Rattle.theorems.proofs.Types.{Ptr, Pred, Owner, Deferring, Then, RegisterAt, RepinAt, WalkAt, PopAt, PushAt, Place, Participant}

-- a push from its epoch load on, the tail behind: Epoch, Tail, Next, Help, Tail, Next, Link, Move. It takes one node of the share, and that pays for it
abbrev pub push_steps : ℕ
push_steps = 8

-- the pops of a collect: Head, Next, Exchange, Tail, TailMove of each
abbrev pub pops : ℕ
pops = 5 * collect_steps

-- a finalize, its collect and its push over: FinalWord, FinalTag
unfoldable pub final_left : Owner → ℕ
final_left Owner.Pin = 0
final_left Owner.Flush = 0
final_left Owner.Finalize = 2

-- whether the tail is behind: its node has a next
unfoldable pub lag : Shared → ℕ
lag s = branch (is_null (s.node_next (index s.queue_tail))) 0 1

-- list.rs, `List::insert`: the head is as it was read, and the link is made; or the link is lost, and made with the head that it found
unfoldable pub register_left : Shared → RegisterAt → ℕ
register_left s RegisterAt.Head = 3
register_left s (RegisterAt.Next next) = branch (eqb s.list_head (pointer next)) 2 4
register_left s (RegisterAt.Link next) = branch (eqb s.list_head (pointer next)) 1 3

unfoldable pub repin_left : RepinAt → ℕ
repin_left RepinAt.Word = 3
repin_left (RepinAt.Epoch e) = 2
repin_left (RepinAt.Store e) = 1

-- queue.rs, `Queue::try_pop_if`, with r pops left, this one among them, so that r is at least 1 and no subtraction stops at 0: the head is as it was read, or
-- this pop begins again with the head that it finds
unfoldable pub pop_left : Shared → (r : ℕ) → PopAt → ℕ
pop_left s r PopAt.Head = 5 * r
pop_left s r (PopAt.Next head) = branch (eqb s.queue_head (link head.0)) (5 * r - 1) (5 * r + 2)
pop_left s r (PopAt.Exchange head next) = branch (eqb s.queue_head (link head.0)) (5 * r - 2) (5 * r + 1)
pop_left s r (PopAt.Tail head next) = 5 * r - 3
pop_left s r (PopAt.TailMove head next) = 5 * r - 4

-- queue.rs, `Queue::push_internal`: the node read as the tail has no next, and takes the new one; or it has one, and the tail is moved on, if nobody has, and
-- read again: then its node has none
unfoldable pub push_left : Shared → PushAt → ℕ
push_left s PushAt.Epoch = 0
push_left s (PushAt.Tail new) = 4 + 3 * lag s
push_left s (PushAt.Next new onto) = branch (is_null (s.node_next onto.0)) 3 (branch (eqb s.queue_tail (link onto.0)) 6 (6 + 3 * lag s))
push_left s (PushAt.Help new onto next) = branch (eqb s.queue_tail (link onto.0)) 5 (5 + 3 * lag s)
push_left s (PushAt.Link new onto) = branch (is_null (s.node_next onto.0)) 2 (5 + 3 * lag s)
push_left s (PushAt.Move new onto) = 1

module _ (L : ℕ) (a : Ptr → ℕ) where
  -- a walk that goes on at l behind q, the store of the epoch and the pops: two steps for each entry ahead. If the word of q is no longer l, the walk may meet
  -- a loss, and then it goes on with what stands there
  unfoldable pub going_left : Shared → (q : Pred) (l : Ptr) → ℕ
  going_left s q Ptr.Null = pops + 1
  going_left s q (Ptr.At c) = branch (eqb (read (pred_word q) s) (link c.0)) (2 * a (Ptr.At c) + pops + 1) (2 * L + pops + 3)

  -- what waits for a push
  unfoldable pub defer_left : Shared → Deferring → ℕ
  defer_left s (Deferring.Token token) = 0
  defer_left s (Deferring.Slot t c succ) = going_left s c.pred succ + final_left t.owner
  defer_left s (Deferring.Node p head next) = 5 * (p.left - 1) + final_left p.owner

  unfoldable pub then_left : Shared → Then → ℕ
  then_left s (Then.Defer d) = defer_left s d
  then_left s Then.Flush = 2 * L + pops + 3
  then_left s Then.Finalize = 2

  -- list.rs, `Iter::next`: an unlink that is lost goes on with what it found, or stalls
  unfoldable pub walk_left : Shared → WalkAt → ℕ
  walk_left s WalkAt.Head = 2 * L + pops + 2
  walk_left s (WalkAt.Next c) = going_left s c.pred (Ptr.At c.curr)
  walk_left s (WalkAt.Unlink c succ) = branch (eqb (read (pred_word c.pred) s) (link c.curr.0)) (2 * a succ + pops + 2) (2 * L + pops + 2)
  walk_left s WalkAt.Stalled = pops + 1

  -- the collect of a pin, if there is one
  unfoldable pub collect_left : (pins : ℕ) → ℕ
  collect_left pins = branch (collects pins) (2 * L + pops + 3) 0

  unfoldable pub place_left : Shared → (pins handles : ℕ) → Place → ℕ
  place_left s pins h Place.Rest = 0
  place_left s pins h (Place.Register x) = register_left s x
  place_left s pins h (Place.PinEpoch k) = 2 + collect_left pins + final_left k
  place_left s pins h (Place.PinWord k e) = 1 + collect_left pins + final_left k
  place_left s pins h (Place.Repin x) = repin_left x
  place_left s pins h Place.UnpinWord = branch (eqb h 0) (5 + collect_left pins) 1
  place_left s pins h (Place.AdvanceEpoch k) = 2 * L + pops + 3 + final_left k
  place_left s pins h (Place.Walk t x) = walk_left s x + final_left t.owner
  place_left s pins h (Place.AdvanceWord t curr succ) = 1 + going_left s (Pred.Entry curr) succ + final_left t.owner
  place_left s pins h (Place.AdvanceStore t) = pops + 1 + final_left t.owner
  place_left s pins h (Place.Pop p x) = pop_left s p.left x + final_left p.owner
  place_left s pins h (Place.Push f x) = push_left s x + then_left s f
  place_left s pins h Place.FinalWord = 2
  place_left s pins h Place.FinalTag = 1

  unfoldable pub left : Shared → Participant → ℕ
  left s o = push_steps * o.share + place_left s o.counts.pins o.counts.handles o.place
