-- src/sync/queue.rs, access by access: `Queue::push` with `push_internal`, and `pop_if_internal`. A sentinel, a tail that may lag, and
-- helping. The epoch load of internal.rs, `Global::push_bag`, stands with the push that it begins. Assumes nothing.
use Rattle.std.specs.Prelude.{ℕ, ◌-◌, eqb}
use Rattle.definition.specs.Base.{branch}
use Rattle.definition.specs.Links.{null, link, is_null, node_at}
use Rattle.definition.specs.Bags.{is_expired}
use Rattle.definition.specs.Rule.{Rule}
use Rattle.definition.specs.Flow.{on, also, collected, defer, pushed, holding, sharing}
use Rattle.definition.specs.Types.{Node, Pops, Deferring, Then, PopAt, PushAt, Place, Participant, Word, Work, After, epoch}

-- internal.rs, `push_bag`: the bag is sealed with the epoch w and moved into `spare`, the smallest free node, one of those set aside;
-- queue.rs, `push`, `Owned::new(Node { .. })`. (The Rust empties the bag before it loads the epoch: docs/DIFFERENCES.md)
unfoldable pub seal_bag : Node → Then → ℕ → Participant → After
seal_bag spare then w o = also (Work.Seal spare (epoch w)) (on (Place.Push then (PushAt.Tail spare)) (sharing (o.share - 1) (holding 0 o)))

-- `Queue::push` and `push_internal`; `then` is what goes on when it returns
unfoldable pub push : Node → Then → Participant → PushAt → Rule
-- internal.rs, `Global::push_bag`: `self.epoch.load(Relaxed)`
push spare then o PushAt.Epoch = Rule.load Word.GlobalEpoch (λ w. seal_bag spare then w o)
-- `push`: `let tail = self.tail.load(Acquire, guard)`
push spare then o (PushAt.Tail new) = Rule.load Word.QueueTail (λ w. on (Place.Push then (PushAt.Next new (node_at w))) o)
-- `push_internal`: `let next = o.next.load(Acquire, guard)`: set: help; null: link
push spare then o (PushAt.Next new onto) = Rule.load (Word.NodeNext onto) (λ w.
    branch (is_null w) (on (Place.Push then (PushAt.Link new onto)) o) (on (Place.Push then (PushAt.Help new onto (node_at w))) o))
-- `let _ = self.tail.compare_exchange(onto, next, ..); false`: whatever came of it, again from the tail
push spare then o (PushAt.Help new onto next) = Rule.exchange Word.QueueTail (link onto.0) (link next.0)
    (on (Place.Push then (PushAt.Tail new)) o)
    (λ w. on (Place.Push then (PushAt.Tail new)) o)
-- `o.next.compare_exchange(Shared::null(), new, ..)`: linked: move the tail; lost: again from the tail
push spare then o (PushAt.Link new onto) = Rule.exchange (Word.NodeNext onto) null (link new.0)
    (on (Place.Push then (PushAt.Move new onto)) o)
    (λ w. on (Place.Push then (PushAt.Tail new)) o)
-- `let _ = self.tail.compare_exchange(onto, new, ..)`: whatever came of it, the push is over
push spare then o (PushAt.Move new onto) = Rule.exchange Word.QueueTail (link onto.0) (link new.0)
    (pushed then o)
    (λ w. pushed then o)

-- `pop_if_internal`, inside the loop of `try_pop_if`; `sealed n` is the seal of the bag in node n, which the condition looks at
unfoldable pub pop : (Node → ℕ) → Pops → Participant → PopAt → Rule
-- `let head = self.head.load(Acquire, guard)`
pop sealed p o PopAt.Head = Rule.load Word.QueueHead (λ w. on (Place.Pop p (PopAt.Next (node_at w))) o)
-- `let next = h.next.load(Acquire, guard)`: none, or one that does not satisfy the condition: `Ok(None)`, and the collect is over
pop sealed p o (PopAt.Next head) = Rule.load (Word.NodeNext head) (λ w.
    branch (is_null w) (collected p.owner o)
    (branch (is_expired (sealed (node_at w)) p.epoch.0) (on (Place.Pop p (PopAt.Exchange head (node_at w))) o) (collected p.owner o)))
-- `self.head.compare_exchange(head, next, ..)`: lost: `Err(())`, and `try_pop_if` tries again, still the same pop
pop sealed p o (PopAt.Exchange head next) = Rule.exchange Word.QueueHead (link head.0) (link next.0)
    (on (Place.Pop p (PopAt.Tail head next)) o)
    (λ w. on (Place.Pop p PopAt.Head) o)
-- `let tail = self.tail.load(Relaxed, guard)`, `if head == tail`: the tail must leave the old head first; then `guard.defer_destroy(head)`
pop sealed p o (PopAt.Tail head next) = Rule.load Word.QueueTail (λ w.
    branch (eqb w (link head.0)) (on (Place.Pop p (PopAt.TailMove head next)) o) (defer (Deferring.Node p head next) o))
-- `let _ = self.tail.compare_exchange(tail, next, ..)`: whatever came of it, then `guard.defer_destroy(head)`
pop sealed p o (PopAt.TailMove head next) = Rule.exchange Word.QueueTail (link head.0) (link next.0)
    (defer (Deferring.Node p head next) o)
    (λ w. defer (Deferring.Node p head next) o)
