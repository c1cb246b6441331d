-- The state: what the lent tables hold (where each number stands in them is specs/Layout). Shared words, which accesses read and write,
-- apart from all else. Assumes nothing.
use Rattle.std.specs.Prelude.{Bool, ℕ}
use Rattle.definition.specs.Base.{Tab, put}
use Rattle.definition.specs.Bags.{SealedBag}
use Rattle.definition.specs.Types.{Word, Record}

-- the atomics of the four files: internal.rs, `Global::epoch`; list.rs, `List::head` and each `Entry::next`; internal.rs, each
-- `Local::epoch`; queue.rs, `Queue::head`, `Queue::tail` and each `Node::next`
pub record Shared : Type 0 where
  pub global_epoch : ℕ
  pub list_head : ℕ
  pub entry_next : Tab ℕ
  pub word : Tab ℕ
  pub queue_head : ℕ
  pub queue_tail : ℕ
  pub node_next : Tab ℕ

-- beside the shared words: each participant's record and the items of its bag, each node's sealed bag, which slots and nodes are free,
-- and the nodes set aside for running operations
pub record Tables : Type 0 where
  pub shared : Shared
  pub own : Tab Record
  pub held : Tab (Tab ℕ)
  pub bag : Tab SealedBag
  pub slot_free : Tab Bool
  pub node_free : Tab Bool
  pub aside : ℕ

-- the value of a shared word
unfoldable pub read : Word → Shared → ℕ
read Word.GlobalEpoch s = s.global_epoch
read Word.ListHead s = s.list_head
read (Word.EntryNext i) s = s.entry_next i.0
read (Word.ParticipantWord i) s = s.word i.0
read Word.QueueHead s = s.queue_head
read Word.QueueTail s = s.queue_tail
read (Word.NodeNext n) s = s.node_next n.0

-- the shared words with one of them changed
unfoldable pub write : Word → ℕ → Shared → Shared
write Word.GlobalEpoch v s =
    record { global_epoch = v; list_head = s.list_head; entry_next = s.entry_next; word = s.word; queue_head = s.queue_head; queue_tail = s.queue_tail; node_next = s.node_next }
write Word.ListHead v s =
    record { global_epoch = s.global_epoch; list_head = v; entry_next = s.entry_next; word = s.word; queue_head = s.queue_head; queue_tail = s.queue_tail; node_next = s.node_next }
write (Word.EntryNext i) v s =
    record { global_epoch = s.global_epoch; list_head = s.list_head; entry_next = put s.entry_next i.0 v; word = s.word; queue_head = s.queue_head; queue_tail = s.queue_tail; node_next = s.node_next }
write (Word.ParticipantWord i) v s =
    record { global_epoch = s.global_epoch; list_head = s.list_head; entry_next = s.entry_next; word = put s.word i.0 v; queue_head = s.queue_head; queue_tail = s.queue_tail; node_next = s.node_next }
write Word.QueueHead v s =
    record { global_epoch = s.global_epoch; list_head = s.list_head; entry_next = s.entry_next; word = s.word; queue_head = v; queue_tail = s.queue_tail; node_next = s.node_next }
write Word.QueueTail v s =
    record { global_epoch = s.global_epoch; list_head = s.list_head; entry_next = s.entry_next; word = s.word; queue_head = s.queue_head; queue_tail = v; node_next = s.node_next }
write (Word.NodeNext n) v s =
    record { global_epoch = s.global_epoch; list_head = s.list_head; entry_next = s.entry_next; word = s.word; queue_head = s.queue_head; queue_tail = s.queue_tail; node_next = put s.node_next n.0 v }

-- the tables with some of their parts changed
abbrev pub with_shared : Shared → Tables → Tables
with_shared s t = record { shared = s; own = t.own; held = t.held; bag = t.bag; slot_free = t.slot_free; node_free = t.node_free; aside = t.aside }

abbrev pub with_own : ℕ → Record → Tables → Tables
with_own p r t = record { shared = t.shared; own = put t.own p r; held = t.held; bag = t.bag; slot_free = t.slot_free; node_free = t.node_free; aside = t.aside }

abbrev pub with_held : ℕ → Tab ℕ → Tables → Tables
with_held p d t = record { shared = t.shared; own = t.own; held = put t.held p d; bag = t.bag; slot_free = t.slot_free; node_free = t.node_free; aside = t.aside }

abbrev pub with_bag : ℕ → SealedBag → Tables → Tables
with_bag n b t = record { shared = t.shared; own = t.own; held = t.held; bag = put t.bag n b; slot_free = t.slot_free; node_free = t.node_free; aside = t.aside }

abbrev pub with_free : Tab Bool → Tab Bool → Tables → Tables
with_free s n t = record { shared = t.shared; own = t.own; held = t.held; bag = t.bag; slot_free = s; node_free = n; aside = t.aside }

abbrev pub with_aside : ℕ → Tables → Tables
with_aside a t = record { shared = t.shared; own = t.own; held = t.held; bag = t.bag; slot_free = t.slot_free; node_free = t.node_free; aside = a }
