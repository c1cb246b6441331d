-- src/sync/list.rs, access by access: `List::insert`, `Entry::delete`, `List::iter` and `Iter::next`. Insertion is at the head; deletion
-- tags the entry's own next; the iteration unlinks tagged entries and gives up where its predecessor is tagged. Assumes nothing.
use Rattle.definition.specs.Base.{branch}
use Rattle.definition.specs.Links.{link, is_tagged, pointee, pointer}
use Rattle.definition.specs.Rule.{Rule}
use Rattle.definition.specs.Flow.{on, done, advanced, walk, defer}
use Rattle.definition.specs.Types.{Slot, Pred, Try, Deferring, RegisterAt, WalkAt, Place, Participant, Word}

-- `List::insert`, `to` being the list's head and `entry_ptr` the inserter's own entry
unfoldable pub insert : Slot → Participant → RegisterAt → Rule
-- `let mut next = to.load(Relaxed, guard)`
insert self o RegisterAt.Head = Rule.load Word.ListHead (λ w. on (Place.Register (RegisterAt.Next (pointee w))) o)
-- `entry.next.store(next, Relaxed)`
insert self o (RegisterAt.Next next) = Rule.store (Word.EntryNext self) (pointer next) (on (Place.Register (RegisterAt.Link next)) o)
-- `to.compare_exchange_weak(next, entry_ptr, ..)`: Ok: the insertion is over; Err: `next = err.current`, and again
insert self o (RegisterAt.Link next) = Rule.exchange_weak Word.ListHead (pointer next) (link self.0)
    (done self.0 o)
    (λ w. on (Place.Register (RegisterAt.Next (pointee w))) o)

-- `Entry::delete`: `self.next.fetch_or(1, ..)`
unfoldable pub delete : Slot → Participant → Rule
delete self o = Rule.fetch_or (Word.EntryNext self) (done 0 o)

-- `Iter::pred`: the word in which the predecessor's link stands
unfoldable pub pred_word : Pred → Word
pred_word Pred.Head = Word.ListHead
pred_word (Pred.Entry s) = Word.EntryNext s

-- `List::iter`, then `Iter::next`, for the `try_advance` t
unfoldable pub iterate : Try → Participant → WalkAt → Rule
-- `List::iter`: `curr: self.head.load(Acquire, guard)`, with the head as predecessor
iterate t o WalkAt.Head = Rule.load Word.ListHead (λ w. walk t Pred.Head (pointee w) o)
-- `let succ = c.next.load(..)`: tagged: it was removed, try to unlink it; else the entry is returned to `try_advance`
iterate t o (WalkAt.Next c) = Rule.load (Word.EntryNext c.curr) (λ w.
    branch (is_tagged w) (on (Place.Walk t (WalkAt.Unlink c (pointee w))) o) (on (Place.AdvanceWord t c.curr (pointee w)) o))
-- `self.pred.compare_exchange(self.curr, succ, ..)`: Ok: `C::finalize` retires the entry's slot (guard.rs, `defer_destroy`), then on with
-- `succ`; Err: a tagged value: the predecessor is deleted, stalled; else on with the value found
iterate t o (WalkAt.Unlink c succ) = Rule.exchange (pred_word c.pred) (link c.curr.0) (pointer succ)
    (defer (Deferring.Slot t c succ) o)
    (λ w. branch (is_tagged w) (on (Place.Walk t WalkAt.Stalled) o) (walk t c.pred (pointee w) o))
-- `self.curr = self.head.load(..)`; `Err(Stalled)`, at which `try_advance` returns the epoch that it loaded
iterate t o WalkAt.Stalled = Rule.load Word.ListHead (λ w. advanced t.owner t.epoch o)
