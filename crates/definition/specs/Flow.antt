-- What follows an access, by the function of internal.rs that goes on: private work only, up to the next access or to the end of the
-- operation. A participant's record by value goes in; the record, the work outside it and whether the operation ends come out.
-- Assumes nothing.
use Rattle.std.specs.Prelude.{ℕ, ◌+◌, ◌-◌, eqb, ltb}
use Rattle.definition.specs.Base.{branch}
use Rattle.definition.specs.Bags.{max_objects, places_left}
use Rattle.definition.specs.Types.{Epoch, Ptr, Pred, Item, Owner, Try, Deferring, Then, WalkAt, PopAt, PushAt}
use Rattle.definition.specs.Types.{Place, Participant, Work, End, After}

-- a participant's record with one field changed
abbrev pub at : Place → Participant → Participant
at pl o = record { counts = o.counts; held = o.held; share = o.share; place = pl }

abbrev pub counting : ℕ → ℕ → ℕ → Participant → Participant
counting g h n o = record { counts = record { guards = g; handles = h; pins = n }; held = o.held; share = o.share; place = o.place }

abbrev pub holding : ℕ → Participant → Participant
holding k o = record { counts = o.counts; held = k; share = o.share; place = o.place }

abbrev pub sharing : ℕ → Participant → Participant
sharing s o = record { counts = o.counts; held = o.held; share = s; place = o.place }

-- the operation stands before its next access
unfoldable pub on : Place → Participant → After
on pl o = record { participant = at pl o; work = Work.Nothing; end = End.GoesOn }

-- the operation ends; what is left of its nodes is given back
unfoldable pub done : ℕ → Participant → After
done v o = record { participant = sharing 0 (at Place.Rest o); work = Work.Nothing; end = End.EndsWith v }

-- the same, with work besides
unfoldable pub also : Work → After → After
also w a = record { participant = a.participant; work = w; end = a.end }

-- internal.rs, `Local::finalize` up to its first access: `handle_count.set(1)`, then `pin`, which counts its guard
unfoldable pub finalize : Participant → After
finalize o = on (Place.PinEpoch Owner.Finalize) (counting 1 1 o.counts.pins o)

-- `Global::collect` returns: to `pin` or `flush`, which are over, or to the `pin` of `finalize`, which goes on with `push_bag`
unfoldable pub collected : Owner → Participant → After
collected Owner.Pin o = done 0 o
collected Owner.Flush o = done 0 o
collected Owner.Finalize o = on (Place.Push Then.Finalize PushAt.Epoch) o

-- internal.rs, `Global::COLLECT_STEPS`
unfoldable pub collect_steps : ℕ
collect_steps = 8

-- internal.rs, `Global::collect`, `for _ in 0..steps`: another pop where some are left
unfoldable pub pops : Owner → Epoch → ℕ → Participant → After
pops k e left o = branch (eqb left 0) (collected k o) (on (Place.Pop (record { owner = k; epoch = e; left = left }) PopAt.Head) o)

-- internal.rs, `Global::try_advance` returns an epoch, and the loop of `collect` begins
unfoldable pub advanced : Owner → Epoch → Participant → After
advanced k e o = pops k e collect_steps o

-- list.rs, `Iter::next`, `while let Some(c) = self.curr.as_ref()`: the end of the list ends the iteration
unfoldable pub walk : Try → Pred → Ptr → Participant → After
walk t pred Ptr.Null o = on (Place.AdvanceStore t) o
walk t pred (Ptr.At curr) o = on (Place.Walk t (WalkAt.Next (record { pred = pred; curr = curr }))) o

-- the item that waits
unfoldable pub waiting : Deferring → Item
waiting (Deferring.Token token) = Item.Token token
waiting (Deferring.Slot t c succ) = Item.Slot c.curr
waiting (Deferring.Node p head next) = Item.Node head

-- the item is in the bag, and who deferred it goes on. A token: `defer` is over, with the places left as its value (document 02, No. 9). A
-- slot: list.rs, `Iter::next` goes on with `succ`, its predecessor as it was. An old head: queue.rs, `pop_if_internal` returns the bag in
-- `next`, internal.rs, `collect` drops it, and one pop fewer is left
unfoldable pub placed : Deferring → Participant → After
placed (Deferring.Token token) o = also (Work.Put (waiting (Deferring.Token token))) (done (places_left o.held) o)
placed (Deferring.Slot t c succ) o = also (Work.Put (waiting (Deferring.Slot t c succ))) (walk t c.pred succ o)
placed (Deferring.Node p head next) o =
    also (Work.PutThenFree (waiting (Deferring.Node p head next)) next) (pops p.owner p.epoch (p.left - 1) o)

-- internal.rs, `Local::defer`, `while let Err(d) = bag.try_push(deferred)`: where the bag is full, `push_bag` comes first
unfoldable pub defer : Deferring → Participant → After
defer d o = branch (ltb o.held max_objects) (placed d (holding (o.held + 1) o)) (on (Place.Push (Then.Defer d) PushAt.Epoch) o)

-- internal.rs, `Global::push_bag` returns: to the loop of `defer`; to `flush`, which collects; to `finalize`, whose guard is dropped:
-- `unpin` counts it
unfoldable pub pushed : Then → Participant → After
pushed (Then.Defer d) o = defer d o
pushed Then.Flush o = on (Place.AdvanceEpoch Owner.Flush) o
pushed Then.Finalize o = on Place.FinalWord (counting 0 o.counts.handles o.counts.pins o)
