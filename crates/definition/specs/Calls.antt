-- internal.rs, the functions of `Local` that a participant calls: what each asks first, the nodes it needs, and what it begins, up to the
-- first access. An operation without an access is done at once. Counts and needs are document 01's, what a bag holds already document 02's (No. 6).
-- Assumes nothing.
use Rattle.std.specs.Prelude.{Bool, false, ◌&&◌, List, ℕ, ◌+◌, ◌-◌, ◌/◌, eqb, ltb, leb}
use Rattle.definition.specs.Base.{branch, among}
use Rattle.definition.specs.Bags.{max_objects, tokens}
use Rattle.definition.specs.Flow.{on, done, defer, finalize, collect_steps, counting, sharing}
use Rattle.definition.specs.Internal.{collects}
use Rattle.definition.specs.Types.{Item, Owner, Deferring, Then, RepinAt, PushAt, Place, Participant, After, Call}

-- the largest guard or handle count, and the largest token
unfoldable pub max_count : ℕ
max_count = 65535

unfoldable pub max_token : ℕ
max_token = 2147483647

-- refusals 7 and 6: the number, where the count that the call needs is 0; else 0
unfoldable pub lacks : Call → Participant → ℕ
lacks Call.Acquire o = branch (eqb o.counts.handles 0) 7 0
lacks Call.Release o = branch (eqb o.counts.handles 0) 7 0
lacks Call.Pin o = branch (eqb o.counts.handles 0) 7 0
lacks Call.Unpin o = branch (eqb o.counts.guards 0) 6 0
lacks Call.Repin o = branch (eqb o.counts.guards 0) 6 0
lacks (Call.Defer token) o = branch (eqb o.counts.guards 0) 6 0
lacks Call.Flush o = branch (eqb o.counts.guards 0) 6 0

-- refusal 8: the count that the call raises is at its limit
unfoldable pub count_full : Call → Participant → Bool
count_full Call.Acquire o = leb max_count o.counts.handles
count_full Call.Release o = false
count_full Call.Pin o = leb max_count o.counts.guards
count_full Call.Unpin o = false
count_full Call.Repin o = false
count_full (Call.Defer token) o = false
count_full Call.Flush o = false

-- refusal 9: a token above the limit
unfoldable pub token_above : Call → Bool
token_above Call.Acquire = false
token_above Call.Release = false
token_above Call.Pin = false
token_above Call.Unpin = false
token_above Call.Repin = false
token_above (Call.Defer token) = ltb max_token token
token_above Call.Flush = false

-- refusal 16 (document 02, No. 6): the token to retire is among those that the participant's own bag holds already. The items are those of that bag
unfoldable pub held_already : Call → List Item → Bool
held_already Call.Acquire l = false
held_already Call.Release l = false
held_already Call.Pin l = false
held_already Call.Unpin l = false
held_already Call.Repin l = false
held_already (Call.Defer token) l = among token (tokens l)
held_already Call.Flush l = false

-- internal.rs, `unpin` and `release_handle`: whether the call goes on to `finalize`
unfoldable pub finalizes : Call → Participant → Bool
finalizes Call.Acquire o = false
finalizes Call.Release o = eqb o.counts.handles 1 && eqb o.counts.guards 0
finalizes Call.Pin o = false
finalizes Call.Unpin o = eqb o.counts.guards 1 && eqb o.counts.handles 0
finalizes Call.Repin o = false
finalizes (Call.Defer token) o = false
finalizes Call.Flush o = false

-- the nodes that k items and what a collect may add can fill: at most N slots and `COLLECT_STEPS` old heads. (Document 01's row, 1 if
-- k + N + 8 exceeds 64, for N up to 32: `needs_as_01` of proofs/Needs)
unfoldable pub overflow : (N k : ℕ) → ℕ
overflow N k = (k + (N + collect_steps - 1)) / max_objects

-- what an outermost pin needs
unfoldable pub pin_needs : ℕ → Participant → ℕ
pin_needs N o = branch (collects o.counts.pins) (overflow N o.held) 0

-- the nodes set aside when the call begins
unfoldable pub needs : ℕ → Call → Participant → ℕ
needs N Call.Acquire o = 0
needs N Call.Release o = branch (finalizes Call.Release o) (1 + pin_needs N o) 0
needs N Call.Pin o = branch (eqb o.counts.guards 0) (pin_needs N o) 0
needs N Call.Unpin o = branch (finalizes Call.Unpin o) (1 + pin_needs N o) 0
needs N Call.Repin o = 0
needs N (Call.Defer token) o = branch (eqb o.held max_objects) 1 0
needs N Call.Flush o = branch (leb 1 o.held) 1 0 + overflow N 0

-- what the call begins
unfoldable pub begins : Call → Participant → After
-- `acquire_handle`: `handle_count + 1`
begins Call.Acquire o = done 0 (counting o.counts.guards (o.counts.handles + 1) o.counts.pins o)
-- `release_handle`: `handle_count - 1`; the last one of a participant that is not pinned finalizes
begins Call.Release o = branch (finalizes Call.Release o) (finalize o)
    (done 0 (counting o.counts.guards (o.counts.handles - 1) o.counts.pins o))
-- `pin`: `guard_count + 1`; only the outermost makes accesses
begins Call.Pin o =
    let n = counting (o.counts.guards + 1) o.counts.handles o.counts.pins o in
    branch (eqb o.counts.guards 0) (on (Place.PinEpoch Owner.Pin) n) (done 0 n)
-- `unpin`: `guard_count - 1`; only the outermost makes accesses
begins Call.Unpin o =
    let n = counting (o.counts.guards - 1) o.counts.handles o.counts.pins o in
    branch (eqb o.counts.guards 1) (on Place.UnpinWord n) (done 0 n)
-- `repin`: only if there is one guard
begins Call.Repin o = branch (eqb o.counts.guards 1) (on (Place.Repin RepinAt.Word) o) (done 0 o)
-- `defer`
begins (Call.Defer token) o = defer (Deferring.Token token) o
-- `flush`: `if !bag.is_empty()` `push_bag`; then `collect`
begins Call.Flush o = branch (leb 1 o.held) (on (Place.Push Then.Flush PushAt.Epoch) o) (on (Place.AdvanceEpoch Owner.Flush) o)

-- with the nodes set aside
unfoldable pub opens : ℕ → Call → Participant → After
opens N c o = begins c (sharing (needs N c o) o)
