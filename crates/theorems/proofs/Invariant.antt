-- The invariant of the stepped reclaimer, clause by clause: what is true of every machine that a run from a fresh start reaches, with its
-- ghost. A record for each group; the modules that prove a group kept are named after it. Epochs are numbers: words halved. Assumes nothing.
use mathlib.Core.Path.{◌≡◌}
use mathlib.Core.Logic.{◌≢◌}
use mathlib.Core.Bool.{Bool, true, false}
use mathlib.Core.List.{List, [], ◌∷◌}
use mathlib.Core.Option.{Option, none, some}
use Prim.Native.Nat.{ℕ, ◌+◌, ◌-◌, ◌*◌, ◌≤◌, ◌<◌}
use lib.Dec.{eqb, leb}
use lib.ListN.{length}
use Rattle.epoch.specs.Epoch.{is_pinned}
use Rattle.definition.specs.Base.{branch, Tab, sum, count}
use Rattle.definition.specs.Links.{link, is_tagged, is_null, index, pointee, pointer}
use Rattle.definition.specs.Bags.{max_objects}
use Rattle.definition.specs.Flow.{collect_steps, waiting}
use Rattle.definition.specs.Internal.{collects}
use Rattle.definition.specs.Tables.{Shared}
unfoldable pub use Rattle.theorems.specs.Waiting.{taken_node, popped_node}
use Rattle.theorems.proofs.Machine.{Machine}
use Rattle.theorems.proofs.Ghost.{Use, NodeUse, Ghost, num, G, head_of, tail_of, low}
use Rattle.theorems.proofs.Types.{Ptr, Pred, Item, Owner, Deferring, Then, RegisterAt, RepinAt, WalkAt, PopAt, PushAt, Place, Participant}

-- ---- what a place carries, table by table

-- the epoch of a walk (of a `try_advance`), and that of pops
unfoldable pub walk_epoch : Place → Option ℕ
walk_epoch Place.Rest = none
walk_epoch (Place.Register a) = none
walk_epoch (Place.PinEpoch k) = none
walk_epoch (Place.PinWord k e) = none
walk_epoch (Place.Repin a) = none
walk_epoch Place.UnpinWord = none
walk_epoch (Place.AdvanceEpoch k) = none
walk_epoch (Place.Walk t a) = some t.epoch.0
walk_epoch (Place.AdvanceWord t curr succ) = some t.epoch.0
walk_epoch (Place.AdvanceStore t) = some t.epoch.0
walk_epoch (Place.Pop p a) = none
walk_epoch (Place.Push (Then.Defer (Deferring.Token token)) a) = none
walk_epoch (Place.Push (Then.Defer (Deferring.Slot t c succ)) a) = some t.epoch.0
walk_epoch (Place.Push (Then.Defer (Deferring.Node p head next)) a) = none
walk_epoch (Place.Push Then.Flush a) = none
walk_epoch (Place.Push Then.Finalize a) = none
walk_epoch Place.FinalWord = none
walk_epoch Place.FinalTag = none

unfoldable pub pop_epoch : Place → Option ℕ
pop_epoch Place.Rest = none
pop_epoch (Place.Register a) = none
pop_epoch (Place.PinEpoch k) = none
pop_epoch (Place.PinWord k e) = none
pop_epoch (Place.Repin a) = none
pop_epoch Place.UnpinWord = none
pop_epoch (Place.AdvanceEpoch k) = none
pop_epoch (Place.Walk t a) = none
pop_epoch (Place.AdvanceWord t curr succ) = none
pop_epoch (Place.AdvanceStore t) = none
pop_epoch (Place.Pop p a) = some p.epoch.0
pop_epoch (Place.Push (Then.Defer (Deferring.Token token)) a) = none
pop_epoch (Place.Push (Then.Defer (Deferring.Slot t c succ)) a) = none
pop_epoch (Place.Push (Then.Defer (Deferring.Node p head next)) a) = some p.epoch.0
pop_epoch (Place.Push Then.Flush a) = none
pop_epoch (Place.Push Then.Finalize a) = none
pop_epoch Place.FinalWord = none
pop_epoch Place.FinalTag = none

-- an epoch about to be stored into the participant's own word
unfoldable pub store_epoch : Place → Option ℕ
store_epoch Place.Rest = none
store_epoch (Place.Register a) = none
store_epoch (Place.PinEpoch k) = none
store_epoch (Place.PinWord k e) = some e.0
store_epoch (Place.Repin RepinAt.Word) = none
store_epoch (Place.Repin (RepinAt.Epoch e)) = none
store_epoch (Place.Repin (RepinAt.Store e)) = some e.0
store_epoch Place.UnpinWord = none
store_epoch (Place.AdvanceEpoch k) = none
store_epoch (Place.Walk t a) = none
store_epoch (Place.AdvanceWord t curr succ) = none
store_epoch (Place.AdvanceStore t) = none
store_epoch (Place.Pop p a) = none
store_epoch (Place.Push f a) = none
store_epoch Place.FinalWord = none
store_epoch Place.FinalTag = none

-- the item that waits in a push
unfoldable pub waiting_item : Place → Option Item
waiting_item Place.Rest = none
waiting_item (Place.Register a) = none
waiting_item (Place.PinEpoch k) = none
waiting_item (Place.PinWord k e) = none
waiting_item (Place.Repin a) = none
waiting_item Place.UnpinWord = none
waiting_item (Place.AdvanceEpoch k) = none
waiting_item (Place.Walk t a) = none
waiting_item (Place.AdvanceWord t curr succ) = none
waiting_item (Place.AdvanceStore t) = none
waiting_item (Place.Pop p a) = none
waiting_item (Place.Push (Then.Defer d) a) = some (waiting d)
waiting_item (Place.Push Then.Flush a) = none
waiting_item (Place.Push Then.Finalize a) = none
waiting_item Place.FinalWord = none
waiting_item Place.FinalTag = none

-- the node that a push has taken and not yet linked, and the popped node whose bag is to be freed, are words of the statement (specs/Waiting); the old head
-- of a pop that has not yet retired it
unfoldable pub old_head : Place → Option ℕ
old_head Place.Rest = none
old_head (Place.Register a) = none
old_head (Place.PinEpoch k) = none
old_head (Place.PinWord k e) = none
old_head (Place.Repin a) = none
old_head Place.UnpinWord = none
old_head (Place.AdvanceEpoch k) = none
old_head (Place.Walk t a) = none
old_head (Place.AdvanceWord t curr succ) = none
old_head (Place.AdvanceStore t) = none
old_head (Place.Pop p PopAt.Head) = none
old_head (Place.Pop p (PopAt.Next head)) = none
old_head (Place.Pop p (PopAt.Exchange head next)) = none
old_head (Place.Pop p (PopAt.Tail head next)) = some head.0
old_head (Place.Pop p (PopAt.TailMove head next)) = some head.0
old_head (Place.Push f a) = none
old_head Place.FinalWord = none
old_head Place.FinalTag = none

-- a fact about what a place carries, if it carries it
unfoldable pub Of : {A : Type 0} → (A → Type 0) → Option A → Type 0
Of P none = Unit {0}
Of P (some x) = P x

-- ---- C, records: what a slot's record is, by how the slot is used

-- at rest, not pinned, nothing held, nothing set aside
abbrev pub Quiet : Bool → Participant → List Item → Type 0
Quiet pinned o b = (o.place ≡ Place.Rest) × ((pinned ≡ false) × ((b ≡ []) × (o.share ≡ 0)))

-- a push begins with a full bag where an item waits for it
unfoldable pub FullFor : Then → List Item → Type 0
FullFor (Then.Defer d) b = length b ≡ max_objects
FullFor Then.Flush b = Unit {0}
FullFor Then.Finalize b = Unit {0}

abbrev pub Busy : Bool → ℕ → Type 0
Busy pinned guards = (pinned ≡ true) × (1 ≤ guards)

-- a registered participant that is not deleted, by its place
unfoldable pub Live : Place → Bool → (guards share : ℕ) → List Item → Type 0
Live Place.Rest pinned g s b = (s ≡ 0) × (pinned ≡ leb 1 g)
Live (Place.Register a) pinned g s b = ⊥
Live (Place.PinEpoch k) pinned g s b = (pinned ≡ false) × (1 ≤ g)
Live (Place.PinWord k e) pinned g s b = (pinned ≡ false) × (1 ≤ g)
Live (Place.Repin a) pinned g s b = Busy pinned g
Live Place.UnpinWord pinned g s b = (pinned ≡ true) × (g ≡ 0)
Live (Place.AdvanceEpoch k) pinned g s b = Busy pinned g
Live (Place.Walk t a) pinned g s b = Busy pinned g
Live (Place.AdvanceWord t curr succ) pinned g s b = Busy pinned g
Live (Place.AdvanceStore t) pinned g s b = Busy pinned g
Live (Place.Pop p a) pinned g s b = Busy pinned g
Live (Place.Push f PushAt.Epoch) pinned g s b = Busy pinned g × FullFor f b
Live (Place.Push f (PushAt.Tail new)) pinned g s b = Busy pinned g × (b ≡ [])
Live (Place.Push f (PushAt.Next new onto)) pinned g s b = Busy pinned g × (b ≡ [])
Live (Place.Push f (PushAt.Help new onto next)) pinned g s b = Busy pinned g × (b ≡ [])
Live (Place.Push f (PushAt.Link new onto)) pinned g s b = Busy pinned g × (b ≡ [])
Live (Place.Push f (PushAt.Move new onto)) pinned g s b = Busy pinned g × (b ≡ [])
Live Place.FinalWord pinned g s b = (pinned ≡ true) × (b ≡ [])
Live Place.FinalTag pinned g s b = (pinned ≡ false) × (b ≡ [])

-- a place of registering
unfoldable pub Registers : Place → Type 0
Registers Place.Rest = ⊥
Registers (Place.Register a) = Unit {0}
Registers (Place.PinEpoch k) = ⊥
Registers (Place.PinWord k e) = ⊥
Registers (Place.Repin a) = ⊥
Registers Place.UnpinWord = ⊥
Registers (Place.AdvanceEpoch k) = ⊥
Registers (Place.Walk t a) = ⊥
Registers (Place.AdvanceWord t curr succ) = ⊥
Registers (Place.AdvanceStore t) = ⊥
Registers (Place.Pop p a) = ⊥
Registers (Place.Push f a) = ⊥
Registers Place.FinalWord = ⊥
Registers Place.FinalTag = ⊥

-- a slot in the list, by its tag; and any slot
unfoldable pub InList : (tag pinned : Bool) → Participant → List Item → Type 0
InList true pinned o b = Quiet pinned o b
InList false pinned o b = Live o.place pinned o.counts.guards o.share b

unfoldable pub Fine : Use → (tag pinned : Bool) → Participant → List Item → Type 0
Fine Use.unused tag pinned o b = Quiet pinned o b
Fine Use.registering tag pinned o b = Registers o.place × ((o.counts.guards ≡ 0) × ((pinned ≡ false) × ((b ≡ []) × ((tag ≡ false) × (o.share ≡ 0)))))
Fine Use.linked tag pinned o b = InList tag pinned o b
Fine Use.out tag pinned o b = Quiet pinned o b × (tag ≡ true)

unfoldable pub is_unused : Use → Bool
is_unused Use.unused = true
is_unused Use.registering = false
is_unused Use.linked = false
is_unused Use.out = false

-- a repin is about to store a pinned word
unfoldable pub RepinPins : Place → Type 0
RepinPins Place.Rest = Unit {0}
RepinPins (Place.Register a) = Unit {0}
RepinPins (Place.PinEpoch k) = Unit {0}
RepinPins (Place.PinWord k e) = Unit {0}
RepinPins (Place.Repin RepinAt.Word) = Unit {0}
RepinPins (Place.Repin (RepinAt.Epoch e)) = Unit {0}
RepinPins (Place.Repin (RepinAt.Store e)) = is_pinned e.0 ≡ true
RepinPins Place.UnpinWord = Unit {0}
RepinPins (Place.AdvanceEpoch k) = Unit {0}
RepinPins (Place.Walk t a) = Unit {0}
RepinPins (Place.AdvanceWord t curr succ) = Unit {0}
RepinPins (Place.AdvanceStore t) = Unit {0}
RepinPins (Place.Pop p a) = Unit {0}
RepinPins (Place.Push f a) = Unit {0}
RepinPins Place.FinalWord = Unit {0}
RepinPins Place.FinalTag = Unit {0}

pub record Records (N : ℕ) (m : Machine) (g : Ghost) : Type 0 where
  pub repins : (q : ℕ) → q < N → RepinPins (m.own q).place
  pub fine : (q : ℕ) → q < N → Fine (g.slot_use q) (is_tagged (m.shared.entry_next q)) (is_pinned (m.shared.word q)) (m.own q) (m.held q)
  pub bits : (q : ℕ) → q < N → m.slot_free q ≡ is_unused (g.slot_use q)
  pub lengths : (q : ℕ) → length (m.held q) ≡ (m.own q).held

-- ---- E, epochs: how far the global epoch, pins and carried epochs are apart, and which pinned participants a walk has yet to see

abbrev pub Pinned : Machine → ℕ → Type 0
Pinned m q = is_pinned (m.shared.word q) ≡ true

-- a participant was inserted before the predecessor of a walk, and not after what stands at a pointer
unfoldable pub OlderThan : Tab ℕ → Pred → ℕ → Type 0
OlderThan birth Pred.Head d = Unit {0}
OlderThan birth (Pred.Entry s) d = birth d < birth s.0

unfoldable pub Reached : Tab ℕ → Ptr → ℕ → Type 0
Reached birth Ptr.Null d = ⊥
Reached birth (Ptr.At s) d = birth d ≤ birth s.0

-- d is still to be seen by a walk
unfoldable pub Unseen : Tab ℕ → Place → ℕ → Type 0
Unseen birth Place.Rest d = Unit {0}
Unseen birth (Place.Register a) d = Unit {0}
Unseen birth (Place.PinEpoch k) d = Unit {0}
Unseen birth (Place.PinWord k e) d = Unit {0}
Unseen birth (Place.Repin a) d = Unit {0}
Unseen birth Place.UnpinWord d = Unit {0}
Unseen birth (Place.AdvanceEpoch k) d = Unit {0}
Unseen birth (Place.Walk t WalkAt.Head) d = Unit {0}
Unseen birth (Place.Walk t (WalkAt.Next c)) d = (birth d ≤ birth c.curr.0) × OlderThan birth c.pred d
Unseen birth (Place.Walk t (WalkAt.Unlink c succ)) d = (birth d ≤ birth c.curr.0) × OlderThan birth c.pred d
Unseen birth (Place.Walk t WalkAt.Stalled) d = Unit {0}
Unseen birth (Place.AdvanceWord t curr succ) d = curr.0 ≢ d → Reached birth succ d × (birth d < birth curr.0)
Unseen birth (Place.AdvanceStore t) d = ⊥
Unseen birth (Place.Pop p a) d = Unit {0}
Unseen birth (Place.Push (Then.Defer (Deferring.Token token)) a) d = Unit {0}
Unseen birth (Place.Push (Then.Defer (Deferring.Slot t c succ)) a) d = Reached birth succ d × OlderThan birth c.pred d
Unseen birth (Place.Push (Then.Defer (Deferring.Node p head next)) a) d = Unit {0}
Unseen birth (Place.Push Then.Flush a) d = Unit {0}
Unseen birth (Place.Push Then.Finalize a) d = Unit {0}
Unseen birth Place.FinalWord d = Unit {0}
Unseen birth Place.FinalTag d = Unit {0}

pub record Epochs (N M : ℕ) (m : Machine) (g : Ghost) : Type 0 where
  pub own_le : (q : ℕ) → q < N → Pinned m q → num (m.shared.word q) ≤ g.gpin q
  pub pin_le : (q : ℕ) → q < N → Pinned m q → g.gpin q ≤ G m
  pub near : (q : ℕ) → q < N → Pinned m q → G m ≤ g.gpin q + 1
  pub walk_le : (q : ℕ) → q < N → Of (λ e. num e ≤ G m) (walk_epoch (m.own q).place)
  pub pop_le : (q : ℕ) → q < N → Of (λ e. num e ≤ G m) (pop_epoch (m.own q).place)
  pub store_le : (q : ℕ) → q < N → Of (λ e. num e ≤ G m) (store_epoch (m.own q).place)
  pub seal_le : (n : ℕ) → n < M → g.node_use n ≢ NodeUse.spare → num (m.bag n).epoch ≤ G m
  pub gone_le : (q : ℕ) → q < N → g.slot_use q ≡ Use.out → g.gone q ≤ G m
  pub past_le : (n : ℕ) → n < M → g.node_use n ≡ NodeUse.placed → g.pos n < low g.pos m.shared → g.past n ≤ G m
  pub tries : (q : ℕ) → q < N → Of (λ e. g.gpin q ≤ num e) (walk_epoch (m.own q).place)
  pub walks : (q d : ℕ) → q < N → d < N → Pinned m d → Of (λ e. g.gpin d < num e → Unseen g.birth (m.own q).place d) (walk_epoch (m.own q).place)

-- ---- L, the list: insertions are numbered; numbers fall along the links, and no link passes over a slot in the list

-- a pointer is null or to a slot in the list, that was inserted before number b
unfoldable pub ToLinked : ℕ → Tab Use → Ptr → Type 0
ToLinked N u Ptr.Null = Unit {0}
ToLinked N u (Ptr.At s) = (s.0 < N) × (u s.0 ≡ Use.linked)

unfoldable pub Falls : Tab ℕ → ℕ → Ptr → Type 0
Falls birth b Ptr.Null = Unit {0}
Falls birth b (Ptr.At s) = birth s.0 < b

-- the head that an insertion is about to exchange stands in its own next
unfoldable pub OwnNext : Place → ℕ → Type 0
OwnNext Place.Rest w = Unit {0}
OwnNext (Place.Register RegisterAt.Head) w = Unit {0}
OwnNext (Place.Register (RegisterAt.Next next)) w = Unit {0}
OwnNext (Place.Register (RegisterAt.Link next)) w = w ≡ pointer next
OwnNext (Place.PinEpoch k) w = Unit {0}
OwnNext (Place.PinWord k e) w = Unit {0}
OwnNext (Place.Repin a) w = Unit {0}
OwnNext Place.UnpinWord w = Unit {0}
OwnNext (Place.AdvanceEpoch k) w = Unit {0}
OwnNext (Place.Walk t a) w = Unit {0}
OwnNext (Place.AdvanceWord t curr succ) w = Unit {0}
OwnNext (Place.AdvanceStore t) w = Unit {0}
OwnNext (Place.Pop p a) w = Unit {0}
OwnNext (Place.Push f a) w = Unit {0}
OwnNext Place.FinalWord w = Unit {0}
OwnNext Place.FinalTag w = Unit {0}

-- in the list, or out of it and not yet free
unfoldable pub Born : Use → Type 0
Born Use.unused = ⊥
Born Use.registering = ⊥
Born Use.linked = Unit {0}
Born Use.out = Unit {0}

pub record Listed (N : ℕ) (m : Machine) (g : Ghost) : Type 0 where
  pub birth_le : (q : ℕ) → q < N → Born (g.slot_use q) → g.birth q ≤ g.births
  pub differ : (a b : ℕ) → a < N → b < N → Born (g.slot_use a) → Born (g.slot_use b) → g.birth a ≡ g.birth b → a ≡ b
  pub head : ToLinked N g.slot_use (pointee m.shared.list_head)
  pub next : (q : ℕ) → q < N → g.slot_use q ≡ Use.linked → ToLinked N g.slot_use (pointee (m.shared.entry_next q))
  pub falls : (q : ℕ) → q < N → g.slot_use q ≡ Use.linked → Falls g.birth (g.birth q) (pointee (m.shared.entry_next q))
  pub head_reaches : (y : ℕ) → y < N → g.slot_use y ≡ Use.linked → Reached g.birth (pointee m.shared.list_head) y
  pub next_reaches : (x y : ℕ) → x < N → y < N → g.slot_use x ≡ Use.linked → g.slot_use y ≡ Use.linked → g.birth y < g.birth x
      → Reached g.birth (pointee (m.shared.entry_next x)) y
  pub own_next : (q : ℕ) → q < N → OwnNext (m.own q).place (m.shared.entry_next q)

-- ---- Q, the queue: links are numbered; from head or tail on, whichever is behind, each node's next has the next number

pub record Queued (M : ℕ) (m : Machine) (g : Ghost) : Type 0 where
  pub pos_le : (n : ℕ) → n < M → g.node_use n ≡ NodeUse.placed → g.pos n ≤ g.last
  pub differ : (a b : ℕ) → a < M → b < M → g.node_use a ≡ NodeUse.placed → g.node_use b ≡ NodeUse.placed → g.pos a ≡ g.pos b → a ≡ b
  pub head : g.node_use (head_of m.shared) ≡ NodeUse.placed
  pub tail : g.node_use (tail_of m.shared) ≡ NodeUse.placed
  pub near : g.last ≤ g.pos (tail_of m.shared) + 1
  pub ends : (n : ℕ) → n < M → g.node_use n ≡ NodeUse.placed → is_null (m.shared.node_next n) ≡ true → g.pos n ≡ g.last
  pub goes_on : (n : ℕ) → n < M → g.node_use n ≡ NodeUse.placed → low g.pos m.shared ≤ g.pos n → is_null (m.shared.node_next n) ≡ false
      → (g.node_use (index (m.shared.node_next n)) ≡ NodeUse.placed) × (g.pos (index (m.shared.node_next n)) ≡ g.pos n + 1)

-- ---- H, what places hold: slots and nodes that nobody frees while they are held

-- a slot is safe for a participant pinned at b: it is in the list, or it left it no earlier
unfoldable pub SafeUse : Use → (b gone : ℕ) → Type 0
SafeUse Use.unused b r = ⊥
SafeUse Use.registering b r = ⊥
SafeUse Use.linked b r = Unit {0}
SafeUse Use.out b r = b ≤ r

unfoldable pub SafeSlot : ℕ → Ghost → ℕ → ℕ → Type 0
SafeSlot N g b x = (x < N) × SafeUse (g.slot_use x) b (g.gone x)

unfoldable pub SafePtr : ℕ → Ghost → ℕ → Ptr → Type 0
SafePtr N g b Ptr.Null = Unit {0}
SafePtr N g b (Ptr.At s) = SafeSlot N g b s.0

unfoldable pub SafePred : ℕ → Ghost → ℕ → Pred → Type 0
SafePred N g b Pred.Head = Unit {0}
SafePred N g b (Pred.Entry s) = SafeSlot N g b s.0

-- a node is safe: it was linked and is not free, and if head and tail have both left it, they left it no earlier
unfoldable pub SafeNode : ℕ → Ghost → Shared → ℕ → ℕ → Type 0
SafeNode M g s b n = (n < M) × ((g.node_use n ≡ NodeUse.placed) × (g.pos n < low g.pos s → b ≤ g.past n))

-- the popped node of a pop with epoch e
abbrev pub PoppedSafe : ℕ → Machine → Ghost → ℕ → ℕ → ℕ → Type 0
PoppedSafe M m g b e n = SafeNode M g m.shared b n × (num (m.bag n).epoch + 2 ≤ num e)

unfoldable pub HoldsThen : (N M : ℕ) → Machine → Ghost → ℕ → Then → Type 0
HoldsThen N M m g b (Then.Defer (Deferring.Token token)) = Unit {0}
HoldsThen N M m g b (Then.Defer (Deferring.Slot t c succ)) = SafePred N g b c.pred × SafePtr N g b succ
HoldsThen N M m g b (Then.Defer (Deferring.Node p head next)) = PoppedSafe M m g b p.epoch.0 next.0
HoldsThen N M m g b Then.Flush = Unit {0}
HoldsThen N M m g b Then.Finalize = Unit {0}

unfoldable pub HoldsWalk : (N : ℕ) → Machine → Ghost → ℕ → WalkAt → Type 0
HoldsWalk N m g b WalkAt.Head = Unit {0}
HoldsWalk N m g b (WalkAt.Next c) = SafePred N g b c.pred × SafeSlot N g b c.curr.0
HoldsWalk N m g b (WalkAt.Unlink c succ) = (SafePred N g b c.pred × SafeSlot N g b c.curr.0)
    × ((is_tagged (m.shared.entry_next c.curr.0) ≡ true) × (pointee (m.shared.entry_next c.curr.0) ≡ succ))
HoldsWalk N m g b WalkAt.Stalled = Unit {0}

unfoldable pub HoldsPop : (M : ℕ) → Machine → Ghost → (b e : ℕ) → PopAt → Type 0
HoldsPop M m g b e PopAt.Head = Unit {0}
HoldsPop M m g b e (PopAt.Next head) = SafeNode M g m.shared b head.0 × (g.pos head.0 ≤ g.pos (head_of m.shared))
HoldsPop M m g b e (PopAt.Exchange head next) = (SafeNode M g m.shared b head.0 × (g.pos head.0 ≤ g.pos (head_of m.shared)))
    × ((m.shared.node_next head.0 ≡ link next.0) × (head_of m.shared ≡ head.0 → num (m.bag next.0).epoch + 2 ≤ num e))
HoldsPop M m g b e (PopAt.Tail head next) = (m.shared.node_next head.0 ≡ link next.0) × PoppedSafe M m g b e next.0
HoldsPop M m g b e (PopAt.TailMove head next) = (m.shared.node_next head.0 ≡ link next.0) × PoppedSafe M m g b e next.0

unfoldable pub HoldsPush : (M : ℕ) → Machine → Ghost → ℕ → PushAt → Type 0
HoldsPush M m g b PushAt.Epoch = Unit {0}
HoldsPush M m g b (PushAt.Tail new) = Unit {0}
HoldsPush M m g b (PushAt.Next new onto) = SafeNode M g m.shared b onto.0 × (g.pos onto.0 ≤ g.pos (tail_of m.shared))
HoldsPush M m g b (PushAt.Help new onto next) = SafeNode M g m.shared b onto.0 × (m.shared.node_next onto.0 ≡ link next.0)
HoldsPush M m g b (PushAt.Link new onto) = SafeNode M g m.shared b onto.0 × (g.pos onto.0 ≤ g.pos (tail_of m.shared))
HoldsPush M m g b (PushAt.Move new onto) = SafeNode M g m.shared b onto.0 × (m.shared.node_next onto.0 ≡ link new.0)

unfoldable pub HoldsAt : (N M : ℕ) → Machine → Ghost → ℕ → Place → Type 0
HoldsAt N M m g b Place.Rest = Unit {0}
HoldsAt N M m g b (Place.Register a) = Unit {0}
HoldsAt N M m g b (Place.PinEpoch k) = Unit {0}
HoldsAt N M m g b (Place.PinWord k e) = Unit {0}
HoldsAt N M m g b (Place.Repin a) = Unit {0}
HoldsAt N M m g b Place.UnpinWord = Unit {0}
HoldsAt N M m g b (Place.AdvanceEpoch k) = Unit {0}
HoldsAt N M m g b (Place.Walk t a) = HoldsWalk N m g b a
HoldsAt N M m g b (Place.AdvanceWord t curr succ) = SafeSlot N g b curr.0 × SafePtr N g b succ
HoldsAt N M m g b (Place.AdvanceStore t) = Unit {0}
HoldsAt N M m g b (Place.Pop p a) = HoldsPop M m g b p.epoch.0 a
HoldsAt N M m g b (Place.Push f a) = HoldsThen N M m g b f × HoldsPush M m g b a
HoldsAt N M m g b Place.FinalWord = Unit {0}
HoldsAt N M m g b Place.FinalTag = Unit {0}

pub record Held (N M : ℕ) (m : Machine) (g : Ghost) : Type 0 where
  pub holds : (q : ℕ) → q < N → HoldsAt N M m g (g.gpin q) (m.own q).place

-- ---- U, uses: each slot and each node is in exactly one use, counted

unfoldable pub same_item : Item → Item → Bool
same_item (Item.Token a) (Item.Token b) = eqb a b
same_item (Item.Token a) (Item.Node b) = false
same_item (Item.Token a) (Item.Slot b) = false
same_item (Item.Node a) (Item.Token b) = false
same_item (Item.Node a) (Item.Node b) = eqb a.0 b.0
same_item (Item.Node a) (Item.Slot b) = false
same_item (Item.Slot a) (Item.Token b) = false
same_item (Item.Slot a) (Item.Node b) = false
same_item (Item.Slot a) (Item.Slot b) = eqb a.0 b.0

-- how often an item stands in a bag, and waits in a place
unfoldable pub times : Item → List Item → ℕ
times x [] = 0
times x (i ∷ l) = branch (same_item x i) 1 0 + times x l

unfoldable pub waits : Item → Option Item → ℕ
waits x none = 0
waits x (some i) = branch (same_item x i) 1 0

unfoldable pub is : ℕ → Option ℕ → ℕ
is x none = 0
is x (some y) = branch (eqb x y) 1 0

-- what a participant has of an item: in its bag, or waiting
unfoldable pub has : Item → Participant → List Item → ℕ
has x o b = times x b + waits x (waiting_item o.place)

-- how often an item occurs: in the participants' bags and places, and in the nodes' bags
unfoldable pub occurs : (N M : ℕ) → Machine → Item → ℕ
occurs N M m x = sum N (λ q. has x (m.own q) (m.held q)) + sum M (λ n. times x (m.bag n).holds)

unfoldable pub not_out : Use → ℕ
not_out Use.unused = 1
not_out Use.registering = 1
not_out Use.linked = 1
not_out Use.out = 0

-- a node in the queue, the sentinel among them
unfoldable pub in_queue : NodeUse → (pos head : ℕ) → ℕ
in_queue NodeUse.spare p h = 0
in_queue NodeUse.taken p h = 0
in_queue NodeUse.placed p h = branch (leb h p) 1 0

unfoldable pub is_spare : NodeUse → Bool
is_spare NodeUse.spare = true
is_spare NodeUse.taken = false
is_spare NodeUse.placed = false

pub record Used (N M : ℕ) (m : Machine) (g : Ghost) : Type 0 where
  pub slots : (x : ℕ) → x < N → not_out (g.slot_use x) + occurs N M m (Item.Slot (record { 0 = x })) ≡ 1
  pub nodes : (x : ℕ) → x < M → branch (m.node_free x) 1 0 + in_queue (g.node_use x) (g.pos x) (g.pos (head_of m.shared))
      + sum N (λ q. is x (taken_node (m.own q).place) + is x (old_head (m.own q).place)) + occurs N M m (Item.Node (record { 0 = x })) ≡ 1
  pub slot_out : (x : ℕ) → x < N → occurs N M m (Item.Slot (record { 0 = x })) ≢ 0 → g.slot_use x ≡ Use.out
  pub node_out : (x : ℕ) → x < M → occurs N M m (Item.Node (record { 0 = x })) ≢ 0 → (g.node_use x ≡ NodeUse.placed) × (g.pos x < low g.pos m.shared)
  pub bits : (x : ℕ) → x < M → m.node_free x ≡ is_spare (g.node_use x)
  pub taken : (q : ℕ) → q < N → Of (λ n. (g.node_use n ≡ NodeUse.taken) × (is_null (m.shared.node_next n) ≡ true)) (taken_node (m.own q).place)
  pub old : (q : ℕ) → q < N → Of (λ n. (g.node_use n ≡ NodeUse.placed) × (g.pos n < g.pos (head_of m.shared))) (old_head (m.own q).place)

-- ---- B, bags in nodes: what is sealed was retired no later than the seal; only bags still to be freed hold anything

unfoldable pub Retired : Ghost → ℕ → Item → Type 0
Retired g e (Item.Token t) = Unit {0}
Retired g e (Item.Node n) = g.past n.0 ≤ e
Retired g e (Item.Slot s) = g.gone s.0 ≤ e

unfoldable pub Each : (Item → Type 0) → List Item → Type 0
Each P [] = Unit {0}
Each P (i ∷ l) = P i × Each P l

-- whoever has popped node n
unfoldable pub poppers : ℕ → Machine → ℕ → ℕ
poppers N m n = sum N (λ q. is n (popped_node (m.own q).place))

pub record Bagged (N M : ℕ) (m : Machine) (g : Ghost) : Type 0 where
  pub sealed : (n : ℕ) → n < M → Each (Retired g (num (m.bag n).epoch)) (m.bag n).holds
  pub spare : (n : ℕ) → n < M → g.node_use n ≡ NodeUse.spare → (m.bag n).holds ≡ []
  pub freed : (n : ℕ) → n < M → g.node_use n ≡ NodeUse.placed → g.pos n ≤ g.pos (head_of m.shared) → poppers N m n ≡ 0 → (m.bag n).holds ≡ []

-- ---- R, room: every node that an operation can still need is set aside

-- one node is for the last push of a finalize
unfoldable pub reserve_of : Owner → ℕ
reserve_of Owner.Pin = 0
reserve_of Owner.Flush = 0
reserve_of Owner.Finalize = 1

-- the items that a participant can still take: what its bag and the bags of its share hold
abbrev pub cap_of : (share reserve : ℕ) → ℕ
cap_of s r = max_objects * (s - r + 1)

-- the slots that left the list since a participant pinned at b: none of them can be freed meanwhile
unfoldable pub left_since : Use → (b gone : ℕ) → Bool
left_since Use.unused b r = false
left_since Use.registering b r = false
left_since Use.linked b r = false
left_since Use.out b r = leb b r

unfoldable pub W : ℕ → Ghost → ℕ → ℕ
W N g b = count N (λ x. left_since (g.slot_use x) b (g.gone x))

unfoldable pub RoomThen : ℕ → (k share w : ℕ) → PushAt → Then → Type 0
RoomThen N k s w a (Then.Defer (Deferring.Token token)) = Unit {0}
RoomThen N k s w a (Then.Defer (Deferring.Slot t c succ)) = (reserve_of t.owner ≤ s) × (k + 1 + N + collect_steps ≤ cap_of s (reserve_of t.owner) + w)
RoomThen N k s w a (Then.Defer (Deferring.Node p head next)) = (reserve_of p.owner ≤ s) × (k + p.left ≤ cap_of s (reserve_of p.owner))
RoomThen N k s w a Then.Flush = N + collect_steps ≤ max_objects * (s + 1)
RoomThen N k s w a Then.Finalize = Unit {0}

-- a push that has not yet taken its node has one set aside; for a flush, beside what its collect needs
unfoldable pub RoomPush : ℕ → (share : ℕ) → PushAt → Then → Type 0
RoomPush N s PushAt.Epoch (Then.Defer d) = 1 ≤ s
RoomPush N s PushAt.Epoch Then.Flush = (1 ≤ s) × (N + collect_steps ≤ max_objects * s)
RoomPush N s PushAt.Epoch Then.Finalize = 1 ≤ s
RoomPush N s (PushAt.Tail new) f = Unit {0}
RoomPush N s (PushAt.Next new onto) f = Unit {0}
RoomPush N s (PushAt.Help new onto next) f = Unit {0}
RoomPush N s (PushAt.Link new onto) f = Unit {0}
RoomPush N s (PushAt.Move new onto) f = Unit {0}

-- a pin that will collect
unfoldable pub RoomPin : ℕ → (pins k share reserve : ℕ) → Type 0
RoomPin N pins k s r = (r ≤ s) × (collects pins ≡ true → k + N + collect_steps ≤ cap_of s r)

-- a walk with w slots that left since its pin
abbrev pub RoomWalk : ℕ → Owner → (k share w : ℕ) → Type 0
RoomWalk N o k s w = (reserve_of o ≤ s) × (k + N + collect_steps ≤ cap_of s (reserve_of o) + w)

-- by the place: k items held, a share s, w slots that left since the pin
unfoldable pub Room : ℕ → Place → (pins handles k share w : ℕ) → Type 0
Room N Place.Rest pins h k s w = Unit {0}
Room N (Place.Register a) pins h k s w = Unit {0}
Room N (Place.PinEpoch o) pins h k s w = RoomPin N pins k s (reserve_of o)
Room N (Place.PinWord o e) pins h k s w = RoomPin N pins k s (reserve_of o)
Room N (Place.Repin a) pins h k s w = Unit {0}
Room N Place.UnpinWord pins h k s w = h ≡ 0 → RoomPin N pins k s 1
Room N (Place.AdvanceEpoch o) pins h k s w = RoomWalk N o k s w
Room N (Place.Walk t a) pins h k s w = RoomWalk N t.owner k s w
Room N (Place.AdvanceWord t curr succ) pins h k s w = RoomWalk N t.owner k s w
Room N (Place.AdvanceStore t) pins h k s w = RoomWalk N t.owner k s w
Room N (Place.Pop p a) pins h k s w = (reserve_of p.owner ≤ s) × (k + p.left ≤ cap_of s (reserve_of p.owner))
Room N (Place.Push f a) pins h k s w = RoomThen N k s w a f × RoomPush N s a f
Room N Place.FinalWord pins h k s w = Unit {0}
Room N Place.FinalTag pins h k s w = Unit {0}

pub record Roomy (N M : ℕ) (m : Machine) (g : Ghost) : Type 0 where
  pub total : m.aside ≡ sum N (λ q. (m.own q).share)
  pub enough : m.aside ≤ count M m.node_free
  pub room : (q : ℕ) → q < N → Room N (m.own q).place (m.own q).counts.pins (m.own q).counts.handles (m.own q).held (m.own q).share (W N g (g.gpin q))
