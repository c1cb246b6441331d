-- What the proof remembers beside the machine: how each slot and node is used, the order of insertions and of links, and the global epoch at
-- three kinds of moments. It is worked out from each move and never read by one. Epochs are numbers here: words halved. Assumes nothing.
use mathlib.Core.Bool.{Bool, ◌&&◌, not}
use mathlib.Core.List.{List, [], ◌∷◌}
use Prim.Native.Nat.{ℕ, ◌+◌, ◌/◌, min}
use lib.Dec.{eqb, ltb, leb}
use Rattle.epoch.specs.Epoch.{is_pinned}
use Rattle.definition.specs.Base.{branch, Tab, put}
use Rattle.definition.specs.Links.{index}
use Rattle.definition.specs.Tables.{Shared}
use Rattle.theorems.proofs.Machine.{Machine}
use Rattle.theorems.proofs.Types.{Item, RegisterAt, WalkAt, PushAt, Place, Work}

-- a slot is not in use, being registered, in the list, or out of it and not yet free
pub data Use : Type 0 where
  unused registering linked out : Use

-- a node is not in use, taken by a push that has not linked it, or linked at some time and not yet free
pub data NodeUse : Type 0 where
  spare taken placed : NodeUse

pub record Ghost : Type 0 where
  pub slot_use : Tab Use
  pub birth : Tab ℕ
  pub births : ℕ
  pub gpin : Tab ℕ
  pub gone : Tab ℕ
  pub node_use : Tab NodeUse
  pub pos : Tab ℕ
  pub last : ℕ
  pub past : Tab ℕ

-- the number of an epoch word, and of the global epoch
unfoldable pub num : ℕ → ℕ
num w = w / 2

unfoldable pub G : Machine → ℕ
G m = num m.shared.global_epoch

-- the nodes at the queue's head and tail, and the smaller of their positions
abbrev pub head_of : Shared → ℕ
head_of s = index s.queue_head

abbrev pub tail_of : Shared → ℕ
tail_of s = index s.queue_tail

unfoldable pub low : Tab ℕ → Shared → ℕ
low pos s = min (pos (head_of s)) (pos (tail_of s))

-- what a step does to the list or to the queue's links: slot p is inserted, a slot is unlinked, a node is linked
pub data Turn : Type 0 where
  quiet : Turn
  enlists unlinks links : ℕ → Turn

unfoldable pub turn_of : ℕ → Place → Bool → Turn
turn_of p Place.Rest won = Turn.quiet
turn_of p (Place.Register RegisterAt.Head) won = Turn.quiet
turn_of p (Place.Register (RegisterAt.Next next)) won = Turn.quiet
turn_of p (Place.Register (RegisterAt.Link next)) won = branch won (Turn.enlists p) Turn.quiet
turn_of p (Place.PinEpoch k) won = Turn.quiet
turn_of p (Place.PinWord k e) won = Turn.quiet
turn_of p (Place.Repin a) won = Turn.quiet
turn_of p Place.UnpinWord won = Turn.quiet
turn_of p (Place.AdvanceEpoch k) won = Turn.quiet
turn_of p (Place.Walk t WalkAt.Head) won = Turn.quiet
turn_of p (Place.Walk t (WalkAt.Next c)) won = Turn.quiet
turn_of p (Place.Walk t (WalkAt.Unlink c succ)) won = branch won (Turn.unlinks c.curr.0) Turn.quiet
turn_of p (Place.Walk t WalkAt.Stalled) won = Turn.quiet
turn_of p (Place.AdvanceWord t curr succ) won = Turn.quiet
turn_of p (Place.AdvanceStore t) won = Turn.quiet
turn_of p (Place.Pop q a) won = Turn.quiet
turn_of p (Place.Push f PushAt.Epoch) won = Turn.quiet
turn_of p (Place.Push f (PushAt.Tail new)) won = Turn.quiet
turn_of p (Place.Push f (PushAt.Next new onto)) won = Turn.quiet
turn_of p (Place.Push f (PushAt.Help new onto next)) won = Turn.quiet
turn_of p (Place.Push f (PushAt.Link new onto)) won = branch won (Turn.links new.0) Turn.quiet
turn_of p (Place.Push f (PushAt.Move new onto)) won = Turn.quiet
turn_of p Place.FinalWord won = Turn.quiet
turn_of p Place.FinalTag won = Turn.quiet

-- the parts of the ghost after a turn, at global epoch e
unfoldable pub use_turned : Turn → Tab Use → Tab Use
use_turned Turn.quiet u = u
use_turned (Turn.enlists p) u = put u p Use.linked
use_turned (Turn.unlinks s) u = put u s Use.out
use_turned (Turn.links n) u = u

unfoldable pub birth_turned : Turn → ℕ → Tab ℕ → Tab ℕ
birth_turned Turn.quiet b t = t
birth_turned (Turn.enlists p) b t = put t p (b + 1)
birth_turned (Turn.unlinks s) b t = t
birth_turned (Turn.links n) b t = t

unfoldable pub births_turned : Turn → ℕ → ℕ
births_turned Turn.quiet b = b
births_turned (Turn.enlists p) b = b + 1
births_turned (Turn.unlinks s) b = b
births_turned (Turn.links n) b = b

unfoldable pub gone_turned : Turn → ℕ → Tab ℕ → Tab ℕ
gone_turned Turn.quiet e t = t
gone_turned (Turn.enlists p) e t = t
gone_turned (Turn.unlinks s) e t = put t s e
gone_turned (Turn.links n) e t = t

unfoldable pub node_turned : Turn → Tab NodeUse → Tab NodeUse
node_turned Turn.quiet u = u
node_turned (Turn.enlists p) u = u
node_turned (Turn.unlinks s) u = u
node_turned (Turn.links n) u = put u n NodeUse.placed

unfoldable pub pos_turned : Turn → ℕ → Tab ℕ → Tab ℕ
pos_turned Turn.quiet b t = t
pos_turned (Turn.enlists p) b t = t
pos_turned (Turn.unlinks s) b t = t
pos_turned (Turn.links n) b t = put t n (b + 1)

unfoldable pub last_turned : Turn → ℕ → ℕ
last_turned Turn.quiet b = b
last_turned (Turn.enlists p) b = b
last_turned (Turn.unlinks s) b = b
last_turned (Turn.links n) b = b + 1

-- slots and nodes that are freed are not in use; a node that is sealed into is taken
unfoldable pub slots_freed : List Item → Tab Use → Tab Use
slots_freed [] u = u
slots_freed (Item.Token t ∷ l) u = slots_freed l u
slots_freed (Item.Node n ∷ l) u = slots_freed l u
slots_freed (Item.Slot s ∷ l) u = slots_freed l (put u s.0 Use.unused)

unfoldable pub nodes_freed : List Item → Tab NodeUse → Tab NodeUse
nodes_freed [] u = u
nodes_freed (Item.Token t ∷ l) u = nodes_freed l u
nodes_freed (Item.Node n ∷ l) u = nodes_freed l (put u n.0 NodeUse.spare)
nodes_freed (Item.Slot s ∷ l) u = nodes_freed l u

unfoldable pub use_worked : Work → Machine → Tab Use → Tab Use
use_worked Work.Nothing m u = u
use_worked (Work.Put i) m u = u
use_worked (Work.PutThenFree i n) m u = slots_freed (m.bag n.0).holds u
use_worked (Work.Seal n e) m u = u

unfoldable pub node_worked : Work → Machine → Tab NodeUse → Tab NodeUse
node_worked Work.Nothing m u = u
node_worked (Work.Put i) m u = u
node_worked (Work.PutThenFree i n) m u = nodes_freed (m.bag n.0).holds u
node_worked (Work.Seal n e) m u = put u n.0 NodeUse.taken

-- the global epoch at the last store of a pinned word that was another one than before
unfoldable pub gpin_after : (e : ℕ) → (before after : Tab ℕ) → Tab ℕ → Tab ℕ
gpin_after e w v t = λ q. branch (is_pinned (v q) && not (eqb (v q) (w q))) e (t q)

-- the global epoch when head and tail had both left a node
unfoldable pub past_after : (e : ℕ) → (before after : ℕ) → Tab ℕ → Tab ℕ → Tab ℕ
past_after e a b pos t = λ n. branch (leb a (pos n) && ltb (pos n) b) e (t n)

-- all of it after a move of the machine m to shared words s, with the work w
unfoldable pub moved : Turn → Work → Machine → Shared → Ghost → Ghost
moved v w m s g = record {
  slot_use = use_worked w m (use_turned v g.slot_use);
  birth = birth_turned v g.births g.birth;
  births = births_turned v g.births;
  gpin = gpin_after (G m) m.shared.word s.word g.gpin;
  gone = gone_turned v (G m) g.gone;
  node_use = node_worked w m (node_turned v g.node_use);
  pos = pos_turned v g.last g.pos;
  last = last_turned v g.last;
  past = past_after (G m) (low g.pos m.shared) (low (pos_turned v g.last g.pos) s) g.pos g.past;
}
