-- Group H is kept by every step, call and registering: what a place holds, slots and nodes, nobody frees while it is held. The two halves are
-- `HeldSlots` (the list) and `HeldNodes` (the queue), and here they are joined: a place holds what it holds of slots and what it holds of nodes,
-- and nothing else. Assumes nothing.
use Prim.Native.Nat.{ℕ}
use Rattle.theorems.proofs.Machine.{Machine}
use Rattle.theorems.proofs.Ghost.{Ghost}
use Rattle.theorems.proofs.Invariant.{HoldsThen, HoldsAt, Held}
use Rattle.theorems.proofs.Inv.{Inv, stepped, stepped_ghost, Steps, called, called_ghost, Calls, registered, registered_ghost}
use Rattle.theorems.proofs.Inv as I
use Rattle.theorems.proofs.HeldSlots.{SlotsThen, SlotsAt, slots_step, slots_call, slots_register}
use Rattle.theorems.proofs.QueuePlaces.{NodesThen, NodesAt}
use Rattle.theorems.proofs.HeldNodes.{nodes-held-step, nodes-held-call, nodes-held-register}
use Rattle.theorems.proofs.Types.{Deferring, Then, Place, Call}

-- the two halves are all that a place holds
join_then : (N M : ℕ) (m : Machine) (g : Ghost) (b : ℕ) (f : Then) → SlotsThen N g b f → NodesThen M m g b f → HoldsThen N M m g b f
unfolding SlotsThen NodesThen HoldsThen
join_then N M m g b (Then.Defer (Deferring.Token token)) s n = tt
join_then N M m g b (Then.Defer (Deferring.Slot t c succ)) s n = s
join_then N M m g b (Then.Defer (Deferring.Node p head next)) s n = n
join_then N M m g b Then.Flush s n = tt
join_then N M m g b Then.Finalize s n = tt

pub join : (N M : ℕ) (m : Machine) (g : Ghost) (b : ℕ) (pl : Place) → SlotsAt N m g b pl → NodesAt M m g b pl → HoldsAt N M m g b pl
unfolding SlotsAt NodesAt HoldsAt
join N M m g b Place.Rest s n = tt
join N M m g b (Place.Register a) s n = tt
join N M m g b (Place.PinEpoch k) s n = tt
join N M m g b (Place.PinWord k e) s n = tt
join N M m g b (Place.Repin a) s n = tt
join N M m g b Place.UnpinWord s n = tt
join N M m g b (Place.AdvanceEpoch k) s n = tt
join N M m g b (Place.Walk t a) s n = s
join N M m g b (Place.AdvanceWord t curr succ) s n = s
join N M m g b (Place.AdvanceStore t) s n = tt
join N M m g b (Place.Pop q a) s n = n
join N M m g b (Place.Push f a) s n = (join_then N M m g b f s n.0, n.1)
join N M m g b Place.FinalWord s n = tt
join N M m g b Place.FinalTag s n = tt

-- by a step
pub held-step : (N M p : ℕ) (m : Machine) (g : Ghost) → Inv N M m g → Steps N M p m → Held N M (stepped M p m) (stepped_ghost M p m g)
held-step N M p m g inv st = record {
  holds = λ q hq. join N M (stepped M p m) (stepped_ghost M p m g) ((stepped_ghost M p m g).gpin q) ((stepped M p m).own q).place
      (slots_step N M p m g inv st q hq) (nodes-held-step N M p m g inv st q hq);
}

-- by a call
pub held-call : (N M p : ℕ) (c : Call) (m : Machine) (g : Ghost) → Inv N M m g → Calls N M p c m → Held N M (called N p c m) (called_ghost N p c m g)
held-call N M p c m g inv ca = record {
  holds = λ q hq. join N M (called N p c m) (called_ghost N p c m g) ((called_ghost N p c m g).gpin q) ((called N p c m).own q).place
      (slots_call N M p c m g inv ca q hq) (nodes-held-call N M p c m g inv ca q hq);
}

-- by a registering
pub held-register : (N M p : ℕ) (m : Machine) (g : Ghost) → Inv N M m g → I.Registers N p m → Held N M (registered p m) (registered_ghost p g)
held-register N M p m g inv re = record {
  holds = λ q hq. join N M (registered p m) (registered_ghost p g) ((registered_ghost p g).gpin q) ((registered p m).own q).place
      (slots_register N M p m g inv re q hq) (nodes-held-register N M p m g inv re q hq);
}
