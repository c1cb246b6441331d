-- The whole invariant is kept: by every step that is not refused, by every call and by every registering. Nothing is argued here: each group has
-- its module, and this one joins them. Assumes nothing.
use Prim.Native.Nat.{ℕ}
use Rattle.theorems.proofs.Machine.{Machine}
use Rattle.theorems.proofs.Ghost.{Ghost}
use Rattle.theorems.proofs.Invariant.{Used}
use Rattle.theorems.proofs.Inv.{Inv, Steps, Calls, stepped, stepped_ghost, called, called_ghost, registered, registered_ghost}
use Rattle.theorems.proofs.Inv as I
use Rattle.theorems.proofs.Ranged.{ranged_step, ranged_call, ranged_register}
use Rattle.theorems.proofs.Records.{records_step}
use Rattle.theorems.proofs.RecordsCalls.{records_call, records_register}
use Rattle.theorems.proofs.EpochsKept.{epochs_step, epochs_call, epochs_register}
use Rattle.theorems.proofs.List.{listed-step, listed-call, listed-register}
use Rattle.theorems.proofs.Nodes.{queued-step, queued-call, queued-register}
use Rattle.theorems.proofs.Held.{held-step, held-call, held-register}
use Rattle.theorems.proofs.NodeUses.{node-bits-step, taken-step, old_step, node-bits-call, taken-call, old_call, node-bits-register, taken-register, old_register}
use Rattle.theorems.proofs.Uses.{slots_step, nodes-step, slot_out-step, node_out-step, slots_call, nodes-call, slot_out-call, node_out-call, slots_register, nodes-register, slot_out-register, node_out-register}
use Rattle.theorems.proofs.Bags.{bagged_step, bagged_call, bagged_register}
use Rattle.theorems.proofs.Roomy.{roomy_step, roomy_call, roomy_register}
use Rattle.theorems.proofs.Types.{Call}

-- by a step
pub used_step : (N M p : ℕ) (m : Machine) (g : Ghost) → Inv N M m g → Steps N M p m → Used N M (stepped M p m) (stepped_ghost M p m g)
used_step N M p m g inv st = record {
  slots = slots_step N M p m g inv st;
  nodes = nodes-step N M p m g inv st;
  slot_out = slot_out-step N M p m g inv st;
  node_out = node_out-step N M p m g inv st;
  bits = node-bits-step N M p m g inv st;
  taken = taken-step N M p m g inv st;
  old = old_step N M p m g inv st;
}

pub inv_step : (N M p : ℕ) (m : Machine) (g : Ghost) → Inv N M m g → Steps N M p m → Inv N M (stepped M p m) (stepped_ghost M p m g)
inv_step N M p m g inv st = record {
  ranged = ranged_step N M p m g inv st;
  records = records_step N M p m g inv st;
  epochs = epochs_step N M p m g inv st;
  listed = listed-step N M p m g inv st;
  queued = queued-step N M p m g inv st;
  held = held-step N M p m g inv st;
  used = used_step N M p m g inv st;
  bagged = bagged_step N M p m g inv st;
  roomy = roomy_step N M p m g inv st;
}

-- by a call
pub used_call : (N M p : ℕ) (c : Call) (m : Machine) (g : Ghost) → Inv N M m g → Calls N M p c m → Used N M (called N p c m) (called_ghost N p c m g)
used_call N M p c m g inv ca = record {
  slots = slots_call N M p c m g inv ca;
  nodes = nodes-call N M p c m g inv ca;
  slot_out = slot_out-call N M p c m g inv ca;
  node_out = node_out-call N M p c m g inv ca;
  bits = node-bits-call N M p c m g inv ca;
  taken = taken-call N M p c m g inv ca;
  old = old_call N M p c m g inv ca;
}

pub inv_call : (N M p : ℕ) (c : Call) (m : Machine) (g : Ghost) → Inv N M m g → Calls N M p c m → Inv N M (called N p c m) (called_ghost N p c m g)
inv_call N M p c m g inv ca = record {
  ranged = ranged_call N M p c m g inv ca;
  records = records_call N M p c m g inv ca;
  epochs = epochs_call N M p c m g inv ca;
  listed = listed-call N M p c m g inv ca;
  queued = queued-call N M p c m g inv ca;
  held = held-call N M p c m g inv ca;
  used = used_call N M p c m g inv ca;
  bagged = bagged_call N M p c m g inv ca;
  roomy = roomy_call N M p c m g inv ca;
}

-- by a registering
pub used_register : (N M p : ℕ) (m : Machine) (g : Ghost) → Inv N M m g → I.Registers N p m → Used N M (registered p m) (registered_ghost p g)
used_register N M p m g inv re = record {
  slots = slots_register N M p m g inv re;
  nodes = nodes-register N M p m g inv re;
  slot_out = slot_out-register N M p m g inv re;
  node_out = node_out-register N M p m g inv re;
  bits = node-bits-register N M p m g inv re;
  taken = taken-register N M p m g inv re;
  old = old_register N M p m g inv re;
}

pub inv_register : (N M p : ℕ) (m : Machine) (g : Ghost) → Inv N M m g → I.Registers N p m → Inv N M (registered p m) (registered_ghost p g)
inv_register N M p m g inv re = record {
  ranged = ranged_register N M p m g inv re;
  records = records_register N M p m g inv re;
  epochs = epochs_register N M p m g inv re;
  listed = listed-register N M p m g inv re;
  queued = queued-register N M p m g inv re;
  held = held-register N M p m g inv re;
  used = used_register N M p m g inv re;
  bagged = bagged_register N M p m g inv re;
  roomy = roomy_register N M p m g inv re;
}
