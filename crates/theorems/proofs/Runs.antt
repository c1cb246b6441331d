-- Along every run from a fresh start the invariant holds, as long as the global epoch changed fewer than 2^62 times. An event is refused and changes
-- nothing, or what its checks found is just what the invariant needs to be kept (`happens`). The global epoch's number is at most the number of
-- its changes, since it rises by one at most. Refusal 1 is never given. Leans on Whole, Start, Stored and Checks. Assumes nothing.
use mathlib.Core.Path.{◌≡◌, refl}
use mathlib.Core.Logic.{◌≢◌}
use mathlib.Core.Bool.{Bool, true, false}
use mathlib.Core.List.{List, [], ◌∷◌}
use Prim.Native.Nat.{ℕ, ◌+◌, ◌^◌, ◌≤◌, ◌<◌}
use native.Mathlib.Omega.{arith}
use lib.Dec.{eqb}
use borrow.Author.Tests.{eqb-true}
use Rattle.epoch.specs.Epoch.{starting}
use Rattle.definition.specs.Base.{branch, least}
use Rattle.definition.specs.Tables.{Tables, write}
use Rattle.definition.specs.Calls.{opens}
use Rattle.definition.specs.Ranges.{fresh}
use Rattle.definition.specs.Rule.{fails}
use Rattle.definition.specs.Step.{Out, follow, take_step, take_marked}
use Rattle.definition.specs.Public.{refused, the, enrolled, call_checks, call, register_checks, register, step_checks, step}
use Rattle.definition.specs.Marks.{back}
use Rattle.definition.proofs.Refusals.{unless_ind}
use Rattle.definition.proofs.Marks.{Marked, marked}
use Rattle.theorems.specs.OnTables.{Event, does, after, advances}
use Rattle.theorems.proofs.Machine.{view}
use Rattle.theorems.proofs.Ghost.{Ghost, num, G}
use Rattle.theorems.proofs.Inv.{Inv, Steps, Calls, Misses, stepped_ghost, called_ghost, registered_ghost, view_step, view_call, view_back}
use Rattle.theorems.proofs.Inv as I
use Rattle.theorems.proofs.Epochs.{up}
use Rattle.theorems.proofs.EpochsKept.{epoch-call}
use Rattle.theorems.proofs.Stored.{Stored, stored_step, stored_call, stored_back, stored_register, stored_fresh}
use Rattle.theorems.proofs.Checks.{passes-step, passes-call, passes-register, step_never_1, call_never_1, register_never_1, view_register}
use Rattle.theorems.proofs.Whole.{inv_step, inv_call, inv_register}
use Rattle.theorems.proofs.Misses.{inv_misses}
use Rattle.theorems.proofs.Start.{start_ghost, inv_start}
use Rattle.theorems.proofs.Types.{Ptr, Call, Answer}

-- ---- one event

-- a refusal; or a step, a marked step that fails, a call, a registering, with all that the invariant asks of it
pub data Happens (N M : ℕ) (t : Tables) : Event → Out → Type 0 where
  refuses : {v : Event} (r : ℕ) → r ≢ 0 → Happens N M t v (refused r t)
  goes : {marked : Bool} {places p : ℕ} → Steps N M p (view t) → Happens N M t (Event.steps marked places p) (take_step M p t)
  misses : {places p : ℕ} {next : Ptr} → Misses N p next (view t) → Happens N M t (Event.steps true places p) (back p next t)
  calls : {p : ℕ} {c : Call} → Calls N M p c (view t) → Happens N M t (Event.calls p c) (follow p (opens N c (the p t)) t)
  enrols : {p : ℕ} → I.Registers N p (view t) → Happens N M t Event.registers (enrolled p t)

module _ (N M : ℕ) (t : Tables) (g : Ghost) (inv : Inv N M (view t) g) (st : Stored N M t) where
  -- what comes of a step, where the mark has no effect
  unmarked : G (view t) < 2 ^ 62 → (marked : Bool) (places p : ℕ) → Happens N M t (Event.steps marked places p) (step N M false places p t)
  unfolding step take_marked fails branch
  unmarked small marked places p = unless_ind (Happens N M t (Event.steps marked places p)) (step_checks N M places p t) t (take_step M p t)
      (λ e. Happens.goes (passes-step N M places p t g inv small e)) (λ ne. Happens.refuses _ ne)

  -- of a marked one
  by_mark : G (view t) < 2 ^ 62 → (places p : ℕ) → Marked N M places p t → Happens N M t (Event.steps true places p) (step N M true places p t)
  by_mark small places p (Marked.same e) = rw e (unmarked small true places p)
  by_mark small places p (Marked.misses next k e) =
      rw e (Happens.misses (record { here = (passes-step N M places p t g inv small k.passes).here; stands = k.stands }))

  -- what comes of an event
  pub happens : G (view t) < 2 ^ 62 → (v : Event) → Happens N M t v (does N M v t)
  unfolding does register call
  happens small (Event.steps true places p) = by_mark small places p (marked N M places p t)
  happens small (Event.steps false places p) = unmarked small false places p
  happens small Event.registers = unless_ind (Happens N M t Event.registers) (register_checks N M t) t (enrolled (least N t.slot_free) t)
      (λ e. Happens.enrols (passes-register N M t e)) (λ ne. Happens.refuses _ ne)
  happens small (Event.calls p c) = unless_ind (Happens N M t (Event.calls p c)) (call_checks N M p c t) t (follow p (opens N c (the p t)) t)
      (λ e. Happens.calls (passes-call N M p c t g inv e)) (λ ne. Happens.refuses _ ne)

  -- it is never refusal 1
  pub never_1 : (v : Event) → (does N M v t).answer ≢ Answer.Refused 1
  unfolding does
  never_1 (Event.steps marked places p) = step_never_1 N M marked places p t g inv st
  never_1 Event.registers = register_never_1 N M t g inv st
  never_1 (Event.calls p c) = call_never_1 N M p c t g inv st

-- ---- the ghost goes along

-- the ghost after an event
unfoldable pub ghost_after : {N M : ℕ} {t : Tables} {v : Event} {o : Out} → Happens N M t v o → Ghost → Ghost
ghost_after (Happens.refuses r h) g = g
ghost_after {M = M} {t = t} (Happens.goes {p = p} st) g = stepped_ghost M p (view t) g
ghost_after (Happens.misses s) g = g
ghost_after {N = N} {t = t} (Happens.calls {p = p} {c = c} ca) g = called_ghost N p c (view t) g
ghost_after (Happens.enrols {p = p} re) g = registered_ghost p g

module _ (N M : ℕ) (t : Tables) (g : Ghost) (inv : Inv N M (view t) g) (st : Stored N M t) where
  -- the invariant after an event
  pub inv_happens : {v : Event} {o : Out} (h : Happens N M t v o) → Inv N M (view o.tables) (ghost_after h g)
  unfolding ghost_after
  inv_happens (Happens.refuses r h) = inv
  inv_happens (Happens.goes {p = p} s) = rw (view_step M p t) (inv_step N M p (view t) g inv s)
  inv_happens (Happens.misses {p = p} {next = next} s) = rw (view_back p next t) (inv_misses N M p next (view t) g inv s)
  inv_happens (Happens.calls {p = p} {c = c} ca) = rw (view_call N p c t) (inv_call N M p c (view t) g inv ca)
  inv_happens (Happens.enrols {p = p} re) = rw (view_register p t) (inv_register N M p (view t) g inv re)

  -- and how the tables hold it
  pub stored_happens : {v : Event} {o : Out} → Happens N M t v o → Stored N M o.tables
  stored_happens (Happens.refuses r h) = st
  stored_happens (Happens.goes {p = p} s) = stored_step N M p t g inv s st
  stored_happens (Happens.misses {p = p} {next = next} s) = stored_back N M p next t st
  stored_happens (Happens.calls {p = p} {c = c} ca) = stored_call N M p c t g inv ca st
  stored_happens (Happens.enrols {p = p} re) = stored_register N M p t st

  -- the global epoch does not fall, and rises by one at most
  pub epoch_happens : {v : Event} {o : Out} → Happens N M t v o → (G (view t) ≤ G (view o.tables)) × (G (view o.tables) ≤ G (view t) + 1)
  epoch_happens (Happens.refuses r h) = (omega arith, omega arith)
  epoch_happens (Happens.goes {p = p} s) = rw (view_step M p t) (let u = up N M p (view t) g inv s in unfold G in (u.0, u.1.0))
  epoch_happens (Happens.misses s) = unfold G in (omega arith, omega arith)
  epoch_happens (Happens.calls {p = p} {c = c} ca) = rw (view_call N p c t, epoch-call N M p c (view t) g inv ca) (omega arith, omega arith)
  epoch_happens (Happens.enrols {p = p} re) = unfold G enrolled write in (omega arith, omega arith)

-- a word that is as it was has the number that it had
rises : (a b : ℕ) → num b ≤ num a + 1 → num b ≤ num a + branch (eqb b a) 0 1
rises a b h = go (eqb b a) refl
  where
    go : (c : Bool) → eqb b a ≡ c → num b ≤ num a + branch c 0 1
    go true e = rw (eqb-true b a e) (omega arith)
    go false e = unfold branch in h

-- ---- a run

-- tables with a ghost that have the invariant
pub record Sound (N M : ℕ) (t : Tables) : Type 0 where
  pub ghost : Ghost
  pub inv : Inv N M (view t) ghost
  pub stored : Stored N M t

module _ (N M : ℕ) where
  -- one event
  pub sound-does : (t : Tables) → Sound N M t → G (view t) < 2 ^ 62 → (v : Event) → Sound N M (does N M v t).tables
  sound-does t s small v =
      let h = happens N M t s.ghost s.inv s.stored small v in
      record { ghost = ghost_after h s.ghost; inv = inv_happens N M t s.ghost s.inv s.stored h; stored = stored_happens N M t s.ghost s.inv s.stored h }

  -- the global epoch's number rises by one at most, and only where its word changes
  pub epoch-does : (t : Tables) → Sound N M t → G (view t) < 2 ^ 62 → (v : Event)
      → G (view (does N M v t).tables) ≤ G (view t) + branch (eqb (does N M v t).tables.shared.global_epoch t.shared.global_epoch) 0 1
  unfolding G
  epoch-does t s small v = rises t.shared.global_epoch (does N M v t).tables.shared.global_epoch
      (epoch_happens N M t s.ghost s.inv s.stored (happens N M t s.ghost s.inv s.stored small v)).1

  -- many
  pub sound-after : (l : List Event) (t : Tables) → Sound N M t → G (view t) + advances N M l t < 2 ^ 62
      → Sound N M (after N M l t) × (G (view (after N M l t)) ≤ G (view t) + advances N M l t)
  unfolding after advances
  sound-after [] t s lt = (s, omega arith)
  sound-after (v ∷ l) t s lt =
      let u = epoch-does t s (omega arith) v in
      let k = sound-after l (does N M v t).tables (sound-does t s (omega arith) v) (omega arith) in
      let e = k.1 in
      (k.0, omega arith)

-- from a fresh start
unfoldable pub sound-fresh : (N M : ℕ) → 1 ≤ N → 2 ≤ M → Sound N M (fresh N M)
sound-fresh N M h_n h_m = record { ghost = start_ghost; inv = inv_start N M h_n h_m; stored = stored_fresh N M }

-- the global epoch begins at 0
pub fresh-epoch : (N M : ℕ) → G (view (fresh N M)) ≡ 0
unfolding G num fresh starting
fresh-epoch N M = refl

-- the invariant at every point of a run
pub sound-run : (N M : ℕ) → 1 ≤ N → 2 ≤ M → (l : List Event) → advances N M l (fresh N M) < 2 ^ 62
    → Sound N M (after N M l (fresh N M)) × (G (view (after N M l (fresh N M))) < 2 ^ 62)
sound-run N M h_n h_m l lt =
    let e = fresh-epoch N M in
    let k = sound-after N M l (fresh N M) (sound-fresh N M h_n h_m) (omega arith) in
    let u = k.1 in
    (k.0, omega arith)
