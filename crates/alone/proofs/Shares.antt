-- Nobody ever has more nodes set aside than a call asks for: 1 + (N + 71) / 64, a finalize's own push and what 64 items, N slots and the old heads of a collect can
-- fill. A call sets its need aside and no more; a step only takes from its share. Along every run of few advances. Assumes nothing.
use mathlib.Core.Bool.{false, false≢true}
use mathlib.Core.List.{List, [], ◌∷◌}
use Prim.Native.Nat.{ℕ, ◌+◌, ◌/◌, ◌^◌, ◌≤◌, ◌<◌}
use native.Mathlib.Omega.{arith}
use lib.Dec.{leb}
use Rattle.definition.specs.Base.{least}
use Rattle.definition.specs.Bags.{max_objects}
use Rattle.definition.specs.Tables.{Tables}
use Rattle.definition.specs.Rule.{asks, sees}
use Rattle.definition.specs.Flow.{collect_steps}
use Rattle.definition.specs.Internal.{rule}
use Rattle.definition.specs.Codec.{participant_of}
use Rattle.definition.specs.Calls.{needs, overflow, pin_needs, opens}
use Rattle.definition.specs.Ranges.{fresh}
use Rattle.definition.specs.Step.{Out}
use Rattle.definition.specs.Public.{new_participant}
use Rattle.definition.proofs.Base.{put_ind}
use Rattle.definition.proofs.Kept.{ShareLe, share_falls}
use Rattle.theorems.specs.OnTables.{Event, does, after, advances}
use Rattle.theorems.proofs.Machine.{Machine, view}
use Rattle.theorems.proofs.Ghost.{Ghost, G}
use Rattle.theorems.proofs.Inv.{Inv, Calls, after_of, rule_of, stepped, called, view_step, view_call, view_back}
use Rattle.theorems.proofs.Inv as I
use Rattle.theorems.proofs.Linked.{stepped_own, followed_own}
use Rattle.theorems.proofs.Tidy.{ShareBy, opens_tidy}
use Rattle.theorems.proofs.Checks.{view_register}
use Rattle.theorems.proofs.Misses.{each}
use Rattle.theorems.proofs.Runs.{Happens, Sound, happens, sound-does, epoch-does, sound-fresh, fresh-epoch}
use Rattle.theorems.proofs.Types.{Participant, Work, Call}
use Rattle.alone.proofs.Laws.{at_most}

abbrev pub most_aside : (N : ℕ) → ℕ
most_aside N = 1 + (N + 71) / 64

-- a pin's collect, with a full bag
pin_most : (N : ℕ) (o : Participant) → o.held ≤ max_objects → pin_needs N o ≤ (N + 71) / 64
unfolding pin_needs overflow max_objects collect_steps
pin_most N o h = at_most _ _ _ _ (omega arith) (omega arith)

needs_most : (N : ℕ) (c : Call) (o : Participant) → o.held ≤ max_objects → needs N c o ≤ most_aside N
unfolding needs
needs_most N Call.Acquire o h = omega arith
needs_most N Call.Release o h = at_most _ _ _ _ (let k = pin_most N o h in omega arith) (omega arith)
needs_most N Call.Pin o h = at_most _ _ _ _ (let k = pin_most N o h in omega arith) (omega arith)
needs_most N Call.Unpin o h = at_most _ _ _ _ (let k = pin_most N o h in omega arith) (omega arith)
needs_most N Call.Repin o h = omega arith
needs_most N (Call.Defer token) o h = at_most _ _ _ _ (omega arith) (omega arith)
needs_most N Call.Flush o h = unfold overflow max_objects collect_steps in (let k = at_most (leb 1 o.held) 1 0 1 (omega arith) (omega arith) in omega arith)

-- every participant's
pub record Shares (N : ℕ) (m : Machine) : Type 0 where
  pub most : (q : ℕ) → q < N → (m.own q).share ≤ most_aside N

-- a call leaves at most its need
call_share : (s r : ℕ) (w : Work) → ShareBy false s r w → r ≤ s
unfolding ShareBy
call_share s r Work.Nothing h = h
call_share s r (Work.Put i) h = h
call_share s r (Work.PutThenFree i n) h = h
call_share s r (Work.Seal n e) h = absurd (false≢true h.0)

module _ (N M : ℕ) where
  shares-step : (p : ℕ) (m : Machine) → p < N → Shares N m → Shares N (stepped M p m)
  shares-step p m hp h = record {
    most = λ q hq. rw (stepped_own M p m) (put_ind (λ (o : Participant). o.share ≤ most_aside N) m.own p q (after_of M p m).participant (λ _. own) (λ _. h.most q hq));
  }
    where
      own : (after_of M p m).participant.share ≤ most_aside N
      own = unfold after_of rule_of ShareLe in
          (let r = rule (record { 0 = p }) (record { 0 = least M m.node_free }) (λ n. (m.bag n.0).epoch) (m.own p) (m.own p).place in
          share_falls (most_aside N) (record { 0 = p }) (record { 0 = least M m.node_free }) (λ n. (m.bag n.0).epoch) (m.own p) (m.own p).place (sees (asks r) m.shared) (h.most p hp))

  shares-call : (p : ℕ) (c : Call) (m : Machine) (g : Ghost) → Inv N M m g → Calls N M p c m → Shares N m → Shares N (called N p c m)
  unfolding called
  shares-call p c m g inv ca h = record {
    most = λ q hq. rw (followed_own p (opens N c (m.own p)) m)
        (put_ind (λ (o : Participant). o.share ≤ most_aside N) m.own p q (opens N c (m.own p)).participant (λ _. own) (λ _. h.most q hq));
  }
    where
      held : (m.own p).held ≤ max_objects
      held = (inv.ranged.held p ca.here).0

      own : (opens N c (m.own p)).participant.share ≤ most_aside N
      own =
          let k = opens_tidy N c (m.own p) (inv.ranged.counts p ca.here) held ca.below in
          let s = call_share (needs N c (m.own p)) (opens N c (m.own p)).participant.share (opens N c (m.own p)).work k.share in
          let n = needs_most N c (m.own p) held in
          omega arith

  shares_happens : (t : Tables) (g : Ghost) → Inv N M (view t) g → {v : Event} {o : Out} → Happens N M t v o → Shares N (view t) → Shares N (view o.tables)
  shares_happens t g inv (Happens.refuses r ne) h = h
  shares_happens t g inv (Happens.goes {p = p} s) h = rw (view_step M p t) (shares-step p (view t) s.here h)
  shares_happens t g inv (Happens.misses {p = p} {next = next} s) h = rw (view_back p next t)
      (record { most = each N p next (view t) (λ q o. o.share ≤ most_aside N) (h.most p s.here) h.most })
  shares_happens t g inv (Happens.calls {p = p} {c = c} ca) h = rw (view_call N p c t) (shares-call p c (view t) g inv ca h)
  shares_happens t g inv (Happens.enrols {p = p} re) h = rw (view_register p t)
      (record {
        most = λ q hq. unfold I.registered in (put_ind (λ (o : Participant). o.share ≤ most_aside N) (view t).own p q new_participant
            (λ _. unfold new_participant in (omega arith)) (λ _. h.most q hq));
      })

  shares-after : (l : List Event) (t : Tables) → Sound N M t → G (view t) + advances N M l t < 2 ^ 62 → Shares N (view t) → Shares N (view (after N M l t))
  unfolding after advances
  shares-after [] t s lt h = h
  shares-after (v ∷ l) t s lt h =
      let u = epoch-does N M t s (omega arith) v in
      shares-after l (does N M v t).tables (sound-does N M t s (omega arith) v) (omega arith)
      (shares_happens t s.ghost s.inv (happens N M t s.ghost s.inv s.stored (omega arith) v) h)

  fresh-shares : Shares N (view (fresh N M))
  unfolding fresh participant_of
  fresh-shares = record { most = λ q hq. omega arith }

  -- at every point of a run
  pub shares-run : 1 ≤ N → 2 ≤ M → (l : List Event) → advances N M l (fresh N M) < 2 ^ 62 → Shares N (view (after N M l (fresh N M)))
  shares-run h_n h_m l lt = let e = fresh-epoch N M in shares-after l (fresh N M) (sound-fresh N M h_n h_m) (omega arith) fresh-shares
