-- Every step of a participant leaves it fewer, along the machine's step and with its ghost (`falls-step`); and it is at rest afterwards only where it
-- ended (`still_runs`). At the access that is Falls; the work after it only frees slots and makes a next null (Eases); and the one turn that brings a slot into the
-- list, the link of a registering, ends at rest. Assumes nothing.
use mathlib.Core.Path.{◌≡◌, refl, ap, ◌∙◌}
use mathlib.Core.Bool.{Bool, true, false, false≢true}
use mathlib.Core.List.{List}
use Prim.Native.Nat.{ℕ, ◌+◌, ◌≤◌, ◌<◌}
use native.Mathlib.Omega.{arith}
use lib.Dec.{eqb}
use borrow.Author.Tests.{eq-eqb}
use Rattle.definition.specs.Base.{branch, Tab, put, least}
use Rattle.definition.specs.Links.{pointer, pointee}
use Rattle.definition.specs.Tables.{Shared}
use Rattle.definition.specs.Rule.{asks, follows, sees, agrees}
use Rattle.definition.specs.Tables.{read}
use Rattle.definition.specs.Flow.{on, done}
use Rattle.definition.specs.List.{insert}
use Rattle.definition.specs.Internal.{rule}
use Rattle.definition.specs.Ranges.{is_rest}
use Rattle.definition.proofs.Base.{put_ind, put_same}
use Rattle.theorems.proofs.Leads.{leads}
use Rattle.theorems.proofs.Ghost.{Use, Ghost, Turn, turn_of, use_turned, birth_turned, slots_freed, use_worked, moved}
use Rattle.theorems.proofs.Machine.{Machine, works, followed, with_shared}
use Rattle.theorems.proofs.Change.{Change}
use Rattle.theorems.proofs.List.{freed_ind}
use Rattle.theorems.proofs.Linked.{step-change, stepped_own}
use Rattle.theorems.proofs.Inv.{Inv, Steps, rule_of, won_of, left_of, after_of, goes, goes_ghost, stepped, stepped_ghost}
use Rattle.theorems.proofs.Types.{Ptr, Item, RegisterAt, Place, Participant, Work, End}
use Rattle.theorems.proofs.Ahead.{is_linked, in_list, ahead, list_fewer, ahead_fewer}
use Rattle.alone.proofs.Left.{place_left, left}
use Rattle.alone.proofs.Follows.{Fewer}
use Rattle.alone.proofs.Falls.{falls}
use Rattle.alone.proofs.Eases.{Eases, left_eases, same_words, next_null}

-- what is left, by how slots are used and when they were born
abbrev pub left_by : (N : ℕ) → Tab Use → Tab ℕ → Shared → Participant → ℕ
left_by N u birth = left (in_list N u) (ahead N u birth)

-- freeing takes slots out of use, and brings none into the list
freed_fewer : (l : List Item) (u : Tab Use) (x : ℕ) → is_linked (slots_freed l u x) ≡ true → is_linked (u x) ≡ true
freed_fewer l u x = freed_ind (λ (z : Use). is_linked z ≡ true → is_linked (u x) ≡ true) l u x (λ e. absurd (false≢true (unfold is_linked in e))) (λ e. e)

worked_fewer : (w : Work) (m : Machine) (u : Tab Use) (x : ℕ) → is_linked (use_worked w m u x) ≡ true → is_linked (u x) ≡ true
unfolding use_worked
worked_fewer Work.Nothing m u x h = h
worked_fewer (Work.Put i) m u x h = h
worked_fewer (Work.PutThenFree i n) m u x h = freed_fewer (m.bag n.0).holds u x h
worked_fewer (Work.Seal n e) m u x h = h

-- the work of a step, with fewer in the list
module _ (L : ℕ) (a : Ptr → ℕ) (L' : ℕ) (a' : Ptr → ℕ) (fewer : L' ≤ L) (less : (l : Ptr) → a' l ≤ a l) where
  work_eases : (p : ℕ) (w : Work) (m : Machine) → Eases L a m.shared L' a' (works p w m).shared
  unfolding works
  work_eases p Work.Nothing m = same_words L a m.shared L' a' fewer less
  work_eases p (Work.Put i) m = same_words L a m.shared L' a' fewer less
  work_eases p (Work.PutThenFree i n) m = same_words L a m.shared L' a' fewer less
  work_eases p (Work.Seal n e) m = next_null L a m.shared L' a' fewer less n

-- an insertion ends at rest, so nothing is left
inserted_rests : (L : ℕ) (a : Ptr → ℕ) (M p : ℕ) (m : Machine) (s : Shared) (next : Ptr) → (m.own p).place ≡ Place.Register (RegisterAt.Link next)
    → m.shared.list_head ≡ pointer next → left L a s (after_of M p m).participant ≡ 0
unfolding after_of rule_of rule insert asks follows sees agrees read
inserted_rests L a M p m s next e h = at_link (m.own p) (m.own p).place e
  where
    won_rest : (o : Participant) (b : Bool) → b ≡ true → left L a s (branch b (done p o) (on (Place.Register (RegisterAt.Next (pointee m.shared.list_head))) o)).participant ≡ 0
    won_rest o true e = unfold branch done left place_left in refl
    won_rest o false e = absurd (false≢true e)

    at_link : (o : Participant) (pl : Place) → pl ≡ Place.Register (RegisterAt.Link next)
        → let r = rule (record { 0 = p }) (record { 0 = least M m.node_free }) (λ n. (m.bag n.0).epoch) o pl in left L a s (follows r (sees (asks r) m.shared)).participant ≡ 0
    at_link o pl i = rw i (won_rest o (eqb m.shared.list_head (pointer next)) (eq-eqb _ _ h))

module _ (N M p : ℕ) (m : Machine) (g : Ghost) (inv : Inv N M m g) (st : Steps N M p m) where
  -- at the access
  at_access : (left_by N g.slot_use g.birth (left_of M p m) (after_of M p m).participant + 1 ≤ left_by N g.slot_use g.birth m.shared (m.own p))
      × ((after_of M p m).end ≡ End.GoesOn → is_rest (after_of M p m).participant.place ≡ false)
  unfolding left_of after_of rule_of left Fewer
  at_access =
      let r = rule (record { 0 = p }) (record { 0 = least M m.node_free }) (λ n. (m.bag n.0).epoch) (m.own p) (m.own p).place in
      leads (Fewer (in_list N g.slot_use) (ahead N g.slot_use g.birth) m.shared (m.own p) (m.own p).place) m.shared r
      (falls N M m g inv (g.gpin p) (record { 0 = p }) (record { 0 = least M m.node_free }) (λ n. (m.bag n.0).epoch) (m.own p) (m.own p).place
      st.running (λ e. (st.spare e).1) (inv.ranged.places p st.here) (inv.held.holds p st.here))

  own_after : (stepped M p m).own p ≡ (after_of M p m).participant
  own_after = ap (λ (t : Tab Participant). t p) (stepped_own M p m) ∙ put_same m.own p (after_of M p m).participant

  pub still_runs : (after_of M p m).end ≡ End.GoesOn → is_rest ((stepped M p m).own p).place ≡ false
  still_runs e = rw own_after (at_access.1 e)

  -- with the work, where the turn brought no slot into the list
  quietly : (u : Tab Use) → ((x : ℕ) → x < N → is_linked (u x) ≡ true → is_linked (g.slot_use x) ≡ true)
      → left_by N (use_worked (after_of M p m).work m u) g.birth (stepped M p m).shared ((stepped M p m).own p) ≤ left_by N g.slot_use g.birth (left_of M p m) (after_of M p m).participant
  unfolding stepped goes followed
  quietly u fewer = rw own_after
      (let v = use_worked (after_of M p m).work m u in
      let none : (x : ℕ) → x < N → is_linked (v x) ≡ true → is_linked (g.slot_use x) ≡ true = λ x hx h. fewer x hx (worked_fewer (after_of M p m).work m u x h) in
      left_eases _ _ _ _ _ _ (work_eases (in_list N g.slot_use) (ahead N g.slot_use g.birth) (in_list N v) (ahead N v g.birth)
      (list_fewer N g.slot_use v none) (ahead_fewer N g.slot_use v none g.birth) p (after_of M p m).work (with_shared (left_of M p m) m)) (after_of M p m).participant)

  -- fewer are left after the turn w and the work
  abbrev Leaves : Turn → Type 0
  Leaves w = left_by N (use_worked (after_of M p m).work m (use_turned w g.slot_use)) (birth_turned w g.births g.birth) (stepped M p m).shared ((stepped M p m).own p) + 1
      ≤ left_by N g.slot_use g.birth m.shared (m.own p)

  -- every step leaves fewer
  pub falls-step : left_by N (stepped_ghost M p m g).slot_use (stepped_ghost M p m g).birth (stepped M p m).shared ((stepped M p m).own p) + 1 ≤ left_by N g.slot_use g.birth m.shared (m.own p)
  unfolding stepped_ghost goes_ghost moved
  falls-step = by (step-change M p m)
    where
      v : Turn
      v = turn_of p (m.own p).place (won_of M p m)

      quiet : Leaves Turn.quiet
      quiet = unfold use_turned birth_turned in (let x = quietly g.slot_use (λ _ _ h. h) in let y = at_access.0 in omega arith)

      out : (x : ℕ) → Leaves (Turn.unlinks x)
      out x = unfold use_turned birth_turned in (let z = quietly (put g.slot_use x Use.out)
          (λ y _. put_ind (λ (k : Use). is_linked k ≡ true → is_linked (g.slot_use y) ≡ true) g.slot_use x y Use.out (λ _ e. absurd (false≢true (unfold is_linked in e))) (λ _ e. e)) in
          let y = at_access.0 in omega arith)

      linked : (x : ℕ) → Leaves (Turn.links x)
      linked x = unfold use_turned birth_turned in (let z = quietly g.slot_use (λ _ _ h. h) in let y = at_access.0 in omega arith)

      inserted : (w : Turn) (next : Ptr) → (m.own p).place ≡ Place.Register (RegisterAt.Link next) → m.shared.list_head ≡ pointer next → Leaves w
      inserted w next e h = rw (own_after, inserted_rests _ _ M p m (stepped M p m).shared next e h) (let y = at_access.0 in omega arith)

      by : Change p (m.own p).place m.shared v (left_of M p m) → Leaves v
      by (Change.none t e) = rw t quiet
      by (Change.advances y h t e) = rw t quiet
      by (Change.pins k y h t e) = rw t quiet
      by (Change.repins y h t e) = rw t quiet
      by (Change.unpins h t e) = rw t quiet
      by (Change.finals h t e) = rw t quiet
      by (Change.aims next h t e) = rw t quiet
      by (Change.enlists next h t q e) = inserted v next h q
      by (Change.unlinks y c succ h t q e) = rw t (out c.curr.0)
      by (Change.tags h t e) = rw t quiet
      by (Change.pops q x y h t r e) = rw t quiet
      by (Change.tails f y h t r e) = rw t quiet
      by (Change.links f n o h t r e) = rw t (linked n.0)
