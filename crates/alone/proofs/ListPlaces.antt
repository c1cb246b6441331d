-- The places of the list: at each, the step leaves fewer. A registering that finds another head than it read loses its link once, for it goes on with the
-- head that it found. A walk has two steps for each entry ahead of it, and there are fewer ahead of each next (Ahead); where it loses an unlink it
-- goes on with what its predecessor's word holds, and that is the word itself, so it does not lose again. Assumes nothing.
use mathlib.Core.Path.{◌≡◌, refl}
use mathlib.Core.Bool.{Bool, false}
use Prim.Native.Nat.{ℕ, ◌+◌, ◌*◌, ◌≤◌, ◌<◌}
use native.Mathlib.Omega.{arith}
use lib.Dec.{eqb}
use borrow.Author.Tests.{eqb-true}
use Rattle.definition.specs.Links.{link, pointer, pointee, is_tagged}
use Rattle.definition.specs.Tables.{Shared, read, write}
use Rattle.definition.specs.List.{insert, iterate, pred_word}
use Rattle.definition.specs.Internal.{advance_word}
use Rattle.definition.specs.Ranges.{is_rest}
use Rattle.definition.proofs.Base.{branch_ind}
use Rattle.theorems.proofs.Leads.{Leads}
use Rattle.theorems.proofs.Ghost.{Use, Ghost}
use Rattle.theorems.proofs.Machine.{Machine}
use Rattle.theorems.proofs.Invariant.{HoldsWalk}
use Rattle.theorems.proofs.Inv.{Inv}
use Rattle.theorems.proofs.Linked.{safe_linked, in_range_lem}
use Rattle.theorems.proofs.Uses.{pred-linked}
use Rattle.theorems.proofs.Checks.{untagged_is}
use Rattle.theorems.proofs.Types.{Slot, Ptr, Pred, Cursor, Try, Deferring, RegisterAt, WalkAt, Place, Participant}
use Rattle.theorems.proofs.Ahead.{in_list, ahead, ahead_few, ahead-falls}
use Rattle.alone.proofs.Left.{push_steps, pops, final_left, going_left, defer_left, register_left, walk_left, place_left}
use Rattle.alone.proofs.Laws.{at_least, when_equal, when_not, two, untagged_back, read-pred, going_at, going_least}
use Rattle.alone.proofs.Follows.{Less, before, Fewer, on_less, done_less, pick_less, walk_less, advanced_less, defer_less}

module _ (N M : ℕ) (m : Machine) (g : Ghost) (inv : Inv N M m g) where
  -- the shared words, the slots in the list, those ahead of a pointer
  abbrev S : Shared
  S = m.shared

  abbrev L : ℕ
  L = in_list N g.slot_use

  abbrev A : Ptr → ℕ
  A = ahead N g.slot_use g.birth

  -- the list's head, as a pointer
  head_back : S.list_head ≡ pointer (pointee S.list_head)
  head_back = untagged_back S.list_head inv.ranged.list_head.1

  -- ---- registering

  pub register-falls : (self : Slot) (o : Participant) (x : RegisterAt) → Leads (Fewer L A S o (Place.Register x)) S (insert self o x)
  unfolding Leads insert read write Fewer place_left register_left is_rest
  register-falls self o RegisterAt.Head = on_less L A S _ (Place.Register (RegisterAt.Next (pointee S.list_head))) o refl
      (unfold place_left register_left in (rw (when_equal 2 4 head_back) (omega arith)))
  register-falls self o (RegisterAt.Next next) = on_less L A _ _ (Place.Register (RegisterAt.Link next)) o refl
      (unfold place_left register_left in (two (λ (x y : ℕ). push_steps * o.share + x + 1 ≤ push_steps * o.share + y) (eqb S.list_head (pointer next)) 1 3 2 4
      (λ _. omega arith) (λ _. omega arith)))
  register-falls self o (RegisterAt.Link next) = (
    λ h. done_less L A _ _ self.0 o (let k = at_least (eqb S.list_head (pointer next)) 1 3 1 (omega arith) (omega arith) in omega arith),
    λ ne. on_less L A S _ (Place.Register (RegisterAt.Next (pointee S.list_head))) o refl
        (unfold place_left register_left in (rw (when_equal 2 4 head_back, when_not 1 3 ne) (omega arith))),
  )

  -- ---- a walk

  -- fewer are ahead of the next of a slot in the list
  behind : (c : ℕ) → c < N → g.slot_use c ≡ Use.linked → A (pointee (S.entry_next c)) + 1 ≤ A (Ptr.At (record { 0 = c }))
  behind c lt e = ahead-falls N g.slot_use g.birth c (pointee (S.entry_next c)) lt e (inv.listed.falls c lt e)

  few : (l : Ptr) → A l ≤ L
  few = ahead_few N g.slot_use g.birth

  -- whether the cursor's predecessor still points to its entry
  abbrev at : Cursor → Bool
  at c = eqb (read (pred_word c.pred) S) (link c.curr.0)

  module _ (b : ℕ) (t : Try) (o : Participant) (c : Cursor) (h : HoldsWalk N m g b (WalkAt.Next c)) where
    abbrev w : ℕ
    w = S.entry_next c.curr.0

    inside : c.curr.0 < N
    unfolding HoldsWalk
    inside = in_range_lem N g b c.curr.0 h.1

    -- a deleted entry, to be unlinked
    to_unlink : before L A S o (Place.Walk t (WalkAt.Unlink c (pointee w))) + 1 ≤ before L A S o (Place.Walk t (WalkAt.Next c))
    unfolding place_left walk_left going_left HoldsWalk
    to_unlink = two (λ (x y : ℕ). push_steps * o.share + (x + final_left t.owner) + 1 ≤ push_steps * o.share + (y + final_left t.owner)) (at c)
        (2 * A (pointee w) + pops + 2) (2 * L + pops + 2) (2 * A (Ptr.At c.curr) + pops + 1) (2 * L + pops + 3)
        (λ e. let k = behind c.curr.0 inside (pred-linked N M m g inv b c.pred c.curr.0 h.0 (eqb-true _ _ e)) in omega arith)
        (λ _. omega arith)

    -- an entry to be looked at: it is in the list, since it is not deleted
    to_look : is_tagged w ≡ false → before L A S o (Place.AdvanceWord t c.curr (pointee w)) + 1 ≤ before L A S o (Place.Walk t (WalkAt.Next c))
    unfolding place_left walk_left HoldsWalk
    to_look untag =
        let k = behind c.curr.0 inside (safe_linked N m g inv.records b c.curr.0 h.1 untag) in
        let x = going_at L A S (Pred.Entry c.curr) (pointee w) (unfold read pred_word in (untagged_back w (untagged_is w untag))) in
        let y = few (Ptr.At c.curr) in
        let z : 2 * A (pointee w) + pops + 3 ≤ going_left L A S c.pred (Ptr.At c.curr) = unfold going_left in (at_least (at c) _ _ _ (omega arith) (omega arith)) in
        omega arith

  pub walk-falls : (b : ℕ) (t : Try) (o : Participant) (x : WalkAt) → HoldsWalk N m g b x → Leads (Fewer L A S o (Place.Walk t x)) S (iterate t o x)
  unfolding Leads iterate read write Fewer place_left walk_left is_rest
  walk-falls b t o WalkAt.Head h = walk_less L A S _ t Pred.Head (pointee S.list_head) o
      (let x = going_at L A S Pred.Head (pointee S.list_head) (unfold read pred_word in head_back) in let y = few (pointee S.list_head) in omega arith)
  walk-falls b t o (WalkAt.Next c) h =
      let w = S.entry_next c.curr.0 in
      branch_ind (Less L A S (before L A S o (Place.Walk t (WalkAt.Next c)))) (is_tagged w)
      (λ tag. on_less L A S _ (Place.Walk t (WalkAt.Unlink c (pointee w))) o refl (to_unlink b t o c h))
      (λ untag. on_less L A S _ (Place.AdvanceWord t c.curr (pointee w)) o refl (to_look b t o c h untag))
  walk-falls b t o (WalkAt.Unlink c succ) h = (
    λ e. defer_less L A _ _ (Deferring.Slot t c succ) o
        (let x = going_at L A (write (pred_word c.pred) (pointer succ) S) c.pred succ (read-pred c.pred (pointer succ) S) in
        unfold defer_left in (rw (when_equal (2 * A succ + pops + 2) (2 * L + pops + 2) e) (omega arith))),
    λ ne. let v = read (pred_word c.pred) S in
        branch_ind (Less L A S (before L A S o (Place.Walk t (WalkAt.Unlink c succ)))) (is_tagged v)
        (λ tag. on_less L A S _ (Place.Walk t WalkAt.Stalled) o refl
        (unfold place_left walk_left in (rw (when_not (2 * A succ + pops + 2) (2 * L + pops + 2) ne) (omega arith))))
        (λ untag. walk_less L A S _ t c.pred (pointee v) o
        (let x = going_at L A S c.pred (pointee v) (untagged_back v (untagged_is v untag)) in let y = few (pointee v) in
        rw (when_not (2 * A succ + pops + 2) (2 * L + pops + 2) ne) (omega arith))),
  )
  walk-falls b t o WalkAt.Stalled h = advanced_less L A S _ t.owner t.epoch o (omega arith)

  pub advance_word-falls : (t : Try) (curr : Slot) (succ : Ptr) (o : Participant) → Leads (Fewer L A S o (Place.AdvanceWord t curr succ)) S (advance_word t curr succ o)
  unfolding Leads advance_word read write Fewer place_left
  advance_word-falls t curr succ o = pick_less L A S _ _ _ _
      (advanced_less L A S _ t.owner t.epoch o (let x = going_least L A S (Pred.Entry curr) succ in omega arith))
      (walk_less L A S _ t (Pred.Entry curr) succ o (omega arith))
