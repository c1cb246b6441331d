-- Which places can be written as numbers: those whose pointers fit a word. Whatever place is read from words is one, and so is every place
-- whose indices are in range. Assumes nothing.
use mathlib.Core.Path.{◌≡◌}
use mathlib.Core.Bool.{true}
use Prim.Native.Nat.{ℕ, ◌/◌, ◌^◌, ◌≤◌, ◌<◌}
use native.Mathlib.Omega.{arith}
use lib.Dec.{eqb}
use borrow.Author.Tests.{eqb-false, ltb-true}
use Rattle.definition.proofs.Base.{branch_ind, both}
use Rattle.definition.specs.Links.{null, link, is_null, index, pointee, pointer}
use Rattle.definition.specs.Codec.{pred_pointer, then_code, code_of, pred_of, then_of, place_of}
use Rattle.definition.specs.Ranges.{slot_in, ptr_in, pred_in, cursor_in, then_in, register_in, walk_in, push_in, place_in}
use Rattle.definition.specs.declared.Ptr.{Ptr}
use Rattle.definition.specs.declared.Pred.{Pred}
use Rattle.definition.specs.declared.Cursor.{Cursor}
use Rattle.definition.specs.declared.Deferring.{Deferring}
use Rattle.definition.specs.declared.Then.{Then}
use Rattle.definition.specs.declared.RegisterAt.{RegisterAt}
use Rattle.definition.specs.declared.RepinAt.{RepinAt}
use Rattle.definition.specs.declared.WalkAt.{WalkAt}
use Rattle.definition.specs.declared.PopAt.{PopAt}
use Rattle.definition.specs.declared.PushAt.{PushAt}
use Rattle.definition.specs.declared.Place.{Place}
use Rattle.definition.specs.declared.Code.{Code}
use Rattle.definition.specs.Preds.{ptr_of_pred}
use Rattle.definition.proofs.Preds.{pred_word}
use Rattle.flow.specs.Words.{PtrFits}
use Rattle.records.specs.Stores.{PointersFit}

-- both pointers; none
fit : {c : Code} → c.pred < 2 ^ 64 → c.succ < 2 ^ 64 → PointersFit c
fit p s = record { pred = p; succ = s }

none : 0 < 2 ^ 64
none = omega arith

-- a pointer, or a predecessor, whose word fits is one that crate `flow` writes
pub word_fits : (q : Ptr) → pointer q < 2 ^ 64 → PtrFits q
unfolding pointer link
word_fits Ptr.Null h = tt
word_fits (Ptr.At s) h = omega arith

pub pred_fits : (q : Pred) → pred_pointer q < 2 ^ 64 → PtrFits (ptr_of_pred q)
pred_fits q h = word_fits (ptr_of_pred q) (rw pred_word h)

-- what the functions that write one cite
pub ruleset pointers = (word_fits, pred_fits, pred_word)

-- a place of a push carries the pointers of what the push goes on with, and no others
pub push_fits : (f : Then) (a : PushAt) → PointersFit (code_of (Place.Push f a)) → PointersFit (then_code f)
unfolding code_of
push_fits f PushAt.Epoch h = fit h.pred h.succ
push_fits f (PushAt.Tail new) h = fit h.pred h.succ
push_fits f (PushAt.Next new onto) h = fit h.pred h.succ
push_fits f (PushAt.Help new onto next) h = fit h.pred h.succ
push_fits f (PushAt.Link new onto) h = fit h.pred h.succ
push_fits f (PushAt.Move new onto) h = fit h.pred h.succ

pub fits-push : (f : Then) (a : PushAt) → PointersFit (then_code f) → PointersFit (code_of (Place.Push f a))
unfolding code_of
fits-push f PushAt.Epoch h = fit h.pred h.succ
fits-push f (PushAt.Tail new) h = fit h.pred h.succ
fits-push f (PushAt.Next new onto) h = fit h.pred h.succ
fits-push f (PushAt.Help new onto next) h = fit h.pred h.succ
fits-push f (PushAt.Link new onto) h = fit h.pred h.succ
fits-push f (PushAt.Move new onto) h = fit h.pred h.succ

-- ---- places that were read

-- a word with its tag cleared, and null for a tagged null, is at most the word
pub pointer-read : (w : ℕ) → pointer (pointee w) ≤ w
unfolding pointee pointer is_null index link null
pointer-read w = branch_ind (λ (q : Ptr). pointer q ≤ w) (is_null w) (λ _. omega arith) (λ e. omega (arith, eqb-false (w / 2) 0 e))

pub pred-read : (w : ℕ) → pred_pointer (pred_of w) ≤ w
unfolding pred_of pred_pointer is_null index link null
pred-read w = branch_ind (λ (q : Pred). pred_pointer q ≤ w) (is_null w) (λ _. omega arith) (λ e. omega (arith, eqb-false (w / 2) 0 e))

module _ (c : Code) (p : c.pred < 2 ^ 64) (s : c.succ < 2 ^ 64) where
  pred : pred_pointer (pred_of c.pred) < 2 ^ 64
  pred = omega (arith, pred-read c.pred)

  succ : pointer (pointee c.succ) < 2 ^ 64
  succ = omega (arith, pointer-read c.succ)

  then_read : PointersFit (then_code (then_of c))
  unfolding then_of then_code
  then_read =
      branch_ind F (eqb c.then 0) (λ _. fit none none) (λ _.
      branch_ind F (eqb c.then 1) (λ _. fit pred succ) (λ _.
      branch_ind F (eqb c.then 2) (λ _. fit none none) (λ _.
      branch_ind F (eqb c.then 3) (λ _. fit none none) (λ _.
      fit none none))))
    where
      F : Then → Type 0
      F f = PointersFit (then_code f)

  -- the place that a code says, whatever its number
  pub place-read : PointersFit (code_of (place_of c))
  unfolding place_of code_of
  place-read =
      branch_ind F (eqb c.number 0) (λ _. fit none none) (λ _.
      branch_ind F (eqb c.number 1) (λ _. fit none none) (λ _.
      branch_ind F (eqb c.number 2) (λ _. fit none succ) (λ _.
      branch_ind F (eqb c.number 3) (λ _. fit none succ) (λ _.
      branch_ind F (eqb c.number 4) (λ _. fit none none) (λ _.
      branch_ind F (eqb c.number 5) (λ _. fit none none) (λ _.
      branch_ind F (eqb c.number 6) (λ _. fit none none) (λ _.
      branch_ind F (eqb c.number 7) (λ _. fit none none) (λ _.
      branch_ind F (eqb c.number 8) (λ _. fit none none) (λ _.
      branch_ind F (eqb c.number 9) (λ _. fit none none) (λ _.
      branch_ind F (eqb c.number 10) (λ _. fit none none) (λ _.
      branch_ind F (eqb c.number 11) (λ _. fit none none) (λ _.
      branch_ind F (eqb c.number 12) (λ _. fit pred none) (λ _.
      branch_ind F (eqb c.number 13) (λ _. fit none succ) (λ _.
      branch_ind F (eqb c.number 14) (λ _. fit pred succ) (λ _.
      branch_ind F (eqb c.number 15) (λ _. fit none none) (λ _.
      branch_ind F (eqb c.number 16) (λ _. fit none none) (λ _.
      branch_ind F (eqb c.number 17) (λ _. fit none none) (λ _.
      branch_ind F (eqb c.number 18) (λ _. fit none none) (λ _.
      branch_ind F (eqb c.number 19) (λ _. fit none none) (λ _.
      branch_ind F (eqb c.number 20) (λ _. fit none none) (λ _.
      branch_ind F (eqb c.number 21) (λ _. fit none none) (λ _.
      branch_ind F (eqb c.number 22) (λ _. fit then_read.pred then_read.succ) (λ _.
      branch_ind F (eqb c.number 23) (λ _. fit then_read.pred then_read.succ) (λ _.
      branch_ind F (eqb c.number 24) (λ _. fit then_read.pred then_read.succ) (λ _.
      branch_ind F (eqb c.number 25) (λ _. fit then_read.pred then_read.succ) (λ _.
      branch_ind F (eqb c.number 26) (λ _. fit then_read.pred then_read.succ) (λ _.
      branch_ind F (eqb c.number 27) (λ _. fit then_read.pred then_read.succ) (λ _.
      branch_ind F (eqb c.number 28) (λ _. fit none none) (λ _.
      fit none none)))))))))))))))))))))))))))))
    where
      F : Place → Type 0
      F pl = PointersFit (code_of pl)

-- ---- places in range

module _ (N M : ℕ) (few : N < 2 ^ 63) where
  ptr_in_lem : (q : Ptr) → ptr_in N M q ≡ true → pointer q < 2 ^ 64
  unfolding ptr_in slot_in pointer link null
  ptr_in_lem Ptr.Null h = none
  ptr_in_lem (Ptr.At s) h = omega (arith, ltb-true s.0 N h)

  pred_in_lem : (q : Pred) → pred_in N M q ≡ true → pred_pointer q < 2 ^ 64
  unfolding pred_in slot_in pred_pointer link null
  pred_in_lem Pred.Head h = none
  pred_in_lem (Pred.Entry s) h = omega (arith, ltb-true s.0 N h)

  cursor_in_lem : (c : Cursor) → cursor_in N M c ≡ true → pred_pointer c.pred < 2 ^ 64
  unfolding cursor_in
  cursor_in_lem c h = pred_in_lem c.pred (both (pred_in N M c.pred) (slot_in N M c.curr) h).0

  then_in_lem : (f : Then) → then_in N M f ≡ true → PointersFit (then_code f)
  unfolding then_in then_code
  then_in_lem (Then.Defer (Deferring.Token token)) h = fit none none
  then_in_lem (Then.Defer (Deferring.Slot t c succ)) h = fit (cursor_in_lem c (both (cursor_in N M c) (ptr_in N M succ) h).0) (ptr_in_lem succ (both (cursor_in N M c) (ptr_in N M succ) h).1)
  then_in_lem (Then.Defer (Deferring.Node p old popped)) h = fit none none
  then_in_lem Then.Flush h = fit none none
  then_in_lem Then.Finalize h = fit none none

  -- a place whose indices are in range
  pub place_in_lem : (pl : Place) → place_in N M pl ≡ true → PointersFit (code_of pl)
  unfolding place_in register_in walk_in code_of
  place_in_lem Place.Rest h = fit none none
  place_in_lem (Place.Register RegisterAt.Head) h = fit none none
  place_in_lem (Place.Register (RegisterAt.Next next)) h = fit none (ptr_in_lem next h)
  place_in_lem (Place.Register (RegisterAt.Link next)) h = fit none (ptr_in_lem next h)
  place_in_lem (Place.PinEpoch k) h = fit none none
  place_in_lem (Place.PinWord k e) h = fit none none
  place_in_lem (Place.Repin RepinAt.Word) h = fit none none
  place_in_lem (Place.Repin (RepinAt.Epoch e)) h = fit none none
  place_in_lem (Place.Repin (RepinAt.Store e)) h = fit none none
  place_in_lem Place.UnpinWord h = fit none none
  place_in_lem (Place.AdvanceEpoch k) h = fit none none
  place_in_lem (Place.Walk t WalkAt.Head) h = fit none none
  place_in_lem (Place.Walk t (WalkAt.Next c)) h = fit (cursor_in_lem c h) none
  place_in_lem (Place.Walk t (WalkAt.Unlink c succ)) h = fit (cursor_in_lem c (both (cursor_in N M c) (ptr_in N M succ) h).0) (ptr_in_lem succ (both (cursor_in N M c) (ptr_in N M succ) h).1)
  place_in_lem (Place.Walk t WalkAt.Stalled) h = fit none none
  place_in_lem (Place.AdvanceWord t curr succ) h = fit none (ptr_in_lem succ (both (slot_in N M curr) (ptr_in N M succ) h).1)
  place_in_lem (Place.AdvanceStore t) h = fit none none
  place_in_lem (Place.Pop p PopAt.Head) h = fit none none
  place_in_lem (Place.Pop p (PopAt.Next head)) h = fit none none
  place_in_lem (Place.Pop p (PopAt.Exchange head next)) h = fit none none
  place_in_lem (Place.Pop p (PopAt.Tail head next)) h = fit none none
  place_in_lem (Place.Pop p (PopAt.TailMove head next)) h = fit none none
  place_in_lem (Place.Push f a) h = fits-push f a (then_in_lem f (both (then_in N M f) (push_in N M a) h).0)
  place_in_lem Place.FinalWord h = fit none none
  place_in_lem Place.FinalTag h = fit none none
