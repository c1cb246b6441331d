-- A place that carries slots in range can be written: its pointers fit a word. Assumes nothing.
use Prim.Native.Nat.{ℕ, ◌^◌, ◌<◌}
use native.Mathlib.Omega.{arith}
use Rattle.definition.specs.Links.{null, link, pointer}
use Rattle.definition.specs.Codec.{pred_pointer, then_code, code_of}
use Rattle.definition.proofs.Within.{PtrIn, PredIn, ThenIn, RegisterIn, WalkIn, PlaceIn}
use Rattle.definition.specs.declared.Ptr.{Ptr}
use Rattle.definition.specs.declared.Pred.{Pred}
use Rattle.definition.specs.declared.Deferring.{Deferring}
use Rattle.definition.specs.declared.Then.{Then}
use Rattle.definition.specs.declared.RegisterAt.{RegisterAt}
use Rattle.definition.specs.declared.RepinAt.{RepinAt}
use Rattle.definition.specs.declared.WalkAt.{WalkAt}
use Rattle.definition.specs.declared.PopAt.{PopAt}
use Rattle.definition.specs.declared.Place.{Place}
use Rattle.definition.specs.declared.Code.{Code}
use Rattle.records.specs.Stores.{PointersFit}
use Rattle.records.proofs.Fits.{fits-push}

-- both pointers; none
fit : {c : Code} → c.pred < 2 ^ 64 → c.succ < 2 ^ 64 → PointersFit c
fit p s = record { pred = p; succ = s }

none : 0 < 2 ^ 64
none = omega arith

module _ (N M : ℕ) (few : N < 2 ^ 63) where
  ptr_fits : (q : Ptr) → PtrIn N M q → pointer q < 2 ^ 64
  unfolding PtrIn pointer link null
  ptr_fits Ptr.Null h = none
  ptr_fits (Ptr.At s) h = omega arith

  pred-fits : (q : Pred) → PredIn N M q → pred_pointer q < 2 ^ 64
  unfolding PredIn pred_pointer link null
  pred-fits Pred.Head h = none
  pred-fits (Pred.Entry s) h = omega arith

  then_fits : (f : Then) → ThenIn N M f → PointersFit (then_code f)
  unfolding ThenIn then_code
  then_fits (Then.Defer (Deferring.Token token)) h = fit none none
  then_fits (Then.Defer (Deferring.Slot t c succ)) h = fit (pred-fits c.pred h.0.0) (ptr_fits succ h.1)
  then_fits (Then.Defer (Deferring.Node p old popped)) h = fit none none
  then_fits Then.Flush h = fit none none
  then_fits Then.Finalize h = fit none none

  -- every place in range
  pub pointers_fit : (pl : Place) → PlaceIn N M pl → PointersFit (code_of pl)
  unfolding PlaceIn RegisterIn WalkIn code_of
  pointers_fit Place.Rest h = fit none none
  pointers_fit (Place.Register RegisterAt.Head) h = fit none none
  pointers_fit (Place.Register (RegisterAt.Next next)) h = fit none (ptr_fits next h)
  pointers_fit (Place.Register (RegisterAt.Link next)) h = fit none (ptr_fits next h)
  pointers_fit (Place.PinEpoch k) h = fit none none
  pointers_fit (Place.PinWord k e) h = fit none none
  pointers_fit (Place.Repin RepinAt.Word) h = fit none none
  pointers_fit (Place.Repin (RepinAt.Epoch e)) h = fit none none
  pointers_fit (Place.Repin (RepinAt.Store e)) h = fit none none
  pointers_fit Place.UnpinWord h = fit none none
  pointers_fit (Place.AdvanceEpoch k) h = fit none none
  pointers_fit (Place.Walk t WalkAt.Head) h = fit none none
  pointers_fit (Place.Walk t (WalkAt.Next c)) h = fit (pred-fits c.pred h.0) none
  pointers_fit (Place.Walk t (WalkAt.Unlink c succ)) h = fit (pred-fits c.pred h.0.0) (ptr_fits succ h.1)
  pointers_fit (Place.Walk t WalkAt.Stalled) h = fit none none
  pointers_fit (Place.AdvanceWord t curr succ) h = fit none (ptr_fits succ h.1)
  pointers_fit (Place.AdvanceStore t) h = fit none none
  pointers_fit (Place.Pop q PopAt.Head) h = fit none none
  pointers_fit (Place.Pop q (PopAt.Next head)) h = fit none none
  pointers_fit (Place.Pop q (PopAt.Exchange head next)) h = fit none none
  pointers_fit (Place.Pop q (PopAt.Tail head next)) h = fit none none
  pointers_fit (Place.Pop q (PopAt.TailMove head next)) h = fit none none
  pointers_fit (Place.Push f a) h = fits-push f a (then_fits f h.0)
  pointers_fit Place.FinalWord h = fit none none
  pointers_fit Place.FinalTag h = fit none none
