-- A predecessor is written, read and looked at as the pointer that it is: what the definition says of predecessors is what it says of pointers.
use mathlib.Core.Path.{◌≡◌, refl}
use mathlib.Core.Bool.{Bool, true, false}
use Prim.Native.Nat.{ℕ}
use Rattle.definition.specs.Base.{branch}
use Rattle.definition.specs.Links.{is_null, index, pointee, pointer}
use Rattle.definition.specs.Codec.{pred_pointer, pred_of}
use Rattle.definition.specs.Ranges.{ptr_in, pred_in}
use Rattle.definition.specs.Types.{Ptr, Pred, slot}
use Rattle.definition.specs.Preds.{ptr_of_pred, pred_of_ptr}

-- its word
pub pred_word : (q : Pred) → pointer (ptr_of_pred q) ≡ pred_pointer q
unfolding pointer pred_pointer
pred_word Pred.Head = refl
pred_word (Pred.Entry s) = refl

-- the predecessor that a word points to
pub pred_read : (w : ℕ) → pred_of_ptr (pointee w) ≡ pred_of w
unfolding pointee pred_of branch
pred_read w = by (is_null w)
  where
    by : (b : Bool) → pred_of_ptr (branch b Ptr.Null (Ptr.At (slot (index w)))) ≡ branch b Pred.Head (Pred.Entry (slot (index w)))
    by true = refl
    by false = refl

-- its range
pub pred_range : (N M : ℕ) (q : Pred) → ptr_in N M (ptr_of_pred q) ≡ pred_in N M q
unfolding ptr_in pred_in
pred_range N M Pred.Head = refl
pred_range N M (Pred.Entry s) = refl
