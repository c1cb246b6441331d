-- A predecessor as a pointer to its entry, the head as null, and back: that is how it stands in a table (specs/Codec). What writes a
-- predecessor, reads one or looks at its range is then what does so for a pointer (proofs/Preds). Added by design. Assumes nothing.
use Rattle.definition.specs.Types.{Ptr, Pred}

abbrev pub ptr_of_pred : Pred → Ptr
ptr_of_pred Pred.Head = Ptr.Null
ptr_of_pred (Pred.Entry s) = Ptr.At s

abbrev pub pred_of_ptr : Ptr → Pred
pred_of_ptr Ptr.Null = Pred.Head
pred_of_ptr (Ptr.At s) = Pred.Entry s
