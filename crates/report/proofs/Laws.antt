-- The lines of slots, one more at a time. Assumes nothing.
use Rattle.std.proofs.Common.{◌≡◌, ℕ, zero, suc, ◌+◌, ◌<◌, List, [], ◌∷◌, ◌++◌, sym, ap, ◌∙◌, arith, length, take, append-nil}
use mathlib.Core.List.{append_assoc}
use lib.ListN.{get_or}
use Rattle.definition.specs.declared.Report.{Report}
use Rattle.report.specs.Lines.{line_of, lines_of}

-- one slot more
pub lines_more : (q : ℕ) (l : List Report) (n m : ℕ) (d : Report) → n < length l → m ≡ q + n
    → lines_of q (take n l) ++ line_of m (get_or l n d) ≡ lines_of q (take (suc n) l)
unfolding lines_of
lines_more q [] n m d h e = absurd (omega arith)
lines_more q (r ∷ l) zero m d h e =
    let same : m ≡ q = omega arith in
    rw same (sym (append-nil (line_of q r)))
lines_more q (r ∷ l) (suc n) m d h e =
    append_assoc (line_of q r) (lines_of (q + 1) (take n l)) (line_of m (get_or l n d))
    ∙ ap (λ (x : List ℕ). line_of q r ++ x) (lines_more (q + 1) l n m d (omega arith) (omega arith))
