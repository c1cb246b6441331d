-- A value that lends the lists is the same as itself, what is said of the lists that are read is said of those that are lent, and a row of a list as an
-- array has the cells of that row. Assumes nothing.
use mathlib.Core.Path.{◌≡◌, refl, ap, ◌∙◌, fun_ext}
use Prim.Native.Nat.{ℕ}
use Rattle.std.proofs.Common.{zero-mul, zero-add, zero, suc, ◌+◌, ◌*◌, ◌<◌, Bool, true, false, ltb, ltb-true, ltb-false, List, [], get_or, take, drop, arith, suc-mul, drop-drop, get_or-take, get_or-drop, length-take}
use Rattle.std.proofs.lemmas.List.{get_or_past}
use Rattle.std.specs.Simd.{first_chunks}
use Rattle.definition.specs.Base.{branch}
use Rattle.definition.specs.Layout.{Lent, cell}
use Rattle.lent.specs.declared.Lists.{Lists}
use Rattle.lent.specs.declared.ListsMut.{ListsMut}
use Rattle.lent.specs.Lists.{read, lent, Same}

pub same_self : (l : ListsMut) → Same l l
same_self l = record { n = refl; m = refl; globals = refl; participants = refl; nodes = refl; held = refl; queued = refl }

pub read_as : {A : Type 0} (f : ℕ → ℕ → Lent → A) (a : Lists) (l : ListsMut) → a.n ≡ l.n → a.m ≡ l.m → read a ≡ lent l
    → f a.n a.m (read a) ≡ f l.n l.m (lent l)
read_as f a l n m h = rw (n, m, h)

-- ---- a list as rows of w words

-- the array of index i among the first k is that part of the list
pub row_part : (w k : ℕ) (l : List ℕ) (i : ℕ) → i < k → get_or (first_chunks w k l) i [] ≡ take w (drop (i * w) l)
row_part w zero l i h = absurd (omega arith)
row_part w (suc k) l zero h = rw (zero-mul w) refl
row_part w (suc k) l (suc i) h =
    row_part w k (drop w l) i (omega arith) ∙ ap (take w) (drop-drop (i * w) w l ∙ ap (λ n. drop n l) (omega (arith, suc-mul w i)))

-- a word of it is that word of the list
pub row_word : (w : ℕ) (l : List ℕ) (i c : ℕ) → c < w → get_or (take w (drop (i * w) l)) c 0 ≡ get_or l (i * w + c) 0
row_word w l i c h = get_or-take w (drop (i * w) l) c 0 h ∙ get_or-drop (i * w) l c 0

-- its words are the row's cells; beyond it, both are 0
pub row_cells : (w : ℕ) (l : List ℕ) (i : ℕ) → (λ c. get_or (take w (drop (i * w) l)) c 0) ≡ cell w l i
unfolding cell branch
row_cells w l i = fun_ext (λ c. at c (ltb c w) refl)
  where
    at : (c : ℕ) (b : Bool) → ltb c w ≡ b → get_or (take w (drop (i * w) l)) c 0 ≡ branch b (get_or l (i * w + c) 0) 0
    at c true e = row_word w l i c (ltb-true c w e)
    at c false e = get_or_past (take w (drop (i * w) l)) c 0 (omega (arith, length-take w (drop (i * w) l), ltb-false c w e))

-- and so are the cells of that part alone, as a list of one row
pub one_row : (w : ℕ) (l : List ℕ) (i : ℕ) → cell w (take w (drop (i * w) l)) 0 ≡ cell w l i
unfolding cell branch
one_row w l i = fun_ext (λ c. at c (ltb c w) refl)
  where
    at : (c : ℕ) (b : Bool) → ltb c w ≡ b → branch b (get_or (take w (drop (i * w) l)) (0 * w + c) 0) 0 ≡ branch b (get_or l (i * w + c) 0) 0
    at c true e =
        ap (λ n. get_or (take w (drop (i * w) l)) (n + c) 0) (zero-mul w) ∙ ap (λ n. get_or (take w (drop (i * w) l)) n 0) (zero-add c)
        ∙ row_word w l i c (ltb-true c w e)
    at c false e = refl
