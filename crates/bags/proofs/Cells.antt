-- A list as rows: what a store into one cell, and a copy into the front of one row, do to the table that the list holds. Over any width.
-- Assumes nothing.
use mathlib.Core.Path.{◌≡◌, refl, sym, ap, ◌∙◌, fun_ext}
use mathlib.Core.Logic.{◌≢◌}
use mathlib.Core.List.{List, ◌++◌}
use Prim.Native.Nat.{ℕ, ◌+◌, ◌-◌, ◌*◌, ◌/◌, ◌≤◌, ◌<◌}
use native.Mathlib.Omega.{arith}
use lib.Arith.{digits_div}
use lib.ListN.{length, get_or, set, drop, take, length-drop, get_or-append}
use lib.Seq.{get_or-set_same, get_or-set_other, get_or-take, get_or-drop, get_or-append-add, paste, take-paste, drop-paste, length-take-le}
use borrow.Author.Tests.{lt-ltb, le-ltb}
use Rattle.definition.specs.Base.{Tab, put}
use Rattle.definition.specs.Bags.{moved}
use Rattle.definition.specs.Layout.{cell}
use Rattle.definition.proofs.Base.{put_same, put_other, put_ind, branch-true, branch-false}
use Rattle.definition.proofs.Lists.{cell_in}
use Rattle.bits.proofs.Table.{below?}

-- ---- cells: within its row a cell is a word of the list (`cell_in`)

-- beyond its row, nothing stands
pub cell_out : (w : ℕ) (l : List ℕ) (i c : ℕ) → w ≤ c → cell w l i c ≡ 0
unfolding cell
cell_out w l i c h = branch-false (get_or l (i * w + c) 0) 0 (le-ltb c w h)

-- cells of different rows stand at different places
rows-apart : (w i c j d : ℕ) → c < w → d < w → i ≢ j → j * w + d ≢ i * w + c
rows-apart w i c j d h k ne e = ne (sym (digits_div i h) ∙ ap (λ (x : ℕ). x / w) (sym e) ∙ digits_div j k)

-- a store into one cell
pub cell-set : (w : ℕ) (l : List ℕ) (i c v : ℕ) → c < w → i * w + c < length l
    → cell w (set l (i * w + c) v) ≡ put (cell w l) i (put (cell w l i) c v)
cell-set w l i c v h fits = fun_ext (λ j. fun_ext (λ d. below? d w (inside j d) (beyond j d)))
  where
    inside : (j d : ℕ) → d < w → cell w (set l (i * w + c) v) j d ≡ put (cell w l) i (put (cell w l i) c v) j d
    inside j d k = cell_in w (set l (i * w + c) v) j d k ∙ sym (
        put_ind (λ (t : Tab ℕ). t d ≡ get_or (set l (i * w + c) v) (j * w + d) 0) (cell w l) i j (put (cell w l i) c v)
        (λ e.
        put_ind (λ (x : ℕ). x ≡ get_or (set l (i * w + c) v) (j * w + d) 0) (cell w l i) c d v
        (λ s. rw (← e, ← s) (sym (get_or-set_same l (i * w + c) v 0 fits)))
        (λ ne. rw (← e) (cell_in w l i d k ∙ sym (get_or-set_other l (i * w + c) (i * w + d) v 0 (λ z. ne (omega arith))))))
        (λ ne. cell_in w l j d k ∙ sym (get_or-set_other l (i * w + c) (j * w + d) v 0 (rows-apart w i c j d h k ne))))

    beyond : (j d : ℕ) → w ≤ d → cell w (set l (i * w + c) v) j d ≡ put (cell w l) i (put (cell w l i) c v) j d
    beyond j d k = cell_out w (set l (i * w + c) v) j d k ∙ sym (
        put_ind (λ (t : Tab ℕ). t d ≡ 0) (cell w l) i j (put (cell w l i) c v)
        (λ e. put_other (cell w l i) c d v (λ z. omega arith) ∙ cell_out w l i d k)
        (λ ne. cell_out w l j d k))

-- column c of the rows
abbrev pub column : ℕ → ℕ → List ℕ → Tab ℕ
column w c l = λ i. cell w l i c

-- the store changes one place of its column
pub column_set : (w : ℕ) (l : List ℕ) (i c v : ℕ) → c < w → i * w + c < length l
    → column w c (set l (i * w + c) v) ≡ put (column w c l) i v
column_set w l i c v h fits = fun_ext (λ j. ap (λ (t : Tab (Tab ℕ)). t j c) (cell-set w l i c v h fits) ∙ at j)
  where
    at : (j : ℕ) → put (cell w l) i (put (cell w l i) c v) j c ≡ put (λ j. cell w l j c) i v j
    at j =
        put_ind (λ (x : ℕ). put (cell w l) i (put (cell w l i) c v) j c ≡ x) (λ j. cell w l j c) i j v
        (λ e. rw (← e, put_same (cell w l) i (put (cell w l i) c v), put_same (cell w l i) c v))
        (λ ne. rw (put_other (cell w l) i j (put (cell w l i) c v) ne))

-- and nothing of another
pub column_set_other : (w : ℕ) (l : List ℕ) (i c v d : ℕ) → c < w → i * w + c < length l → c ≢ d
    → column w d (set l (i * w + c) v) ≡ column w d l
column_set_other w l i c v d h fits ne = fun_ext (λ j. ap (λ (t : Tab (Tab ℕ)). t j d) (cell-set w l i c v h fits) ∙ at j)
  where
    at : (j : ℕ) → put (cell w l) i (put (cell w l i) c v) j d ≡ cell w l j d
    at j =
        put_ind (λ (t : Tab ℕ). t d ≡ cell w l j d) (cell w l) i j (put (cell w l i) c v)
        (λ e. put_other (cell w l i) c d v ne ∙ rw e)
        (λ _. refl)

-- ---- a copy of n words of s to place `at` of d

module _ (d : List ℕ) (at : ℕ) (s : List ℕ) (n : ℕ) (hd : at + n ≤ length d) (hs : n ≤ length s) where
  -- before it, the list is as it was
  pub paste-before : (i : ℕ) → i < at → get_or (paste d at s n) i 0 ≡ get_or d i 0
  paste-before i h =
      let long : length (take at d) ≡ at = length-take-le at d (omega arith) in
      sym (get_or-take (at + n) (paste d at s n) i 0 (omega arith))
      ∙ ap (λ (l : List ℕ). get_or l i 0) (take-paste d at s n (omega arith) hs)
      ∙ get_or-append (take at d) (take n s) 0 i (omega arith)
      ∙ get_or-take at d i 0 h

  -- in it, there are the words copied
  pub paste_in : (i : ℕ) → i < n → get_or (paste d at s n) (at + i) 0 ≡ get_or s i 0
  paste_in i h =
      let long : length (take at d) ≡ at = length-take-le at d (omega arith) in
      sym (get_or-take (at + n) (paste d at s n) (at + i) 0 (omega arith))
      ∙ ap (λ (l : List ℕ). get_or l (at + i) 0) (take-paste d at s n (omega arith) hs)
      ∙ ap (λ (m : ℕ). get_or (take at d ++ take n s) (m + i) 0) (sym long)
      ∙ get_or-append-add (take at d) (take n s) i 0
      ∙ get_or-take n s i 0 h

  -- behind it, the list is as it was
  pub paste-behind : (i : ℕ) → at + n ≤ i → get_or (paste d at s n) i 0 ≡ get_or d i 0
  paste-behind i h =
      let e : at + n + (i - (at + n)) ≡ i = omega arith in
      ap (λ (m : ℕ). get_or (paste d at s n) m 0) (sym e)
      ∙ sym (get_or-drop (at + n) (paste d at s n) (i - (at + n)) 0)
      ∙ ap (λ (l : List ℕ). get_or l (i - (at + n)) 0) (drop-paste d at s n (omega arith) hs)
      ∙ get_or-drop (at + n) d (i - (at + n)) 0
      ∙ ap (λ (m : ℕ). get_or d m 0) e

-- the front of row p of one list copied to the front of row i of another
pub cell-paste : (w : ℕ) (l s : List ℕ) (i p n : ℕ) → n ≤ w → i * w + n ≤ length l → p * w + n ≤ length s
    → cell w (paste l (i * w) (drop (p * w) s) n) ≡ put (cell w l) i (moved n (cell w s p) (cell w l i))
unfolding moved
cell-paste w l s i p n fits hl hs = fun_ext (λ j. fun_ext (λ c. below? c w (inside j c) (beyond j c)))
  where
    q : List ℕ
    q = paste l (i * w) (drop (p * w) s) n

    room : n ≤ length (drop (p * w) s)
    room = simp length-drop (omega arith)

    row : Tab ℕ
    row = moved n (cell w s p) (cell w l i)

    own : (c : ℕ) → c < w → get_or q (i * w + c) 0 ≡ row c
    own c k =
        below? c n
        (λ b.
        paste_in l (i * w) (drop (p * w) s) n hl room c b ∙ get_or-drop (p * w) s c 0
        ∙ sym (branch-true (cell w s p c) (cell w l i c) (lt-ltb c n b) ∙ cell_in w s p c k))
        (λ b.
        paste-behind l (i * w) (drop (p * w) s) n hl room (i * w + c) (omega arith)
        ∙ sym (branch-false (cell w s p c) (cell w l i c) (le-ltb c n b) ∙ cell_in w l i c k))

    other : (j c : ℕ) → c < w → i ≢ j → get_or q (j * w + c) 0 ≡ cell w l j c
    other j c k ne =
        below? (j * w + c) (i * w)
        (λ b. paste-before l (i * w) (drop (p * w) s) n hl room (j * w + c) b ∙ sym (cell_in w l j c k))
        (λ b.
        below? (j * w + c) (i * w + n)
        (λ z.
        let e : j * w + c ≡ i * w + (j * w + c - i * w) = omega arith in
        absurd (rows-apart w i (j * w + c - i * w) j c (omega arith) k ne e))
        (λ z. paste-behind l (i * w) (drop (p * w) s) n hl room (j * w + c) z ∙ sym (cell_in w l j c k)))

    inside : (j c : ℕ) → c < w → cell w q j c ≡ put (cell w l) i row j c
    inside j c k =
        cell_in w q j c k
        ∙ put_ind (λ (t : Tab ℕ). get_or q (j * w + c) 0 ≡ t c) (cell w l) i j row (λ e. rw (← e) (own c k)) (other j c k)

    beyond : (j c : ℕ) → w ≤ c → cell w q j c ≡ put (cell w l) i row j c
    beyond j c k =
        cell_out w q j c k
        ∙ put_ind (λ (t : Tab ℕ). 0 ≡ t c) (cell w l) i j row
        (λ e. sym (branch-false (cell w s p c) (cell w l i c) (le-ltb c n (omega arith)) ∙ cell_out w l i c k))
        (λ ne. sym (cell_out w l j c k))
