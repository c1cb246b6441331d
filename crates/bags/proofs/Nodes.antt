-- The lists that hold bags, in the definition's terms: a participant's bag with an item put into it, the bag that a node's row and items
-- say, a bag sealed into a node, and a bag emptied. Assumes nothing.
use mathlib.Core.Path.{◌≡◌, sym, ap, ◌∙◌, fun_ext}
use mathlib.Core.List.{List, [], ◌∷◌}
use Prim.Native.Nat.{ℕ, suc, ◌+◌, ◌*◌, ◌≤◌, ◌<◌}
use native.Mathlib.Nat.{add-zero}
use native.Mathlib.Omega.{arith}
use lib.ListN.{length, set, drop, length-set}
use lib.Seq.{paste, sets-eq, drop-drop}
use borrow.Rule.Slice.PartMut.{put_mid}
use Rattle.std.proofs.Common.{append_assoc}
use Rattle.definition.specs.Base.{Tab, put}
use Rattle.definition.specs.Links.{null}
use Rattle.definition.specs.Bags.{max_objects, SealedBag, items, moved}
use Rattle.definition.specs.Layout.{node_words, cell, bag_from}
use Rattle.definition.proofs.Base.{put_same, put_other, put_ind, put_back}
use Rattle.definition.proofs.Lists.{cell_in}
use Rattle.bits.specs.Bits.{words_at}
use Rattle.bags.specs.Bags.{stamped, bag_seal, bag_len}
use Rattle.bags.proofs.Items.{items_same}
use Rattle.bags.proofs.Cells.{cell-set, column, column_set, column_set_other, cell-paste}

-- ---- a participant's bag

-- an item's word put into the bag of participant p
pub held-put : (held : List ℕ) (p k v : ℕ) → k < 64 → p * 64 + k < length held
    → cell max_objects (set held (p * 64 + k) v) ≡ put (cell max_objects held) p (put (cell max_objects held p) k v)
unfolding max_objects
held-put held p k v h fits = cell-set 64 held p k v h fits

-- the items of that bag are the words of its row
pub held-items : (held : List ℕ) (p k : ℕ) → k ≤ 64 → items k (cell max_objects held p) ≡ items k (words_at held (p * 64))
unfolding max_objects
held-items held p k h = items_same k (cell 64 held p) (words_at held (p * 64)) (λ j lt. cell_in 64 held p j (omega arith))

-- ---- the bag of a node, as its row says

-- its seal
pub bag-epoch : (nodes queued : List ℕ) (n : ℕ) → (bag_from nodes queued n).epoch ≡ bag_seal nodes n
unfolding bag_from node_words
bag-epoch nodes queued n = cell_in 3 nodes n 1 (omega arith)

-- its length
pub bag-len : (nodes queued : List ℕ) (n : ℕ) → (bag_from nodes queued n).len ≡ bag_len nodes n
unfolding bag_from node_words
bag-len nodes queued n = cell_in 3 nodes n 2 (omega arith)

-- its items' words
pub bag-deferreds : (nodes queued : List ℕ) (n j : ℕ) → j < 64 → (bag_from nodes queued n).deferreds j ≡ words_at queued (n * 64) j
unfolding bag_from max_objects
bag-deferreds nodes queued n j h = cell_in 64 queued n j h

-- ---- a bag sealed into a node, and emptied

-- a bag by its parts
abbrev bag_of : ℕ → ℕ → Tab ℕ → SealedBag
bag_of e k d = record { epoch = e; len = k; deferreds = d }

-- to change a bag of a table is to change each of its parts
bag-put : (e l : Tab ℕ) (d : Tab (Tab ℕ)) (n x y : ℕ) (z : Tab ℕ) (j : ℕ)
    → bag_of (put e n x j) (put l n y j) (put d n z j) ≡ put (λ i. bag_of (e i) (l i) (d i)) n (bag_of x y z) j
bag-put e l d n x y z j =
    put_ind (λ (b : SealedBag). bag_of (put e n x j) (put l n y j) (put d n z j) ≡ b) (λ i. bag_of (e i) (l i) (d i)) n j (bag_of x y z)
    (λ s. rw (← s, put_same e n x, put_same l n y, put_same d n z))
    (λ ne. rw (put_other e n j x ne, put_other l n j y ne, put_other d n j z ne))

-- a node's row stamped
module _ (l : List ℕ) (n e k : ℕ) (fits : n * 3 + 3 ≤ length l) where
  -- the list after the first store
  first : List ℕ
  first = set l (n * 3 + 0) null

  -- after the second
  second : List ℕ
  second = set first (n * 3 + 1) e

  -- and after the third
  stamped_is : stamped l n e k ≡ set second (n * 3 + 2) k
  unfolding stamped first second
  stamped_is = rw add-zero

  -- the row written as one is the three stores
  pub row_stamped : (w : ℕ) (ws : List ℕ) → ws ≡ 0 ∷ e ∷ k ∷ [] → w ≡ 3 → put_mid (n * 3) w l ws ≡ stamped l n e k
  unfolding stamped null
  row_stamped w ws is three =
      sym (ap (λ (a : ℕ). set (set (set l (n * 3) 0) a e) (n * 3 + 2) k) (omega arith)
      ∙ ap (λ (a : ℕ). set (set (set l (n * 3) 0) (suc (n * 3)) e) a k) (omega arith)
      ∙ sets-eq (0 ∷ e ∷ k ∷ []) l (n * 3) (omega arith) ∙ rw (is, three, drop-drop, append_assoc))

  -- all of them as long as it was
  length_first : length first ≡ length l
  unfolding first
  length_first = length-set l (n * 3 + 0) null

  length-second : length second ≡ length l
  unfolding second
  length-second = length-set first (n * 3 + 1) e ∙ length_first

  pub length-stamped : length (stamped l n e k) ≡ length l
  length-stamped = ap length stamped_is ∙ length-set second (n * 3 + 2) k ∙ length-second

  -- its columns: next
  next_stamped : column 3 0 (stamped l n e k) ≡ put (column 3 0 l) n null
  unfolding first second
  next_stamped =
      ap (column 3 0) stamped_is
      ∙ column_set_other 3 second n 2 k 0 (omega arith) (omega (arith, length-second)) (λ z. omega arith)
      ∙ column_set_other 3 first n 1 e 0 (omega arith) (omega (arith, length_first)) (λ z. omega arith)
      ∙ column_set 3 l n 0 null (omega arith) (omega arith)

  -- seal
  seal-stamped : column 3 1 (stamped l n e k) ≡ put (column 3 1 l) n e
  unfolding first second
  seal-stamped =
      ap (column 3 1) stamped_is
      ∙ column_set_other 3 second n 2 k 1 (omega arith) (omega (arith, length-second)) (λ z. omega arith)
      ∙ column_set 3 first n 1 e (omega arith) (omega (arith, length_first))
      ∙ ap (λ (t : Tab ℕ). put t n e) (column_set_other 3 l n 0 null 1 (omega arith) (omega arith) (λ z. omega arith))

  -- length
  len-stamped : column 3 2 (stamped l n e k) ≡ put (column 3 2 l) n k
  unfolding first second
  len-stamped =
      ap (column 3 2) stamped_is
      ∙ column_set 3 second n 2 k (omega arith) (omega (arith, length-second))
      ∙ ap (λ (t : Tab ℕ). put t n k)
      (column_set_other 3 first n 1 e 2 (omega arith) (omega (arith, length_first)) (λ z. omega arith)
      ∙ column_set_other 3 l n 0 null 2 (omega arith) (omega arith) (λ z. omega arith))

  -- in the definition's terms: node n's next is null
  pub next_sealed : column node_words 0 (stamped l n e k) ≡ put (column node_words 0 l) n null
  unfolding node_words
  next_sealed = next_stamped

  -- and its bag is that of row p of `held`
  pub bag_sealed : (held queued : List ℕ) (p : ℕ) → k ≤ 64 → p * 64 + k ≤ length held → n * 64 + k ≤ length queued
      → bag_from (stamped l n e k) (paste queued (n * 64) (drop (p * 64) held) k)
      ≡ put (bag_from l queued) n (record { epoch = e; len = k; deferreds = moved k (cell max_objects held p) (cell max_objects queued n) })
  unfolding bag_from node_words max_objects
  bag_sealed held queued p small hs hq =
      fun_ext (λ j.
      rw (cell-paste 64 queued held n p k small hq hs) (
      (λ i. bag_of (seal-stamped i j) (len-stamped i j) (put (cell 64 queued) n (moved k (cell 64 held p) (cell 64 queued n)) j))
      ∙ bag-put (column 3 1 l) (column 3 2 l) (cell 64 queued) n e k (moved k (cell 64 held p) (cell 64 queued n)) j))

-- a bag that was freed holds nothing, and is otherwise as it was
pub bag-emptied : (l queued : List ℕ) (n : ℕ) → n * 3 + 3 ≤ length l
    → bag_from (set l (n * 3 + 2) 0) queued
    ≡ put (bag_from l queued) n (record { epoch = (bag_from l queued n).epoch; len = 0; deferreds = (bag_from l queued n).deferreds })
unfolding bag_from node_words max_objects
bag-emptied l queued n fits =
    let seal = column_set_other 3 l n 2 0 1 (omega arith) (omega arith) (λ z. omega arith) in
    let len = column_set 3 l n 2 0 (omega arith) (omega arith) in
    fun_ext (λ j.
    (λ i. bag_of ((ap (λ (t : Tab ℕ). t j) seal ∙ sym (put_back (column 3 1 l) n j)) i) (len i j) (sym (put_back (cell 64 queued) n j) i))
    ∙ bag-put (column 3 1 l) (column 3 2 l) (cell 64 queued) n (cell 3 l n 1) 0 (cell 64 queued n) j)

-- and the nexts stay
pub next_emptied : (l : List ℕ) (n : ℕ) → n * 3 + 3 ≤ length l → column node_words 0 (set l (n * 3 + 2) 0) ≡ column node_words 0 l
unfolding node_words
next_emptied l n fits = column_set_other 3 l n 2 0 0 (omega arith) (omega arith) (λ z. omega arith)
