-- Ranges row by row, and sizes: laws that the proofs of the functions cite, and crates above. Assumes nothing.
use mathlib.Core.Path.{◌≡◌, refl, ap, ap₂, sym, ◌∙◌}
use mathlib.Core.Bool.{Bool, true, false, ◌&&◌}
use mathlib.Core.List.{List, []}
use Prim.Native.Nat.{ℕ, zero, suc, ◌+◌, ◌*◌, ◌≤◌, ◌<◌}
use native.Mathlib.Omega.{arith}
use native.Mathlib.Numerals.{add-one}
use lib.Dec.{eqb, leb}
use lib.ListN.{get_or, length, take, drop}
use lib.Seq.{take-length}
use Rattle.std.specs.List.{list_all, zip}
use Rattle.std.specs.Simd.{first_chunks}
use Rattle.std.proofs.lemmas.List.Folds.{list_all_more}
use Rattle.std.proofs.lemmas.Slice.Zip.{length-zip, get_or-zip}
use borrow.Author.Tests.{leb-true, le-leb}
use Rattle.definition.specs.Base.{Tab, all, branch}
use Rattle.definition.specs.Bags.{max_objects}
use Rattle.definition.specs.Ranges.{within_limits, max_participants, max_nodes, bit_words, item_in, bag_in, record_in, bits_in, shared_in, in_range}
use Rattle.definition.specs.Ranges.{entry_pointer_in, head_pointer_in, node_pointer_in, end_pointer_in}
use Rattle.definition.specs.Layout.{Lent, cell, participant_words, node_words, global_words, record_at, sized, slot_bits, node_bits}
use Rattle.definition.specs.Layout.{shared_from, bag_from, tables_of}
use Rattle.definition.proofs.Base.{both, and_intro, all_at, all_intro}
use Rattle.definition.proofs.Lists.{cell_in}
use Rattle.lent.proofs.Laws.{row_part, row_cells}
use Rattle.bits.specs.Bits.{within, words_of}
use Rattle.bits.proofs.Table.{all_ext}
use Rattle.ranges.specs.Rows.{participant_in, participants_in, node_row_in, nodes_in, globals_in}

-- ---- a test of each entry of a list, and of each row

module _ {X : Type 0} (p : X → Bool) (d : X) where
  -- of a list's first i
  list_all_first : (xs : List X) (i : ℕ) → i ≤ length xs → list_all p (take i xs) ≡ all i (λ j. p (get_or xs j d))
  unfolding all
  list_all_first xs zero l = refl
  list_all_first xs (suc i) l =
      let h : list_all p (take i xs) ≡ all i (λ j. p (get_or xs j d)) = list_all_first xs i (omega arith) in
      rw (← h) (rw (add-one i) at (list_all_more p xs i d (omega arith)))

  -- of all of a list
  pub all_list : (xs : List X) → list_all p xs ≡ all (length xs) (λ j. p (get_or xs j d))
  all_list xs = rw (take-length xs) at (list_all_first xs (length xs) (omega arith))

-- so many rows
length_rows : (w n : ℕ) (l : List ℕ) → length (first_chunks w n l) ≡ n
length_rows w zero l = refl
length_rows w (suc n) l = ap suc (length_rows w n (drop w l))

-- of each row of one list beside the row of another, where both have n
pub all_rows : (n v w : ℕ) (p q : List ℕ) (test : Tab ℕ → Tab ℕ → Bool) → {j k : ℕ} → j ≡ n → k ≡ n
    → list_all (λ (r : List ℕ × List ℕ). test (words_of r.0) (words_of r.1)) (zip (first_chunks v j p) (first_chunks w k q))
    ≡ all n (λ i. test (cell v p i) (cell w q i))
all_rows n v w p q test e f =
    let ps = first_chunks v n p in
    let qs = first_chunks w n q in
    let of : List ℕ × List ℕ → Bool = λ r. test (words_of r.0) (words_of r.1) in
    let long : length (zip ps qs) ≡ n = omega (arith, length-zip ps qs, length_rows v n p, length_rows w n q) in
    let at : (i : ℕ) → i < n → of (get_or (zip ps qs) i ([], [])) ≡ test (cell v p i) (cell w q i) = λ i l.
    ap of (get_or-zip ps qs i ([], []) (omega (arith, length_rows v n p)) (omega (arith, length_rows w n q)))
    ∙ ap₂ test (ap words_of (row_part v n p i l) ∙ row_cells v p i) (ap words_of (row_part w n q i l) ∙ row_cells w q i) in
    rw (e, f) (all_list of ([], []) (zip ps qs) ∙ rw long (all_ext n _ _ at))

-- ---- bags

-- the words that a bag of k items holds are the first of its row
pub bag_words : (N M k : ℕ) (l : List ℕ) → k ≤ 64 → 64 ≤ length l → list_all (item_in N M) (take k l) ≡ bag_in N M k (words_of l)
unfolding bag_in max_objects
bag_words N M k l h fits = rw (le-leb k 64 h) (list_all_first (item_in N M) 0 l k (omega arith))

-- ---- words of rows

-- a participant's link is the second word of its row
pub link_cell : (p : List ℕ) (i : ℕ) → cell participant_words p i 1 ≡ get_or p (i * 21 + 1) 0
unfolding participant_words
link_cell p i = cell_in 21 p i 1 (omega arith)

-- a record is read of its row alone
pub row_record : (row : List ℕ) → record_at (cell participant_words row 0) ≡ record_at (words_of row)
unfolding record_at cell participant_words branch
row_record row = refl

-- ---- rows and columns

-- two tests agree if each follows from the other
same_test : (a b : Bool) → (a ≡ true → b ≡ true) → (b ≡ true → a ≡ true) → a ≡ b
same_test true b f g = sym (f refl)
same_test false true f g = g refl
same_test false false f g = refl

-- both at every index, or the one at every index and the other at every index
pub all_both : (n : ℕ) (f g : Tab Bool) → all n (λ i. f i && g i) ≡ (all n f && all n g)
all_both n f g =
    same_test (all n (λ i. f i && g i)) (all n f && all n g)
    (λ h. and_intro (all n f) (all n g)
    (all_intro n f (λ i l. (both (f i) (g i) (all_at n (λ j. f j && g j) i h l)).0))
    (all_intro n g (λ i l. (both (f i) (g i) (all_at n (λ j. f j && g j) i h l)).1)))
    (λ h.
    let p = both (all n f) (all n g) h in
    all_intro n (λ i. f i && g i) (λ i l. and_intro (f i) (g i) (all_at n f i p.0 l) (all_at n g i p.1 l)))

-- the order of the code and the order of the definition: the list's head and the queue's ends; the total; the free bits; the columns of
-- the participants; those of the nodes
regroup : (a d s t e f g h i : Bool) → (a && d && (s && t) && (e && f && g) && (h && i)) ≡ (a && e && h && d && f && s && t && g && i)
regroup a d s t e f g h i =
    same_test (a && d && (s && t) && (e && f && g) && (h && i)) (a && e && h && d && f && s && t && g && i)
    (λ z.
    let y = both (a && d && (s && t) && (e && f && g)) (h && i) z in
    let x = both (a && d && (s && t)) (e && f && g) y.0 in
    let w = both (a && d) (s && t) x.0 in
    let v = both s t w.1 in
    let u = both a d w.0 in
    let g' = both (e && f) g x.1 in
    let f' = both e f g'.0 in
    let i' = both h i y.1 in
    rw (u.0, u.1, v.0, v.1, f'.0, f'.1, g'.1, i'.0, i'.1))
    (λ z.
    let y = both (a && e && h && d && f && s && t && g) i z in
    let x = both (a && e && h && d && f && s && t) g y.0 in
    let w = both (a && e && h && d && f && s) t x.0 in
    let v = both (a && e && h && d && f) s w.0 in
    let u = both (a && e && h && d) f v.0 in
    let r = both (a && e && h) d u.0 in
    let q = both (a && e) h r.0 in
    let p = both a e q.0 in
    rw (p.0, p.1, q.1, r.1, u.1, v.1, w.1, x.1, y.1))

-- the participants' rows are their links, their records and their bags
participants-columns : (N M aside : ℕ) (p h : List ℕ) → all N (λ i. participant_in N M aside (cell participant_words p i) (cell max_objects h i))
    ≡ (all N (λ i. entry_pointer_in N M (cell participant_words p i 1)) && all N (λ i. record_in N M aside (record_at (cell participant_words p i)))
    && all N (λ i. bag_in N M (record_at (cell participant_words p i)).held (cell max_objects h i)))
unfolding participant_in
participants-columns N M aside p h =
    let links : Tab Bool = λ i. entry_pointer_in N M (cell participant_words p i 1) in
    let records : Tab Bool = λ i. record_in N M aside (record_at (cell participant_words p i)) in
    let bags : Tab Bool = λ i. bag_in N M (record_at (cell participant_words p i)).held (cell max_objects h i) in
    all_both N (λ i. links i && records i) bags ∙ ap (λ (b : Bool). b && all N bags) (all_both N links records)

-- the nodes' rows are their links and their bags
nodes-columns : (N M : ℕ) (n q : List ℕ) → all M (λ k. node_row_in N M (cell node_words n k) (cell max_objects q k))
    ≡ (all M (λ k. node_pointer_in N M (cell node_words n k 0)) && all M (λ k. bag_in N M (cell node_words n k 2) (cell max_objects q k)))
unfolding node_row_in
nodes-columns N M n q = all_both M (λ k. node_pointer_in N M (cell node_words n k 0)) (λ k. bag_in N M (cell node_words n k 2) (cell max_objects q k))

-- row by row, or column by column
pub in_range-rows : (N M : ℕ) (l : Lent) → let g = l.globals in
    (globals_in N M g && (within (bit_words N) N (slot_bits N g) && within (bit_words M) M (node_bits N M g))
    && participants_in N M l && nodes_in N M l)
    ≡ in_range N M (tables_of N M l)
unfolding in_range shared_in tables_of shared_from bag_from bits_in globals_in participants_in nodes_in
in_range-rows N M l =
    let g = l.globals in
    let p = l.participants in
    rw (participants-columns N M (get_or g 4 0) p l.held, nodes-columns N M l.nodes l.queued)
    (regroup
    (head_pointer_in N M (get_or g 1 0) && end_pointer_in N M (get_or g 2 0) && end_pointer_in N M (get_or g 3 0))
    (leb (get_or g 4 0) M)
    (within (bit_words N) N (slot_bits N g))
    (within (bit_words M) M (node_bits N M g))
    (all N (λ i. entry_pointer_in N M (cell participant_words p i 1)))
    (all N (λ i. record_in N M (get_or g 4 0) (record_at (cell participant_words p i))))
    (all N (λ i. bag_in N M (record_at (cell participant_words p i)).held (cell max_objects l.held i)))
    (all M (λ k. node_pointer_in N M (cell node_words l.nodes k 0)))
    (all M (λ k. bag_in N M (cell node_words l.nodes k 2) (cell max_objects l.queued k))))

-- ---- sizes

-- the lengths, by their numbers
pub sized_words : (N M : ℕ) (l : Lent)
    → (eqb (length l.globals) (5 + bit_words N + bit_words M) && eqb (length l.participants) (N * 21) && eqb (length l.nodes) (M * 3)
    && eqb (length l.held) (N * 64) && eqb (length l.queued) (M * 64)) ≡ sized N M l
unfolding sized global_words participant_words node_words max_objects
sized_words N M l = refl

-- what it says that sizes are taken. Of the limits no more is known than this: a raised one, up to 4,096, changes no proof
pub limits-small : (N M : ℕ) → within_limits N M ≡ true → (1 ≤ N) × ((N ≤ 4096) × ((2 ≤ M) × (M ≤ 4096)))
unfolding within_limits max_participants max_nodes
limits-small N M h =
    let a = both (leb 1 N && leb N max_participants && leb 2 M) (leb M max_nodes) h in
    let b = both (leb 1 N && leb N max_participants) (leb 2 M) a.0 in
    let c = both (leb 1 N) (leb N max_participants) b.0 in
    let n = leb-true N max_participants c.1 in
    let m = leb-true M max_nodes a.1 in
    (leb-true 1 N c.0, (omega arith, (leb-true 2 M b.1, omega arith)))

-- what `sizes` cites of them
pub ruleset limits = (limits-small)
