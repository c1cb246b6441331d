-- Freeing the bag of a node does to the free bits what the definition says, and leaves the words before them. Assumes nothing.
use mathlib.Core.Path.{◌≡◌, refl, sym, ap, ◌∙◌}
use mathlib.Core.Bool.{Bool, true}
use mathlib.Core.List.{List, [], ◌∷◌, ◌++◌}
use Prim.Native.Nat.{ℕ, zero, suc, ◌+◌, ◌*◌, ◌/◌, ◌≤◌, ◌<◌}
use native.Mathlib.Omega.{arith}
use lib.Dec.{leb}
use lib.ListN.{length, get_or}
use borrow.Author.Tests.{leb-true, lt-ltb}
use Rattle.definition.specs.Base.{Tab, all, listed}
use Rattle.definition.specs.Bags.{max_objects, SealedBag, item_of, items, free_slots, free_nodes}
use Rattle.definition.specs.Layout.{global_words, bag_from, slot_bits, node_bits}
use Rattle.definition.specs.Ranges.{bit_words, item_in, bag_in}
use Rattle.definition.specs.declared.Item.{Item}
use Rattle.definition.proofs.Base.{both, all_at, all_intro}
use Rattle.bits.specs.Bits.{words_at}
use Rattle.bits.proofs.Laws.{length-marked, bit_words-has, slots_mark-slot, nodes-mark-slot, slots_mark-node, nodes-mark-node, early_mark}
use Rattle.bags.specs.Bags.{bag_len, bag_items, free_item, free_items, has_bit, have_bits}
use Rattle.bags.proofs.Items.{item_ind, items_same, free_slots_append, free_nodes_append, free_items_append}
use Rattle.bags.proofs.Nodes.{bag-len, bag-deferreds}

-- ---- what stays

-- the length of the list, when an item is freed
pub length-free_item : (N : ℕ) (item : Item) (g : List ℕ) → length (free_item N item g) ≡ length g
unfolding free_item
length-free_item N (Item.Token t) g = refl
length-free_item N (Item.Node n) g = length-marked g (global_words + bit_words N) n.0 true
length-free_item N (Item.Slot s) g = length-marked g global_words s.0 true

-- and when all are
pub length-free_items : (N : ℕ) (l : List Item) (g : List ℕ) → length (free_items N l g) ≡ length g
unfolding free_items
length-free_items N [] g = refl
length-free_items N (i ∷ l) g = length-free_items N l (free_item N i g) ∙ length-free_item N i g

-- the words before the free bits, when an item is freed
early_item : (N : ℕ) (item : Item) (g : List ℕ) (j : ℕ) → j < global_words → get_or (free_item N item g) j 0 ≡ get_or g j 0
unfolding free_item
early_item N (Item.Token t) g j h = refl
early_item N (Item.Node n) g j h = early_mark g (global_words + bit_words N) n.0 true (omega arith) j h
early_item N (Item.Slot s) g j h = early_mark g global_words s.0 true (omega arith) j h

-- and when all are
pub early_freed : (N : ℕ) (l : List Item) (g : List ℕ) (j : ℕ) → j < global_words → get_or (free_items N l g) j 0 ≡ get_or g j 0
unfolding free_items
early_freed N [] g j h = refl
early_freed N (i ∷ l) g j h = early_freed N l (free_item N i g) j h ∙ early_item N i g j h

-- ---- the free bits, in lists for N participants and M nodes

-- the items that a bag holds
abbrev pub items_of : SealedBag → List Item
items_of b = items b.len b.deferreds

module _ (N M : ℕ) where
  -- an item in range has its bit in the list
  pub has-bit : (len : ℕ) → global_words + bit_words N + bit_words M ≤ len → (w : ℕ) → item_in N M w ≡ true → has_bit N len (item_of w) ≡ true
  unfolding has_bit
  has-bit len fits w h =
      item_ind (λ item. has_bit N len item ≡ true) N M w h
      (λ t. refl)
      (λ n i. lt-ltb (global_words + bit_words N + n.0 / 64) len (omega (arith, bit_words-has n.0 M i)))
      (λ s i. lt-ltb (global_words + s.0 / 64) len (omega (arith, bit_words-has s.0 N i)))

  -- one item: the slots' bits afterwards are the definition's
  slots_item : (w : ℕ) (g : List ℕ) → global_words + bit_words N + bit_words M ≤ length g → item_in N M w ≡ true
      → slot_bits N (free_item N (item_of w) g) ≡ free_slots (item_of w ∷ []) (slot_bits N g)
  unfolding free_item free_slots
  slots_item w g fits h =
      item_ind (λ item. slot_bits N (free_item N item g) ≡ free_slots (item ∷ []) (slot_bits N g)) N M w h
      (λ t. refl)
      (λ n i. slots_mark-node N g n.0 true)
      (λ s i. slots_mark-slot N g s.0 true (omega arith) i)

  -- and so are the nodes'
  nodes_item : (w : ℕ) (g : List ℕ) → global_words + bit_words N + bit_words M ≤ length g → item_in N M w ≡ true
      → node_bits N M (free_item N (item_of w) g) ≡ free_nodes (item_of w ∷ []) (node_bits N M g)
  unfolding free_item free_nodes
  nodes_item w g fits h =
      item_ind (λ item. node_bits N M (free_item N item g) ≡ free_nodes (item ∷ []) (node_bits N M g)) N M w h
      (λ t. refl)
      (λ n i. nodes-mark-node N g n.0 true M fits i)
      (λ s i. nodes-mark-slot N g s.0 true M i)

  -- what holds of one item holds of k: the bits `bits_of` of the list, and what `frees` says of them
  all_freed : (bits_of : List ℕ → Tab Bool) (frees : List Item → Tab Bool → Tab Bool)
      → ((f : Tab Bool) → f ≡ frees [] f)
      → ((l m : List Item) (f : Tab Bool) → frees (l ++ m) f ≡ frees m (frees l f))
      → ((w : ℕ) (g : List ℕ) → global_words + bit_words N + bit_words M ≤ length g → item_in N M w ≡ true
      → bits_of (free_item N (item_of w) g) ≡ frees (item_of w ∷ []) (bits_of g))
      → (g : List ℕ) → global_words + bit_words N + bit_words M ≤ length g → (k : ℕ) (d : Tab ℕ) → all k (λ j. item_in N M (d j)) ≡ true
      → bits_of (free_items N (items k d) g) ≡ frees (items k d) (bits_of g)
  unfolding items listed all free_items
  all_freed bits_of frees none append one g fits zero d h = none (bits_of g)
  all_freed bits_of frees none append one g fits (suc k) d h =
      let before : List ℕ = free_items N (items k d) g in
      let last : List Item = item_of (d k) ∷ [] in
      let in_range_lem = both (all k (λ j. item_in N M (d j))) (item_in N M (d k)) h in
      ap bits_of (free_items_append N (items k d) last g)
      ∙ one (d k) before (omega (arith, length-free_items N (items k d) g)) in_range_lem.1
      ∙ ap (frees last) (all_freed bits_of frees none append one g fits k d in_range_lem.0)
      ∙ sym (append (items k d) last (bits_of g))

  -- the bag of node n, in range
  module _ (nodes queued : List ℕ) (n : ℕ) (h : bag_in N M (bag_from nodes queued n).len (bag_from nodes queued n).deferreds ≡ true) where
    -- each of its items is
    items_in_lem : all (bag_from nodes queued n).len (λ j. item_in N M ((bag_from nodes queued n).deferreds j)) ≡ true
    unfolding bag_in
    items_in_lem =
        let b : SealedBag = bag_from nodes queued n in
        (both (leb b.len max_objects) (all b.len (λ j. item_in N M (b.deferreds j))) h).1

    -- it holds no more than 64
    pub bag-small : bag_len nodes n ≤ 64
    unfolding bag_in max_objects
    bag-small =
        let b : SealedBag = bag_from nodes queued n in
        let small = leb-true b.len 64 (both (leb b.len 64) (all b.len (λ j. item_in N M (b.deferreds j))) h).0 in
        omega (arith, bag-len nodes queued n)

    -- the words that the code reads are the definition's
    same_words : (j : ℕ) → j < bag_len nodes n → words_at queued (n * 64) j ≡ (bag_from nodes queued n).deferreds j
    same_words j l = sym (bag-deferreds nodes queued n j (omega (arith, bag-small)))

    -- so the items that it frees are
    pub bag-items : bag_items nodes queued n ≡ items_of (bag_from nodes queued n)
    bag-items =
        items_same (bag_len nodes n) (words_at queued (n * 64)) (bag_from nodes queued n).deferreds same_words
        ∙ ap (λ (k : ℕ). items k (bag_from nodes queued n).deferreds) (sym (bag-len nodes queued n))

    -- they have their bits in the list, as `free_bag` requires
    pub bag-has-bits : (len : ℕ) → global_words + bit_words N + bit_words M ≤ len
        → have_bits N len (bag_len nodes n) (words_at queued (n * 64)) ≡ true
    bag-has-bits len fits =
        let b : SealedBag = bag_from nodes queued n in
        all_intro (bag_len nodes n) (λ j. has_bit N len (item_of (words_at queued (n * 64) j))) (λ j l.
        let inside = all_at b.len (λ i. item_in N M (b.deferreds i)) j items_in_lem (omega (arith, bag-len nodes queued n)) in
        ap (λ (w : ℕ). has_bit N len (item_of w)) (same_words j l) ∙ has-bit len fits (b.deferreds j) inside)

    -- the free slots when it is freed
    pub bag_slots : (g : List ℕ) → global_words + bit_words N + bit_words M ≤ length g
        → slot_bits N (free_items N (bag_items nodes queued n) g) ≡ free_slots (items_of (bag_from nodes queued n)) (slot_bits N g)
    unfolding free_slots
    bag_slots g fits =
        let b : SealedBag = bag_from nodes queued n in
        ap (λ (l : List Item). slot_bits N (free_items N l g)) bag-items
        ∙ all_freed (slot_bits N) free_slots (λ f. refl) free_slots_append slots_item g fits b.len b.deferreds items_in_lem

    -- and the free nodes
    pub bag-nodes : (g : List ℕ) → global_words + bit_words N + bit_words M ≤ length g
        → node_bits N M (free_items N (bag_items nodes queued n) g) ≡ free_nodes (items_of (bag_from nodes queued n)) (node_bits N M g)
    unfolding free_nodes
    bag-nodes g fits =
        let b : SealedBag = bag_from nodes queued n in
        ap (λ (l : List Item). node_bits N M (free_items N l g)) bag-items
        ∙ all_freed (node_bits N M) free_nodes (λ f. refl) free_nodes_append nodes_item g fits b.len b.deferreds items_in_lem
