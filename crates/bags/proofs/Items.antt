-- Items: an item and its word are the same thing said twice; what is in range; whether a bag has a token; what a list of items frees, bag after bag.
-- Assumes nothing.
use mathlib.Core.Path.{◌≡◌, refl, ◌∙◌}
use mathlib.Core.Bool.{Bool, true, false}
use mathlib.Core.List.{List, [], ◌∷◌, ◌++◌}
use Prim.Native.Nat.{ℕ, zero, suc, ◌+◌, ◌-◌, ◌*◌, ◌/◌, ◌%◌, ◌^◌, ◌≤◌, ◌<◌}
use native.Mathlib.Omega.{arith}
use lib.Dec.{ltb, eqb}
use lib.ListN.{length, take, drop, length-append, length-drop}
use borrow.Author.Tests.{ltb-true}
use Rattle.definition.specs.Base.{branch, Tab, put, listed, among}
use Rattle.definition.specs.Bags.{item_word, item_of, items, tokens, free_slots, free_nodes}
use Rattle.definition.specs.Ranges.{item_in}
use Rattle.definition.specs.declared.Slot.{Slot}
use Rattle.definition.specs.declared.Node.{Node}
use Rattle.definition.specs.declared.Item.{Item}
use Rattle.definition.proofs.Base.{branch_ind, both}
use Rattle.definition.proofs.Held.{tokens_append}
use Rattle.bits.specs.Bits.{words_at, words_of}
use Rattle.bits.proofs.Laws.{slice_word, length_slice}
use Rattle.bags.specs.Bags.{filled, free_item, free_items, item_value}

-- ---- words

-- an item is read back from its word
pub item_back : (item : Item) → item_of (item_word item) ≡ item
unfolding item_of item_word branch
item_back (Item.Token t) =
    let r : (4 * t + 1) % 4 ≡ 1 = omega arith in
    let q : (4 * t + 1) / 4 ≡ t = omega arith in
    rw (r, q)
item_back (Item.Node n) =
    let r : (4 * n.0 + 2) % 4 ≡ 2 = omega arith in
    let q : (4 * n.0 + 2) / 4 ≡ n.0 = omega arith in
    rw (r, q)
item_back (Item.Slot s) =
    let r : (4 * s.0 + 3) % 4 ≡ 3 = omega arith in
    let q : (4 * s.0 + 3) / 4 ≡ s.0 = omega arith in
    rw (r, q)

-- its word is a word
pub item_word-lt : (item : Item) → item_value item < 2 ^ 62 → item_word item < 2 ^ 64
unfolding item_word item_value
item_word-lt (Item.Token t) h = omega arith
item_word-lt (Item.Node n) h = omega arith
item_word-lt (Item.Slot s) h = omega arith

-- a proof about the item of a word in range is one about a token, about a node in range and about a slot in range
pub item_ind {ℓ} : (P : Item → Type ℓ) (N M w : ℕ) → item_in N M w ≡ true → ((t : ℕ) → P (Item.Token t))
    → ((n : Node) → n.0 < M → P (Item.Node n)) → ((s : Slot) → s.0 < N → P (Item.Slot s)) → P (item_of w)
unfolding item_in item_of branch
item_ind P N M w h token node slot =
    branch_ind P (eqb (w % 4) 1) (λ e. token (w / 4)) (λ e.
    branch_ind P (eqb (w % 4) 2)
    (λ f. node (record { 0 = w / 4 }) (ltb-true (w / 4) M (rw (e, f) at h)))
    (λ f. slot (record { 0 = w / 4 }) (ltb-true (w / 4) N (both (eqb (w % 4) 3) (ltb (w / 4) N) (rw (e, f) at h)).1)))

-- the same words are the same items
pub items_same : (k : ℕ) (c d : Tab ℕ) → ((j : ℕ) → j < k → c j ≡ d j) → items k c ≡ items k d
unfolding items listed
items_same zero c d h = refl
items_same (suc k) c d h = rw (items_same k c d (λ j l. h j (omega arith)), h k (omega arith))

-- a bag's words lent alone are the same items as in their list
pub items_slice : (l : List ℕ) (at k : ℕ) → at + k ≤ length l
    → items (length (take (at + k - at) (drop at l))) (words_of (take (at + k - at) (drop at l))) ≡ items k (words_at l at)
items_slice l at k fits =
    rw (length_slice l at k fits) (items_same k (words_of (take (at + k - at) (drop at l))) (words_at l at) (slice_word l at k))

-- ---- a token looked for

-- a test is what it chooses between
test_is : (b : Bool) → b ≡ branch b true false
unfolding branch
test_is true = refl
test_is false = refl

-- a token is told by its number
pub token_test : (x t : ℕ) (i : Item) → i ≡ Item.Token t → eqb x t ≡ among x (tokens (i ∷ []))
unfolding tokens among
token_test x t i e = rw e (test_is (eqb x t))

-- and what is no token is not this one
pub token_none : (x : ℕ) (i : Item) → ((t : ℕ) → i ≡ Item.Token t → ⊥) → false ≡ among x (tokens (i ∷ []))
unfolding tokens among
token_none x (Item.Token t) h = absurd (h t refl)
token_none x (Item.Node n) h = refl
token_none x (Item.Slot s) h = refl

-- ---- lists of items

-- what comes out of two lists, one after the other (the tokens: `tokens_append` of crates/definition): the free slots
pub free_slots_append : (l m : List Item) (f : Tab Bool) → free_slots (l ++ m) f ≡ free_slots m (free_slots l f)
unfolding free_slots
free_slots_append [] m f = refl
free_slots_append (Item.Token t ∷ l) m f = free_slots_append l m f
free_slots_append (Item.Node n ∷ l) m f = free_slots_append l m f
free_slots_append (Item.Slot s ∷ l) m f = free_slots_append l m (put f s.0 true)

-- the free nodes
pub free_nodes_append : (l m : List Item) (f : Tab Bool) → free_nodes (l ++ m) f ≡ free_nodes m (free_nodes l f)
unfolding free_nodes
free_nodes_append [] m f = refl
free_nodes_append (Item.Token t ∷ l) m f = free_nodes_append l m f
free_nodes_append (Item.Node n ∷ l) m f = free_nodes_append l m (put f n.0 true)
free_nodes_append (Item.Slot s ∷ l) m f = free_nodes_append l m f

-- and the free bits in their list
pub free_items_append : (N : ℕ) (l m : List Item) (g : List ℕ) → free_items N (l ++ m) g ≡ free_items N m (free_items N l g)
unfolding free_items
free_items_append N [] m g = refl
free_items_append N (i ∷ l) m g = free_items_append N l m (free_item N i g)

-- one item has at most one token
token_few : (item : Item) → length (tokens (item ∷ [])) ≤ 1
unfolding tokens
token_few (Item.Token t) = omega arith
token_few (Item.Node n) = omega arith
token_few (Item.Slot s) = omega arith

-- so k items have at most k
pub tokens_few : (k : ℕ) (d : Tab ℕ) → length (tokens (items k d)) ≤ k
unfolding items listed tokens
tokens_few zero d = omega arith
tokens_few (suc k) d =
    let last : List Item = item_of (d k) ∷ [] in
    rw (tokens_append (items k d) last, length-append (tokens (items k d)) (tokens last))
    (omega (arith, tokens_few k d, token_few (item_of (d k))))

-- a list with tokens at its front is as long as it was
pub length-filled : (ts l : List ℕ) → length ts ≤ length l → length (filled ts l) ≡ length l
length-filled ts l h = length-append ts (drop (length ts) l) ∙ rw length-drop (omega arith)
