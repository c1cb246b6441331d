-- Sealing and freeing a bag at the level of the lists that hold it. Rows of items are 64 words wide and rows of nodes 3, as the
-- definition's `max_objects` and `node_words` say. What the lists mean is the definition's; proofs/Nodes and proofs/Freeing tie the two
-- together. Assumes nothing.
use Rattle.std.specs.Prelude.{Bool, true, List, [], ◌∷◌, ◌++◌, ℕ, ◌+◌, ◌*◌, ◌/◌, ltb, length, get_or, set, drop}
use Rattle.definition.specs.Base.{Tab, all}
use Rattle.definition.specs.Links.{null}
use Rattle.definition.specs.Bags.{item_of, items}
use Rattle.definition.specs.Layout.{global_words}
use Rattle.definition.specs.Ranges.{bit_words}
use Rattle.definition.specs.declared.Item.{Item}
use Rattle.bits.specs.Bits.{words_at, given}

-- the nodes with node n's row written: no next, sealed with e, k items
unfoldable pub stamped : List ℕ → (n e k : ℕ) → List ℕ
stamped l n e k = set (set (set l (n * 3) null) (n * 3 + 1) e) (n * 3 + 2) k

-- the bag of node n: its seal, how many items it holds, and which
abbrev pub bag_seal : (nodes : List ℕ) (n : ℕ) → ℕ
bag_seal l n = get_or l (n * 3 + 1) 0

abbrev pub bag_len : (nodes : List ℕ) (n : ℕ) → ℕ
bag_len l n = get_or l (n * 3 + 2) 0

abbrev pub bag_items : (nodes queued : List ℕ) (n : ℕ) → List Item
bag_items l q n = items (bag_len l n) (words_at q (n * 64))

-- a list with these tokens at its front, and the rest as it was
abbrev pub filled : (tokens l : List ℕ) → List ℕ
filled ts l = ts ++ drop (length ts) l

-- the free bits, for N participants, when an item is freed, and when all of them are, first to last
unfoldable pub free_item : ℕ → Item → List ℕ → List ℕ
free_item N (Item.Token t) g = g
free_item N (Item.Node n) g = given g (global_words + bit_words N) n.0
free_item N (Item.Slot s) g = given g global_words s.0

unfoldable pub free_items : ℕ → List Item → List ℕ → List ℕ
free_items N [] g = g
free_items N (i ∷ l) g = free_items N l (free_item N i g)

-- whether the free bit of an item has its word in a list of this length
unfoldable pub has_bit : (N len : ℕ) → Item → Bool
has_bit N len (Item.Token t) = true
has_bit N len (Item.Node n) = ltb (global_words + bit_words N + n.0 / 64) len
has_bit N len (Item.Slot s) = ltb (global_words + s.0 / 64) len

-- and so for the first k items of a bag
abbrev pub have_bits : (N len k : ℕ) → Tab ℕ → Bool
have_bits N len k d = all k (λ j. has_bit N len (item_of (d j)))

-- the number that an item carries
unfoldable pub item_value : Item → ℕ
item_value (Item.Token t) = t
item_value (Item.Node n) = n.0
item_value (Item.Slot s) = s.0
