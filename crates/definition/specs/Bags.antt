-- Bags: internal.rs, `Bag` and `SealedBag`. An item stands in a lent list as one word: 4v + 1 for the token v, 4v + 2 for the node v,
-- 4v + 3 for the slot v; 0 is the Rust's `Deferred::NO_OP`. What freeing a bag frees, in bag order. Assumes nothing.
use Rattle.std.specs.Prelude.{Bool, true, List, [], ◌∷◌, ℕ, ◌+◌, ◌-◌, ◌*◌, ◌/◌, ◌%◌, eqb, ltb, pos}
use Rattle.std.specs.Int.Signed.{le_z}
use Rattle.epoch.specs.Epoch.{wrapping_sub}
use Rattle.definition.specs.Base.{branch, Tab, put, listed}
use Rattle.definition.specs.Types.{Item, slot, node}

-- internal.rs, `MAX_OBJECTS`
unfoldable pub max_objects : ℕ
max_objects = 64

-- document 02, No. 9: the places left in a bag of k items. (Asked where an item has just found room, so k is at most `MAX_OBJECTS`, and the
-- difference does not stop at 0: specs/Values says it as a sum)
unfoldable pub places_left : ℕ → ℕ
places_left k = max_objects - k

-- internal.rs, `SealedBag` with its `Bag`: the epoch word of the seal, how many items it holds, and their words
pub record SealedBag : Type 0 where
  pub epoch : ℕ
  pub len : ℕ
  pub deferreds : Tab ℕ

-- internal.rs, `SealedBag::is_expired`: the seal, and the epoch by which it is judged
unfoldable pub is_expired : ℕ → ℕ → Bool
is_expired sealed global = le_z (pos 2) (wrapping_sub global sealed)

-- an item as a word, and the item that a word is
unfoldable pub item_word : Item → ℕ
item_word (Item.Token t) = 4 * t + 1
item_word (Item.Node n) = 4 * n.0 + 2
item_word (Item.Slot s) = 4 * s.0 + 3

unfoldable pub item_of : ℕ → Item
item_of w = branch (eqb (w % 4) 1) (Item.Token (w / 4)) (branch (eqb (w % 4) 2) (Item.Node (node (w / 4))) (Item.Slot (slot (w / 4))))

-- the first k items of a bag
unfoldable pub items : ℕ → Tab ℕ → List Item
items k d = listed k (λ j. item_of (d j))

-- the first k places taken from one bag, the others as they were in the other
unfoldable pub moved : ℕ → Tab ℕ → Tab ℕ → Tab ℕ
moved k from to = λ j. branch (ltb j k) (from j) (to j)

-- internal.rs, `Drop` of `Bag`: each item is called, first to last. The tokens that come out
unfoldable pub tokens : List Item → List ℕ
tokens [] = []
tokens (Item.Token t ∷ l) = t ∷ tokens l
tokens (Item.Node n ∷ l) = tokens l
tokens (Item.Slot s ∷ l) = tokens l

-- the slots that are free afterwards
unfoldable pub free_slots : List Item → Tab Bool → Tab Bool
free_slots [] f = f
free_slots (Item.Token t ∷ l) f = free_slots l f
free_slots (Item.Node n ∷ l) f = free_slots l f
free_slots (Item.Slot s ∷ l) f = free_slots l (put f s.0 true)

-- the nodes that are free afterwards
unfoldable pub free_nodes : List Item → Tab Bool → Tab Bool
free_nodes [] f = f
free_nodes (Item.Token t ∷ l) f = free_nodes l f
free_nodes (Item.Node n ∷ l) f = free_nodes l (put f n.0 true)
free_nodes (Item.Slot s ∷ l) f = free_nodes l f
