-- The ranges row by row: what one participant's row and bag have to be, and what one node's have to be, where the lists are read as
-- rows. One pass over a list looks at all that is in a row. The definition's `in_range` asks the same, column by column
-- (`in_range-rows` of proofs/Laws). Assumes nothing.
use Rattle.std.specs.Prelude.{Bool, ◌&&◌, List, ℕ, leb, get_or}
use Rattle.definition.specs.Base.{Tab, all}
use Rattle.definition.specs.Bags.{max_objects}
use Rattle.definition.specs.Ranges.{entry_pointer_in, head_pointer_in, node_pointer_in, end_pointer_in, record_in, bag_in}
use Rattle.definition.specs.Layout.{Lent, cell, participant_words, node_words, record_at}

module _ (N M : ℕ) where
  -- a participant's row and its bag's, beside a set-aside total: the pointer to its next entry, its record, its bag
  unfoldable pub participant_in : (aside : ℕ) (row bag : Tab ℕ) → Bool
  participant_in aside row bag = entry_pointer_in N M (row 1) && record_in N M aside (record_at row) && bag_in N M (record_at row).held bag

  -- of each participant
  unfoldable pub participants_in : Lent → Bool
  participants_in l = all N (λ i. participant_in (get_or l.globals 4 0) (cell participant_words l.participants i) (cell max_objects l.held i))

  -- a node's row and its bag's: the pointer to its next node, its bag
  unfoldable pub node_row_in : (row bag : Tab ℕ) → Bool
  node_row_in row bag = node_pointer_in N M (row 0) && bag_in N M (row 2) bag

  -- of each node
  unfoldable pub nodes_in : Lent → Bool
  nodes_in l = all M (λ k. node_row_in (cell node_words l.nodes k) (cell max_objects l.queued k))

  -- the words before the free bits: the list's head, the queue's ends, the set-aside total
  unfoldable pub globals_in : (globals : List ℕ) → Bool
  globals_in g = head_pointer_in N M (get_or g 1 0) && end_pointer_in N M (get_or g 2 0) && end_pointer_in N M (get_or g 3 0) && leb (get_or g 4 0) M
