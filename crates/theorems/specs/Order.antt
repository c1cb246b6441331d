-- The order of the queue, told by the tables before and after each event: which nodes were linked, which left with their bags, and what still hangs
-- on the head, each with its bag. A node is linked where some node's next turns from null to a pointer to it (a node that is taken has its next made
-- null, which is no link). A bag leaves where the head moves: queue.rs, `pop_if_internal`, moves it to the next node and takes that node's
-- bag. Assumes nothing.
use Rattle.std.specs.Prelude.{◌≡◌, Bool, true, ◌&&◌, not, List, [], ◌∷◌, ◌++◌, ℕ, zero, suc, eqb}
use Rattle.definition.specs.Base.{branch, Tab}
use Rattle.definition.specs.Links.{link, is_null, index}
use Rattle.definition.specs.Bags.{items}
use Rattle.definition.specs.Tables.{Shared, Tables}
use Rattle.definition.specs.declared.Item.{Item}

-- whether the next of node k turned from null to a pointer
unfoldable pub turns : (s s' : Shared) → ℕ → Bool
turns s s' k = is_null (s.node_next k) && not (is_null (s'.node_next k))

-- what was linked between two moments: for each of the first M nodes whose next turned, the node that it points to
unfoldable pub linked : (M : ℕ) → (s s' : Shared) → List ℕ
linked zero s s' = []
linked (suc k) s s' = linked k s s' ++ branch (turns s s' k) (index (s'.node_next k) ∷ []) []

-- the node whose bag left between two moments, if any: the new head
unfoldable pub left : (s s' : Shared) → List ℕ
left s s' = branch (eqb s'.queue_head s.queue_head) [] (index s'.queue_head ∷ [])

-- a bag in a node: the node, the seal, and what the bag holds, first to last
pub record Bagged : Type 0 where
  pub node : ℕ
  pub seal : ℕ
  pub holds : List Item

-- the bags in some nodes
unfoldable pub bags : Tables → List ℕ → List Bagged
bags t [] = []
bags t (n ∷ l) = record { node = n; seal = (t.bag n).epoch; holds = items (t.bag n).len (t.bag n).deferreds } ∷ bags t l

-- the nodes of a list are what follows node n, one by one, up to a null
unfoldable pub Hangs : Tab ℕ → ℕ → List ℕ → Type 0
Hangs next n [] = is_null (next n) ≡ true
Hangs next n (k ∷ l) = (next n ≡ link k) × Hangs next k l

-- these nodes, one by one, `fuel` at most. (In M nodes fuel M is enough: `hangs-hanging` of proofs/Counted)
unfoldable pub hanging : (fuel : ℕ) → Tab ℕ → ℕ → List ℕ
hanging zero next n = []
hanging (suc fuel) next n = branch (is_null (next n)) [] (index (next n) ∷ hanging fuel next (index (next n)))
