-- Pointers as words. atomic.rs packs a tag into the lowest bit of an address; document 01 makes that an index and a tag, and document
-- 02 (No. 1) gives the word: null is 0, index i with tag t is 2(i + 1) + t. So a tagged null is 1. Assumes nothing.
use Rattle.std.specs.Prelude.{Bool, ℕ, ◌+◌, ◌-◌, ◌*◌, ◌/◌, ◌%◌, eqb}
use Rattle.definition.specs.Base.{branch}
use Rattle.definition.specs.Types.{Node, Ptr, slot, node}

-- atomic.rs, `Shared::null`
unfoldable pub null : ℕ
null = 0

-- a pointer to index i, not tagged
unfoldable pub link : ℕ → ℕ
link i = 2 * (i + 1)

-- atomic.rs, `Shared::is_null`: whatever the tag
unfoldable pub is_null : ℕ → Bool
is_null w = eqb (w / 2) 0

-- the index that a pointer names
unfoldable pub index : ℕ → ℕ
index w = w / 2 - 1

-- atomic.rs, `Shared::tag`
unfoldable pub is_tagged : ℕ → Bool
is_tagged w = eqb (w % 2) 1

-- what `fetch_or(1)` makes of a word
unfoldable pub tagged : ℕ → ℕ
tagged w = w - w % 2 + 1

-- atomic.rs, `Shared::with_tag(0)`: the entry that a word points to, and the word that points to it
unfoldable pub pointee : ℕ → Ptr
pointee w = branch (is_null w) Ptr.Null (Ptr.At (slot (index w)))

unfoldable pub pointer : Ptr → ℕ
pointer Ptr.Null = null
pointer (Ptr.At s) = link s.0

-- the node that a word points to
unfoldable pub node_at : ℕ → Node
node_at w = node (index w)
