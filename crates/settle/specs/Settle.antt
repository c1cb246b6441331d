-- What the work of a step makes of each lent list, by the work; and what it needs of them: just what it touches. Assumes nothing.
use Rattle.std.specs.Prelude.{◌≡◌, true, List, [], ℕ, ◌+◌, ◌*◌, ◌/◌, ◌^◌, ◌≤◌, ◌<◌, length, set, drop}
use Rattle.std.proofs.Math.Seq.{paste}
use Rattle.definition.specs.Bags.{item_word, tokens}
use Rattle.definition.specs.Layout.{Lent, global_words}
use Rattle.definition.specs.Ranges.{bit_words}
use Rattle.definition.specs.declared.Work.{Work}
use Rattle.bits.specs.Bits.{words_at, taken}
use Rattle.bags.specs.Bags.{bag_len, bag_items, filled, stamped, free_items, have_bits}

-- the lists afterwards, for N participants: participant p held k items
unfoldable pub settled_globals : ℕ → Work → (globals nodes queued : List ℕ) → List ℕ
settled_globals N Work.Nothing g n q = g
settled_globals N (Work.Put i) g n q = g
settled_globals N (Work.PutThenFree i k) g n q = free_items N (bag_items n q k.0) g
settled_globals N (Work.Seal k e) g n q = taken g (global_words + bit_words N) k.0

unfoldable pub settled_nodes : ℕ → Work → List ℕ → List ℕ
settled_nodes k Work.Nothing n = n
settled_nodes k (Work.Put i) n = n
settled_nodes k (Work.PutThenFree i x) n = set n (x.0 * 3 + 2) 0
settled_nodes k (Work.Seal x e) n = stamped n x.0 e.0 k

unfoldable pub settled_held : (p k : ℕ) → Work → List ℕ → List ℕ
settled_held p k Work.Nothing h = h
settled_held p k (Work.Put i) h = set h (p * 64 + k) (item_word i)
settled_held p k (Work.PutThenFree i x) h = set h (p * 64 + k) (item_word i)
settled_held p k (Work.Seal x e) h = h

unfoldable pub settled_queued : (p k : ℕ) → Work → (held queued : List ℕ) → List ℕ
settled_queued p k Work.Nothing h q = q
settled_queued p k (Work.Put i) h q = q
settled_queued p k (Work.PutThenFree i x) h q = q
settled_queued p k (Work.Seal x e) h q = paste q (x.0 * 64) (drop (p * 64) h) k

-- the tokens that come out, in bag order
unfoldable pub settled_tokens : Work → (nodes queued : List ℕ) → List ℕ
settled_tokens Work.Nothing n q = []
settled_tokens (Work.Put i) n q = []
settled_tokens (Work.PutThenFree i x) n q = tokens (bag_items n q x.0)
settled_tokens (Work.Seal x e) n q = []

-- all five lists
abbrev pub settled_lent : (N p k : ℕ) → Work → Lent → Lent
settled_lent N p k w l = record {
  globals = settled_globals N w l.globals l.nodes l.queued;
  participants = l.participants;
  nodes = settled_nodes k w l.nodes;
  held = settled_held p k w l.held;
  queued = settled_queued p k w l.held l.queued;
}

-- what the work touches is there, and a bag that an item goes into has room
abbrev pub Settles : (N p k : ℕ) → Work → Lent → (freed : List ℕ) → Type 0
Settles N p k Work.Nothing l f = Unit {0}
Settles N p k (Work.Put i) l f = (k < 64) × ((p * 64 + k < length l.held) × (item_word i < 2 ^ 64))
Settles N p k (Work.PutThenFree i x) l f = ((k < 64) × ((p * 64 + k < length l.held) × (item_word i < 2 ^ 64)))
    × (((x.0 * 3 + 3 ≤ length l.nodes) × (x.0 * 64 + bag_len l.nodes x.0 ≤ length l.queued))
    × ((bag_len l.nodes x.0 ≤ length f) × (have_bits N (length l.globals) (bag_len l.nodes x.0) (words_at l.queued (x.0 * 64)) ≡ true)))
Settles N p k (Work.Seal x e) l f = ((p * 64 + k ≤ length l.held) × ((x.0 * 3 + 3 ≤ length l.nodes) × (x.0 * 64 + k ≤ length l.queued)))
    × (global_words + bit_words N + x.0 / 64 < length l.globals)

-- the work was done: the lists before it, the number of tokens, and the lists after it
pub record Settled (N p k : ℕ) (w : Work) (l : Lent) (f : List ℕ) (r : ℕ) (l' : Lent) (f' : List ℕ) : Type 0 where
  pub number : r ≡ length (settled_tokens w l.nodes l.queued)
  pub lent : l' ≡ settled_lent N p k w l
  pub freed : f' ≡ filled (settled_tokens w l.nodes l.queued) f
