-- Where every number stands in the five lent lists, for N participants and M nodes: the tables that lists hold, and the lists that hold
-- tables. A word is a number below 2^64. Added by design. Assumes nothing.
use Rattle.std.specs.Prelude.{Bool, ◌&&◌, List, [], ◌∷◌, ◌++◌, ℕ, zero, suc, ◌+◌, ◌*◌, ◌/◌, ◌%◌, ◌^◌, eqb, ltb, length, get_or}
use Rattle.definition.specs.Base.{branch, Tab, sum, listed}
use Rattle.definition.specs.Bags.{max_objects, SealedBag}
use Rattle.definition.specs.Tables.{Shared, Tables}
use Rattle.definition.specs.Ranges.{bit_words}
use Rattle.definition.specs.Codec.{columns}
use Rattle.definition.specs.Types.{Record}

-- the lent lists
pub record Lent : Type 0 where
  pub globals : List ℕ
  pub participants : List ℕ
  pub nodes : List ℕ
  pub held : List ℕ
  pub queued : List ℕ

abbrev pub lent : (globals participants nodes held queued : List ℕ) → Lent
lent g p n h q = record { globals = g; participants = p; nodes = n; held = h; queued = q }

-- words before the free bits of `globals`; words of a participant, of a node
unfoldable pub global_words : ℕ
global_words = 5

unfoldable pub participant_words : ℕ
participant_words = 21

unfoldable pub node_words : ℕ
node_words = 3

-- the length of each list
unfoldable pub sized : (N M : ℕ) → Lent → Bool
sized N M l = eqb (length l.globals) (global_words + bit_words N + bit_words M) && eqb (length l.participants) (N * participant_words)
    && eqb (length l.nodes) (M * node_words) && eqb (length l.held) (N * max_objects) && eqb (length l.queued) (M * max_objects)

-- a list as rows of w words: what stands in row i, column c; beyond the row, and beyond the list, nothing does
unfoldable pub cell : ℕ → List ℕ → ℕ → Tab ℕ
cell w l i = λ c. branch (ltb c w) (get_or l (i * w + c) 0) 0

-- rows one after another
unfoldable pub rows : ℕ → Tab (List ℕ) → List ℕ
rows zero f = []
rows (suc n) f = rows n f ++ f n

-- a bit of a word; the bits that stand in k words; the word that holds bits 64k to 64k + 63
unfoldable pub bit : ℕ → ℕ → Bool
bit w k = eqb (w / 2 ^ k % 2) 1

unfoldable pub bits : ℕ → Tab ℕ → Tab Bool
bits k words = λ i. ltb (i / 64) k && bit (words (i / 64)) (i % 64)

unfoldable pub bits_word : Tab Bool → ℕ → ℕ
bits_word f k = sum 64 (λ j. branch (f (64 * k + j)) (2 ^ j) 0)

-- a participant's row: its two shared words, then its record
unfoldable pub record_at : Tab ℕ → Record
record_at w = record {
  counts = record { guards = w 2; handles = w 3; pins = w 4 };
  held = w 5;
  share = w 6;
  code = columns (w 7) (w 8) (w 9) (w 10) (w 11) (w 12) (w 13) (w 14) (w 15) (w 16) (w 17) (w 18) (w 19) (w 20);
}

unfoldable pub record_words : Record → List ℕ
record_words r =
    let c = r.code in
    r.counts.guards ∷ r.counts.handles ∷ r.counts.pins ∷ r.held ∷ r.share ∷ c.number ∷ c.then ∷ c.owner ∷ c.epoch ∷ c.left
    ∷ c.pred ∷ c.curr ∷ c.succ ∷ c.old ∷ c.popped ∷ c.new ∷ c.onto ∷ c.next ∷ c.token ∷ []

-- the shared words that three of the lists hold
unfoldable pub shared_from : (globals participants nodes : List ℕ) → Shared
shared_from g p n = record {
  global_epoch = get_or g 0 0;
  list_head = get_or g 1 0;
  entry_next = λ i. cell participant_words p i 1;
  word = λ i. cell participant_words p i 0;
  queue_head = get_or g 2 0;
  queue_tail = get_or g 3 0;
  node_next = λ k. cell node_words n k 0;
}

-- the bags of the nodes
unfoldable pub bag_from : (nodes queued : List ℕ) → Tab SealedBag
bag_from n q = λ k. record { epoch = cell node_words n k 1; len = cell node_words n k 2; deferreds = cell max_objects q k }

-- the free bits
unfoldable pub slot_bits : ℕ → List ℕ → Tab Bool
slot_bits N g = bits (bit_words N) (λ k. get_or g (global_words + k) 0)

unfoldable pub node_bits : (N M : ℕ) → List ℕ → Tab Bool
node_bits N M g = bits (bit_words M) (λ k. get_or g (global_words + bit_words N + k) 0)

-- the tables that the lists hold
unfoldable pub tables_of : (N M : ℕ) → Lent → Tables
tables_of N M l = record {
  shared = shared_from l.globals l.participants l.nodes;
  own = λ i. record_at (cell participant_words l.participants i);
  held = cell max_objects l.held;
  bag = bag_from l.nodes l.queued;
  slot_free = slot_bits N l.globals;
  node_free = node_bits N M l.globals;
  aside = get_or l.globals 4 0;
}

-- the lists that hold the tables
unfoldable pub lent_of : (N M : ℕ) → Tables → Lent
lent_of N M t =
    let s : Shared = t.shared in
    record {
      globals = (s.global_epoch ∷ s.list_head ∷ s.queue_head ∷ s.queue_tail ∷ t.aside ∷ [])
          ++ listed (bit_words N) (bits_word t.slot_free) ++ listed (bit_words M) (bits_word t.node_free);
      participants = rows N (λ i. s.word i ∷ s.entry_next i ∷ record_words (t.own i));
      nodes = rows M (λ n. s.node_next n ∷ (t.bag n).epoch ∷ (t.bag n).len ∷ []);
      held = rows N (λ i. listed max_objects (t.held i));
      queued = rows M (λ n. listed max_objects (t.bag n).deferreds);
    }
