-- Free bits at the level of the list that holds them: which words they are, and the list with one bit written. What the bits mean is
-- the definition's `bits`; proofs/Laws ties the two together. Assumes nothing.
use Rattle.std.specs.Prelude.{Bool, true, false, List, ℕ, ◌+◌, ◌-◌, ◌*◌, ◌/◌, ◌%◌, ◌^◌, ltb, length, get_or, set}
use Rattle.definition.specs.Base.{branch, Tab, all}
use Rattle.definition.specs.Layout.{bits, global_words}
use Rattle.definition.specs.Ranges.{bit_words}
use Rattle.bits.specs.declared.FreeBits.{FreeBits}

-- the words of a list from `at` on
abbrev pub words_at : List ℕ → ℕ → Tab ℕ
words_at l at = λ j. get_or l (at + j) 0

-- all words of a list, and the bits that they have
abbrev pub words_of : List ℕ → Tab ℕ
words_of l = λ j. get_or l j 0

abbrev pub bits_of : List ℕ → Tab Bool
bits_of l = bits (length l) (words_of l)

-- where the bits of N slots stand, and of M nodes, for N participants; and the bits that a list has there: the definition's `slot_bits` and `node_bits`
abbrev pub slots : (N : ℕ) → FreeBits
slots N = record { at = global_words; size = N }

abbrev pub nodes : (N M : ℕ) → FreeBits
nodes N M = record { at = global_words + bit_words N; size = M }

abbrev pub free_in : FreeBits → List ℕ → Tab Bool
free_in b l = bits (bit_words b.size) (words_at l b.at)

-- whether none of the bits of k words is set at n or beyond: the definition's `bits_in`, where k is `bit_words n`
abbrev pub within : ℕ → ℕ → Tab Bool → Bool
within k n f = all (64 * k) (λ i. branch (f i) (ltb i n) true)

-- a word with bit k as b says
unfoldable pub written : ℕ → ℕ → Bool → ℕ
written w k b = w - w / 2 ^ k % 2 * 2 ^ k + branch b (2 ^ k) 0

-- the list with bit i of the words from `at` on as b says
unfoldable pub marked : List ℕ → ℕ → ℕ → Bool → List ℕ
marked l at i b = set l (at + i / 64) (written (get_or l (at + i / 64) 0) (i % 64) b)

-- index i taken, and index i given back
abbrev pub taken : List ℕ → ℕ → ℕ → List ℕ
taken l at i = marked l at i false

abbrev pub given : List ℕ → ℕ → ℕ → List ℕ
given l at i = marked l at i true
