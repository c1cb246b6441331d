-- The laws of free bits that stand in a list: what a written bit changes, and what it leaves; and that a word and its bits are the same
-- thing said twice. A crate above cites these and leaves `marked` shut. Assumes nothing.
use mathlib.Core.Path.{◌≡◌, refl, sym, ap, ◌∙◌, fun_ext}
use mathlib.Core.Bool.{Bool, true, false, ◌&&◌}
use mathlib.Core.List.{List}
use Prim.Native.Nat.{ℕ, ◌+◌, ◌-◌, ◌*◌, ◌/◌, ◌%◌, ◌^◌, ◌≤◌, ◌<◌}
use native.Mathlib.Omega.{arith}
use lib.Bits.{bit_and}
use lib.Dec.{ltb}
use lib.ListN.{length, get_or, set, take, drop, length-set, length-drop}
use lib.Seq.{get_or-set_same, get_or-set_other, set-get_or, get_or-take, get_or-drop, length-take-le}
use borrow.Author.Tests.{ltb-true, lt-ltb, le-ltb}
use Rattle.std.specs.Int.{bit_not, w64}
use Rattle.std.specs.Int.RustNames.{bit_or}
use Rattle.definition.specs.Base.{branch, Tab, put, count}
use Rattle.definition.specs.Layout.{bit, bits, bits_word, global_words, slot_bits, node_bits}
use Rattle.definition.specs.Ranges.{bit_words, bits_in}
use Rattle.definition.proofs.Base.{put_same, put_other, same?, all_at, count_none}
use Rattle.bits.specs.Bits.{words_at, words_of, bits_of, within, written, marked, taken, given}
use Rattle.bits.proofs.Table.{below?, count-add}
use Rattle.bits.proofs.Word.{bit_or-written, bit_and-written, written_same, bit-written, number, number_ext, bit-number, number-bits, number-lt}

-- word j of the k words from `at` on
pub slice_word : (g : List ℕ) (at k j : ℕ) → j < k → get_or (take (at + k - at) (drop at g)) j 0 ≡ get_or g (at + j) 0
slice_word g at k j l = get_or-take (at + k - at) (drop at g) j 0 (omega arith) ∙ get_or-drop at g j 0

-- ---- the bits of k words

-- one of them is a bit of its word
pub bits_at : (k : ℕ) (words : Tab ℕ) (j i : ℕ) → j < k → i < 64 → bits k words (64 * j + i) ≡ bit (words j) i
unfolding bits
bits_at k words j i h l =
    let word : (64 * j + i) / 64 ≡ j = omega arith in
    let place : (64 * j + i) % 64 ≡ i = omega arith in
    rw (word, place, lt-ltb j k h)

-- beyond them none is set
pub bits_out : (k : ℕ) (words : Tab ℕ) (i : ℕ) → 64 * k ≤ i → bits k words i ≡ false
unfolding bits
bits_out k words i h = rw (le-ltb (i / 64) k (omega arith))

-- the same words have the same bits
pub bits_same : (k : ℕ) (v w : Tab ℕ) → ((j : ℕ) → j < k → v j ≡ w j) → bits k v ≡ bits k w
unfolding bits
bits_same k v w h = fun_ext at
  where
    at : (i : ℕ) → (ltb (i / 64) k && bit (v (i / 64)) (i % 64)) ≡ (ltb (i / 64) k && bit (w (i / 64)) (i % 64))
    at i = below? (i / 64) k (λ l. rw (h (i / 64) l)) (λ l. rw (le-ltb (i / 64) k l))

-- a set bit of words with none at n or beyond is below n
pub inside : (k n : ℕ) (f : Tab Bool) → within k n f ≡ true → (i : ℕ) → i < 64 * k → f i ≡ true → i < n
unfolding branch
inside k n f h i l t =
    let e : branch (f i) (ltb i n) true ≡ true = all_at (64 * k) (λ m. branch (f m) (ltb m n) true) i h l in
    ltb-true i n (rw t at e)

-- and one at n or beyond is clear
outside : (k n : ℕ) (f : Tab Bool) → within k n f ≡ true → (i : ℕ) → i < 64 * k → n ≤ i → f i ≡ false
outside k n f h i l z = by (f i) refl
  where
    by : (b : Bool) → f i ≡ b → f i ≡ false
    by true e = absurd (let low = inside k n f h i l e in omega arith)
    by false e = e

-- the count of the words is that below n: what lies between the two is clear, whichever is more
pub count_end : (k : ℕ) (words : Tab ℕ) (n : ℕ) → within k n (bits k words) ≡ true → count (64 * k) (bits k words) ≡ count n (bits k words)
count_end k words n h = below? n (64 * k) (λ l. beyond (omega arith)) short
  where
    f : Tab Bool
    f = bits k words

    -- the clear bits from m on add nothing
    padded : (m p : ℕ) → m ≤ p → ((i : ℕ) → m ≤ i → i < p → f i ≡ false) → count p f ≡ count m f
    padded m p l clear =
        let e : p ≡ m + (p - m) = omega arith in
        ap (λ (x : ℕ). count x f) e ∙ count-add m (p - m) f
        ∙ ap (λ (x : ℕ). count m f + x) (count_none (p - m) (λ i. f (m + i)) (λ i s. clear (m + i) (omega arith) (omega arith)))
        ∙ omega arith

    beyond : n ≤ 64 * k → count (64 * k) f ≡ count n f
    beyond l = padded n (64 * k) l (λ i a z. outside k n f h i z a)

    short : 64 * k ≤ n → count (64 * k) f ≡ count n f
    short l = sym (padded (64 * k) n l (λ i a z. bits_out k words i a))

-- ---- the words from `at` on, as a slice: what a crate above knows when it lends them alone

module _ (g : List ℕ) (at k : ℕ) (fits : at + k ≤ length g) where
  -- there are k of them
  pub length_slice : length (take (at + k - at) (drop at g)) ≡ k
  length_slice = length-take-le (at + k - at) (drop at g) (simp length-drop (omega arith)) ∙ omega arith

  -- their bits are those in the list
  pub bits_slice : bits_of (take (at + k - at) (drop at g)) ≡ bits k (words_at g at)
  bits_slice = rw length_slice (bits_same k (words_of (take (at + k - at) (drop at g))) (words_at g at) (slice_word g at k))

-- whether one is set at n or beyond, of words whose number and bits are known
pub within_words : (ws : List ℕ) (k n : ℕ) (f : Tab Bool) → length ws ≡ k → bits_of ws ≡ f → within (length ws) n (bits_of ws) ≡ within k n f
within_words ws k n f e h = rw (h, e) refl

-- ---- one bit written: `taken` and `given` are `marked` with false and with true

-- the stores of `take` and `give`
pub taken_is : (g : List ℕ) (at i : ℕ) → get_or g (at + i / 64) 0 < 2 ^ 64
    → set g (at + i / 64) (bit_and (get_or g (at + i / 64) 0) (bit_not w64 (1 * 2 ^ (i % 64) % 2 ^ 64))) ≡ taken g at i
unfolding marked
taken_is g at i fits = ap (set g (at + i / 64)) (bit_and-written (get_or g (at + i / 64) 0) (i % 64) fits (omega arith))

pub given_is : (g : List ℕ) (at i : ℕ) → get_or g (at + i / 64) 0 < 2 ^ 64
    → set g (at + i / 64) (bit_or (get_or g (at + i / 64) 0) (1 * 2 ^ (i % 64) % 2 ^ 64)) ≡ given g at i
unfolding marked
given_is g at i fits = ap (set g (at + i / 64)) (bit_or-written (get_or g (at + i / 64) 0) (i % 64) fits (omega arith))

module _ (l : List ℕ) (at i : ℕ) (b : Bool) where
  -- the list is as long
  pub length-marked : length (marked l at i b) ≡ length l
  unfolding marked
  length-marked = length-set l (at + i / 64) (written (get_or l (at + i / 64) 0) (i % 64) b)

  -- to take what is taken, and to give what is free, changes nothing
  pub marked_same : bit (get_or l (at + i / 64) 0) (i % 64) ≡ b → marked l at i b ≡ l
  unfolding marked
  marked_same e =
      ap (set l (at + i / 64)) (written_same (get_or l (at + i / 64) 0) (i % 64) b e) ∙ set-get_or l (at + i / 64) 0

  -- every word but the bit's is as it was
  pub marked_other : (j : ℕ) → (j ≡ at + i / 64 → ⊥) → get_or (marked l at i b) j 0 ≡ get_or l j 0
  unfolding marked
  marked_other j ne = get_or-set_other l (at + i / 64) j (written (get_or l (at + i / 64) 0) (i % 64) b) 0 ne

  -- so the bits of words that the bit's is not among are as they were
  pub bits-marked_other : (at' k : ℕ) → ((j : ℕ) → j < k → at' + j ≡ at + i / 64 → ⊥)
      → bits k (words_at (marked l at i b) at') ≡ bits k (words_at l at')
  bits-marked_other at' k h = bits_same k (words_at (marked l at i b) at') (words_at l at') (λ j s. marked_other (at' + j) (h j s))

  -- and the bits of its own words are those before, with this one as b says
  pub bits-marked : (k : ℕ) → at + k ≤ length l → i < 64 * k → bits k (words_at (marked l at i b) at) ≡ put (bits k (words_at l at)) i b
  unfolding bits marked
  bits-marked k fits h = fun_ext (λ j. same? (i / 64) (j / 64) (inside j) (outside j))
    where
      w : ℕ
      w = get_or l (at + i / 64) 0

      new : Tab ℕ
      new = words_at (set l (at + i / 64) (written w (i % 64) b)) at

      inside : (j : ℕ) → i / 64 ≡ j / 64 → bits k new j ≡ put (bits k (words_at l at)) i b j
      inside j e =
          let there : get_or (set l (at + i / 64) (written w (i % 64) b)) (at + i / 64) 0 ≡ written w (i % 64) b
          = get_or-set_same l (at + i / 64) (written w (i % 64) b) 0 (omega arith) in
          rw (← e, there, lt-ltb (i / 64) k (omega arith), bit-written w (i % 64) b (j % 64)) (
          same? i j
          (λ s. rw (← s, put_same (bit w) (i % 64) b, put_same (bits k (words_at l at)) i b))
          (λ ne.
          let apart : i % 64 ≡ j % 64 → ⊥ = λ z. ne (omega arith) in
          rw (put_other (bit w) (i % 64) (j % 64) b apart, put_other (bits k (words_at l at)) i j b ne)
          (rw (← e, lt-ltb (i / 64) k (omega arith)))))

      outside : (j : ℕ) → (i / 64 ≡ j / 64 → ⊥) → bits k new j ≡ put (bits k (words_at l at)) i b j
      outside j ne =
          let apart : i ≡ j → ⊥ = λ z. ne (ap (λ (x : ℕ). x / 64) z) in
          let there = get_or-set_other l (at + i / 64) (at + j / 64) (written w (i % 64) b) 0 (λ z. ne (omega arith)) in
          rw (there, put_other (bits k (words_at l at)) i j b apart)

-- ---- a word and its bits

-- the word that holds bits 64k to 64k + 63 has them
pub bit-bits_word : (f : Tab Bool) (k j : ℕ) → j < 64 → bit (bits_word f k) j ≡ f (64 * k + j)
unfolding bits_word number
bit-bits_word f k j h = bit-number 64 (λ i. f (64 * k + i)) j h

-- it is a word
pub bits_word-lt : (f : Tab Bool) (k : ℕ) → bits_word f k < 2 ^ 64
unfolding bits_word number
bits_word-lt f k = number-lt 64 (λ i. f (64 * k + i))

-- the word that holds the bits of word k is word k
pub bits_word-bits : (n : ℕ) (words : Tab ℕ) (k : ℕ) → k < n → words k < 2 ^ 64 → bits_word (bits n words) k ≡ words k
unfolding bits_word number
bits_word-bits n words k h fits =
    number_ext 64 (λ j. bits n words (64 * k + j)) (bit (words k)) (λ j l. bits_at n words k j h l) ∙ number-bits 64 (words k) fits

-- ---- the words that the bits of slots and of nodes take

-- n bits have room in their words
pub bit_words-enough : (n : ℕ) → n ≤ 64 * bit_words n
unfolding bit_words
bit_words-enough n = omega arith

-- and no word is without one of them
pub bit_words_least : (n : ℕ) → 64 * bit_words n < n + 64
unfolding bit_words
bit_words_least n = omega arith

-- bit i of n is in one of their words
pub bit_words-has : (i n : ℕ) → i < n → i / 64 < bit_words n
bit_words-has i n h = omega (arith, bit_words-enough n)

-- that no bit at n or beyond is set, in the definition's words
pub bits_in_is : (N M n : ℕ) (f : Tab Bool) → bits_in N M n f ≡ within (bit_words n) n f
unfolding bits_in
bits_in_is N M n f = refl

-- the words before the bits stay when one is written
pub early_mark : (g : List ℕ) (at i : ℕ) (b : Bool) → global_words ≤ at → (j : ℕ) → j < global_words → get_or (marked g at i b) j 0 ≡ get_or g j 0
early_mark g at i b from j h = marked_other g at i b j (λ e. omega arith)

module _ (N : ℕ) (g : List ℕ) (i : ℕ) (b : Bool) where
  -- the bits of N slots when one of them is written, and when one of a node is
  pub slots_mark-slot : global_words + bit_words N ≤ length g → i < N → slot_bits N (marked g global_words i b) ≡ put (slot_bits N g) i b
  unfolding slot_bits
  slots_mark-slot fits h = bits-marked g global_words i b (bit_words N) fits (omega (arith, bit_words-enough N))

  pub slots_mark-node : slot_bits N (marked g (global_words + bit_words N) i b) ≡ slot_bits N g
  unfolding slot_bits
  slots_mark-node = bits-marked_other g (global_words + bit_words N) i b global_words (bit_words N) (λ j l e. omega arith)

  -- the bits of M nodes when one of a slot is written, and when one of them is
  pub nodes-mark-slot : (M : ℕ) → i < N → node_bits N M (marked g global_words i b) ≡ node_bits N M g
  unfolding node_bits
  nodes-mark-slot M h =
      bits-marked_other g global_words i b (global_words + bit_words N) (bit_words M) (λ j l e. omega (arith, bit_words-has i N h))

  pub nodes-mark-node : (M : ℕ) → global_words + bit_words N + bit_words M ≤ length g → i < M
      → node_bits N M (marked g (global_words + bit_words N) i b) ≡ put (node_bits N M g) i b
  unfolding node_bits
  nodes-mark-node M fits h = bits-marked g (global_words + bit_words N) i b (bit_words M) fits (omega (arith, bit_words-enough M))
