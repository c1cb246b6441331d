-- Why the started lists are the definition's: rows that are all the same word are one run of it, and bits that are given back one after
-- another are a span of set bits. Assumes nothing.
use mathlib.Core.Path.{◌≡◌, refl, ap, sym, ◌∙◌, fun_ext}
use mathlib.Core.Bool.{Bool, true, false, ◌&&◌}
use mathlib.Core.List.{List}
use Prim.Native.Nat.{ℕ, zero, suc, ◌+◌, ◌-◌, ◌*◌, ◌/◌, ◌%◌, ◌^◌, ◌≤◌, ◌<◌}
use native.Mathlib.Omega.{arith}
use native.Mathlib.Nat.{suc-mul, zero-mul, zero-add}
use native.Mathlib.Numerals.{add-one}
use lib.Pow.{pow_pos}
use lib.Dec.{ltb, leb}
use lib.ListN.{length, get_or, set, replicate, length-set, length-replicate, replicate-append-replicate}
use lib.Seq.{get_or-set_same, get_or-set_other}
use borrow.Author.Tests.{lt-ltb, le-ltb, le-leb, lt-leb}
use Rattle.definition.specs.Base.{Tab, put, listed}
use Rattle.definition.specs.Layout.{Lent, rows, record_words, bits, slot_bits, node_bits, global_words, shared_from, tables_of, lent_of}
use Rattle.definition.specs.Ranges.{bit_words, fresh}
use Rattle.epoch.specs.Epoch.{starting}
use Rattle.definition.specs.Bags.{max_objects}
use Rattle.definition.specs.Codec.{code_of}
use Rattle.definition.specs.Links.{null, link}
use Rattle.definition.proofs.Base.{put_ind}
use Rattle.definition.proofs.Lists.{Sized, globals_back}
use Rattle.bits.specs.Bits.{given, words_at}
use Rattle.bits.proofs.Table.{below?}
use Rattle.bits.proofs.Word.{bit_high}
use Rattle.bits.proofs.Laws.{bits_word-bits, length-marked, slots_mark-slot, nodes-mark-slot, slots_mark-node, nodes-mark-node, early_mark}
use Rattle.start.specs.Given.{given_from}

-- ---- constant lists and rows

-- a table of one word, listed
pub listed_const : (n v : ℕ) → listed n (λ _. v) ≡ replicate n v
unfolding listed
listed_const zero v = refl
listed_const (suc n) v = rw (listed_const n v) (replicate-append-replicate n 1 v ∙ ap (λ (k : ℕ). replicate k v) (add-one n))

-- n rows of w words that are all v
pub rows_const : (n w v : ℕ) → rows n (λ _. replicate w v) ≡ replicate (n * w) v
unfolding rows
rows_const zero w v = rw (zero-mul w) refl
rows_const (suc n) w v = rw (rows_const n w v, suc-mul n w) (replicate-append-replicate (n * w) w v)

-- and where each row is a table of it, listed
pub rows_of-listed : (n w v : ℕ) → rows n (λ _. listed w (λ _. v)) ≡ replicate (n * w) v
rows_of-listed n w v = ap (λ (r : List ℕ). rows n (λ _. r)) (listed_const w v) ∙ rows_const n w v

-- the four lists that hold nothing else: k is the length
module _ (N M k : ℕ) where
  pub participants-fresh : k ≡ N * 21 → replicate k 0 ≡ (lent_of N M (fresh N M)).participants
  unfolding lent_of fresh record_words code_of starting null
  participants-fresh e = rw e (sym (rows_const N 21 0))

  pub nodes-fresh : k ≡ M * 3 → replicate k 0 ≡ (lent_of N M (fresh N M)).nodes
  unfolding lent_of fresh null
  nodes-fresh e = rw e (sym (rows_const M 3 0))

  pub held-fresh : k ≡ N * 64 → replicate k 0 ≡ (lent_of N M (fresh N M)).held
  unfolding lent_of fresh max_objects
  held-fresh e = rw e (sym (rows_of-listed N 64 0))

  pub queued-fresh : k ≡ M * 64 → replicate k 0 ≡ (lent_of N M (fresh N M)).queued
  unfolding lent_of fresh max_objects
  queued-fresh e = rw e (sym (rows_of-listed M 64 0))

-- ---- spans of set bits

-- k indices from `from` on are marked, no other
unfoldable pub span : (from k : ℕ) → Tab Bool
span from k = λ i. leb from i && ltb i (from + k)

-- none is
pub span_none : (from : ℕ) → (λ _. false) ≡ span from 0
unfolding span
span_none from = fun_ext (λ i. below? i from
    (λ l. rw (lt-leb from i l))
    (λ g. rw (le-leb from i g, le-ltb i (from + 0) (omega arith))))

-- one more is
pub span_more : (from k : ℕ) → put (span from k) (from + k) true ≡ span from (suc k)
unfolding span
span_more from k = fun_ext (λ i. put_ind (λ b. b ≡ (leb from i && ltb i (from + suc k))) (span from k) (from + k) i true
    (λ e. rw (le-leb from i (omega arith), lt-ltb i (from + suc k) (omega arith)))
    (λ ne. ap (λ (b : Bool). leb from i && b) (below? i (from + k)
    (λ l. lt-ltb i (from + k) l ∙ sym (lt-ltb i (from + suc k) (omega arith)))
    (λ g. le-ltb i (from + k) g ∙ sym (le-ltb i (from + suc k) (omega arith))))))

-- ---- indices given back, one after another

-- one more
pub given_more : (l₀ l : List ℕ) (at from k : ℕ) → l ≡ given_from l₀ at from k → given l at (from + k) ≡ given_from l₀ at from (k + 1)
unfolding given_from
given_more l₀ l at from k e = rw (add-one k, e)

-- and that by index
pub given_next : (l₀ l : List ℕ) (at from i : ℕ) → from ≤ i → l ≡ given_from l₀ at from (i - from) → given l at i ≡ given_from l₀ at from (i + 1 - from)
given_next l₀ l at from i h e =
    let here : i ≡ from + (i - from) = omega arith in
    let after : i - from + 1 ≡ i + 1 - from = omega arith in
    ap (given l at) here ∙ given_more l₀ l at from (i - from) e ∙ ap (given_from l₀ at from) after

-- the list is as long
pub length-given : (l : List ℕ) (at from k : ℕ) → length (given_from l at from k) ≡ length l
unfolding given_from
length-given l at from zero = refl
length-given l at from (suc k) = length-marked (given_from l at from k) at (from + k) true ∙ length-given l at from k

-- the bits of slots and of nodes when a span of either is given back
module _ (N M : ℕ) (g : List ℕ) (from : ℕ) where
  pub slots_given : global_words + bit_words N ≤ length g → slot_bits N g ≡ (λ _. false)
      → (k : ℕ) → from + k ≤ N → slot_bits N (given_from g global_words from k) ≡ span from k
  unfolding given_from
  slots_given fits none zero h = none ∙ span_none from
  slots_given fits none (suc k) h =
      slots_mark-slot N (given_from g global_words from k) (from + k) true (rw (length-given g global_words from k) fits) (omega arith)
      ∙ rw (slots_given fits none k (omega arith)) (span_more from k)

  pub nodes-given : global_words + bit_words N + bit_words M ≤ length g → node_bits N M g ≡ (λ _. false)
      → (k : ℕ) → from + k ≤ M → node_bits N M (given_from g (global_words + bit_words N) from k) ≡ span from k
  unfolding given_from
  nodes-given fits none zero h = none ∙ span_none from
  nodes-given fits none (suc k) h =
      nodes-mark-node N (given_from g (global_words + bit_words N) from k) (from + k) true M
      (rw (length-given g (global_words + bit_words N) from k) fits) (omega arith)
      ∙ rw (nodes-given fits none k (omega arith)) (span_more from k)

  pub nodes-keep : (k : ℕ) → from + k ≤ N → node_bits N M (given_from g global_words from k) ≡ node_bits N M g
  unfolding given_from
  nodes-keep zero h = refl
  nodes-keep (suc k) h = nodes-mark-slot N (given_from g global_words from k) (from + k) true M (omega arith) ∙ nodes-keep k (omega arith)

  pub slots_keep : (k : ℕ) → slot_bits N (given_from g (global_words + bit_words N) from k) ≡ slot_bits N g
  unfolding given_from
  slots_keep zero = refl
  slots_keep (suc k) = slots_mark-node N (given_from g (global_words + bit_words N) from k) (from + k) true ∙ slots_keep k

-- the words before the bits
pub early_keep : (g : List ℕ) (at from : ℕ) → global_words ≤ at → (k j : ℕ) → j < global_words → get_or (given_from g at from k) j 0 ≡ get_or g j 0
unfolding given_from
early_keep g at from after zero j h = refl
early_keep g at from after (suc k) j h = early_mark (given_from g at from k) at (from + k) true after j h ∙ early_keep g at from after k j h

-- ---- the global words

-- a word past the end of a list of zeros is 0 too
get_or_zeros : (n i : ℕ) → ◌≡◌ {A = ℕ} (get_or (replicate n 0) i 0) 0
get_or_zeros zero i = refl
get_or_zeros (suc n) zero = refl
get_or_zeros (suc n) (suc i) = get_or_zeros n i

-- words that are 0 have no bit
pub bits_none : (k : ℕ) (words : Tab ℕ) → ((j : ℕ) → j < k → words j ≡ 0) → bits k words ≡ (λ _. false)
unfolding bits
bits_none k words h = fun_ext (λ i. below? (i / 64) k
    (λ l. rw (h (i / 64) l, lt-ltb (i / 64) k l) (bit_high 0 (i % 64) (pow_pos (i % 64))))
    (λ l. rw (le-ltb (i / 64) k l)))

-- a list of global words is the started one if its words before the bits are, and its bits
module _ (N M : ℕ) (g : List ℕ) (long : length g ≡ 5 + bit_words N + bit_words M) (fits : (j : ℕ) → get_or g j 0 < 2 ^ 64) where
  -- beside four lists that are cleared
  beside : Lent
  beside = record {
    globals = g;
    participants = replicate (N * 21) 0;
    nodes = replicate (M * 3) 0;
    held = replicate (N * 64) 0;
    queued = replicate (M * 64) 0;
  }

  beside-sized : Sized N M beside
  unfolding beside
  beside-sized = record {
    globals = long;
    participants = length-replicate (N * 21) 0;
    nodes = length-replicate (M * 3) 0;
    held = length-replicate (N * 64) 0;
    queued = length-replicate (M * 64) 0;
  }

  pub globals-fresh : get_or g 0 0 ≡ 0 → get_or g 1 0 ≡ 0 → get_or g 2 0 ≡ 2 → get_or g 3 0 ≡ 2 → get_or g 4 0 ≡ 0
      → slot_bits N g ≡ (λ i. ltb i N) → node_bits N M g ≡ (λ n. leb 1 n && ltb n M) → g ≡ (lent_of N M (fresh N M)).globals
  unfolding beside lent_of tables_of shared_from slot_bits node_bits global_words fresh starting null link
  globals-fresh e₀ e₁ e₂ e₃ e₄ slots nodes =
      sym (globals_back N M beside beside-sized
      (λ k l. bits_word-bits (bit_words N) (words_at g 5) k l (fits (5 + k)))
      (λ k l. bits_word-bits (bit_words M) (words_at g (5 + bit_words N)) k l (fits (5 + bit_words N + k))))
      ∙ rw (e₀, e₁, e₂, e₃, e₄, slots, nodes)

-- the words of a cleared list whose ends of the queue point to node 0
emptied : ℕ → List ℕ
emptied n = set (set (replicate n 0) 2 2) 3 2

emptied-zero : (n j : ℕ) → (j ≡ 2 → ⊥) → (j ≡ 3 → ⊥) → get_or (emptied n) j 0 ≡ 0
unfolding emptied
emptied-zero n j a b =
    get_or-set_other (set (replicate n 0) 2 2) 3 j 2 0 b ∙ get_or-set_other (replicate n 0) 2 j 2 0 a ∙ get_or_zeros n j

-- cleared, with the queue's ends, then the slots given back, then the nodes but the first: started
module _ (N M : ℕ) (one : 1 ≤ M) where
  size : ℕ
  size = 5 + bit_words N + bit_words M

  slotted : List ℕ
  slotted = given_from (emptied size) global_words 0 N

  started : List ℕ
  started = given_from slotted (global_words + bit_words N) 1 (M - 1)

  length-emptied : length (emptied size) ≡ size
  unfolding emptied
  length-emptied = simp (length-set, length-replicate)

  length-slotted : length slotted ≡ size
  unfolding slotted
  length-slotted = length-given (emptied size) global_words 0 N ∙ length-emptied

  length-started : length started ≡ size
  unfolding started
  length-started = length-given slotted (global_words + bit_words N) 1 (M - 1) ∙ length-slotted

  -- the words before the bits
  early : (j : ℕ) → j < global_words → get_or started j 0 ≡ get_or (emptied size) j 0
  unfolding started slotted
  early j l =
      early_keep slotted (global_words + bit_words N) 1 (omega arith) (M - 1) j l
      ∙ early_keep (emptied size) global_words 0 (omega arith) N j l

  slots : slot_bits N started ≡ (λ i. ltb i N)
  unfolding started slotted slot_bits span global_words size
  slots =
      slots_keep N M slotted 1 (M - 1)
      ∙ slots_given N M (emptied size) 0 (rw length-emptied (omega arith))
      (bits_none (bit_words N) (words_at (emptied size) 5) (λ j _. emptied-zero size (5 + j) (λ e. omega arith) (λ e. omega arith)))
      N (omega arith)
      ∙ fun_ext (λ i. rw (le-leb 0 i (omega arith), zero-add N))

  nodes : node_bits N M started ≡ (λ n. leb 1 n && ltb n M)
  unfolding started slotted node_bits span global_words size
  nodes =
      nodes-given N M slotted 1 (rw length-slotted (omega arith))
      (nodes-keep N M (emptied size) 0 N (omega arith)
      ∙ bits_none (bit_words M) (words_at (emptied size) (5 + bit_words N))
      (λ j _. emptied-zero size (5 + bit_words N + j) (λ e. omega arith) (λ e. omega arith)))
      (M - 1) (omega arith)
      ∙ fun_ext (λ i. let e : 1 + (M - 1) ≡ M = omega arith in rw e)

  -- the queue's ends
  ends : (get_or (emptied size) 2 0 ≡ 2) × (get_or (emptied size) 3 0 ≡ 2)
  unfolding emptied size
  ends =
      let a = length-replicate {A = ℕ} size 0 in
      let b = length-set {A = ℕ} (replicate size 0) 2 2 in (
        get_or-set_other (set (replicate size 0) 2 2) 3 2 2 0 (λ e. omega arith) ∙ get_or-set_same (replicate size 0) 2 2 0 (omega arith),
        get_or-set_same (set (replicate size 0) 2 2) 3 2 0 (omega arith),
      )

  started-fresh : ((j : ℕ) → get_or started j 0 < 2 ^ 64) → started ≡ (lent_of N M (fresh N M)).globals
  unfolding size global_words
  started-fresh fits =
      globals-fresh N M started length-started fits
      (early 0 (omega arith) ∙ emptied-zero size 0 (λ e. omega arith) (λ e. omega arith))
      (early 1 (omega arith) ∙ emptied-zero size 1 (λ e. omega arith) (λ e. omega arith))
      (early 2 (omega arith) ∙ ends.0)
      (early 3 (omega arith) ∙ ends.1)
      (early 4 (omega arith) ∙ emptied-zero size 4 (λ e. omega arith) (λ e. omega arith))
      slots nodes

  -- the same, list after list
  pub globals-started : (g₀ g₁ g₂ g₃ : List ℕ) → length g₀ ≡ 5 + bit_words N + bit_words M → g₁ ≡ replicate (length g₀) 0
      → g₂ ≡ given_from (set (set g₁ 2 2) 3 2) global_words 0 N → g₃ ≡ given_from g₂ (global_words + bit_words N) 1 (M - 1)
      → ((j : ℕ) → get_or g₃ j 0 < 2 ^ 64) → g₃ ≡ (lent_of N M (fresh N M)).globals
  unfolding started slotted emptied size
  globals-started g₀ g₁ g₂ g₃ long e₁ e₂ e₃ fits =
      let same : g₃ ≡ started = e₃ ∙ rw (e₂, e₁, long) in
      same ∙ started-fresh (λ j. rw (← same) (fits j))
