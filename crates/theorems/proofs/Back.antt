-- The tables that lists hold are the tables that were written into them, where nothing stands beyond their ends (`Clean`): `tables_back`, the other
-- way of the definition's `lists_back`. So a run on lent lists is a run on tables. Leans on bits (a word and its bits). Assumes nothing.
use mathlib.Core.Path.{◌≡◌, refl, ap, sym, ◌∙◌, fun_ext}
use mathlib.Core.Bool.{Bool, true, false}
use mathlib.Core.List.{List, [], ◌∷◌, ◌++◌}
use Prim.Native.Nat.{ℕ, zero, suc, ◌+◌, ◌*◌, ◌/◌, ◌%◌, ◌≤◌, ◌<◌}
use native.Mathlib.Omega.{arith}
use native.Mathlib.Nat.{suc-mul, zero-mul, mul-le-mul_right}
use lib.ListN.{length, get_or, length-append, get_or-append, get_or-eq_default}
use lib.Seq.{get_or-append-add}
use borrow.Author.Tests.{lt-ltb, le-ltb}
use Rattle.definition.specs.Base.{Tab, listed}
use Rattle.definition.specs.Bags.{max_objects}
use Rattle.definition.specs.Tables.{Shared, Tables}
use Rattle.definition.specs.Ranges.{bit_words}
use Rattle.definition.specs.Layout.{Lent, cell, rows, bits, bits_word, global_words, participant_words, node_words, shared_from, bag_from, slot_bits, node_bits, record_at, record_words, tables_of, lent_of}
use Rattle.definition.proofs.Base.{branch-true, branch-false, same?}
use Rattle.bits.proofs.Table.{below?}
use Rattle.bits.proofs.Laws.{bits_out, bit-bits_word, bit_words-enough}
use Rattle.theorems.proofs.Types.{Record}

-- the record of a slot that does not exist: nothing but zeros
unfoldable pub blank : Record
blank = record_at (λ c. 0)

-- no shared word stands beyond the tables
pub record CleanShared (N M : ℕ) (s : Shared) : Type 0 where
  pub word : (i : ℕ) → N ≤ i → s.word i ≡ 0
  pub entry_next : (i : ℕ) → N ≤ i → s.entry_next i ≡ 0
  pub node_next : (n : ℕ) → M ≤ n → s.node_next n ≡ 0

-- nothing else does, and no bag is longer than a bag may be
pub record Clean (N M : ℕ) (t : Tables) : Type 0 where
  pub shared : CleanShared N M t.shared
  pub own : (i : ℕ) → N ≤ i → t.own i ≡ blank
  pub held : (i c : ℕ) → N ≤ i → t.held i c ≡ 0
  pub held_end : (i c : ℕ) → max_objects ≤ c → t.held i c ≡ 0
  pub seals : (n : ℕ) → M ≤ n → ((t.bag n).epoch ≡ 0) × ((t.bag n).len ≡ 0)
  pub queued : (n c : ℕ) → M ≤ n → (t.bag n).deferreds c ≡ 0
  pub queued_end : (n c : ℕ) → max_objects ≤ c → (t.bag n).deferreds c ≡ 0
  pub slot_free : (i : ℕ) → t.slot_free i ≡ true → i < N
  pub node_free : (n : ℕ) → t.node_free n ≡ true → n < M

-- ---- rows

-- a place of row i stands before row n
before : (w n i c : ℕ) → i < n → c < w → i * w + c < n * w
before w n i c h k =
    let le : suc i * w ≤ n * w = mul-le-mul_right w h in
    let e = suc-mul i w in
    omega arith

-- the first n entries of a table
pub length-listed : {A : Type 0} (n : ℕ) (f : Tab A) → length (listed n f) ≡ n
unfolding listed
length-listed zero f = refl
length-listed (suc n) f = length-append (listed n f) (f n ∷ []) ∙ (rw (length-listed n f) (omega arith))

get_or-listed : (n : ℕ) (f : Tab ℕ) (c : ℕ) → c < n → get_or (listed n f) c 0 ≡ f c
unfolding listed
get_or-listed zero f c h = absurd (omega arith)
get_or-listed (suc n) f c h = below? c n
    (λ lt. get_or-append (listed n f) (f n ∷ []) 0 c (rw (length-listed n f) lt) ∙ get_or-listed n f c lt)
    (λ le. let e : c ≡ length (listed n f) + 0 = rw (length-listed n f) (omega arith) in
    let i : n ≡ c = omega arith in
    rw e (get_or-append-add (listed n f) (f n ∷ []) 0 0) ∙ ap f i)

-- beyond them is nothing
get_or_beyond : (n : ℕ) (f : Tab ℕ) (c : ℕ) → n ≤ c → get_or (listed n f) c 0 ≡ 0
get_or_beyond n f c h = get_or-eq_default (listed n f) 0 (rw (length-listed n f) h)

module _ (w : ℕ) (f : Tab (List ℕ)) (even : (i : ℕ) → length (f i) ≡ w) where
  -- rows of w words
  pub length-rows : (n : ℕ) → length (rows n f) ≡ n * w
  unfolding rows
  length-rows zero = rw (zero-mul w) refl
  length-rows (suc n) = length-append (rows n f) (f n) ∙ (rw (length-rows n, even n, suc-mul n w) refl)

  -- one of them
  get_or-rows : (n i c : ℕ) → i < n → c < w → get_or (rows n f) (i * w + c) 0 ≡ get_or (f i) c 0
  unfolding rows
  get_or-rows zero i c h k = absurd (omega arith)
  get_or-rows (suc n) i c h k = same? i n
      (λ e. rw (e, ← length-rows n) (get_or-append-add (rows n f) (f n) c 0))
      (λ ne. get_or-append (rows n f) (f n) 0 (i * w + c) (rw (length-rows n) (before w n i c (omega arith) k)) ∙ get_or-rows n i c (omega arith) k)

  -- read as cells: a row within the list, and one beyond it
  pub cell-row : (n i : ℕ) → i < n → cell w (rows n f) i ≡ (λ c. get_or (f i) c 0)
  unfolding cell
  cell-row n i h = fun_ext (λ c. below? c w
      (λ k. branch-true _ 0 (lt-ltb c w k) ∙ get_or-rows n i c h k)
      (λ k. branch-false _ 0 (le-ltb c w k) ∙ sym (get_or-eq_default (f i) 0 (rw (even i) k))))

  pub cell_none : (n i : ℕ) → n ≤ i → cell w (rows n f) i ≡ (λ c. 0)
  unfolding cell
  cell_none n i h = fun_ext (λ c. below? c w
      (λ k. branch-true _ 0 (lt-ltb c w k)
      ∙ get_or-eq_default (rows n f) 0 (rw (length-rows n) (let le : n * w ≤ i * w = mul-le-mul_right w h in omega arith)))
      (λ k. branch-false _ 0 (le-ltb c w k)))

-- rows of 64 entries of a table are the table, where nothing stands beyond either end
pub table_back : (n : ℕ) (f : Tab (Tab ℕ)) → ((i c : ℕ) → n ≤ i → f i c ≡ 0) → ((i c : ℕ) → max_objects ≤ c → f i c ≡ 0)
    → cell max_objects (rows n (λ i. listed max_objects (f i))) ≡ f
table_back n f out end = fun_ext (λ i. below? i n
    (λ h. cell-row max_objects (λ i. listed max_objects (f i)) (λ i. length-listed max_objects (f i)) n i h
    ∙ fun_ext (λ c. below? c max_objects (λ k. get_or-listed max_objects (f i) c k) (λ k. get_or_beyond max_objects (f i) c k ∙ sym (end i c k))))
    (λ h. cell_none max_objects (λ i. listed max_objects (f i)) (λ i. length-listed max_objects (f i)) n i h ∙ fun_ext (λ c. sym (out i c h))))

-- ---- free bits

-- words that hold the bits of a table, none of which is set beyond n
module _ (n : ℕ) (f : Tab Bool) (words : Tab ℕ) (same : (k : ℕ) → k < bit_words n → words k ≡ bits_word f k) (clean : (i : ℕ) → f i ≡ true → i < n) where
  inside : (i : ℕ) → i / 64 < bit_words n → bits (bit_words n) words i ≡ f i
  unfolding bits
  inside i h =
      let e : 64 * (i / 64) + i % 64 ≡ i = omega arith in
      rw (lt-ltb (i / 64) (bit_words n) h, same (i / 64) h) (bit-bits_word f (i / 64) (i % 64) (omega arith) ∙ ap f e)

  unset : (i : ℕ) → 64 * bit_words n ≤ i → (b : Bool) → f i ≡ b → f i ≡ false
  unset i h true e = absurd (let k = clean i e in let m = bit_words-enough n in omega arith)
  unset i h false e = e

  outside : (i : ℕ) → bit_words n ≤ i / 64 → bits (bit_words n) words i ≡ f i
  outside i h = bits_out (bit_words n) words i (omega arith) ∙ sym (unset i (omega arith) (f i) refl)

  bits_back : bits (bit_words n) words ≡ f
  bits_back = fun_ext (λ i. below? (i / 64) (bit_words n) (inside i) (outside i))

-- two runs of words after five: a word of the first, one of the second
first_run : (x₀ x₁ x₂ x₃ x₄ a b : ℕ) (f g : Tab ℕ) (k : ℕ) → k < a → get_or ((x₀ ∷ x₁ ∷ x₂ ∷ x₃ ∷ x₄ ∷ []) ++ listed a f ++ listed b g) (5 + k) 0 ≡ f k
first_run x₀ x₁ x₂ x₃ x₄ a b f g k h = get_or-append-add (x₀ ∷ x₁ ∷ x₂ ∷ x₃ ∷ x₄ ∷ []) (listed a f ++ listed b g) k 0
    ∙ get_or-append (listed a f) (listed b g) 0 k (rw (length-listed a f) h) ∙ get_or-listed a f k h

second-run : (x₀ x₁ x₂ x₃ x₄ a b : ℕ) (f g : Tab ℕ) (k : ℕ) → k < b → get_or ((x₀ ∷ x₁ ∷ x₂ ∷ x₃ ∷ x₄ ∷ []) ++ listed a f ++ listed b g) (5 + a + k) 0 ≡ g k
second-run x₀ x₁ x₂ x₃ x₄ a b f g k h =
    let e : 5 + a + k ≡ 5 + (length (listed a f) + k) = rw (length-listed a f) (omega arith) in
    rw e (get_or-append-add (x₀ ∷ x₁ ∷ x₂ ∷ x₃ ∷ x₄ ∷ []) (listed a f ++ listed b g) (length (listed a f) + k) 0)
    ∙ get_or-append-add (listed a f) (listed b g) k 0 ∙ get_or-listed b g k h

-- ---- each part

module _ (N M : ℕ) (t : Tables) where
  -- the rows of participants, and of nodes
  abbrev pub row : Tab (List ℕ)
  row i = t.shared.word i ∷ t.shared.entry_next i ∷ record_words (t.own i)

  abbrev pub node_row : Tab (List ℕ)
  node_row n = t.shared.node_next n ∷ (t.bag n).epoch ∷ (t.bag n).len ∷ []

  pub row_even : (i : ℕ) → length (row i) ≡ participant_words
  unfolding record_words participant_words
  row_even i = refl

  pub node_even : (n : ℕ) → length (node_row n) ≡ node_words
  unfolding node_words
  node_even n = refl

module _ (N M : ℕ) (t : Tables) (clean : Clean N M t) where
  abbrev l : Lent
  l = lent_of N M t

  -- what a function of a row reads
  row_reads : {A : Type 0} (f : Tab ℕ → A) (v : Tab A) → ((i : ℕ) → f (λ c. get_or (row N M t i) c 0) ≡ v i) → ((i : ℕ) → N ≤ i → f (λ c. 0) ≡ v i)
      → (λ (i : ℕ). f (cell participant_words (rows N (row N M t)) i)) ≡ v
  row_reads f v here none = fun_ext (λ i. below? i N
      (λ h. ap f (cell-row participant_words (row N M t) (row_even N M t) N i h) ∙ here i)
      (λ h. ap f (cell_none participant_words (row N M t) (row_even N M t) N i h) ∙ none i h))

  node_reads : {A : Type 0} (f : Tab ℕ → A) (v : Tab A) → ((n : ℕ) → f (λ c. get_or (node_row N M t n) c 0) ≡ v n) → ((n : ℕ) → M ≤ n → f (λ c. 0) ≡ v n)
      → (λ (n : ℕ). f (cell node_words (rows M (node_row N M t)) n)) ≡ v
  node_reads f v here none = fun_ext (λ n. below? n M
      (λ h. ap f (cell-row node_words (node_row N M t) (node_even N M t) M n h) ∙ here n)
      (λ h. ap f (cell_none node_words (node_row N M t) (node_even N M t) M n h) ∙ none n h))

  shared_back : (tables_of N M l).shared ≡ t.shared
  unfolding tables_of lent_of shared_from
  shared_back = λ i. record {
    global_epoch = t.shared.global_epoch;
    list_head = t.shared.list_head;
    entry_next = row_reads (λ w. w 1) t.shared.entry_next (λ i. refl) (λ i h. sym (clean.shared.entry_next i h)) i;
    word = row_reads (λ w. w 0) t.shared.word (λ i. refl) (λ i h. sym (clean.shared.word i h)) i;
    queue_head = t.shared.queue_head;
    queue_tail = t.shared.queue_tail;
    node_next = node_reads (λ w. w 0) t.shared.node_next (λ i. refl) (λ i h. sym (clean.shared.node_next i h)) i;
  }

  own_back : (tables_of N M l).own ≡ t.own
  unfolding tables_of lent_of
  own_back = row_reads record_at t.own (λ i. unfold record_at record_words in refl) (λ i h. unfold blank in (sym (clean.own i h)))

  held_back : (tables_of N M l).held ≡ t.held
  unfolding tables_of lent_of
  held_back = table_back N t.held clean.held clean.held_end

  bag_back : (tables_of N M l).bag ≡ t.bag
  unfolding tables_of lent_of bag_from
  bag_back = λ i. λ n. record {
    epoch = node_reads (λ w. w 1) (λ n. (t.bag n).epoch) (λ n. refl) (λ n h. sym (clean.seals n h).0) i n;
    len = node_reads (λ w. w 2) (λ n. (t.bag n).len) (λ n. refl) (λ n h. sym (clean.seals n h).1) i n;
    deferreds = table_back M (λ n. (t.bag n).deferreds) clean.queued clean.queued_end i n;
  }

  slots_back : (tables_of N M l).slot_free ≡ t.slot_free
  unfolding tables_of lent_of slot_bits global_words
  slots_back = bits_back N t.slot_free _ (λ k h. first_run _ _ _ _ _ (bit_words N) (bit_words M) (bits_word t.slot_free) (bits_word t.node_free) k h) clean.slot_free

  nodes_back : (tables_of N M l).node_free ≡ t.node_free
  unfolding tables_of lent_of node_bits global_words
  nodes_back = bits_back M t.node_free _ (λ k h. second-run _ _ _ _ _ (bit_words N) (bit_words M) (bits_word t.slot_free) (bits_word t.node_free) k h) clean.node_free

  aside_back : (tables_of N M l).aside ≡ t.aside
  unfolding tables_of lent_of
  aside_back = refl

-- all of them
pub tables_back : (N M : ℕ) (t : Tables) → Clean N M t → tables_of N M (lent_of N M t) ≡ t
tables_back N M t clean = λ i. record {
  shared = shared_back N M t clean i;
  own = own_back N M t clean i;
  held = held_back N M t clean i;
  bag = bag_back N M t clean i;
  slot_free = slots_back N M t clean i;
  node_free = nodes_back N M t clean i;
  aside = aside_back N M t clean i;
}
