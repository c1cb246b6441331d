-- Lent lists of the right lengths are what their tables say: nothing in them is lost when they are read as tables, so a promise that
-- gives the tables afterwards gives every word. The free bits stand apart (`bits_word`). Assumes nothing.
use mathlib.Core.Path.{◌≡◌, refl, ap, sym, ◌∙◌}
use mathlib.Core.List.{List, [], ◌∷◌, ◌++◌}
use mathlib.Core.Bool.{true}
use Prim.Native.Nat.{ℕ, zero, suc, ◌+◌, ◌*◌, ◌≤◌, ◌<◌}
use native.Mathlib.Omega.{arith}
use native.Mathlib.Nat.{suc-mul, zero-mul}
use lib.ListN.{length, get_or, take, drop, length-drop}
use lib.Seq.{take-suc, take-add, drop-drop, get_or-drop, take_all}
use borrow.Author.Tests.{lt-ltb, eqb-true}
use Rattle.definition.specs.Base.{Tab, listed}
use Rattle.definition.specs.Layout.{Lent, cell, rows, sized, tables_of, lent_of, global_words, participant_words, node_words, bits_word, slot_bits, node_bits, shared_from, bag_from, record_words, record_at}
use Rattle.definition.specs.Bags.{max_objects}
use Rattle.definition.specs.Ranges.{bit_words}
use Rattle.definition.proofs.Base.{branch-true, both}

-- a cell within its row
pub cell_in : (w : ℕ) (l : List ℕ) (i c : ℕ) → c < w → cell w l i c ≡ get_or l (i * w + c) 0
unfolding cell
cell_in w l i c h = branch-true (get_or l (i * w + c) 0) 0 (lt-ltb c w h)

-- the first n entries of a list, read one by one, are its first n
pub listed-take : (n : ℕ) (l : List ℕ) (f : Tab ℕ) → n ≤ length l → ((c : ℕ) → c < n → f c ≡ get_or l c 0) → listed n f ≡ take n l
unfolding listed
listed-take zero l f h same = refl
listed-take (suc n) l f h same =
    rw (listed-take n l f (omega arith) (λ c lt. same c (omega arith)), same n (omega arith)) (sym (take-suc l n 0 (omega arith)))

-- a row of cells is that part of the list
pub row-cells : (w : ℕ) (l : List ℕ) (i : ℕ) → i * w + w ≤ length l → listed w (cell w l i) ≡ take w (drop (i * w) l)
row-cells w l i h = listed-take w (drop (i * w) l) (cell w l i) (rw (length-drop (i * w) l) (omega arith))
    (λ c lt. cell_in w l i c lt ∙ sym (get_or-drop (i * w) l c 0))

-- rows that say what the list's rows say, one after another, are the list
pub rows-take : (w n : ℕ) (l : List ℕ) (f : Tab (List ℕ)) → n * w ≤ length l → ((i : ℕ) → i < n → f i ≡ listed w (cell w l i)) → rows n f ≡ take (n * w) l
unfolding rows
rows-take w zero l f h same = rw (zero-mul w) refl
rows-take w (suc n) l f h same =
    let fits : n * w + w ≤ length l = rw (suc-mul n w) at h in
    rw (rows-take w n l f (omega arith) (λ i lt. same i (omega arith)), same n (omega arith), row-cells w l n fits, suc-mul n w)
    (sym (take-add (n * w) w l))

pub rows_back : (w n : ℕ) (l : List ℕ) (f : Tab (List ℕ)) → length l ≡ n * w → ((i : ℕ) → i < n → f i ≡ listed w (cell w l i)) → rows n f ≡ l
rows_back w n l f h same = rows-take w n l f (omega arith) same ∙ take_all (n * w) l (omega arith)

-- the words of a list from a on, read one by one, are that part of the list
pub listed-part : (n a : ℕ) (l : List ℕ) (f : Tab ℕ) → a + n ≤ length l → ((k : ℕ) → k < n → f k ≡ get_or l (a + k) 0) → listed n f ≡ take n (drop a l)
listed-part n a l f h same =
    listed-take n (drop a l) f (rw (length-drop a l) (omega arith)) (λ k lt. same k lt ∙ sym (get_or-drop a l k 0))

-- a list is its first five words and two runs of words, if these are as long as it is
two_runs : (a b : ℕ) (r : List ℕ) → length r ≡ a + b → take a r ++ take b (drop a r) ≡ r
two_runs a b r h = sym (take-add a b r) ∙ take_all (a + b) r (omega arith)

parts : (a b : ℕ) (l : List ℕ) → length l ≡ 5 + a + b
    → (get_or l 0 0 ∷ get_or l 1 0 ∷ get_or l 2 0 ∷ get_or l 3 0 ∷ get_or l 4 0 ∷ []) ++ take a (drop 5 l) ++ take b (drop (5 + a) l) ≡ l
parts a b [] h = absurd (omega arith)
parts a b (x₀ ∷ []) h = absurd (omega arith)
parts a b (x₀ ∷ x₁ ∷ []) h = absurd (omega arith)
parts a b (x₀ ∷ x₁ ∷ x₂ ∷ []) h = absurd (omega arith)
parts a b (x₀ ∷ x₁ ∷ x₂ ∷ x₃ ∷ []) h = absurd (omega arith)
parts a b (x₀ ∷ x₁ ∷ x₂ ∷ x₃ ∷ x₄ ∷ r) h =
    rw (← drop-drop a 5 (x₀ ∷ x₁ ∷ x₂ ∷ x₃ ∷ x₄ ∷ r))
    (ap (λ (t : List ℕ). x₀ ∷ x₁ ∷ x₂ ∷ x₃ ∷ x₄ ∷ t) (two_runs a b r (omega arith)))

-- what the right lengths are
pub record Sized (N M : ℕ) (l : Lent) : Type 0 where
  pub globals : length l.globals ≡ 5 + bit_words N + bit_words M
  pub participants : length l.participants ≡ N * 21
  pub nodes : length l.nodes ≡ M * 3
  pub held : length l.held ≡ N * 64
  pub queued : length l.queued ≡ M * 64

pub sized_is : (N M : ℕ) (l : Lent) → sized N M l ≡ true → Sized N M l
unfolding sized global_words participant_words node_words max_objects
sized_is N M l h =
    let a = both _ _ h in
    let b = both _ _ a.0 in
    let c = both _ _ b.0 in
    let d = both _ _ c.0 in
    record {
      globals = eqb-true _ _ d.0;
      participants = eqb-true _ _ d.1;
      nodes = eqb-true _ _ c.1;
      held = eqb-true _ _ b.1;
      queued = eqb-true _ _ a.1;
    }

-- each list, from what its tables say
module _ (N M : ℕ) (l : Lent) (s : Sized N M l) where
  abbrev back : Lent
  back = lent_of N M (tables_of N M l)

  pub globals_back : ((k : ℕ) → k < bit_words N → bits_word (slot_bits N l.globals) k ≡ get_or l.globals (5 + k) 0)
      → ((k : ℕ) → k < bit_words M → bits_word (node_bits N M l.globals) k ≡ get_or l.globals (5 + bit_words N + k) 0)
      → back.globals ≡ l.globals
  unfolding lent_of tables_of shared_from
  globals_back slots nodes =
      rw (
        listed-part (bit_words N) 5 l.globals (bits_word (slot_bits N l.globals)) (omega arith) slots,
        listed-part (bit_words M) (5 + bit_words N) l.globals (bits_word (node_bits N M l.globals)) (omega arith) nodes,
      )
      (parts (bit_words N) (bit_words M) l.globals s.globals)

  pub participants_back : back.participants ≡ l.participants
  unfolding lent_of tables_of shared_from record_words record_at participant_words
  participants_back = rows_back 21 N l.participants _ s.participants (λ i lt. unfold listed in refl)

  pub nodes_back : back.nodes ≡ l.nodes
  unfolding lent_of tables_of shared_from bag_from node_words
  nodes_back = rows_back 3 M l.nodes _ s.nodes (λ i lt. unfold listed in refl)

  pub held_back : back.held ≡ l.held
  unfolding lent_of tables_of max_objects
  held_back = rows_back 64 N l.held _ s.held (λ i lt. refl)

  pub queued_back : back.queued ≡ l.queued
  unfolding lent_of tables_of bag_from max_objects
  queued_back = rows_back 64 M l.queued _ s.queued (λ i lt. refl)

-- the lists that hold the tables of given lists are these lists
pub lists_back : (N M : ℕ) (l : Lent) → Sized N M l
    → ((k : ℕ) → k < bit_words N → bits_word (slot_bits N l.globals) k ≡ get_or l.globals (5 + k) 0)
    → ((k : ℕ) → k < bit_words M → bits_word (node_bits N M l.globals) k ≡ get_or l.globals (5 + bit_words N + k) 0)
    → lent_of N M (tables_of N M l) ≡ l
lists_back N M l s slots nodes = λ i. record {
  globals = globals_back N M l s slots nodes i;
  participants = participants_back N M l s i;
  nodes = nodes_back N M l s i;
  held = held_back N M l s i;
  queued = queued_back N M l s i;
}
