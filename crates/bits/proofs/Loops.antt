-- What word j of k words does to what a function promises that looks at one after another, with the words before it done. Assumes nothing.
use mathlib.Core.Path.{◌≡◌, refl, sym, ap, ◌∙◌}
use mathlib.Core.Bool.{Bool, true, false, ◌&&◌}
use mathlib.Core.List.{List, [], ◌∷◌}
use Prim.Native.Nat.{ℕ, zero, suc, ◌+◌, ◌-◌, ◌*◌, ◌/◌, ◌%◌, ◌^◌, ◌≤◌, ◌<◌}
use native.Mathlib.Nat.{add-zero, div-one, le_refl}
use native.Mathlib.Numerals.{add-one}
use native.Mathlib.Omega.{arith}
use lib.Count.{count_trailing_zeros, ones}
use lib.Dec.{ltb, eqb}
use lib.ListN.{length, get_or, take, drop, length-drop}
use lib.Pow.{pow_pos}
use lib.Seq.{get_or-drop, take-length}
use borrow.Author.Tests.{lt-ltb, le-ltb, eq-eqb, ne_eqb, eqb-true, eqb-false}
use Rattle.std.specs.List.{sum_by, list_all}
use Rattle.std.proofs.lemmas.List.Sums.{sum_by_more}
use Rattle.definition.specs.Base.{branch, Tab, sum, count, all, least}
use Rattle.definition.specs.Layout.{bit, bits}
use Rattle.definition.proofs.Base.{branch_same, all_at, all_intro}
use Rattle.bits.specs.Bits.{words_of, bits_of, within}
use Rattle.bits.proofs.Table.{below?, count_ext, count-add, all_ext, all_add, least_at, least_none}
use Rattle.bits.proofs.Word.{bit_high, lowest_lt, lowest_set, lowest_below, count-bits, none_beyond}
use Rattle.bits.proofs.Laws.{bits_at, bits_out, inside}

-- an index from 64j on is one of word j or later
in_word : (k : ℕ) (words : Tab ℕ) (j i : ℕ) → j < k → 64 * j ≤ i → i < 64 * j + 64 → bits k words i ≡ bit (words j) (i - 64 * j)
in_word k words j i h a z =
    let there : 64 * j + (i - 64 * j) ≡ i = omega arith in
    ap (bits k words) (sym there) ∙ bits_at k words j (i - 64 * j) h (omega arith)

-- words that are 0 have no set bit
pub clear_below : (k : ℕ) (words : Tab ℕ) (j : ℕ) → j ≤ k → ((i : ℕ) → i < j → words i ≡ 0) → (i : ℕ) → i < 64 * j → bits k words i ≡ false
clear_below k words j h z i l =
    let word : i / 64 < j = omega arith in
    in_word k words (i / 64) i (omega arith) (omega arith) (omega arith) ∙ ap (λ (w : ℕ). bit w (i - 64 * (i / 64))) (z (i / 64) word)
    ∙ bit_high 0 (i - 64 * (i / 64)) (pow_pos (i - 64 * (i / 64)))

-- and where every word is 0 none is free
pub none_free : (ws : List ℕ) (n : ℕ) → ((i : ℕ) → i < length ws → get_or ws i 0 ≡ 0) → n ≡ least n (bits_of ws)
none_free ws n z = sym (least_none n (bits_of ws) (λ i l.
    below? i (64 * length ws) (clear_below (length ws) (words_of ws) (length ws) (le_refl (length ws)) z i)
    (bits_out (length ws) (words_of ws) i)))

module _ (k : ℕ) (words : Tab ℕ) (j : ℕ) (h : j < k) where
  -- `first_free`: word j is the first that is not 0
  pub first_here : words j < 2 ^ 64 → (words j ≡ 0 → ⊥) → (n : ℕ) → within k n (bits k words) ≡ true
      → ((i : ℕ) → i < j → words i ≡ 0) → 64 * j + count_trailing_zeros 64 (words j) ≡ least n (bits k words)
  first_here fits ne n w clear = sym (least_at n f (64 * j + t) (inside k n f w (64 * j + t) (omega (arith, low)) on) on below)
    where
      f : Tab Bool
      f = bits k words

      t : ℕ
      t = count_trailing_zeros 64 (words j)

      low : t < 64
      low = lowest_lt 64 (words j) fits ne

      on : f (64 * j + t) ≡ true
      on = bits_at k words j t h low ∙ lowest_set 64 (words j) low

      below : (i : ℕ) → i < 64 * j + t → f i ≡ false
      below i l =
          below? i (64 * j) (clear_below k words j (omega arith) clear i) (λ g.
          in_word k words j i h g (omega (arith, low)) ∙ lowest_below 64 (words j) (i - 64 * j) (omega arith))

  -- `count_free` counts word j
  pub count-word : words j < 2 ^ 64 → count (64 * j) (bits k words) + ones (words j) ≡ count (64 * (j + 1)) (bits k words)
  count-word fits =
      let e : 64 * (j + 1) ≡ 64 * j + 64 = omega arith in
      sym (ap (λ (m : ℕ). count m (bits k words)) e ∙ count-add (64 * j) 64 (bits k words)
      ∙ ap (λ (x : ℕ). count (64 * j) (bits k words) + x)
      (count_ext 64 (λ i. bits k words (64 * j + i)) (bit (words j)) (λ i l. bits_at k words j i h l) ∙ count-bits 64 (words j) fits))

  -- `bits_in` looks at word j
  within-word : words j < 2 ^ 64 → (n : ℕ)
      → within (j + 1) n (bits k words) ≡ (within j n (bits k words) && eqb (words j / 2 ^ (n - 64 * j)) 0)
  within-word fits n =
      let e : 64 * (j + 1) ≡ 64 * j + 64 = omega arith in
      ap (λ (m : ℕ). all m g) e ∙ all_add (64 * j) 64 g
      ∙ ap (λ (b : Bool). all (64 * j) g && b) (all_ext 64 (λ i. g (64 * j + i)) here same ∙ none_beyond 64 (words j) (n - 64 * j) fits)
    where
      g : Tab Bool
      g = λ i. branch (bits k words i) (ltb i n) true

      here : Tab Bool
      here = λ i. branch (bit (words j) i) (ltb i (n - 64 * j)) true

      same : (i : ℕ) → i < 64 → g (64 * j + i) ≡ here i
      same i l =
          below? (64 * j + i) n
          (λ s. rw (bits_at k words j i h l, lt-ltb (64 * j + i) n s, lt-ltb i (n - 64 * j) (omega arith)))
          (λ s. rw (bits_at k words j i h l, le-ltb (64 * j + i) n s, le-ltb i (n - 64 * j) (omega arith)))

  -- it goes on: the words before had no bit at n or beyond, and nor has word j
  pub within-later : words j < 2 ^ 64 → (n : ℕ) → within j n (bits k words) ≡ true → words j / 2 ^ (n - 64 * j) ≡ 0
      → within (j + 1) n (bits k words) ≡ true
  within-later fits n before e = within-word fits n ∙ rw (before, eq-eqb (words j / 2 ^ (n - 64 * j)) 0 e)

  -- it stops: word j has one
  pub within_here : words j < 2 ^ 64 → (n : ℕ) → within j n (bits k words) ≡ true → (words j / 2 ^ (n - 64 * j) ≡ 0 → ⊥)
      → within (j + 1) n (bits k words) ≡ false
  within_here fits n before ne = within-word fits n ∙ rw (before, ne_eqb (words j / 2 ^ (n - 64 * j)) 0 ne)

-- the words before that of n have no bit at n or beyond
pub within-start : (n : ℕ) (f : Tab Bool) → within (n / 64) n f ≡ true
unfolding branch
within-start n f = all_intro (64 * (n / 64)) (λ i. branch (f i) (ltb i n) true) (λ i l. rw (lt-ltb i n (omega arith)) (branch_same (f i) true))

-- a part of the words that has such a bit is enough
pub within_not : (j k n : ℕ) (f : Tab Bool) → j ≤ k → within j n f ≡ false → within k n f ≡ false
within_not j k n f l e =
    let m : 64 * k ≡ 64 * j + (64 * k - 64 * j) = omega arith in
    ap (λ (x : ℕ). all x g) m ∙ all_add (64 * j) (64 * k - 64 * j) g ∙ rw e
  where
    g : Tab Bool
    g = λ i. branch (f i) (ltb i n) true

-- and a part of words that have none has none
pub within_less : (j k n : ℕ) (f : Tab Bool) → j ≤ k → within k n f ≡ true → within j n f ≡ true
within_less j k n f l h =
    all_intro (64 * j) (λ i. branch (f i) (ltb i n) true) (λ i s. all_at (64 * k) (λ i. branch (f i) (ltb i n) true) i h (omega arith))

-- ---- what the chains of iterators give

-- the set bits of the first m words
ones_counted : (ws : List ℕ) → ((j : ℕ) → get_or ws j 0 < 2 ^ 64) → (m : ℕ) → m ≤ length ws → sum_by ones (take m ws) ≡ count (64 * m) (bits_of ws)
unfolding count sum
ones_counted ws fits zero l = refl
ones_counted ws fits (suc m) l =
    ap (λ (x : ℕ). sum_by ones (take x ws)) (sym (add-one m)) ∙ sum_by_more ones ws m 0 l
    ∙ rw (ones_counted ws fits m (omega arith))
    (count-word (length ws) (words_of ws) m l (fits m) ∙ ap (λ (x : ℕ). count (64 * x) (bits_of ws)) (add-one m))

-- `count_free`: those of all of them
pub ones_count : (ws : List ℕ) → ((j : ℕ) → get_or ws j 0 < 2 ^ 64) → sum_by ones ws ≡ count (64 * length ws) (bits_of ws)
ones_count ws fits = ap (sum_by ones) (sym (take-length ws)) ∙ ones_counted ws fits (length ws) (omega arith)

-- `bits_in`: no word from j on has a bit exactly if each is 0, where n stands before them
pub zeros : (k n : ℕ) (words : Tab ℕ) → ((i : ℕ) → i < k → words i < 2 ^ 64) → (xs : List ℕ) (j : ℕ) → j + length xs ≡ k
    → ((i : ℕ) → i < length xs → get_or xs i 0 ≡ words (j + i)) → n ≤ 64 * j → within j n (bits k words) ≡ true
    → list_all (λ w. eqb w 0) xs ≡ within k n (bits k words)
zeros k n words fits [] j e same l before = sym before ∙ ap (λ (m : ℕ). within m n (bits k words)) (sym (add-zero j) ∙ e)
zeros k n words fits (x ∷ xs) j e same l before =
    by (eqb x 0) refl
    (zeros k n words fits xs (j + 1) (omega arith)
    (λ i s. same (suc i) (omega arith) ∙ ap words (omega arith)) (omega arith))
  where
    there : x ≡ words j
    there = same 0 (omega arith) ∙ ap words (add-zero j)

    shift : n - 64 * j ≡ 0
    shift = omega arith

    by : (b : Bool) → eqb x 0 ≡ b
        → (within (j + 1) n (bits k words) ≡ true → list_all (λ w. eqb w 0) xs ≡ within k n (bits k words))
        → list_all (λ w. eqb w 0) (x ∷ xs) ≡ within k n (bits k words)
    by true z again =
        let none : words j / 2 ^ (n - 64 * j) ≡ 0 = rw (shift, ← there, eqb-true x 0 z) refl in
        rw z (again (within-later k words j (omega arith) (fits j (omega arith)) n before none))
    by false z again =
        let one : words j / 2 ^ (n - 64 * j) ≡ 0 → ⊥ = λ o. eqb-false x 0 z (there ∙ sym (div-one (words j)) ∙ (rw shift at o)) in
        let here = within_here k words j (omega arith) (fits j (omega arith)) n before one in
        rw z (sym (within_not (j + 1) k n (bits k words) (omega arith) here))

module _ (ws : List ℕ) (n : ℕ) (fits : (j : ℕ) → get_or ws j 0 < 2 ^ 64) where
  -- where n stands in no word, or beyond them, no bit is set there
  pub within-short : length ws ≤ n / 64 → within (length ws) n (bits_of ws) ≡ true
  within-short l = within_less (length ws) (n / 64) n (bits_of ws) l (within-start n (bits_of ws))

  module _ (l : n / 64 < length ws) where
    shift : n - 64 * (n / 64) ≡ n % 64
    shift = omega arith

    -- `bits_in`: one is where the word of n has one
    pub within-first : (get_or ws (n / 64) 0 / 2 ^ (n % 64) ≡ 0 → ⊥) → within (length ws) n (bits_of ws) ≡ false
    within-first ne =
        let set : words_of ws (n / 64) / 2 ^ (n - 64 * (n / 64)) ≡ 0 → ⊥ = rw shift ne in
        let here = within_here (length ws) (words_of ws) (n / 64) l (fits (n / 64)) n (within-start n (bits_of ws)) set in
        within_not (n / 64 + 1) (length ws) n (bits_of ws) (omega arith) here

    -- and where it has none, the words behind it tell
    pub within-rest : get_or ws (n / 64) 0 / 2 ^ (n % 64) ≡ 0 → list_all (λ w. eqb w 0) (take (length ws - (n / 64 + 1)) (drop (n / 64 + 1) ws))
        ≡ within (length ws) n (bits_of ws)
    within-rest e =
        let clear : words_of ws (n / 64) / 2 ^ (n - 64 * (n / 64)) ≡ 0 = rw shift e in
        let later = within-later (length ws) (words_of ws) (n / 64) l (fits (n / 64)) n (within-start n (bits_of ws)) clear in
        let long : length (drop (n / 64 + 1) ws) ≡ length ws - (n / 64 + 1) = length-drop (n / 64 + 1) ws in
        let all = ap (λ (m : ℕ). take m (drop (n / 64 + 1) ws)) (sym long) ∙ take-length (drop (n / 64 + 1) ws) in
        ap (list_all (λ w. eqb w 0)) all
        ∙ zeros (length ws) n (words_of ws) (λ i s. fits i) (drop (n / 64 + 1) ws) (n / 64 + 1) (omega arith)
        (λ i s. get_or-drop (n / 64 + 1) ws i 0) (omega arith) later
