-- Refusals: how the first of them is found, and what holds where there is none. Assumes nothing.
use mathlib.Core.Path.{◌≡◌, refl, ap, sym, ◌∙◌}
use mathlib.Core.Bool.{Bool, true, false, ◌&&◌, ◌||◌, not, false≢true}
use mathlib.Core.List.{List, [], ◌∷◌}
use Prim.Native.Nat.{ℕ, ◌+◌, ◌-◌, ◌*◌, ◌≤◌, ◌<◌}
use native.Mathlib.Omega.{arith}
use lib.Dec.{eqb, ltb, leb}
use lib.ListN.{get_or, take, drop}
use borrow.Author.Tests.{leb-false, ltb-true, ltb-false, lt-ltb, le-ltb, eqb-true, eqb-false, eq-eqb}
use Rattle.definition.specs.Base.{branch, count, least}
use Rattle.definition.specs.Bags.{max_objects, items}
use Rattle.definition.specs.Calls.{lacks, count_full, token_above, held_already, needs}
use Rattle.definition.specs.Layout.{Lent, sized, slot_bits, node_bits, shared_from, tables_of}
use Rattle.definition.specs.Links.{is_tagged}
use Rattle.definition.specs.Public.{Check, check, refusal, step_checks, call_checks, register_checks, the, damaged, absent, running, twice, no_node, missing}
use Rattle.definition.specs.Ranges.{within_limits, bit_words, is_rest, bits_in, in_range}
use Rattle.definition.specs.Tables.{Tables}
use Rattle.definition.specs.declared.Call.{Call}
use Rattle.definition.specs.declared.Participant.{Participant}
use Rattle.definition.specs.Codec.{participant_of}
use Rattle.definition.proofs.Base.{both, count_least}
use Rattle.definition.proofs.Lists.{sized_is}
use Rattle.lent.proofs.Laws.{row_word}
use Rattle.records.proofs.Laws.{row_alone}
use Rattle.bits.specs.Bits.{within, words_at}
use Rattle.bags.proofs.Nodes.{held-items}
use Rattle.ranges.specs.Sound.{Sound}
use Rattle.ranges.proofs.Laws.{limits-small, link_cell}
use Rattle.ranges.proofs.Facts.{facts, bag-len-small}
use Rattle.checks.specs.Passed.{Passed, Present}
use Rattle.checks.specs.Refusals.{sized_first, step_refusal, call_refusal, register_refusal, damage_of, step_rest, call_rest, register_rest, row}

-- ---- the first check that holds

-- no refusal: the first check does not hold, nor does any other
pub none : (k : ℕ) (b : Bool) (cs : List Check) → (k ≡ 0 → b ≡ false) → refusal (check k b ∷ cs) ≡ 0 → (b ≡ false) × (refusal cs ≡ 0)
unfolding refusal branch
none k true cs h e = absurd (false≢true (sym (h e)))
none k false cs h e = (refl, e)

-- sizes first: no refusal, so the sizes are right
pub sizes_right : (N M : ℕ) (l : Lent) (k : ℕ) → sized_first N M l k ≡ 0 → ((within_limits N M && sized N M l) ≡ true) × (k ≡ 0)
unfolding branch
sizes_right N M l k = by (within_limits N M && sized N M l)
  where
    by : (b : Bool) → branch b k 2 ≡ 0 → (b ≡ true) × (k ≡ 0)
    by true e = (refl, e)
    by false e = absurd (omega arith)

-- neither of two tests holds
pub neither : (a b : Bool) → (a || b) ≡ false → (a ≡ false) × (b ≡ false)
neither true b h = absurd (false≢true (sym h))
neither false b h = (refl, h)

-- twice no is yes
pub not_not : (b : Bool) → not (not b) ≡ b
not_not true = refl
not_not false = refl

-- what is not no is yes
sure : (b : Bool) → not b ≡ false → b ≡ true
sure true h = refl
sure false h = absurd (false≢true (sym h))

-- ---- lists that passed

-- sizes, ranges, then other checks: none holds
pub whole-rest : (N M : ℕ) (l : Lent) (cs : List Check) → sized_first N M l (refusal (check 1 (damaged N M (tables_of N M l)) ∷ cs)) ≡ 0
    → Sound N M l × (refusal cs ≡ 0)
unfolding damaged
whole-rest N M l cs e =
    let a = sizes_right N M l (refusal (check 1 (damaged N M (tables_of N M l)) ∷ cs)) e in
    let s = both (within_limits N M) (sized N M l) a.0 in
    let d = none 1 (damaged N M (tables_of N M l)) cs (λ z. absurd (omega arith)) a.1 in
    (record { limits = s.0; lengths = s.1; range = sure (in_range N M (tables_of N M l)) d.0 }, d.1)

-- the same from what the code finds of sizes and ranges, and the rest after it
pub damage_none : (N M : ℕ) (l : Lent) → damage_of N M l ≡ 0 → Sound N M l
unfolding damage_of branch
damage_none N M l e =
    let a = sizes_right N M l (branch (in_range N M (tables_of N M l)) 0 1) e in
    let s = both (within_limits N M) (sized N M l) a.0 in
    record { limits = s.0; lengths = s.1; range = by (in_range N M (tables_of N M l)) a.1 }
  where
    by : (b : Bool) → ◌≡◌ {A = ℕ} (branch b 0 1) 0 → b ≡ true
    by true z = refl
    by false z = absurd (omega arith)

-- ---- a participant that is there

-- not absent: the index is one of N, and the slot is not free
pub present : (N M p : ℕ) (t : Tables) → absent N M p t ≡ false → (p < N) × (t.slot_free p ≡ false)
unfolding absent
present N M p t e =
    let a = neither (leb N p || t.slot_free p) _ e in
    let b = neither (leb N p) (t.slot_free p) a.0 in
    (leb-false N p b.0, b.1)

-- absent, by the words of the row, which say so
pub absent_words : (N M p : ℕ) (l : Lent) → let part = take 21 (drop (p * 21) l.participants) in
    absent N M p (tables_of N M l) ≡ (leb N p || slot_bits N l.globals p || (is_tagged (get_or part 1 0) && is_rest (row part 0).place))
unfolding absent running tables_of shared_from
absent_words N M p l = rw (link_cell l.participants p, not_not (is_rest (row l.participants p).place), row_word 21 l.participants p 1 (omega arith), row_alone l.participants p)

-- twice, by the words of the bag
pub twice_words : (N M p : ℕ) (c : Call) (l : Lent) (o : Participant) → Present N M l p o
    → twice p c (tables_of N M l) ≡ held_already c (items o.held (words_at l.held (p * 64)))
unfolding twice tables_of
twice_words N M p c l o h = rw (← h.own) (ap (held_already c) (held-items l.held p o.held h.few))

-- a step may go on
pub record StepFine (N M : ℕ) (l : Lent) (places p : ℕ) : Type 0 where
  pub sound : Sound N M l
  pub places-enough : max_objects ≤ places
  pub there : absent N M p (tables_of N M l) ≡ false
  pub below : p < N
  pub taken : (tables_of N M l).slot_free p ≡ false
  pub runs : running p (tables_of N M l) ≡ true
  pub supplied : missing N M p (tables_of N M l) ≡ false

pub step_fine : (N M : ℕ) (l : Lent) (places p : ℕ) → step_refusal N M l places p ≡ 0 → StepFine N M l places p
unfolding step_refusal step_checks
step_fine N M l places p e =
    let a = whole-rest N M l _ e in
    let b = none 12 _ _ (λ z. absurd (omega arith)) a.1 in
    let c = none 3 _ _ (λ z. absurd (omega arith)) b.1 in
    let d = none 5 _ _ (λ z. absurd (omega arith)) c.1 in
    let f = none 1 _ _ (λ z. absurd (omega arith)) d.1 in
    let here = present N M p (tables_of N M l) c.0 in
    record {
      sound = a.0;
      places-enough = ltb-false places max_objects b.0;
      there = c.0;
      below = here.0;
      taken = here.1;
      runs = sure (running p (tables_of N M l)) d.0;
      supplied = f.0;
    }

-- a call may go on
pub record CallFine (N M : ℕ) (l : Lent) (p : ℕ) (c : Call) : Type 0 where
  pub sound : Sound N M l
  pub there : absent N M p (tables_of N M l) ≡ false
  pub below : p < N
  pub taken : (tables_of N M l).slot_free p ≡ false
  pub rests : running p (tables_of N M l) ≡ false
  pub counted : lacks c (the p (tables_of N M l)) ≡ 0
  pub countable : count_full c (the p (tables_of N M l)) ≡ false
  pub small : token_above c ≡ false
  pub once : twice p c (tables_of N M l) ≡ false
  pub enough : (tables_of N M l).aside + needs N c (the p (tables_of N M l)) ≤ count M (tables_of N M l).node_free

-- a number that is not other than 0
zero_is : (k : ℕ) → not (eqb k 0) ≡ false → k ≡ 0
zero_is k h = eqb-true k 0 (sure (eqb k 0) h)

pub call_fine : (N M : ℕ) (l : Lent) (p : ℕ) (c : Call) → call_refusal N M l p c ≡ 0 → CallFine N M l p c
unfolding call_refusal call_checks no_node
call_fine N M l p c e =
    let t = tables_of N M l in
    let k = lacks c (the p t) in
    let a = whole-rest N M l _ e in
    let b = none 3 _ _ (λ z. absurd (omega arith)) a.1 in
    let d = none 4 _ _ (λ z. absurd (omega arith)) b.1 in
    let f = none k _ _ (λ z. ap not (eq-eqb k 0 z)) d.1 in
    let g = none 8 _ _ (λ z. absurd (omega arith)) f.1 in
    let h = none 9 _ _ (λ z. absurd (omega arith)) g.1 in
    let i = none 16 _ _ (λ z. absurd (omega arith)) h.1 in
    let j = none 11 _ _ (λ z. absurd (omega arith)) i.1 in
    let here = present N M p t b.0 in
    record {
      sound = a.0;
      there = b.0;
      below = here.0;
      taken = here.1;
      rests = d.0;
      counted = zero_is k f.0;
      countable = g.0;
      small = h.0;
      once = i.0;
      enough = ltb-false (count M t.node_free) (t.aside + needs N c (the p t)) j.0;
    }

-- a registration may go on: the smallest free slot is one of N
pub record RegisterFine (N M : ℕ) (l : Lent) : Type 0 where
  pub sound : Sound N M l
  pub free : least N (tables_of N M l).slot_free < N

pub register_fine : (N M : ℕ) (l : Lent) → register_refusal N M l ≡ 0 → RegisterFine N M l
unfolding register_refusal register_checks
register_fine N M l e =
    let a = whole-rest N M l _ e in
    let b = none 10 _ _ (λ z. absurd (omega arith)) a.1 in
    record { sound = a.0; free = count_least N (tables_of N M l).slot_free (eqb-false _ _ b.0) }

-- ---- lists that are sound have what the checks ask

module _ (N M : ℕ) (l : Lent) (w : Sound N M l) where
  pub slots_within : within (bit_words N) N (slot_bits N l.globals) ≡ true
  unfolding tables_of bits_in
  slots_within = (facts N M (tables_of N M l) w.range).slots

  pub nodes-within : within (bit_words M) M (node_bits N M l.globals) ≡ true
  unfolding tables_of bits_in
  nodes-within = (facts N M (tables_of N M l) w.range).nodes

  pub held-within : (p : ℕ) → p < N → (row l.participants p).held ≤ 64
  unfolding tables_of participant_of
  held-within p h = let t = tables_of N M l in bag-len-small N M (t.own p).held (t.held p) ((facts N M t w.range).held p h)

pub passed : (N M : ℕ) (l : Lent) → Sound N M l → Passed N M l
unfolding bit_words
passed N M l w =
    let t = limits-small N M w.limits in
    let s = sized_is N M l w.lengths in
    record {
      slots = t.1.0;
      nodes = t.1.1.1;
      slot_words = refl;
      node_words = refl;
      globals = s.globals;
      participants = s.participants;
      held = s.held;
      slots_within = slots_within N M l w;
      nodes_within = nodes-within N M l w;
      bags_within = held-within N M l w;
    }

-- where there is no refusal for damage
pub passed_none : (N M : ℕ) (l : Lent) → damage_of N M l ≡ 0 → Passed N M l
passed_none N M l e = passed N M l (damage_none N M l e)

-- ---- the refusals, one check after another

branch_not : (b : Bool) (x y : ℕ) → branch (not b) x y ≡ branch b y x
unfolding branch
branch_not true x y = refl
branch_not false x y = refl

-- the first of a call's checks
call-first : (gone busy full above again short : Bool) (lack : ℕ)
    → refusal (check 3 gone ∷ check 4 busy ∷ check lack (not (eqb lack 0))
    ∷ check 8 full ∷ check 9 above ∷ check 16 again ∷ check 11 short ∷ [])
    ≡ branch gone 3 (branch busy 4 (branch (eqb lack 0) (branch full 8 (branch above 9 (branch again 16 (branch short 11 0)))) lack))
unfolding refusal
call-first gone busy full above again short lack =
    ap (λ (k : ℕ). branch gone 3 (branch busy 4 k)) (branch_not (eqb lack 0) lack (branch full 8 (branch above 9 (branch again 16 (branch short 11 0)))))

module _ (N M : ℕ) (l : Lent) where
  -- damage first
  abbrev then_check : ℕ → ℕ
  then_check k = branch (eqb (damage_of N M l) 0) k (damage_of N M l)

  damage-then : (cs : List Check) → sized_first N M l (refusal (check 1 (damaged N M (tables_of N M l)) ∷ cs)) ≡ then_check (refusal cs)
  unfolding damage_of damaged refusal branch
  damage-then cs = by (within_limits N M && sized N M l) (in_range N M (tables_of N M l))
    where
      by : (b c : Bool) → ◌≡◌ {A = ℕ} (branch b (branch (not c) 1 (refusal cs)) 2)
          (branch (eqb (branch b (branch c 0 1) 2) 0) (refusal cs) (branch b (branch c 0 1) 2))
      by true true = refl
      by true false = refl
      by false c = refl

  pub register_numbers : register_refusal N M l ≡ then_check (branch (eqb (count N (slot_bits N l.globals)) 0) 10 0)
  unfolding register_refusal register_checks refusal tables_of
  register_numbers = damage-then (register_rest N M (tables_of N M l))

  pub step_numbers : (places p : ℕ) → let t = tables_of N M l in
      step_refusal N M l places p
      ≡ then_check (branch (ltb places 64) 12 (branch (absent N M p t) 3 (branch (is_rest (the p t).place) 5 (branch (missing N M p t) 1 0))))
  unfolding step_refusal step_checks refusal max_objects running
  step_numbers places p =
      let rest = not_not (is_rest (the p (tables_of N M l)).place) in
      rw rest (rw rest at (damage-then (step_rest N M places p (tables_of N M l))))

  pub call_numbers : (p : ℕ) (c : Call) → let t = tables_of N M l in
      call_refusal N M l p c
      ≡ then_check (branch (absent N M p t) 3 (branch (not (is_rest (the p t).place)) 4
      (branch (eqb (lacks c (the p t)) 0)
      (branch (count_full c (the p t)) 8 (branch (token_above c) 9 (branch (twice p c t) 16
      (branch (ltb (count M (node_bits N M l.globals)) (get_or l.globals 4 0 + needs N c (the p t))) 11 0))))
      (lacks c (the p t)))))
  unfolding call_refusal call_checks refusal running no_node tables_of
  call_numbers p c =
      let t = tables_of N M l in
      damage-then (call_rest N M p c t) ∙ ap then_check
      (call-first (absent N M p t) (running p t) (count_full c (the p t)) (token_above c) (twice p c t) (no_node N M p c t) (lacks c (the p t)))

-- what is free, less what is set aside, is below the need just where the sum of the two is above what is free
pub below_need : (free aside need : ℕ) → aside ≤ free → ltb (free - aside) need ≡ ltb free (aside + need)
below_need free aside need h = by (ltb free (aside + need)) refl
  where
    by : (b : Bool) → ltb free (aside + need) ≡ b → ltb (free - aside) need ≡ b
    by true e = lt-ltb (free - aside) need (let k = ltb-true free (aside + need) e in omega arith)
    by false e = le-ltb (free - aside) need (let k = ltb-false free (aside + need) e in omega arith)
