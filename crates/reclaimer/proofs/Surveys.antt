-- A survey: what the check finds, what is filled and what is answered are together the definition's survey. Assumes nothing.
use mathlib.Core.Path.{◌≡◌, refl}
use mathlib.Core.Bool.{Bool, true, false, ◌&&◌, not}
use mathlib.Core.List.{List, ◌++◌, append-nil}
use Prim.Native.Nat.{ℕ, zero, suc, ◌≤◌, ◌<◌}
use native.Mathlib.Omega.{arith}
use lib.Dec.{eqb}
use lib.ListN.{length, get_or, drop, drop_of_length-le}
use borrow.Author.Tests.{eqb-true, eqb-false, eq-eqb}
use Rattle.definition.specs.Base.{Tab, branch, listed}
use Rattle.definition.specs.Layout.{Lent, sized, tables_of}
use Rattle.definition.specs.Public.{damaged}
use Rattle.definition.specs.Ranges.{within_limits, in_range}
use Rattle.definition.specs.Survey.{report_of, survey_lent}
use Rattle.definition.specs.declared.Answer.{Answer}
use Rattle.definition.specs.declared.Report.{Report}
use Rattle.std.specs.Prelude.{Result, Err}
use Rattle.refusals.specs.Numbers.{number}
use Rattle.refusals.specs.declared.Refusal.{Refusal}
use Rattle.refusals.proofs.Numbers.{positive}
use Rattle.checks.specs.Refusals.{damage_of}
use Rattle.checks.proofs.Laws.{damage_none}
use Rattle.survey.specs.Surveys.{tabulate, report_in, survey_refusal}
use Rattle.survey.proofs.Laws.{report_in_lem}
use Rattle.survey.proofs.Tab.{tab_at}
use Rattle.reclaimer.specs.Outcomes.{surveyed_as, refused_as}

-- two tables that agree below n have the same first n entries
listed_same : {A : Type 0} (n : ℕ) (f g : Tab A) → ((i : ℕ) → i < n → f i ≡ g i) → listed n f ≡ listed n g
unfolding listed
listed_same zero f g h = refl
listed_same (suc n) f g h = rw (listed_same n f g (λ i l. h i (omega arith)), h n (omega arith))

module _ (N M : ℕ) (l : Lent) (before : List Report) where
  -- no refusal: the list has its places, and the others are whole
  fine_places : survey_refusal N M l (length before) ≡ 0 → (length before ≡ N) × (damage_of N M l ≡ 0)
  unfolding survey_refusal branch
  fine_places = by (eqb (length before) N) refl
    where
      by : (b : Bool) → eqb (length before) N ≡ b → branch b (damage_of N M l) 2 ≡ 0 → (length before ≡ N) × (damage_of N M l ≡ 0)
      by true t e = (eqb-true _ _ t, e)
      by false t e = absurd (omega arith)

  -- the definition's survey where the check refuses, and where it does not
  says-refused : (k : ℕ) → k ≡ survey_refusal N M l (length before) → eqb k 0 ≡ false → surveyed_as (Answer.Refused k) before ≡ survey_lent N M l before
  unfolding survey_lent survey_refusal damage_of damaged branch
  says-refused k e h = by (within_limits N M && sized N M l) (eqb (length before) N) (in_range N M (tables_of N M l)) e
    where
      by : (a b c : Bool) → k ≡ branch b (branch a (branch c 0 1) 2) 2
          → surveyed_as (Answer.Refused k) before ≡ branch (a && b) (branch (not c) (surveyed_as (Answer.Refused 1) before)
          (surveyed_as (Answer.Done 0 0) (listed N (report_of (tables_of N M l))))) (surveyed_as (Answer.Refused 2) before)
      by true true true z = absurd (eqb-false k 0 h z)
      by true true false z = rw z
      by true false c z = rw z
      by false true c z = rw z
      by false false c z = rw z

  says_fine : survey_refusal N M l (length before) ≡ 0 → surveyed_as (Answer.Done 0 0) (listed N (report_of (tables_of N M l))) ≡ survey_lent N M l before
  unfolding survey_lent damaged branch
  says_fine e =
      let f = fine_places e in
      let w = damage_none N M l f.1 in
      rw (w.limits, w.lengths, eq-eqb (length before) N f.0, w.range)

  -- what is refused is refused with its number, and the list stays
  pub survey_refuses : {A : Type 0} (c : Result A Refusal) (x : Refusal) → number x ≡ survey_refusal N M l (length before) → c ≡ Err x
      → (r : Answer) → r ≡ refused_as c → (after : List Report) → after ≡ before → surveyed_as r after ≡ survey_lent N M l before
  survey_refuses c x e is r a after same = rw (a, is, same) (says-refused (number x) e (positive x))

  -- what is fine is filled
  pub survey_fills : survey_refusal N M l (length before) ≡ 0
      → surveyed_as (Answer.Done 0 0) (tabulate (report_in l.globals l.participants) N ++ drop N before) ≡ survey_lent N M l before
  unfolding listed
  survey_fills e =
      let f = fine_places e in
      let h : length before ≤ N = omega arith in
      rw (
        drop_of_length-le before h,
        append-nil,
        listed_same N (report_in l.globals l.participants) (report_of (tables_of N M l)) (λ i lt. report_in_lem N M l i lt),
      ) (says_fine e)

  -- each report of a survey that is not refused
  pub survey_at : survey_refusal N M l (length before) ≡ 0 → (i : ℕ) (d : Report) → i < N → get_or (survey_lent N M l before).reports i d ≡ report_of (tables_of N M l) i
  survey_at e i d h = rw (← says_fine e) (tab_at (report_of (tables_of N M l)) N i d h)
