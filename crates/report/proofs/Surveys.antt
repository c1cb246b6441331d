-- What the definition's survey answers, as a result. Assumes nothing.
use mathlib.Core.Path.{◌≡◌, ap, sym}
use mathlib.Core.Bool.{Bool, true, false, ◌&&◌, false≢true}
use mathlib.Core.List.{List}
use Prim.Native.Nat.{ℕ}
use lib.Dec.{eqb}
use lib.ListN.{length}
use Rattle.std.specs.Prelude.{Ok, Err}
use Rattle.definition.specs.Base.{branch, listed}
use Rattle.definition.specs.Layout.{Lent, sized, tables_of}
use Rattle.definition.specs.Public.{damaged}
use Rattle.definition.specs.Ranges.{within_limits}
use Rattle.definition.specs.Survey.{Surveyed, report_of, survey_lent}
use Rattle.definition.specs.declared.Answer.{Answer}
use Rattle.definition.specs.declared.Report.{Report}
use Rattle.reclaimer.specs.Outcomes.{surveyed_as}
use Rattle.report.specs.Surveys.{surveyed}

refuses : Answer → Bool
refuses (Answer.Refused r) = true
refuses (Answer.Done v k) = false
refuses (Answer.More k) = false

module _ (N M : ℕ) (t : Lent) (before : List Report) where
  -- a refused one leaves the list
  pub says_refused : (r : ℕ) (l : List Report) → surveyed_as (Answer.Refused r) l ≡ survey_lent N M t before
      → surveyed before (Err r) ≡ survey_lent N M t before
  unfolding survey_lent branch refuses
  says_refused r l = by (within_limits N M && sized N M t && eqb (length before) N) (damaged N M (tables_of N M t))
    where
      by : (b c : Bool) → let s = branch b (branch c (surveyed_as (Answer.Refused 1) before)
          (surveyed_as (Answer.Done 0 0) (listed N (report_of (tables_of N M t))))) (surveyed_as (Answer.Refused 2) before) in
          surveyed_as (Answer.Refused r) l ≡ s → surveyed before (Err r) ≡ s
      by true true e = ap (λ (x : Surveyed). surveyed_as x.answer before) e
      by true false e = absurd (false≢true (ap (λ (x : Surveyed). refuses x.answer) (sym e)))
      by false c e = ap (λ (x : Surveyed). surveyed_as x.answer before) e

  -- and any other is done
  pub says_done : (a : Answer) (l : List Report) → ((r : ℕ) → a ≡ Answer.Refused r → ⊥) → surveyed_as a l ≡ survey_lent N M t before
      → surveyed before (Ok l) ≡ survey_lent N M t before
  unfolding survey_lent branch
  says_done a l never = by (within_limits N M && sized N M t && eqb (length before) N) (damaged N M (tables_of N M t))
    where
      by : (b c : Bool) → let s = branch b (branch c (surveyed_as (Answer.Refused 1) before)
          (surveyed_as (Answer.Done 0 0) (listed N (report_of (tables_of N M t))))) (surveyed_as (Answer.Refused 2) before) in
          surveyed_as a l ≡ s → surveyed before (Ok l) ≡ s
      by true true e = absurd (never 1 (ap (λ (x : Surveyed). x.answer) e))
      by true false e = ap (λ (x : Surveyed). surveyed_as (Answer.Done 0 0) x.reports) e
      by false c e = absurd (never 2 (ap (λ (x : Surveyed). x.answer) e))
