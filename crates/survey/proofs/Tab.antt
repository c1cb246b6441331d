-- A list that is filled from the front by f 0, f 1, ..: after k stores it is `tabulate f k ++ drop k ys`. Assumes nothing.
use mathlib.Core.Path.{◌≡◌, refl, sym, ap, subst, ◌∙◌}
use mathlib.Core.Bool.{Bool, true, false}
use mathlib.Core.List.{List, [], ◌∷◌, ◌++◌, append_assoc}
use Prim.Native.Nat.{ℕ, zero, suc, ◌+◌, ◌<◌, ◌≤◌}
use native.Mathlib.Nat.{not-suc-le-zero}
use native.Mathlib.Omega.{arith}
use borrow.Author.Tests.{ltb-true, ltb-false}
use lib.Dec.{ltb}
use lib.ListN.{length, set, drop, get_or, length-append, get_or-append}
use lib.Seq.{drop-cons, set_at, get_or-append_seam}
use Rattle.definition.specs.Base.{listed}
use Rattle.survey.specs.Surveys.{tabulate}

module _ {A : Type 0} (f : ℕ → A) where
  -- the table's length; with none stored the list is as it was; a store of f k at k is one more stored
  pub tab_length : (k : ℕ) → length (tabulate f k) ≡ k
  unfolding listed
  tab_length zero = refl
  tab_length (suc k) =
      let h : length (tabulate f k) ≡ k = tab_length k in
      let e : length (tabulate f k ++ (f k ∷ [])) ≡ length (tabulate f k) + 1 = length-append (tabulate f k) (f k ∷ []) in
      omega (arith, h, e)

  pub tab_none : (ys : List A) → ys ≡ tabulate f 0 ++ drop 0 ys
  unfolding listed
  tab_none ys = refl

  pub tab_more : (ys : List A) (k : ℕ) → k < length ys → set (tabulate f k ++ drop k ys) k (f k) ≡ tabulate f (suc k) ++ drop (suc k) ys
  unfolding listed
  tab_more ys k l =
      ap (λ (r : List A). set (tabulate f k ++ r) k (f k)) (drop-cons ys k (f k) l) ∙
      set_at (tabulate f k) (get_or ys k (f k)) (drop (suc k) ys) (f k) k (tab_length k) ∙
      sym (append_assoc (tabulate f k) (f k ∷ []) (drop (suc k) ys))

  -- entry k of the table: it is among the first n, or the last
  at_last : (n k : ℕ) (d : A) → k ≡ n → get_or (tabulate f n ++ (f n ∷ [])) k d ≡ f k
  at_last n k d same =
      rw same
      (subst (λ (j : ℕ). get_or (tabulate f n ++ (f n ∷ [])) j d ≡ f n) (tab_length n) (get_or-append_seam (tabulate f n) (f n) [] d))

  at_before : (n k : ℕ) (d : A) → k < n → get_or (tabulate f n) k d ≡ f k → get_or (tabulate f n ++ (f n ∷ [])) k d ≡ f k
  at_before n k d less ih =
      let e : length (tabulate f n) ≡ n = tab_length n in
      let h : k < length (tabulate f n) = omega (arith, less, e) in
      get_or-append (tabulate f n) (f n ∷ []) d k h ∙ ih

  at_by : (t : Bool) (n k : ℕ) (d : A) → ltb k n ≡ t → k < suc n → (k < n → get_or (tabulate f n) k d ≡ f k)
      → get_or (tabulate f n ++ (f n ∷ [])) k d ≡ f k
  at_by true n k d e l ih = at_before n k d (ltb-true k n e) (ih (ltb-true k n e))
  at_by false n k d e l ih =
      let h : n ≤ k = ltb-false k n e in
      let same : k ≡ n = omega (arith, h, l) in
      at_last n k d same

  pub tab_at : (n k : ℕ) (d : A) → k < n → get_or (tabulate f n) k d ≡ f k
  unfolding listed
  tab_at zero k d l = absurd (not-suc-le-zero l)
  tab_at (suc n) k d l = at_by (ltb k n) n k d refl l (tab_at n k d)
