-- Records one after another: what one more does, over plain variables. Assumes nothing.
use mathlib.Core.Path.{◌≡◌, refl, subst, sym, ap, ◌∙◌}
use mathlib.Core.Bool.{Bool, true, false}
use mathlib.Core.List.{List, ◌++◌, append-nil, [], ◌∷◌}
use Prim.Native.Nat.{ℕ, suc, ◌+◌, ◌*◌, ◌≤◌, min}
use native.Mathlib.Omega.{arith}
use lib.Dec.{leb}
use lib.ListN.{length, take, drop, take-append-drop, length-append, drop_of_length-le}
use lib.Seq.{take_at, drop_at, drop-drop}
use borrow.Author.Tests.{leb-true, leb-false}
use Rattle.definition.specs.Layout.{Lent}
use Rattle.definition.specs.Public.{Outcome}
use Rattle.script.specs.Script.{action_in}
use Rattle.script.specs.declared.Action.{Action}
use Rattle.std.specs.Prelude.{Option}
use Rattle.script.specs.Played.{acts}
use Rattle.player.specs.Records.{reached, reached_as}

-- a list has no more than its entries
take-whole : (l : List ℕ) (i : ℕ) → length l ≤ i → take i l ≡ l
take-whole l i h = subst (λ (r : List ℕ). r ≡ l) (append-nil (take i l)) (subst (λ (r : List ℕ). take i l ++ r ≡ l) (drop_of_length-le l h) (take-append-drop i l))

-- a chunk off the front: 8 bytes, or all that are left
pub chunk_taken : (r x t : List ℕ) → r ≡ x ++ t → length x ≡ min 8 (length r) → (x ≡ take 8 r) × (t ≡ drop 8 r)
chunk_taken r x t e h = by (leb 8 (length r)) refl
  where
    both : length r ≡ length x + length t
    both = ap length e ∙ length-append x t

    by : (u : Bool) → leb 8 (length r) ≡ u → (x ≡ take 8 r) × (t ≡ drop 8 r)
    by true q =
        let whole : length x ≡ 8 = omega (arith, leb-true) in
        (sym (take_at x t 8 whole) ∙ ap (take 8) (sym e), sym (drop_at x t 8 whole) ∙ ap (drop 8) (sym e))
    by false q =
        let short : length r ≤ 8 = omega (arith, leb-false) in
        let none : t ≡ [] = nothing t (omega (arith, leb-false, both)) in
        let all : r ≡ x = e ∙ ap (λ (l : List ℕ). x ++ l) none ∙ append-nil x in
        (sym all ∙ sym (take-whole r 8 short), none ∙ sym (drop_of_length-le r short))
      where
        nothing : (l : List ℕ) → length l ≡ 0 → l ≡ []
        nothing [] z = refl
        nothing (a ∷ l) z = absurd (omega arith)

-- what is left then
pub chunk_left : (b r x t : List ℕ) (k j : ℕ) → r ≡ drop (8 * k) b → r ≡ x ++ t → length x ≡ min 8 (length r) → j ≡ k + 1 → t ≡ drop (8 * j) b
chunk_left b r x t k j er e h ej =
    let at : 8 * k + 8 ≡ 8 * j = omega arith in
    (chunk_taken r x t e h).1 ∙ ap (drop 8) er ∙ drop-drop 8 (8 * k) b ∙ ap (λ (n : ℕ). drop n b) at

-- one record more
pub reached_more : (N M : ℕ) (b : List ℕ) (l l' : Lent) (f f' : List ℕ) (k j : ℕ) (r x t : List ℕ) (a : Option Action) (o : Outcome)
    → r ≡ drop (8 * k) b → r ≡ x ++ t → length x ≡ min 8 (length r) → a ≡ action_in x → o ≡ acts N M l' f' a → j ≡ suc k
    → reached_as l' f' ≡ reached N M b l f k → reached_as o.lent o.freed ≡ reached N M b l f j
unfolding reached
reached_more N M b l l' f f' k j r x t a o er e h ea eo ej before =
    let record-is : x ≡ take 8 (drop (8 * k) b) = (chunk_taken r x t e h).0 ∙ ap (take 8) er in
    rw (eo, ea, record-is, ej, ← before) refl
