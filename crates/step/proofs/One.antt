-- The contract of a step fixes everything: two outcomes that meet it are equal. Assumes nothing.
use mathlib.Core.Path.{◌≡◌, sym, ◌∙◌}
use mathlib.Core.List.{List}
use Prim.Native.Nat.{ℕ}
use Rattle.definition.specs.Layout.{Lent}
use Rattle.definition.specs.Step.{Out}
use Rattle.definition.specs.declared.Answer.{Answer}
use Rattle.step.specs.Steps.{Leaves}

-- the answer, the lists and the list for tokens
pub leaves_one : (N M : ℕ) (out : Out) (f : List ℕ) (r₁ r₂ : Answer) (l₁ l₂ : Lent) (f₁ f₂ : List ℕ) → Leaves N M out f r₁ l₁ f₁ → Leaves N M out f r₂ l₂ f₂
    → (r₁ ≡ r₂) × ((l₁ ≡ l₂) × (f₁ ≡ f₂))
leaves_one N M out f r₁ r₂ l₁ l₂ f₁ f₂ a b = (a.answer ∙ sym b.answer, (a.lent ∙ sym b.lent, a.freed ∙ sym b.freed))
