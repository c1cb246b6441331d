-- A promise of a public call fixes everything: two outcomes that meet it are equal, the answer and every list. All the promises have this form.
-- Assumes nothing.
use mathlib.Core.Path.{◌≡◌, ap, sym, ◌∙◌}
use mathlib.Core.List.{List}
use Prim.Native.Nat.{ℕ}
use Rattle.definition.specs.Public.{Outcome, outcome}
use Rattle.definition.specs.Survey.{Surveyed}
use Rattle.definition.specs.declared.Answer.{Answer}
use Rattle.definition.specs.declared.Report.{Report}
use Rattle.reclaimer.specs.Outcomes.{surveyed_as}

-- two outcomes in their parts
pub record Same (r₁ r₂ : Answer) (g₁ g₂ p₁ p₂ n₁ n₂ h₁ h₂ q₁ q₂ f₁ f₂ : List ℕ) : Type 0 where
  pub answer : r₁ ≡ r₂
  pub globals : g₁ ≡ g₂
  pub participants : p₁ ≡ p₂
  pub nodes : n₁ ≡ n₂
  pub held : h₁ ≡ h₂
  pub queued : q₁ ≡ q₂
  pub freed : f₁ ≡ f₂

pub outcome_one : (promised : Outcome) (r₁ r₂ : Answer) (g₁ g₂ p₁ p₂ n₁ n₂ h₁ h₂ q₁ q₂ f₁ f₂ : List ℕ)
    → outcome r₁ g₁ p₁ n₁ h₁ q₁ f₁ ≡ promised → outcome r₂ g₂ p₂ n₂ h₂ q₂ f₂ ≡ promised → Same r₁ r₂ g₁ g₂ p₁ p₂ n₁ n₂ h₁ h₂ q₁ q₂ f₁ f₂
outcome_one o r₁ r₂ g₁ g₂ p₁ p₂ n₁ n₂ h₁ h₂ q₁ q₂ f₁ f₂ a b =
    let e : outcome r₁ g₁ p₁ n₁ h₁ q₁ f₁ ≡ outcome r₂ g₂ p₂ n₂ h₂ q₂ f₂ = a ∙ sym b in
    record {
      answer = ap (λ (x : Outcome). x.answer) e;
      globals = ap (λ (x : Outcome). x.lent.globals) e;
      participants = ap (λ (x : Outcome). x.lent.participants) e;
      nodes = ap (λ (x : Outcome). x.lent.nodes) e;
      held = ap (λ (x : Outcome). x.lent.held) e;
      queued = ap (λ (x : Outcome). x.lent.queued) e;
      freed = ap (λ (x : Outcome). x.freed) e;
    }

-- and of a survey
pub surveyed_one : (promised : Surveyed) (r₁ r₂ : Answer) (l₁ l₂ : List Report) → surveyed_as r₁ l₁ ≡ promised → surveyed_as r₂ l₂ ≡ promised
    → (r₁ ≡ r₂) × (l₁ ≡ l₂)
surveyed_one s r₁ r₂ l₁ l₂ a b =
    let e : surveyed_as r₁ l₁ ≡ surveyed_as r₂ l₂ = a ∙ sym b in
    (ap (λ (x : Surveyed). x.answer) e, ap (λ (x : Surveyed). x.reports) e)
