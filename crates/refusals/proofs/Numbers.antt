-- The numbers of the refusals: none is 0, and no two refusals share one, so that a number fixes what a check answered. Assumes nothing.
use mathlib.Core.Path.{◌≡◌, refl, ap, sym, ◌∙◌}
use mathlib.Core.Bool.{false, true≢false}
use mathlib.Core.List.{[], ◌∷◌}
use Prim.Native.Nat.{ℕ}
use lib.Dec.{eqb}
use lib.ListN.{get_or}
use Rattle.std.specs.Prelude.{Result, Ok, Err}
use Rattle.refusals.specs.declared.Refusal.{Refusal}
use Rattle.refusals.specs.Numbers.{number, refused}

pub positive : (r : Refusal) → eqb (number r) 0 ≡ false
positive Refusal.Damage = refl
positive Refusal.Sizes = refl
positive Refusal.Gone = refl
positive Refusal.Busy = refl
positive Refusal.Idle = refl
positive Refusal.NoGuard = refl
positive Refusal.NoHandle = refl
positive Refusal.CountFull = refl
positive Refusal.TokenAbove = refl
positive Refusal.NoSlot = refl
positive Refusal.NoNode = refl
positive Refusal.ListShort = refl
positive Refusal.Record = refl
positive Refusal.HeldAlready = refl

-- the refusal of a number, and of any other number the last one
of_number : ℕ → Refusal
of_number n = get_or (Refusal.HeldAlready ∷ Refusal.Damage ∷ Refusal.Sizes ∷ Refusal.Gone ∷ Refusal.Busy ∷ Refusal.Idle ∷ Refusal.NoGuard
    ∷ Refusal.NoHandle ∷ Refusal.CountFull ∷ Refusal.TokenAbove ∷ Refusal.NoSlot ∷ Refusal.NoNode ∷ Refusal.ListShort ∷ Refusal.Record ∷ [])
    n Refusal.HeldAlready

back : (r : Refusal) → of_number (number r) ≡ r
unfolding of_number
back Refusal.Damage = refl
back Refusal.Sizes = refl
back Refusal.Gone = refl
back Refusal.Busy = refl
back Refusal.Idle = refl
back Refusal.NoGuard = refl
back Refusal.NoHandle = refl
back Refusal.CountFull = refl
back Refusal.TokenAbove = refl
back Refusal.NoSlot = refl
back Refusal.NoNode = refl
back Refusal.ListShort = refl
back Refusal.Record = refl
back Refusal.HeldAlready = refl

pub number_one : (r s : Refusal) → number r ≡ number s → r ≡ s
number_one r s e = sym (back r) ∙ ap of_number e ∙ back s

-- no refusal has the number of none
some : (r : Refusal) → 0 ≡ number r → ⊥
some r e = true≢false (ap (λ n. eqb n 0) e ∙ positive r)

-- two answers of a check with the same number are equal
pub refused_one : (a b : Result Unit Refusal) → refused a ≡ refused b → a ≡ b
refused_one (Ok u) (Ok v) e = refl
refused_one (Ok u) (Err s) e = absurd (some s e)
refused_one (Err r) (Ok u) e = absurd (some r (sym e))
refused_one (Err r) (Err s) e = ap Err (number_one r s e)
