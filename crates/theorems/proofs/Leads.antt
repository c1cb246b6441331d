-- What a rule leads to: for each kind of access, the shared words that it leaves and what follows. A clause about steps is shown once for
-- each place as a statement about its rule, and `leads` carries it over to the step. Assumes nothing.
use mathlib.Core.Path.{◌≡◌, refl}
use mathlib.Core.Bool.{Bool, true, false}
use Prim.Native.Nat.{ℕ}
use borrow.Author.Tests.{eqb-true, eqb-false}
use Rattle.definition.specs.Base.{branch}
use Rattle.definition.specs.Links.{tagged}
use Rattle.definition.specs.Tables.{Shared, read, write}
use Rattle.definition.specs.Rule.{Rule, asks, follows, agrees, sees, leaves}
use Rattle.definition.specs.declared.Word.{Word}
use Rattle.definition.specs.declared.After.{After}

-- Q of whether the access was done, of the shared words left and of what follows, whatever the access comes to
unfoldable pub Leads : (Bool → Shared → After → Type 0) → Shared → Rule → Type 0
Leads Q s (Rule.load w f) = Q true s (f (read w s))
Leads Q s (Rule.store w v a) = Q true (write w v s) a
Leads Q s (Rule.exchange w e v won lost) = (read w s ≡ e → Q true (write w v s) won) × ((read w s ≡ e → ⊥) → Q false s (lost (read w s)))
Leads Q s (Rule.exchange_weak w e v won lost) = (read w s ≡ e → Q true (write w v s) won) × ((read w s ≡ e → ⊥) → Q false s (lost (read w s)))
Leads Q s (Rule.fetch_or w a) = Q true (write w (tagged (read w s)) s) a

-- an exchange by the answer of its test
exchanges : (Q : Bool → Shared → After → Type 0) (s : Shared) (w : Word) (e v : ℕ) (won : After) (lost : ℕ → After) (b : Bool) → agrees w e s ≡ b
    → (read w s ≡ e → Q true (write w v s) won) → ((read w s ≡ e → ⊥) → Q false s (lost (read w s)))
    → Q b (branch b (write w v s) s) (branch b won (lost (read w s)))
unfolding agrees branch
exchanges Q s w e v won lost true t h k = h (eqb-true (read w s) e t)
exchanges Q s w e v won lost false t h k = k (eqb-false (read w s) e t)

pub leads : (Q : Bool → Shared → After → Type 0) (s : Shared) (r : Rule) → Leads Q s r
    → Q (sees (asks r) s).won (leaves (asks r) s) (follows r (sees (asks r) s))
unfolding Leads leaves asks follows sees
leads Q s (Rule.load w f) h = h
leads Q s (Rule.store w v a) h = h
leads Q s (Rule.exchange w e v won lost) h = exchanges Q s w e v won lost (agrees w e s) refl h.0 h.1
leads Q s (Rule.exchange_weak w e v won lost) h = exchanges Q s w e v won lost (agrees w e s) refl h.0 h.1
leads Q s (Rule.fetch_or w a) h = h
