-- Laws of a list of checks: what is known where none of them holds, which number is not given, and of a slot that is not absent. Assumes nothing.
use mathlib.Core.Path.{◌≡◌, refl}
use mathlib.Core.Logic.{◌≢◌}
use mathlib.Core.Bool.{Bool, true, false, ◌&&◌, ◌||◌, not, true≢false}
use mathlib.Core.List.{List, [], ◌∷◌}
use Prim.Native.Nat.{ℕ, ◌<◌}
use native.Mathlib.Omega.{arith}
use lib.Dec.{eqb, leb}
use borrow.Author.Tests.{eqb-true, eqb-false, leb-false}
use Rattle.definition.specs.Base.{branch}
use Rattle.definition.specs.Links.{is_tagged}
use Rattle.definition.specs.Tables.{Tables}
use Rattle.definition.specs.Step.{Out, answer_of, follow}
use Rattle.definition.specs.Layout.{Lent}
use Rattle.definition.specs.Public.{Check, check, refusal, refused, unless, running, absent, given}
use Rattle.definition.specs.Types.{End, After, Answer}
use Rattle.definition.proofs.Base.{branch_ind}

-- where nothing is refused, the first check does not hold, nor any after it
pub passes : (n : ℕ) (b : Bool) (l : List Check) → n ≢ 0 → refusal (check n b ∷ l) ≡ 0 → (b ≡ false) × (refusal l ≡ 0)
unfolding refusal branch
passes n true l ne h = absurd (ne h)
passes n false l ne h = (refl, h)

-- the same of a check whose number is what it looks at
pub passes_lack : (n : ℕ) (l : List Check) → refusal (check n (not (eqb n 0)) ∷ l) ≡ 0 → (n ≡ 0) × (refusal l ≡ 0)
unfolding refusal branch
passes_lack n l h = by (eqb n 0) refl h
  where
    by : (b : Bool) → eqb n 0 ≡ b → branch (not b) n (refusal l) ≡ 0 → (n ≡ 0) × (refusal l ≡ 0)
    by true e z = (eqb-true n 0 e, z)
    by false e z = absurd (eqb-false n 0 e z)

-- what comes out, by what the checks say
pub unless_ind : (P : Out → Type 0) (l : List Check) (t : Tables) (out : Out) → (refusal l ≡ 0 → P out) → (refusal l ≢ 0 → P (refused (refusal l) t)) → P (unless l t out)
unfolding unless
unless_ind P l t out h k = branch_ind P (eqb (refusal l) 0) (λ e. h (eqb-true (refusal l) 0 e)) (λ e. k (eqb-false (refusal l) 0 e))

-- ---- a number that is not given

-- the number that a list of checks gives, past one that does not hold
pub skips : (n : ℕ) (b : Bool) (l : List Check) → b ≡ false → refusal (check n b ∷ l) ≡ refusal l
unfolding refusal branch
skips n b l e = rw e refl

-- neither a check of another number gives it nor those after it
pub other : {r : ℕ} (n : ℕ) (b : Bool) (l : List Check) → n ≢ r → (b ≡ false → refusal l ≢ r) → refusal (check n b ∷ l) ≢ r
unfolding refusal branch
other n true l ne h = ne
other n false l ne h = h refl

-- no check, no refusal
pub none_left : {r : ℕ} → 0 ≢ r → refusal [] ≢ r
unfolding refusal
none_left ne = ne

-- a choice of k or 0 is none of another number
pub branch_other : {r : ℕ} (k : ℕ) (b : Bool) → k ≢ r → 0 ≢ r → branch {A = ℕ} b k 0 ≢ r
unfolding branch
branch_other k true ne nz = ne
branch_other k false ne nz = nz

-- an answer that is no refusal
pub answers : (e : End) (k r : ℕ) → answer_of e k ≢ Answer.Refused r
unfolding answer_of
answers End.GoesOn k r e = let z : ◌≡◌ {A = ℕ} 0 1 = cc in omega arith
answers (End.EndsWith v) k r e = let z : ◌≡◌ {A = ℕ} 0 1 = cc in omega arith

-- what follows is none
pub follow-answers : (p r : ℕ) (a : After) (t : Tables) → (follow p a t).answer ≢ Answer.Refused r
unfolding follow
follow-answers p r a t = answers a.end _ r

-- a refusal has one number
pub refused_is : (n r : ℕ) → Answer.Refused n ≡ Answer.Refused r → n ≡ r
refused_is n r e = cc

-- what is answered where the checks let it through
pub unless_never : (l : List Check) (t : Tables) (out : Out) (r : ℕ) → refusal l ≢ r → out.answer ≢ Answer.Refused r → (unless l t out).answer ≢ Answer.Refused r
unless_never l t out r ne h = unless_ind (λ (o : Out). o.answer ≢ Answer.Refused r) l t out (λ _. h) (λ _ e. ne (refused_is (refusal l) r e))

-- what goes back into the lists is answered as it was
pub given_is : (N M : ℕ) (l : Lent) (places : List ℕ) (o : Out) → (given N M l places o.answer o).answer ≡ o.answer
unfolding given
given_is N M l places o = by o.answer refl
  where
    by : (a : Answer) → o.answer ≡ a → (given N M l places a o).answer ≡ a
    by (Answer.Refused r) e = refl
    by (Answer.Done v k) e = e
    by (Answer.More k) e = e

-- ---- negations, and a slot that is there

-- a negation
pub not_false : (b : Bool) → not b ≡ false → b ≡ true
not_false true h = refl
not_false false h = absurd (true≢false h)

-- three tests, none of which is true
none_of : (a b c : Bool) → (a || b || c) ≡ false → (a ≡ false) × ((b ≡ false) × (c ≡ false))
none_of true b c h = absurd (true≢false h)
none_of false true c h = absurd (true≢false h)
none_of false false c h = (refl, (refl, h))

-- a slot that is not absent
module _ (N M p : ℕ) (t : Tables) (h : absent N M p t ≡ false) where
  -- what that says
  pub parts : (leb N p ≡ false) × ((t.slot_free p ≡ false) × ((is_tagged (t.shared.entry_next p) && not (running p t)) ≡ false))
  unfolding absent
  parts = none_of (leb N p) (t.slot_free p) (is_tagged (t.shared.entry_next p) && not (running p t)) h

  -- it is a slot of the table
  pub here : p < N
  here = leb-false N p parts.0
