-- Outcomes of public calls. Each call is a list of checks and what comes out where none of them holds, so two laws serve all: a check that refuses
-- gives the refusal that the definition gives, and one that is fine hands on what the tables give. Assumes nothing.
use mathlib.Core.Path.{◌≡◌, refl, ap, sym, ◌∙◌}
use Rattle.std.specs.Prelude.{Result, Ok, Err}
use mathlib.Core.Bool.{Bool, true, false, ◌&&◌}
use mathlib.Core.List.{List, []}
use Prim.Native.Nat.{ℕ, ◌≤◌}
use native.Mathlib.Omega.{arith}
use lib.Dec.{eqb}
use lib.ListN.{length}
use Rattle.definition.specs.Base.{branch, least}
use Rattle.definition.specs.Bags.{max_objects}
use Rattle.definition.specs.Calls.{opens}
use Rattle.definition.specs.Layout.{Lent, sized, tables_of, lent_of}
use Rattle.definition.specs.Public.{Check, refusal, unless, refused, Outcome, kept, given, lending, register_checks, call_checks, step_checks}
use Rattle.definition.specs.Public.{the, enrolled, register, call, step, start_lent, register_lent, call_lent, step_lent}
use Rattle.definition.specs.Ranges.{within_limits, fresh}
use Rattle.definition.specs.Rule.{asks, fails}
use Rattle.definition.specs.Step.{Out, answer_of, follow, rule_at, take_step, take_marked}
use Rattle.definition.specs.Tables.{Tables}
use Rattle.definition.specs.declared.Answer.{Answer}
use Rattle.definition.specs.declared.Call.{Call}
use Rattle.definition.specs.declared.End.{End}
use Rattle.definition.proofs.Base.{both, branch_ind}
use Rattle.ranges.specs.Sizes.{sizes}
use Rattle.ranges.proofs.Laws.{limits-small}
use Rattle.refusals.specs.declared.Refusal.{Refusal}
use Rattle.refusals.specs.Numbers
use Rattle.refusals.proofs.Numbers.{positive}
use Rattle.checks.specs.Refusals.{sized_first, register_refusal, call_refusal, step_refusal}
use Rattle.checks.proofs.Laws.{register_fine, call_fine, step_fine}
use Rattle.step.specs.Steps.{Steps, Leaves}
use Rattle.enroll.specs.Enroll.{Enrolls, Enrolled}
use Rattle.enroll.proofs.Laws.{may_enroll, leaves-enrolled}
use Rattle.call.specs.Calls.{Calls}
use Rattle.refusals.specs.Numbers.{number}
use Rattle.reclaimer.specs.Outcomes.{outcome_of, refused_as}

-- an answer that is no refusal
unfoldable pub Goes : Answer → Type 0
Goes (Answer.Done v k) = Unit {0}
Goes (Answer.More k) = Unit {0}
Goes (Answer.Refused r) = ⊥

-- what follows an access is none
pub answer-goes : (e : End) (k : ℕ) → Goes (answer_of e k)
unfolding Goes answer_of
answer-goes End.GoesOn k = tt
answer-goes (End.EndsWith v) k = tt

-- what goes back into the lists then
given-goes : (N M : ℕ) (l : Lent) (f : List ℕ) (out : Out) (a : Answer) → Goes a
    → (r : Answer) (l' : Lent) (f' : List ℕ) → Leaves N M out f r l' f' → record { answer = r; lent = l'; freed = f' } ≡ given N M l f a out
unfolding Goes given
given-goes N M l f out (Answer.Done v k) g r l' f' h = rw (h.answer, h.lent, h.freed)
given-goes N M l f out (Answer.More k) g r l' f' h = rw (h.answer, h.lent, h.freed)
given-goes N M l f out (Answer.Refused x) g r l' f' h = absurd g

-- what a check says: its number is 0 where it finds all fine, and is not where it refuses
pub fine_is : (c : Result Unit Refusal) (u : Unit) (k : ℕ) → Numbers.refused c ≡ k → c ≡ Ok u → k ≡ 0
fine_is c u k e is = sym e ∙ ap Numbers.refused is

pub refused_is : (c : Result Unit Refusal) (x : Refusal) (k : ℕ) → Numbers.refused c ≡ k → c ≡ Err x → eqb k 0 ≡ false
refused_is c x k e is = rw (sym e ∙ ap Numbers.refused is) (positive x)

module _ (N M : ℕ) (l : Lent) (f : List ℕ) (t : Tables) (k : ℕ) (out : Out) where
  -- sizes, then a list of checks whose first refusal is k: refused; fine
  first_refuses : (b : Bool) → eqb (branch b k 2) 0 ≡ false
      → kept N M l f (branch b k 2) ≡ branch b (given N M l f (branch (eqb k 0) out (refused k t)).answer (branch (eqb k 0) out (refused k t))) (kept N M l f 2)
  unfolding branch given
  first_refuses true h = rw h
  first_refuses false h = refl

  first_fine : (b : Bool) → branch b k 2 ≡ 0
      → given N M l f out.answer out ≡ branch b (given N M l f (branch (eqb k 0) out (refused k t)).answer (branch (eqb k 0) out (refused k t))) (kept N M l f 2)
  unfolding branch
  first_fine true h = rw h
  first_fine false h = absurd (omega arith)

module _ (N M : ℕ) (l : Lent) (f : List ℕ) (checks : Tables → List Check) (go : Tables → Out) where
  -- the call as its list of checks
  abbrev whole : Outcome
  whole = lending N M l f (λ t. unless (checks t) t (go t))

  abbrev first : ℕ
  first = sized_first N M l (refusal (checks (tables_of N M l)))

  -- refused
  pub refuses : (c : Result Unit Refusal) → Numbers.refused c ≡ first → (x : Refusal) → c ≡ Err x → (r : Answer) → r ≡ refused_as c
      → record { answer = r; lent = l; freed = f } ≡ whole
  unfolding lending unless
  refuses c e x is r a =
      let k = refusal (checks (tables_of N M l)) in
      let t = tables_of N M l in
      ap (λ (y : Answer). record { answer = y; lent = l; freed = f }) (a ∙ ap Answer.Refused e)
      ∙ first_refuses N M l f t k (go t) (within_limits N M && sized N M l) (refused_is c x first e is)

  -- fine
  pub goes_on_lem : (c : Result Unit Refusal) → Numbers.refused c ≡ first → (u : Unit) → c ≡ Ok u → Goes (go (tables_of N M l)).answer
      → (r : Answer) (l' : Lent) (f' : List ℕ) → Leaves N M (go (tables_of N M l)) f r l' f' → record { answer = r; lent = l'; freed = f' } ≡ whole
  unfolding lending unless
  goes_on_lem c e u is g r l' f' h =
      let k = refusal (checks (tables_of N M l)) in
      let t = tables_of N M l in
      given-goes N M l f (go t) (go t).answer g r l' f' h
      ∙ first_fine N M l f t k (go t) (within_limits N M && sized N M l) (fine_is c u first e is)

-- ---- a fresh start

module _ (N M : ℕ) (l : Lent) where
  -- sizes that are not right are refused with 2
  pub start_refuses : sizes N M l ≡ false → (r : Answer) → r ≡ Answer.Refused 2 → record { answer = r; lent = l; freed = [] } ≡ start_lent N M l
  unfolding start_lent lending branch
  start_refuses h r a = rw (a, h)

  -- right ones are what a fresh start asks
  pub may_start : sizes N M l ≡ true → (1 ≤ M) × (sized N M l ≡ true)
  may_start h =
      let s = both (within_limits N M) (sized N M l) h in
      let m = limits-small N M s.0 in
      (omega arith, s.1)

  -- the five lists are the fresh ones
  pub started : sizes N M l ≡ true → (l' : Lent) → l' ≡ lent_of N M (fresh N M) → outcome_of (Answer.Done 0 0) l' [] ≡ start_lent N M l
  unfolding start_lent lending given branch
  started h l' a = rw (a, h)

-- ---- a step

-- a step, marked or not, answers as what follows its access does
step-goes : (marked : Bool) (M p : ℕ) (t : Tables) → Goes (take_marked marked M p t).answer
unfolding take_marked take_step follow
step-goes marked M p t = branch_ind (λ (out : Out). Goes out.answer) (fails marked (asks (rule_at M p t))) (λ _. answer-goes _ _) (λ _. answer-goes _ _)

module _ (N M p : ℕ) (l : Lent) (f : List ℕ) (c : Result Unit Refusal) (e : Numbers.refused c ≡ step_refusal N M l (length f) p) where
  pub step_refuses : (marked : Bool) (x : Refusal) → c ≡ Err x → (r : Answer) → r ≡ refused_as c
      → record { answer = r; lent = l; freed = f } ≡ step_lent N M l p marked f
  unfolding step_lent step step_refusal
  step_refuses marked x is r a = refuses N M l f (step_checks N M (length f) p) (take_marked marked M p) c e x is r a

  pub may_step : (u : Unit) → c ≡ Ok u → Steps N M p l f
  unfolding max_objects
  may_step u is =
      let s = step_fine N M l (length f) p (fine_is c u _ e is) in
      record { sound = s.sound; below = s.below; present = s.supplied; places = s.places-enough }

  pub stepped : (marked : Bool) → (u : Unit) → c ≡ Ok u → (r : Answer) (l' : Lent) (f' : List ℕ) → Leaves N M (take_marked marked M p (tables_of N M l)) f r l' f'
      → record { answer = r; lent = l'; freed = f' } ≡ step_lent N M l p marked f
  unfolding step_lent step step_refusal
  stepped marked u is r l' f' h =
      goes_on_lem N M l f (step_checks N M (length f) p) (take_marked marked M p) c e u is (step-goes marked M p (tables_of N M l)) r l' f' h

-- ---- a registration

module _ (N M : ℕ) (l : Lent) (c : Result Unit Refusal) (e : Numbers.refused c ≡ register_refusal N M l) where
  pub register_refuses : (x : Refusal) → c ≡ Err x → (r : Answer) → r ≡ refused_as c → record { answer = r; lent = l; freed = [] } ≡ register_lent N M l
  unfolding register_lent register register_refusal
  register_refuses x is r a = refuses N M l [] (register_checks N M) (λ t. enrolled (least N t.slot_free) t) c e x is r a

  pub may_register : (u : Unit) → c ≡ Ok u → Enrolls N l
  may_register u is =
      let f = register_fine N M l (fine_is c u _ e is) in
      may_enroll N M l f.sound f.free

  pub registered : (u : Unit) → c ≡ Ok u → (r : Answer) (l' : Lent) → Enrolled N l r l' → record { answer = r; lent = l'; freed = [] } ≡ register_lent N M l
  unfolding register_lent register register_refusal enrolled Goes
  registered u is r l' h =
      let f = register_fine N M l (fine_is c u _ e is) in
      goes_on_lem N M l [] (register_checks N M) (λ t. enrolled (least N t.slot_free) t) c e u is tt r l' []
      (leaves-enrolled N M l f.sound f.free r l' h)

-- ---- a call

module _ (N M p : ℕ) (k : Call) (l : Lent) (c : Result Unit Refusal) (e : Numbers.refused c ≡ call_refusal N M l p k) where
  pub call_refuses : (x : Refusal) → c ≡ Err x → (r : Answer) → r ≡ refused_as c → record { answer = r; lent = l; freed = [] } ≡ call_lent N M l p k
  unfolding call_lent call call_refusal
  call_refuses x is r a = refuses N M l [] (call_checks N M p k) (λ t. follow p (opens N k (the p t)) t) c e x is r a

  pub may_call : (u : Unit) → c ≡ Ok u → Calls N M p k l
  may_call u is =
      let f = call_fine N M l p k (fine_is c u _ e is) in
      record { sound = f.sound; below = f.below; rests = f.rests; small = f.small; enough = f.enough }

  pub called : (u : Unit) → c ≡ Ok u → (r : Answer) (l' : Lent) → Leaves N M (follow p (opens N k (the p (tables_of N M l))) (tables_of N M l)) [] r l' []
      → record { answer = r; lent = l'; freed = [] } ≡ call_lent N M l p k
  unfolding call_lent call call_refusal follow
  called u is r l' h = goes_on_lem N M l [] (call_checks N M p k) (λ t. follow p (opens N k (the p t)) t) c e u is (answer-goes _ _) r l' [] h
