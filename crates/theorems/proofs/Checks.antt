-- What the definition's checks let through, and that its refusal 1 never occurs. A step, call or registering that no check refuses is one that the
-- invariant's moves speak of (`Steps`, `Calls`, `Registers`); under the invariant and `Stored`, no check answers 1, neither for damaged tables
-- nor for a missing node. And a registering, seen on the machine. Leans on Stored and Roomy. Assumes nothing.
use mathlib.Core.Path.{◌≡◌, refl, ap, sym, ◌∙◌}
use mathlib.Core.Logic.{◌≢◌}
use mathlib.Core.Bool.{Bool, true, false, ◌&&◌, not, true≢false, false≢true}
use mathlib.Core.List.{[]}
use Prim.Native.Nat.{ℕ, ◌+◌, ◌%◌, ◌^◌, ◌<◌}
use native.Mathlib.Omega.{arith}
use lib.Dec.{eqb, ltb}
use borrow.Author.Tests.{eqb-false, ltb-false}
use Rattle.epoch.specs.Epoch.{starting}
use Rattle.definition.specs.Base.{branch, put, count, least, listed}
use Rattle.definition.specs.Links.{null, is_tagged}
use Rattle.definition.specs.Bags.{max_objects, items}
use Rattle.definition.specs.Tables.{Tables, write}
use Rattle.definition.specs.Codec.{record_of, participant_of}
use Rattle.definition.specs.Calls.{lacks, count_full, token_above, needs, opens}
use Rattle.definition.specs.Ranges.{is_rest}
use Rattle.definition.specs.Rule.{asks, fails}
use Rattle.definition.specs.Step.{Out, rule_at, take_step, take_marked}
use Rattle.definition.specs.Public as Public
use Rattle.definition.specs.Public.{refusal, the, new_participant, enrolled, damaged, absent, missing, call_checks, register_checks, step_checks}
use Rattle.definition.proofs.Base.{branch_ind, same?, put_same, put_other, count_least, least_marked}
use Rattle.definition.proofs.Codec.{participant_back}
use Rattle.definition.proofs.Refusals.{passes, passes_lack, skips, other, none_left, branch_other, follow-answers, unless_never, not_false, parts, here}
use Rattle.theorems.proofs.Machine.{view, map-put}
use Rattle.theorems.proofs.Ghost.{Ghost, G}
use Rattle.theorems.proofs.Inv.{Inv, Steps, Calls, registered}
use Rattle.theorems.proofs.Inv as I
use Rattle.theorems.proofs.Roomy.{step-has-node}
use Rattle.theorems.proofs.Stored.{Stored, is_rest_lem, never_damaged_lem, never_missing}
use Rattle.theorems.proofs.Types.{Place, Participant, Word, Call, Answer}

-- ---- checks, one by one

-- a negation
not_true : (b : Bool) → not b ≡ true → b ≡ false
not_true true h = absurd (false≢true h)
not_true false h = refl

-- of a test with a negation
and_first : (a b : Bool) → (a && not b) ≡ false → b ≡ false → a ≡ false
and_first true true h e = absurd (true≢false e)
and_first true false h e = absurd (true≢false h)
and_first false b h e = refl

-- at rest
rest_is : (pl : Place) → pl ≡ Place.Rest → is_rest pl ≡ true
unfolding is_rest
rest_is pl e = rw e refl

-- not deleted
pub untagged_is : (w : ℕ) → is_tagged w ≡ false → w % 2 ≡ 0
unfolding is_tagged
untagged_is w h = omega (arith, eqb-false (w % 2) 1 h)

-- ---- what is not refused is a move

-- a step: its node is there by the room clause, and the epoch is small by assumption
pub passes-step : (N M places p : ℕ) (t : Tables) (g : Ghost) → Inv N M (view t) g → G (view t) < 2 ^ 62 → refusal (step_checks N M places p t) ≡ 0 → Steps N M p (view t)
unfolding step_checks Public.running
passes-step N M places p t g inv small h =
    let a = passes 1 (damaged N M t) _ (λ z. omega arith) h in
    let b = passes 12 (ltb places max_objects) _ (λ z. omega arith) a.1 in
    let c = passes 3 (absent N M p t) _ (λ z. omega arith) b.1 in
    let d = passes 5 (not (not (is_rest (the p t).place))) _ (λ z. omega arith) c.1 in
    let hp = here N M p t c.0 in
    record {
      here = hp;
      present = (parts N M p t c.0).1.0;
      running = λ e. true≢false (sym (rest_is (the p t).place e) ∙ not_true (is_rest (the p t).place) (not_false (not (is_rest (the p t).place)) d.0));
      spare = λ e. step-has-node N M p (view t) g inv hp e;
      small = small;
    }

-- a call: what it sets aside is free and not set aside
pub passes-call : (N M p : ℕ) (c : Call) (t : Tables) (g : Ghost) → Inv N M (view t) g → refusal (call_checks N M p c t) ≡ 0 → Calls N M p c (view t)
unfolding call_checks Public.no_node Public.running
passes-call N M p c t g inv h =
    let a = passes 1 (damaged N M t) _ (λ z. omega arith) h in
    let b = passes 3 (absent N M p t) _ (λ z. omega arith) a.1 in
    let d = passes 4 (not (is_rest (the p t).place)) _ (λ z. omega arith) b.1 in
    let e = passes_lack (lacks c (the p t)) _ d.1 in
    let f = passes 8 (count_full c (the p t)) _ (λ z. omega arith) e.1 in
    let i = passes 9 (token_above c) _ (λ z. omega arith) f.1 in
    let j = passes 16 (Public.twice p c t) _ (λ z. omega arith) i.1 in
    let k = passes 11 (ltb (count M t.node_free) (t.aside + needs N c (the p t))) _ (λ z. omega arith) j.1 in
    let r = not_false (is_rest (the p t).place) d.0 in
    record {
      here = here N M p t b.0;
      present = (parts N M p t b.0).1.0;
      resting = is_rest_lem (the p t).place r;
      untagged = untagged_is (t.shared.entry_next p) (and_first (is_tagged (t.shared.entry_next p)) (not (is_rest (the p t).place)) (parts N M p t b.0).1.1 d.0);
      able = e.0;
      below = f.0;
      token = i.0;
      room = let n = ltb-false (count M t.node_free) (t.aside + needs N c (the p t)) k.0 in omega arith;
    }

-- a registering: the smallest free slot is one
pub passes-register : (N M : ℕ) (t : Tables) → refusal (register_checks N M t) ≡ 0 → I.Registers N (least N t.slot_free) (view t)
unfolding register_checks
passes-register N M t h =
    let a = passes 1 (damaged N M t) _ (λ z. omega arith) h in
    let b = passes 10 (eqb (count N t.slot_free) 0) _ (λ z. omega arith) a.1 in
    let k = count_least N t.slot_free (eqb-false (count N t.slot_free) 0 b.0) in
    record { here = k; free = least_marked N t.slot_free k }

-- ---- refusal 1

-- it is neither 6 nor 7
six : (b : Bool) → branch {A = ℕ} b 6 0 ≢ 1
six b = branch_other 6 b (λ z. omega arith) (λ z. omega arith)

seven : (b : Bool) → branch {A = ℕ} b 7 0 ≢ 1
seven b = branch_other 7 b (λ z. omega arith) (λ z. omega arith)

-- by which a lacking count is refused
lacks_other : (c : Call) (o : Participant) → lacks c o ≢ 1
unfolding lacks
lacks_other Call.Acquire o = seven (eqb o.counts.handles 0)
lacks_other Call.Release o = seven (eqb o.counts.handles 0)
lacks_other Call.Pin o = seven (eqb o.counts.handles 0)
lacks_other Call.Unpin o = six (eqb o.counts.guards 0)
lacks_other Call.Repin o = six (eqb o.counts.guards 0)
lacks_other (Call.Defer token) o = six (eqb o.counts.guards 0)
lacks_other Call.Flush o = six (eqb o.counts.guards 0)

module _ (N M : ℕ) (t : Tables) (g : Ghost) (inv : Inv N M (view t) g) (st : Stored N M t) where
  -- of a step
  step_checks_lem : (places p : ℕ) → refusal (step_checks N M places p t) ≢ 1
  unfolding step_checks
  step_checks_lem places p e =
      other 12 (ltb places max_objects) _ (λ z. omega arith)
      (λ _. other 3 (absent N M p t) _ (λ z. omega arith)
      (λ a. other 5 (not (Public.running p t)) _ (λ z. omega arith)
      (λ _ z. none_left (λ z. omega arith) (sym (skips 1 (missing N M p t) [] (never_missing N M p t g inv (here N M p t a))) ∙ z))))
      (sym (skips 1 (damaged N M t) _ (never_damaged_lem N M t g inv st)) ∙ e)

  -- of a call
  call_checks_lem : (p : ℕ) (c : Call) → refusal (call_checks N M p c t) ≢ 1
  unfolding call_checks
  call_checks_lem p c e =
      other 3 (absent N M p t) _ (λ z. omega arith)
      (λ _. other 4 (Public.running p t) _ (λ z. omega arith)
      (λ _. other (lacks c (the p t)) (not (eqb (lacks c (the p t)) 0)) _ (lacks_other c (the p t))
      (λ _. other 8 (count_full c (the p t)) _ (λ z. omega arith)
      (λ _. other 9 (token_above c) _ (λ z. omega arith)
      (λ _. other 16 (Public.twice p c t) _ (λ z. omega arith)
      (λ _. other 11 (Public.no_node N M p c t) _ (λ z. omega arith) (λ _. none_left (λ z. omega arith))))))))
      (sym (skips 1 (damaged N M t) _ (never_damaged_lem N M t g inv st)) ∙ e)

  -- of a registering
  register_checks_lem : refusal (register_checks N M t) ≢ 1
  unfolding register_checks
  register_checks_lem e = other 10 (eqb (count N t.slot_free) 0) _ (λ z. omega arith) (λ _. none_left (λ z. omega arith)) (sym (skips 1 (damaged N M t) _ (never_damaged_lem N M t g inv st)) ∙ e)

-- the answer of a registering is no refusal
more_answers : (k r : ℕ) → Answer.More k ≢ Answer.Refused r
more_answers k r e = let z : ◌≡◌ {A = ℕ} 0 1 = cc in omega arith

-- refusal 1 never occurs: of a step, of a call, of a registering
pub step_never_1 : (N M : ℕ) (marked : Bool) (places p : ℕ) (t : Tables) (g : Ghost) → Inv N M (view t) g → Stored N M t → (Public.step N M marked places p t).answer ≢ Answer.Refused 1
unfolding Public.step take_marked take_step
step_never_1 N M marked places p t g inv st = unless_never (step_checks N M places p t) t _ 1 (step_checks_lem N M t g inv st places p)
    (branch_ind (λ (o : Out). o.answer ≢ Answer.Refused 1) (fails marked (asks (rule_at M p t))) (λ _. follow-answers p 1 _ _) (λ _. follow-answers p 1 _ _))

-- of a call
pub call_never_1 : (N M p : ℕ) (c : Call) (t : Tables) (g : Ghost) → Inv N M (view t) g → Stored N M t → (Public.call N M p c t).answer ≢ Answer.Refused 1
unfolding Public.call
call_never_1 N M p c t g inv st = unless_never (call_checks N M p c t) t _ 1 (call_checks_lem N M t g inv st p c) (follow-answers p 1 (opens N c (the p t)) t)

-- of a registering
pub register_never_1 : (N M : ℕ) (t : Tables) (g : Ghost) → Inv N M (view t) g → Stored N M t → (Public.register N M t).answer ≢ Answer.Refused 1
unfolding Public.register enrolled
register_never_1 N M t g inv st = unless_never (register_checks N M t) t _ 1 (register_checks_lem N M t g inv st) (more_answers 0 1)

-- ---- a registering, seen on the machine

-- its record
own_enrolled : (p : ℕ) (t : Tables) (q : ℕ) → participant_of (put t.own p (record_of new_participant) q) ≡ put (λ q. the q t) p new_participant q
own_enrolled p t q = map-put participant_of t.own p (record_of new_participant) q ∙ ap (λ (x : Participant). put (λ q. the q t) p x q) (participant_back new_participant)

-- its bag, which is empty
held-enrolled : (p : ℕ) (t : Tables) (q : ℕ) → items (put t.own p (record_of new_participant) q).held (t.held q) ≡ put (λ q. items (t.own q).held (t.held q)) p [] q
unfolding record_of new_participant items listed
held-enrolled p t q = same? p q
    (λ e. rw (← e, put_same t.own p (record_of new_participant), put_same (λ q. items (t.own q).held (t.held q)) p []))
    (λ ne. rw (put_other t.own p q (record_of new_participant) ne, put_other (λ q. items (t.own q).held (t.held q)) p q [] ne))

-- all of it
pub view_register : (p : ℕ) (t : Tables) → view (enrolled p t).tables ≡ registered p (view t)
unfolding enrolled registered
view_register p t = λ i. record {
  shared = write (Word.ParticipantWord (record { 0 = p })) starting (write (Word.EntryNext (record { 0 = p })) null t.shared);
  own = λ q. own_enrolled p t q i;
  held = λ q. held-enrolled p t q i;
  bag = λ n. record { epoch = (t.bag n).epoch; holds = items (t.bag n).len (t.bag n).deferreds };
  slot_free = put t.slot_free p false;
  node_free = t.node_free;
  aside = t.aside;
}
