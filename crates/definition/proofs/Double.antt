-- A double retirement: where a defer passes every check its participant's own bag has not the token, and no check but 16 gives that number. Leans on
-- Held (where a bag has a token) and Refusals. Assumes nothing.
use mathlib.Core.Path.{◌≡◌, refl, sym, ◌∙◌}
use mathlib.Core.Logic.{◌≢◌}
use mathlib.Core.Bool.{Bool, true, false, ◌&&◌, true≢false}
use mathlib.Core.List.{[]}
use Prim.Native.Nat.{ℕ, ◌<◌}
use native.Mathlib.Omega.{arith}
use lib.Dec.{eqb}
use Rattle.definition.specs.Bags.{item_of}
use Rattle.definition.specs.Codec.{participant_of}
use Rattle.definition.specs.Calls.{lacks, count_full, token_above, held_already, opens}
use Rattle.definition.specs.Ranges.{within_limits}
use Rattle.definition.specs.Layout.{Lent, sized, tables_of}
use Rattle.definition.specs.Tables.{Tables}
use Rattle.definition.specs.Step.{Out}
use Rattle.definition.specs.Public.{Outcome, refusal, the, running, twice, damaged, absent, no_node, call_checks, call, given, lending, call_lent}
use Rattle.definition.specs.Double.{Holds, deferred, Double}
use Rattle.definition.specs.Types.{Item, Call, Participant, Answer}
use Rattle.definition.proofs.Base.{branch_ind}
use Rattle.definition.proofs.Refusals.{passes, passes_lack, unless_ind, skips, other, none_left, branch_other, follow-answers, refused_is, given_is}
use Rattle.definition.proofs.Held.{token_is, is_token_lem, held_some, held-place}

-- ---- on tables

module _ (N M p token : ℕ) (t : Tables) where
  -- where every check is passed, so is 16
  passed : refusal (call_checks N M p (Call.Defer token) t) ≡ 0 → twice p (Call.Defer token) t ≡ false
  unfolding call_checks
  passed h =
      let a = passes 1 (damaged N M t) _ (λ z. omega arith) h in
      let b = passes 3 (absent N M p t) _ (λ z. omega arith) a.1 in
      let c = passes 4 (running p t) _ (λ z. omega arith) b.1 in
      let d = passes_lack (lacks (Call.Defer token) (the p t)) _ c.1 in
      let e = passes 8 (count_full (Call.Defer token) (the p t)) _ (λ z. omega arith) d.1 in
      let f = passes 9 (token_above (Call.Defer token)) _ (λ z. omega arith) e.1 in
      (passes 16 (twice p (Call.Defer token) t) _ (λ z. omega arith) f.1).0

  -- a lacking guard is refused by 6
  lacks_other : (o : Participant) → lacks (Call.Defer token) o ≢ 16
  unfolding lacks
  lacks_other o = branch_other 6 (eqb o.counts.guards 0) (λ z. omega arith) (λ z. omega arith)

  -- where 16 is not to be given, no other check gives that number
  never : twice p (Call.Defer token) t ≡ false → refusal (call_checks N M p (Call.Defer token) t) ≢ 16
  unfolding call_checks
  never h =
      other 1 (damaged N M t) _ (λ z. omega arith)
      (λ _. other 3 (absent N M p t) _ (λ z. omega arith)
      (λ _. other 4 (running p t) _ (λ z. omega arith)
      (λ _. other (lacks (Call.Defer token) (the p t)) _ _ (lacks_other (the p t))
      (λ _. other 8 (count_full (Call.Defer token) (the p t)) _ (λ z. omega arith)
      (λ _. other 9 (token_above (Call.Defer token)) _ (λ z. omega arith)
      (λ _ e. other 11 (no_node N M p (Call.Defer token) t) [] (λ z. omega arith) (λ _. none_left (λ z. omega arith))
      (sym (skips 16 (twice p (Call.Defer token) t) _ h) ∙ e)))))))

  -- 16 is to be given just where a place of the bag has the token
  at_place : (j : ℕ) → j < (t.own p).held → item_of (t.held p j) ≡ Item.Token token → twice p (Call.Defer token) t ≡ true
  unfolding twice held_already participant_of
  at_place j lt e = held_some token (t.held p) (t.own p).held j lt (rw e (is_token_lem token))

  some_place : {P : Type 0} → twice p (Call.Defer token) t ≡ true → ((j : ℕ) → j < (t.own p).held → item_of (t.held p j) ≡ Item.Token token → P) → P
  unfolding twice held_already participant_of
  some_place h found = held-place token (t.held p) (t.own p).held h (λ j lt e. found j lt (token_is token (item_of (t.held p j)) e))

-- ---- on lists

module _ (N M : ℕ) (l : Lent) (p token : ℕ) where
  apart : ((r : ℕ) → (deferred N M l p token).answer ≢ Answer.Refused r) → Holds N M l p token → ⊥
  unfolding call_lent call lending given
  apart taken k =
      branch_ind (λ (o : Outcome). ((r : ℕ) → o.answer ≢ Answer.Refused r) → ⊥) (within_limits N M && sized N M l)
      (λ _. unless_ind (λ (o : Out). ((r : ℕ) → (given N M l [] o.answer o).answer ≢ Answer.Refused r) → ⊥)
      (call_checks N M p (Call.Defer token) (tables_of N M l)) (tables_of N M l) _
      (λ e _. true≢false (sym (at_place N M p token (tables_of N M l) k.place k.below k.has) ∙ passed N M p token (tables_of N M l) e))
      (λ _ h. h _ refl))
      (λ _ h. h 2 refl) taken

  -- a refusal with 16
  refused : refusal (call_checks N M p (Call.Defer token) (tables_of N M l)) ≡ 16 → Holds N M l p token
  refused e = by (twice p (Call.Defer token) (tables_of N M l)) refl
    where
      by : (b : Bool) → twice p (Call.Defer token) (tables_of N M l) ≡ b → Holds N M l p token
      by true h = some_place N M p token (tables_of N M l) h (λ j lt i. record { place = j; below = lt; has = i })
      by false h = absurd (never N M p token (tables_of N M l) h e)

  shown : (deferred N M l p token).answer ≡ Answer.Refused 16 → Holds N M l p token
  unfolding call_lent call lending
  shown given16 =
      branch_ind (λ (o : Outcome). o.answer ≡ Answer.Refused 16 → Holds N M l p token) (within_limits N M && sized N M l)
      (λ _. unless_ind (λ (o : Out). (given N M l [] o.answer o).answer ≡ Answer.Refused 16 → Holds N M l p token)
      (call_checks N M p (Call.Defer token) (tables_of N M l)) (tables_of N M l) _
      (λ _ e. absurd (follow-answers p 16 (opens N (Call.Defer token) (the p (tables_of N M l))) (tables_of N M l) (sym (given_is N M l [] _) ∙ e)))
      (λ _ e. refused (refused_is _ 16 (sym (given_is N M l [] _) ∙ e))))
      (λ _ e. let z = refused_is 2 16 e in absurd (omega arith)) given16

  pub double : Double N M l p token
  double = record { apart = apart; shown = shown }
