-- One record more, by `reached_more`; at the end as many were played as there are.
use Rattle.std.proofs.Common.{◌≡◌, ◌+◌, ◌-◌, ◌*◌, [], ◌∷◌, ◌++◌, arith, rules, refl, sym, subst, ap, ◌∙◌, length, length-append, min}
use lib.ListN.{length-drop}
use Rattle.reclaimer.specs.Outcomes.{outcome_of}
use Rattle.player.specs.Records.{reached, records_in}
use Rattle.lent.specs.Lists.{lent}
use Rattle.player.proofs.Laws.{chunk_left, reached_more}
use Rattle.player.proofs.act_all.Goals as goal

pub loop-record-init : goal.loop-record-init
unfolding reached
loop-record-init c = (search rules, search rules, omega arith, refl, search rules)

pub loop-record-preserved : goal.loop-record-preserved
loop-record-preserved c =
    let (size, rest, few, had, same) = c.loop-record.invariant in
    let (kept, (cut, taken, more)) = c.in-Some.ensures.steps in
    let b = c.args.bytes.now in
    let k = length c.loop-record.yielded in
    let left = c.loop-record.record-iterator.rest.now in
    let count : length left ≡ length b - 8 * k = ap length rest ∙ length-drop (8 * k) b in
    let whole : length c.in-Some.record.now ≡ min 8 (length left) = subst (λ s. length c.in-Some.record.now ≡ min s (length left)) size taken in
    let next : length (c.loop-record.yielded ++ c.in-Some.record ∷ []) ≡ k + 1 = length-append c.loop-record.yielded (c.in-Some.record ∷ []) in (
      search rules,
      chunk_left b _ _ _ k _ rest cut whole next,
      omega (arith, next, count, more, few),
      reached_more _ _ b _ _ _ _ k _ _ _ _ _ (outcome_of c.act.result (lent c.act.new.l) c.act.new.freed) rest cut whole c.action_of.ensures
          (rw (← same.n, ← same.m) c.act.ensures.played) (omega (arith, next)) had,
      search rules,
    )

pub returns-clause-reached : goal.returns-clause-reached
returns-clause-reached c =
    let (size, rest, few, had, same) = c.loop-record.invariant in
    let b = c.args.bytes.now in
    let k = length c.loop-record.yielded in
    let count : 0 ≡ length b - 8 * k = sym c.in-None.ensures.steps.1.0 ∙ ap length rest ∙ length-drop (8 * k) b in
    let all : records_in b ≡ k = omega (arith, count, few) in
    rw all had
