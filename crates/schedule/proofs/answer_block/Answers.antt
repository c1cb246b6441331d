-- One record is taken off, its line is put, and what is written goes on being the lines of all but those that are left.
use Rattle.std.proofs.Common.{◌≡◌, ℕ, List, ◌+◌, ◌-◌, ◌*◌, [], ◌∷◌, ◌++◌, arith, rules, refl, sym, ap, ◌∙◌, subst, length, min, length-append}
use lib.ListN.{length-drop}
use Rattle.player.specs.Owned.{owned}
use Rattle.player.specs.Records.{reached, records_in}
use Rattle.player.proofs.Laws.{chunk_taken, chunk_left}
use Rattle.script.specs.Played.{lines_on}
use Rattle.schedule.specs.Written.{Wrote}
use Rattle.schedule.proofs.Laws.{none_written, more_written, line_more, reached_next, all_written, no_lines, on_ok, at_ok}
use Rattle.schedule.proofs.answer_block.Goals as goal

pub loop-record-init : goal.loop-record-init
unfolding reached
loop-record-init g c =
    let t = c.args.tables.now in
    let block = c.args.block.now in
    let all : c.into_iter-record-iterator.result.rest.now ≡ block = search rules in
    let left = lines_on (length block) c.into_iter-record-iterator.result.rest.now (owned t) t.freed in
    let wrote = ap (λ (r : List ℕ). lines_on (length block) r (owned t) t.freed) (sym all) ∙ ap (λ (s : List ℕ). s ++ left) (sym c.new-lines.ensures) in
    (search rules, search rules, subst (Wrote _ _ _) wrote (none_written _ _), search rules, search rules, refl)

pub loop-record-preserved : goal.loop-record-preserved
loop-record-preserved g c =
    let (size, few, wrote, at, many, had) = c.loop-record.invariant in
    let (kept, (cut, taken, some)) = c.in-Some.ensures.steps in
    let t = c.loop-record.tables in
    let after = c.play_record.new.tables in
    let block = c.args.block.now in
    let rest = c.loop-record.record-iterator.rest.now in
    let left = c.next.new.self.rest.now in
    let fuel = length block in
    let k = length c.loop-record.yielded in
    let next : length (c.loop-record.yielded ++ c.in-Some.record ∷ []) ≡ k + 1 = length-append c.loop-record.yielded (c.in-Some.record ∷ []) in
    let count : length rest ≡ length block - 8 * k = ap length at ∙ length-drop (8 * k) block in
    let whole : length c.in-Some.record.now ≡ min 8 (length rest) = subst (λ s. length c.in-Some.record.now ≡ min s (length rest)) size taken in
    let parts = chunk_taken rest c.in-Some.record.now left cut whole in
    let flushed = more_written _ _ _ _ _ (lines_on fuel rest (owned t) t.freed) _ wrote c.in_ok-make_room.ensures.lines in
    let first = c.args.tables.now in
    let more = line_more fuel _ _ rest c.in-Some.record.now left (owned t) (owned after) t.freed after.freed some few parts.0 parts.1
    c.play_record.ensures.same_line c.play_record.ensures.lists_after c.play_record.ensures.freed_after in (
      kept ∙ size,
      omega (arith, ap length cut ∙ length-append c.in-Some.record.now left, few),
      subst (Wrote _ _ _) more flushed,
      chunk_left block rest c.in-Some.record.now left k _ at cut whole next,
      omega (arith, next, count, some, many),
      reached_next block (owned first) (owned t) (owned after) first.freed t.freed after.freed k _ rest c.in-Some.record.now left at cut whole
          c.play_record.ensures.lists_after c.play_record.ensures.freed_after (omega (arith, next)) had,
    )

pub returns : goal.returns
returns g c =
    let (size, few, wrote, at, many, had) = c.loop-record.invariant in
    let t = c.loop-record.tables in
    let block = c.args.block.now in
    let k = length c.loop-record.yielded in
    let none = no_lines (length block) c.loop-record.record-iterator.rest.now (owned t) t.freed c.in-None.ensures.steps.1.0 in
    let count : 0 ≡ length block - 8 * k = sym c.in-None.ensures.steps.1.0 ∙ ap length at ∙ length-drop (8 * k) block in
    let all : k ≡ records_in block = omega (arith, count, many) in
    record {
      lines = on_ok c.write.result c.write.ensures.lines (all_written _ _ _ _ _ _ wrote none);
      lists = at_ok c.write.result (rw (← all) had);
    }
