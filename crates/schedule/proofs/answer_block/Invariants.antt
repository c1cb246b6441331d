-- What is written, with the lines that are put and those of the records that are left, is all; and the lists are those reached after the
-- records so far.
use Rattle.std.proofs.Common.{◌≡◌, ◌+◌, ◌*◌, ◌≤◌, ◌++◌, length, take, drop}
use Rattle.player.specs.Owned.{owned}
use Rattle.player.specs.Records.{reached, reached_as}
use Rattle.script.specs.Played.{lines_on}
use Rattle.schedule.specs.Written.{Wrote}
use Rattle.schedule.proofs.answer_block.Given as goal

abbrev pub invariant-loop-record : goal.invariant-loop-record
invariant-loop-record g l =
    let fuel = length l.block in
    let rest = l.record-iterator.rest.now in
    let first = l.initial.tables in
    let k = length l.yielded in
    (l.record-iterator.size ≡ 8) × (length rest ≤ fuel)
    × Wrote (g.W.Write.contents l.initial.writer) (g.W.Write.contents l.writer) (lines_on fuel l.block (owned first) first.freed)
    (take l.lines.end l.lines.bytes ++ lines_on fuel rest (owned l.tables) l.tables.freed)
    × (rest ≡ drop (8 * k) l.block) × (8 * k ≤ length l.block + 7)
    × (reached_as (owned l.tables) l.tables.freed ≡ reached 32 128 l.block (owned first) first.freed k)
