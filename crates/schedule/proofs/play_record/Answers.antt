-- The line is the definition's by `line-put`: the lists have the sizes of 32 participants and 128 nodes, and 64 tokens at most are put.
use Rattle.std.proofs.Common.{◌≡◌, arith, rules, length, ap}
use Rattle.definition.specs.Public.{Outcome}
use Rattle.player.specs.Owned.{owned}
use Rattle.reclaimer.specs.Outcomes.{outcome_of}
use Rattle.schedule.proofs.Laws.{fits-sized, line-put, line-same}
use Rattle.schedule.proofs.play_record.Goals as goal

pub returns : goal.returns
returns c =
    let t = c.args.tables.now in
    let after = c.act-answer.new.self in
    let sized = fits-sized (owned t) (search rules) (search rules) (search rules) (search rules) (search rules) in
    let room : length t.freed ≡ 64 = search rules in
    let left : length after.freed ≡ 64 = c.act-answer.ensures.freed in
    let played = c.act-answer.ensures.played in
    let same = line-put (owned t) t.freed c.args.bytes.now c.action_of.result (outcome_of c.act-answer.result (owned after) after.freed) c.min-k.result
    sized room c.action_of.ensures played (omega arith) in
    let again = line-same (owned t) t.freed c.args.bytes.now _ sized room same in
    record {
      puts = rw (← same) c.put.ensures;
      same_line = rw (← again) c.put.ensures;
      lists_after = rw (← c.action_of.ensures) (ap (λ (o : Outcome). o.lent) played);
      freed_after = rw (← c.action_of.ensures) (ap (λ (o : Outcome). o.freed) played);
    }
