-- The texts of the tokens so far are put, with at most 22 bytes each.
use Rattle.std.proofs.Common.{[], ◌∷◌, arith, take, length-take-le}
use Rattle.definition.specs.Schedule.{freed_text}
use Rattle.script.proofs.Laws.{freed_next, freed_most}
use Rattle.script.proofs.Putting.{adds_none, adds_then}
use Rattle.script.proofs.Line.put_freed.Goals as goal

pub loop-token-init : goal.loop-token-init
unfolding freed_text
loop-token-init c = adds_none _

pub put_text-requires : goal.put_text-requires
put_text-requires c =
    let l = c.loop-token in
    let tokens = take l.token-index c.args.freed.now in
    omega (arith, freed_most tokens, length-take-le l.token-index c.args.freed.now (omega arith), l.invariant.room, l.invariant.puts.1)

pub put_decimal-requires : goal.put_decimal-requires
put_decimal-requires c =
    let l = c.loop-token in
    let tokens = take l.token-index c.args.freed.now in
    omega (
      arith,
      freed_most tokens,
      length-take-le l.token-index c.args.freed.now (omega arith),
      l.invariant.room,
      l.invariant.puts.1,
      c.put_text.ensures.room,
      c.put_text.ensures.puts.1,
    )

pub loop-token-preserved : goal.loop-token-preserved
loop-token-preserved c =
    let freed = c.args.freed.now in
    let l = c.loop-token in
    let tokens = take l.token-index freed in
    let room = freed_most tokens in
    let few = length-take-le l.token-index freed (omega arith) in
    let token = adds_then _ _ _ (32 ∷ 43 ∷ []) _ c.put_text.ensures c.put_decimal.ensures (omega (arith, l.invariant.room, l.invariant.puts.1)) in
    rw (freed_next freed l.token-index (omega arith)) (adds_then _ _ _ (freed_text tokens) _ l.invariant token (omega arith))
