-- A digit is a text of one byte; a longer number is what its tenth leaves, and its last digit behind it.
use Rattle.std.proofs.Common.{◌/◌, ◌≤◌, arith}
use Rattle.definition.specs.Schedule.{decimal}
use Rattle.script.proofs.Laws.{decimal_short, decimal-long, decimal_longer}
use Rattle.script.proofs.Putting.{adds_then}
use Rattle.script.proofs.Line.+put_decimal.Goals as goal

pub put_text-requires-else-v-lt10 : goal.put_text-requires-else-v-lt10
put_text-requires-else-v-lt10 t c =
    omega (arith, decimal_longer c.args.v (omega arith) c.if-v-lt10.false, c.put_decimal.ensures.room, c.put_decimal.ensures.puts.1)

pub returns-then-v-lt10 : goal.returns-then-v-lt10
returns-then-v-lt10 t c = rw (decimal_short c.args.v c.if-v-lt10.true, ← c.digit.ensures) c.put_text.ensures

pub returns-else-v-lt10 : goal.returns-else-v-lt10
returns-else-v-lt10 t c =
    let v = c.args.v in
    let long : 10 ≤ v = c.if-v-lt10.false in
    rw (decimal-long v (omega arith) long, ← c.digit-else-v-lt10.ensures)
    (adds_then _ _ _ (decimal (v / 10)) _ c.put_decimal.ensures c.put_text-else-v-lt10.ensures (omega (arith, decimal_longer v (omega arith) long)))
