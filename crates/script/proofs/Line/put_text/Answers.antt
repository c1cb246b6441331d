-- The part of the bytes that the text is copied over is as long as the text.
use Rattle.std.proofs.Common.{arith, refl, rules}
use Rattle.script.proofs.Laws.{copied}
use Rattle.script.proofs.Line.put_text.Goals as goal

pub returns : goal.returns
returns c = record {
  puts = (copied c.args.self.now.out.now c.args.self.now.at _ c.args.text.now _ c.copy_from_slice.ensures.after (omega arith), refl);
  same = refl;
  room = search rules;
}
