-- Answer, tokens and line end are put one behind the other, and there is room for each.
use Rattle.std.proofs.Common.{ℕ, [], ◌∷◌, ◌++◌, ◌+◌, ◌*◌, ◌≤◌, arith, rules, sym, subst, ◌∙◌, length, length-append, length-take, take_all}
use Rattle.definition.specs.Schedule.{answer_text, freed_text}
use Rattle.script.specs.Putting.{Adds}
use Rattle.script.specs.Script.{line_of}
use Rattle.script.proofs.Laws.{answer_most, freed_most}
use Rattle.script.proofs.Putting.{adds_then}
use Rattle.script.proofs.put_line.Goals as goal

pub put_freed-requires : goal.put_freed-requires
put_freed-requires c = omega (arith, answer_most c.args.answer, c.put_answer.ensures.room, c.put_answer.ensures.puts.1, length-take {A = ℕ})

pub put_text-requires : goal.put_text-requires
put_text-requires c =
    let tokens = c.args.freed.now in
    let put = subst (λ t. Adds c.put_answer.new.self (freed_text t) c.put_freed.new.self) {y = tokens} (search (rules, take_all)) c.put_freed.ensures in
    omega (arith, answer_most c.args.answer, freed_most tokens, c.put_answer.ensures.room, c.put_answer.ensures.puts.1, put.room, put.puts.1)

pub returns : goal.returns
unfolding line_of
returns c =
    let a = c.args in
    let tokens = a.freed.now in
    let x = answer_most a.answer in
    let y = freed_most tokens in
    let put = subst (λ t. Adds c.put_answer.new.self (freed_text t) c.put_freed.new.self) {y = tokens} (search (rules, take_all)) c.put_freed.ensures in
    let head = adds_then _ _ _ (answer_text a.answer) (freed_text tokens) c.put_answer.ensures put (omega arith) in
    let room : a.at + length (answer_text a.answer ++ freed_text tokens) ≤ a.at + 28 + 22 * length tokens = simp length-append (omega arith) in
    let whole = adds_then _ _ _ (answer_text a.answer ++ freed_text tokens) (10 ∷ []) head c.put_text.ensures (omega arith) in
    let names = sym whole.same in
    record {
      puts = (search (rules, names) ∙ whole.puts.0, whole.puts.1);
      upper_bound = omega (arith, head.puts.1, c.put_text.ensures.puts.1);
    }
