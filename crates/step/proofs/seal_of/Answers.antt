-- The word of the node's row where there is such a row; beyond the list nothing stands.
use mathlib.Core.Path.{◌≡◌, ap, sym, ◌∙◌}
use mathlib.Core.List.{List, []}
use Prim.Native.Nat.{ℕ, ◌+◌, ◌*◌, ◌/◌, ◌<◌}
use native.Mathlib.Omega.{arith}
use lib.ListN.{length, get_or, take, drop}
use Rattle.std.proofs.lemmas.List.{get_or_default}
use Rattle.definition.specs.Links.{index, node_at}
use Rattle.definition.specs.declared.Node.{Node}
use Rattle.lent.proofs.Laws.{row_part, row_word}
use Rattle.step.proofs.Beyond.{get_or_beyond}
use Rattle.step.proofs.seal_of.Goals as goal

pub returns-in-Some : goal.returns-in-Some
unfolding node_at
returns-in-Some c =
    let l = c.args.nodes.now in
    let at = c.node_at-i.result.0 in
    let named : at ≡ index c.args.value = ap (λ (n : Node). n.0) c.node_at-i.ensures in
    let below : at < length l / 3 = omega (arith, c.in-Some.ensures.lookup, c.as_chunks.ensures.front_len) in
    let row : c.in-Some.row.now ≡ take 3 (drop (at * 3) l) =
    c.in-Some.ensures.lookup.1 ∙ get_or_default _ at _ [] (rw c.as_chunks.ensures.front_len below)
    ∙ ap (λ (rows : List (List ℕ)). get_or rows at []) c.as_chunks.ensures.front ∙ row_part 3 (length l / 3) l at below in
    ap (λ (r : List ℕ). get_or r 1 0) row ∙ row_word 3 l at 1 (omega arith) ∙ ap (λ (n : ℕ). get_or l (n * 3 + 1) 0) named

pub returns-in-None : goal.returns-in-None
unfolding node_at
returns-in-None c =
    let i : c.node_at-i.result.0 ≡ index c.args.value = ap (λ (n : Node). n.0) c.node_at-i.ensures in
    let none = c.in-None.ensures in
    sym (get_or_beyond c.args.nodes.now (index c.args.value * 3 + 1) (omega (arith, i, c.requires, none.lookup, c.as_chunks.ensures.front_len)))
