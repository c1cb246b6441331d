-- The lowest bit of the first word that is not 0 is the least; where every word is 0, none is set.
use Prim.Native.Nat.{ℕ, ◌+◌, ◌*◌, ◌<◌}
use mathlib.Core.Path.{◌≡◌, ◌∙◌}
use lib.Count.{count_trailing_zeros}
use lib.ListN.{length, get_or}
use Rattle.std.proofs.Common.{rules, tests, arith}
use Rattle.bits.specs.Bits.{words_of}
use Rattle.bits.proofs.Loops.{first_here, none_free}
use Rattle.bits.proofs.Word.{lowest_lt}
use Rattle.bits.proofs.first_free.Goals as goal

pub returns-in-Some : goal.returns-in-Some
returns-in-Some c =
    let ws = c.args.words.now in
    let j = c.in-Some.j in
    let bound : j < length ws = search rules in
    let here : get_or ws j 0 ≡ 0 → ⊥ = search (rules, tests) in
    let before : (i : ℕ) → i < j → get_or ws i 0 ≡ 0 = search (rules, tests) in
    let least = first_here (length ws) (words_of ws) j bound (c.type_inv.words j).fits here c.args.n c.requires.none_beyond before in
    let low : count_trailing_zeros 64 (get_or ws j 0) < 64 = lowest_lt 64 (get_or ws j 0) (c.type_inv.words j).fits here in
    omega arith ∙ least

pub returns-in-None : goal.returns-in-None
returns-in-None c =
    let ws = c.args.words.now in
    let zero : (i : ℕ) → i < length ws → get_or ws i 0 ≡ 0 = search (rules, tests) in
    none_free ws c.args.n zero
