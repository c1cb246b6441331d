-- What it reads is what the definition reads of the tables, and the distance fits an i64, so that its bits say it.
use Rattle.std.proofs.Common.{◌≡◌, ◌∙◌, ap, arith, get_or, add-zero, ◌*◌, ◌+◌}
use mir.Facts.{to_z-of_z}
use Rattle.definition.specs.Layout.{slot_bits}
use Rattle.epoch.proofs.Laws.{wrapping_sub-fits}
use Rattle.lent.proofs.Laws.{row_word}
use Rattle.records.proofs.Laws.{loaded}
use Rattle.survey.specs.States.{state_number}
use Rattle.survey.proofs.Laws.{state_at, state_alone, all_said}
use Rattle.survey.proofs.report_of.Goals as goal

pub returns-in-Free : goal.returns-in-Free
unfolding slot_bits
returns-in-Free c =
    let g = c.args.globals.now in
    let ps = c.args.participants.now in
    let p = c.args.p in
    let free = rw c.slots.ensures at c.is_free-free.ensures in
    let next : get_or c.row-row.result.now 1 0 ≡ get_or ps (p * 21 + 1) 0 = rw c.row-row.ensures (row_word 21 ps p 1 (omega arith)) in
    let o = loaded ps _ p c.load-o.result c.row-row.ensures c.load-o.ensures in
    let e : state_number c.state_of-state.result ≡ state_at g ps p =
    rw (← free, ← next, ← c.is_tagged.ensures, ← o, ← c.is_register.ensures) c.state_of-state.ensures in
    c.blank.ensures ∙ state_alone g ps p _ e c.in-Free.is

pub returns-in-Registering : goal.returns-in-Registering
unfolding slot_bits
returns-in-Registering c =
    let g = c.args.globals.now in
    let ps = c.args.participants.now in
    let p = c.args.p in
    let free = rw c.slots.ensures at c.is_free-free.ensures in
    let next : get_or c.row-row.result.now 1 0 ≡ get_or ps (p * 21 + 1) 0 = rw c.row-row.ensures (row_word 21 ps p 1 (omega arith)) in
    let word : get_or c.row-row.result.now 0 0 ≡ get_or ps (p * 21) 0 =
    rw c.row-row.ensures (row_word 21 ps p 0 (omega arith)) ∙ ap (λ k. get_or ps k 0) (add-zero (p * 21)) in
    let o = loaded ps _ p c.load-o.result c.row-row.ensures c.load-o.ensures in
    let e : state_number c.state_of-state.result ≡ state_at g ps p =
    rw (← free, ← next, ← c.is_tagged.ensures, ← o, ← c.is_register.ensures) c.state_of-state.ensures in
    rw c.from.ensures (all_said g ps p _ c.load-o.result _ e c.in-Registering.is o
    (rw (← word) (rw c.wrapping_sub.ensures (to_z-of_z (wrapping_sub-fits _ _)))))
