-- The survey: what is read of two lists is the report of the definition, in tables for any number of participants. Assumes nothing.
use mathlib.Core.Logic.{◌⊎◌, inl, inr}
use mathlib.Core.Path.{◌≡◌, ap, ◌∙◌}
use mathlib.Core.List.{List}
use Prim.Native.Nat.{ℕ, ◌+◌, ◌*◌, ◌<◌}
use native.Mathlib.Omega.{arith}
use lib.IntN.{ℤ}
use lib.Dec.{eqb}
use lib.ListN.{get_or}
use borrow.Author.Tests.{lt-ltb}
use Rattle.epoch.specs.Epoch.{wrapping_sub}
use Rattle.definition.specs.Base.{branch}
use Rattle.definition.specs.Codec.{participant_of}
use Rattle.definition.specs.Layout.{Lent, cell, participant_words, bits, slot_bits, shared_from, tables_of}
use Rattle.definition.specs.Links.{is_tagged}
use Rattle.definition.specs.Survey.{is_register, state_of, report_of}
use Rattle.definition.specs.declared.Participant.{Participant}
use Rattle.definition.proofs.Lists.{cell_in}
use Rattle.bits.proofs.Laws.{bit_words-has}
use Rattle.checks.specs.Refusals.{row}
use Rattle.ranges.proofs.Laws.{link_cell}
use Rattle.definition.specs.declared.Report.{Report}
use Rattle.survey.specs.States.{state_number}
use Rattle.survey.specs.declared.State.{State}
use Rattle.survey.specs.Surveys.{blank, report_in}

-- a participant's word is the first of its row
word-cell : (ps : List ℕ) (p : ℕ) → cell participant_words ps p 0 ≡ get_or ps (p * 21) 0
unfolding participant_words
word-cell ps p =
    let e : p * 21 + 0 ≡ p * 21 = omega arith in
    cell_in 21 ps p 0 (omega arith) ∙ ap (λ (i : ℕ). get_or ps i 0) e

-- a report, which is blank for the states 0 and 3
abbrev seen : (state guards handles held : ℕ) → (distance : ℤ) → Report
seen s g h k d = branch (eqb s 0) (blank 0) (branch (eqb s 3) (blank 3) (record { state = s; guards = g; handles = h; held = k; distance = d }))

-- the state of participant p, by the words that it is read from
abbrev pub state_at : (g ps : List ℕ) → ℕ → ℕ
state_at g ps p = branch (slot_bits (p + 1) g p) 0 (branch (is_tagged (get_or ps (p * 21 + 1) 0)) 3 (branch (is_register (row ps p).place) 1 2))

-- and the report: with its state alone, or with all of it
report-words : (g ps : List ℕ) (p : ℕ) → report_in g ps p
    ≡ seen (state_at g ps p) (row ps p).counts.guards (row ps p).counts.handles (row ps p).held (wrapping_sub (get_or g 0 0) (get_or ps (p * 21) 0))
unfolding report_in report_of state_of tables_of shared_from participant_of
report-words g ps p = rw (word-cell ps p, link_cell ps p)

-- free or deleted: its state alone; registering or registered: all of it
pub state_alone : (g ps : List ℕ) (p : ℕ) (s : State) → state_number s ≡ state_at g ps p → (s ≡ State.Free) ⊎ (s ≡ State.Deleted)
    → blank (state_number s) ≡ report_in g ps p
unfolding branch state_number
state_alone g ps p s e = elim [
  | inl h ↦ rw (report-words g ps p, ← e, h)
  | inr h ↦ rw (report-words g ps p, ← e, h)
]

pub all_said : (g ps : List ℕ) (p : ℕ) (s : State) (o : Participant) (d : ℤ) → state_number s ≡ state_at g ps p
    → (s ≡ State.Registering) ⊎ (s ≡ State.Registered) → o ≡ row ps p → d ≡ wrapping_sub (get_or g 0 0) (get_or ps (p * 21) 0)
    → record { state = state_number s; guards = o.counts.guards; handles = o.counts.handles; held = o.held; distance = d } ≡ report_in g ps p
unfolding branch state_number
all_said g ps p s o d e = elim [
  | inl h ↦ λ own dist. rw (own, dist, report-words g ps p, ← e, h)
  | inr h ↦ λ own dist. rw (own, dist, report-words g ps p, ← e, h)
]

-- the same slot, among any number of them that it is one of
slot_any : (N p : ℕ) (g : List ℕ) → p < N → slot_bits (p + 1) g p ≡ slot_bits N g p
unfolding slot_bits bits
slot_any N p g h = rw (lt-ltb _ _ (bit_words-has p (p + 1) (omega arith)), lt-ltb _ _ (bit_words-has p N h))

-- the report of one of N participants
pub report_in_lem : (N M : ℕ) (l : Lent) (p : ℕ) → p < N → report_in l.globals l.participants p ≡ report_of (tables_of N M l) p
unfolding report_in report_of state_of tables_of shared_from
report_in_lem N M l p h = rw (slot_any N p l.globals h)
