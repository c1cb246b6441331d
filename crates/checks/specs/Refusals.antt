-- The refusals of the public calls on lent lists, as numbers: the number of the first check that holds, and 0 where none does. The checks
-- and their order are the definition's (specs/Public); a list that has not its size is refused before all of them. Assumes nothing.
use Rattle.std.specs.Prelude.{◌&&◌, not, List, [], ◌∷◌, ℕ, eqb, ltb}
use Rattle.definition.specs.Base.{branch, count}
use Rattle.definition.specs.Bags.{max_objects}
use Rattle.definition.specs.Calls.{lacks, count_full, token_above}
use Rattle.definition.specs.Codec.{participant_of}
use Rattle.definition.specs.Layout.{Lent, cell, participant_words, record_at, sized, tables_of}
use Rattle.definition.specs.Public.{Check, check, refusal, step_checks, call_checks, register_checks, the, absent, running, twice, no_node, missing}
use Rattle.definition.specs.Ranges.{within_limits, in_range}
use Rattle.definition.specs.Tables.{Tables}
use Rattle.definition.specs.declared.Call.{Call}
use Rattle.definition.specs.declared.Participant.{Participant}

module _ (N M : ℕ) (l : Lent) where
  -- 2: sizes; then the first of the checks
  abbrev pub sized_first : ℕ → ℕ
  sized_first k = branch (within_limits N M && sized N M l) k 2

  -- of a step of participant p with so many places for freed tokens; of a call on participant p; of a registration
  unfoldable pub step_refusal : (places p : ℕ) → ℕ
  step_refusal places p = sized_first (refusal (step_checks N M places p (tables_of N M l)))

  unfoldable pub call_refusal : ℕ → Call → ℕ
  call_refusal p c = sized_first (refusal (call_checks N M p c (tables_of N M l)))

  unfoldable pub register_refusal : ℕ
  register_refusal = sized_first (refusal (register_checks N M (tables_of N M l)))

  -- what all three begin with: 2 for sizes, 1 for ranges
  unfoldable pub damage_of : ℕ
  damage_of = sized_first (branch (in_range N M (tables_of N M l)) 0 1)

-- the checks after the first, for tables that are in range
module _ (N M : ℕ) where
  abbrev pub step_rest : (places p : ℕ) → Tables → List Check
  step_rest places p t =
      check 12 (ltb places max_objects) ∷ check 3 (absent N M p t) ∷ check 5 (not (running p t)) ∷ check 1 (missing N M p t) ∷ []

  abbrev pub call_rest : ℕ → Call → Tables → List Check
  call_rest p c t =
      check 3 (absent N M p t) ∷ check 4 (running p t) ∷ check (lacks c (the p t)) (not (eqb (lacks c (the p t)) 0))
      ∷ check 8 (count_full c (the p t)) ∷ check 9 (token_above c) ∷ check 16 (twice p c t) ∷ check 11 (no_node N M p c t) ∷ []

  abbrev pub register_rest : Tables → List Check
  register_rest t = check 10 (eqb (count N t.slot_free) 0) ∷ []

-- participant p, as its row says
abbrev pub row : List ℕ → ℕ → Participant
row ps p = participant_of (record_at (cell participant_words ps p))
