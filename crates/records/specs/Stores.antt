-- A participant's record in a lent list: the list after it was stored, and what a place needs so that it can be. Assumes nothing.
use Rattle.std.specs.Prelude.{List, ℕ, ◌+◌, ◌*◌, ◌^◌, ◌<◌}
use Rattle.std.proofs.lemmas.List.Edits.{sets}
use Rattle.definition.specs.Layout.{Lent, participant_words, record_words}
use Rattle.definition.specs.declared.Code.{Code}
use Rattle.definition.specs.declared.Record.{Record}

-- the pointers among a place's columns fit a word. (The other columns are words as they are)
pub record PointersFit (c : Code) : Type 0 where
  pub pred : c.pred < 2 ^ 64
  pub succ : c.succ < 2 ^ 64

-- the list with the record of participant p written to its row, after the two shared words
unfoldable pub stored_record : List ℕ → ℕ → Record → List ℕ
stored_record l p r = sets l (p * participant_words + 2) (record_words r)

-- and all the lent lists with it
abbrev pub stored_lent : Lent → ℕ → Record → Lent
stored_lent l p r = record {
  globals = l.globals;
  participants = stored_record l.participants p r;
  nodes = l.nodes;
  held = l.held;
  queued = l.queued;
}
