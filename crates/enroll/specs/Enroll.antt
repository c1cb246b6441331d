-- A registration on the lent lists: what must be there before it, and what each list is afterwards. That these are the lists of the definition's
-- `enrolled` is proofs/Laws. Assumes nothing.
use Rattle.std.specs.Prelude.{◌≡◌, true, List, ℕ, ◌+◌, ◌*◌, ◌^◌, ◌≤◌, ◌<◌, length, get_or}
use Rattle.epoch.specs.Epoch.{starting}
use Rattle.definition.specs.Base.{least}
use Rattle.definition.specs.Links.{null}
use Rattle.definition.specs.Codec.{record_of}
use Rattle.definition.specs.Layout.{Lent, global_words, slot_bits}
use Rattle.definition.specs.Public.{new_participant}
use Rattle.definition.specs.Ranges.{bit_words}
use Rattle.definition.specs.Types.{slot}
use Rattle.definition.specs.declared.Answer.{Answer}
use Rattle.definition.specs.declared.Word.{Word}
use Rattle.bits.specs.Bits.{within, taken}
use Rattle.records.specs.Stores.{stored_record}
use Rattle.words.specs.Words.{write_participants}

-- the smallest free slot of N
abbrev pub free_slot : ℕ → (globals : List ℕ) → ℕ
free_slot N g = least N (slot_bits N g)

-- the bits of N slots are there, none of them set beyond N
pub record Free (N : ℕ) (g : List ℕ) : Type 0 where
  pub small : N ≤ 4096
  pub long : 5 + bit_words N ≤ length g
  pub inside : within (bit_words N) N (slot_bits N g) ≡ true

-- and one slot is free, with a row for it
pub record Enrolls (N : ℕ) (l : Lent) : Type 0 where
  pub bits : Free N l.globals
  pub free : free_slot N l.globals < N
  pub rows : N * 21 ≤ length l.participants

-- row p of the participants: a null next, the starting epoch, then the record of a new participant
abbrev pub enrolled_row : (p : ℕ) → (participants : List ℕ) → List ℕ
enrolled_row p ps =
    stored_record (write_participants (Word.ParticipantWord (slot p)) starting (write_participants (Word.EntryNext (slot p)) null ps)) p
    (record_of new_participant)

-- all five lists: the slot is taken, its row is new, and the rest is as it was
abbrev pub enrolled_lent : ℕ → Lent → Lent
enrolled_lent N l = record {
  globals = taken l.globals global_words (free_slot N l.globals);
  participants = enrolled_row (free_slot N l.globals) l.participants;
  nodes = l.nodes;
  held = l.held;
  queued = l.queued;
}

-- it was carried out. That each of `globals` is a word is what the free bits in it are read by
pub record Enrolled (N : ℕ) (l : Lent) (r : Answer) (l' : Lent) : Type 0 where
  pub answer : r ≡ Answer.More 0
  pub lent : l' ≡ enrolled_lent N l
  pub words : (j : ℕ) → get_or l'.globals j 0 < 2 ^ 64
