-- The values that the code of a registration computes, one after another, and what follows from them: each call may be made, and together they
-- leave the lists of specs/Enroll. Over plain variables, so that nothing of the code stands here. Assumes nothing.
use mathlib.Core.Path.{◌≡◌, refl, ap, ◌∙◌}
use mathlib.Core.List.{List}
use Prim.Native.Nat.{ℕ, ◌+◌, ◌*◌, ◌/◌, ◌^◌, ◌≤◌, ◌<◌}
use native.Mathlib.Omega.{arith}
use lib.ListN.{length, get_or, length-set}
use Rattle.epoch.specs.Epoch.{starting}
use Rattle.definition.specs.Links.{null}
use Rattle.definition.specs.Codec.{code_of, record_of}
use Rattle.definition.specs.Layout.{Lent, global_words}
use Rattle.definition.specs.Public.{new_participant}
use Rattle.definition.specs.Types.{slot}
use Rattle.definition.specs.declared.Answer.{Answer}
use Rattle.definition.specs.declared.Participant.{Participant}
use Rattle.definition.specs.declared.Word.{Word}
use Rattle.bits.specs.Bits.{taken}
use Rattle.bits.proofs.Laws.{bit_words-has}
use Rattle.records.specs.Stores.{PointersFit, stored_record}
use Rattle.words.specs.Words.{write_globals, write_participants, write_nodes, write_lent}
use Rattle.enroll.specs.Enroll.{Free, Enrolls, Enrolled, free_slot}

-- the free bits that are looked at are those of the lists
pub bits_ok : (N : ℕ) (l : Lent) → Enrolls N l → (r : Lent) → r ≡ l → Free N r.globals
bits_ok N l e r read = rw read e.bits

-- the registration may be made: r are the lists as they are read
module _ (N : ℕ) (l : Lent) (e : Enrolls N l) (r : Lent) (read : r ≡ l) (p : ℕ) (least : p ≡ free_slot N r.globals) where
  least_is : p ≡ free_slot N l.globals
  least_is = rw read at least

  -- the bit of the smallest free slot is in the list
  pub bit_ok : global_words + p / 64 < length l.globals
  unfolding global_words
  bit_ok = let below : p < N = rw least_is e.free in omega (arith, e.bits.long, bit_words-has p N below)

  -- and its row is there
  pub row_ok : p * 21 + 21 ≤ length l.participants
  row_ok = omega (arith, e.rows, e.free, least_is)

  -- still when its entry's next is stored, and when its epoch is
  module _ (g : List ℕ) (v : ℕ) (l₂ : Lent) (next : l₂ ≡ write_lent (Word.EntryNext (slot p)) v (record l { globals = g })) where
    length_next : length l₂.participants ≡ length l.participants
    unfolding write_participants
    length_next = ap (λ (l : Lent). length l.participants) next ∙ length-set l.participants (p * 21 + 1) v

    pub next_ok : p * 21 + 21 ≤ length l₂.participants
    next_ok = omega (arith, length_next, row_ok)

    pub word_ok : (w : ℕ) (l₃ : Lent) → l₃ ≡ write_lent (Word.ParticipantWord (slot p)) w l₂ → p * 21 + 21 ≤ length l₃.participants
    unfolding write_participants
    word_ok w l₃ word = rw (ap (λ (l : Lent). length l.participants) word ∙ length-set l₂.participants (p * 21) w) next_ok

-- the place of a new participant has no pointer
pub place_ok : (o : Participant) → o ≡ new_participant → PointersFit (code_of o.place)
unfolding new_participant code_of
place_ok o h = rw h (record { pred = omega arith; succ = omega arith })

-- what the callees promise: g when the slot is taken, l₂ and l₃ after the two stores to its entry, ps at the end
pub record Chain (N : ℕ) (l r : Lent) (p w : ℕ) (o : Participant) (g : List ℕ) (l₂ l₃ : Lent) (ps : List ℕ) : Type 0 where
  pub read : r ≡ l
  pub least : p ≡ free_slot N r.globals
  pub take : g ≡ taken l.globals global_words p
  pub words : (j : ℕ) → get_or g j 0 < 2 ^ 64
  pub next : l₂ ≡ write_lent (Word.EntryNext (slot p)) null (record l { globals = g })
  pub epoch : w ≡ starting
  pub word : l₃ ≡ write_lent (Word.ParticipantWord (slot p)) w l₂
  pub new : o ≡ new_participant
  pub store : ps ≡ stored_record l₃.participants p (record_of o)

-- together they are the registration
pub carried : (N : ℕ) (l r : Lent) (p w : ℕ) (o : Participant) (g : List ℕ) (l₂ l₃ : Lent) (ps : List ℕ) → Chain N l r p w o g l₂ l₃ ps
    → Enrolled N l (Answer.More 0) (record l₃ { participants = ps })
unfolding write_globals write_nodes
carried N l r p w o g l₂ l₃ ps c = record {
  answer = refl;
  lent = rw (c.store, c.word, c.next, c.take, c.new, c.epoch, c.least, c.read) refl;
  words = rw (c.word, c.next) c.words;
}
