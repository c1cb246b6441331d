-- A registration on lent lists that passed the checks: it may be made, and the lists hold the definition's tables afterwards. Assumes nothing.
use mathlib.Core.Path.{◌≡◌, refl, ap, sym, subst, ◌∙◌}
use mathlib.Core.Bool.{false}
use mathlib.Core.List.{[]}
use Prim.Native.Nat.{ℕ, ◌+◌, ◌*◌, ◌^◌, ◌≤◌, ◌<◌}
use native.Mathlib.Omega.{arith}
use lib.ListN.{length, get_or, length-set}
use Rattle.epoch.specs.Epoch.{starting}
use Rattle.definition.specs.Base.{put, least}
use Rattle.definition.specs.Bags.{max_objects}
use Rattle.definition.specs.Links.{null}
use Rattle.definition.specs.Codec.{record_of}
use Rattle.definition.specs.Tables.{Tables}
use Rattle.definition.specs.Tables as T
use Rattle.definition.specs.Layout.{Lent, lent, cell, global_words, participant_words, node_words, record_at, shared_from, bag_from, tables_of}
use Rattle.definition.specs.Public.{new_participant, enrolled}
use Rattle.definition.specs.Rule.{leaves}
use Rattle.definition.specs.Types.{slot}
use Rattle.definition.specs.declared.Answer.{Answer}
use Rattle.definition.specs.declared.Ask.{Ask}
use Rattle.definition.specs.declared.Word.{Word}
use Rattle.definition.proofs.Lists.{Sized, sized_is}
use Rattle.bits.specs.Bits.{taken}
use Rattle.bits.proofs.Laws.{length-marked, early_mark, slots_mark-slot, nodes-mark-slot, bits_in_is}
use Rattle.records.proofs.Laws.{stored_tables, stored_length}
use Rattle.words.specs.Words.{left_by, write_globals, write_participants, write_nodes, left_lent}
use Rattle.words.proofs.Laws.{left-tables}
use Rattle.ranges.proofs.Laws.{limits-small}
use Rattle.ranges.proofs.Facts.{facts}
use Rattle.ranges.specs.Sound.{Sound}
use Rattle.step.specs.Steps.{Leaves}
use Rattle.step.proofs.Carry.{lists_are}
use Rattle.enroll.specs.Enroll.{Enrolls, Enrolled, enrolled_lent}

-- the tables when slot p is taken
taken-tables : (N M : ℕ) (l : Lent) → Sized N M l → (p : ℕ) → p < N
    → tables_of N M (lent (taken l.globals global_words p) l.participants l.nodes l.held l.queued)
    ≡ T.with_free (put (tables_of N M l).slot_free p false) (tables_of N M l).node_free (tables_of N M l)
unfolding tables_of shared_from global_words
taken-tables N M l s p hp =
    let early : (j : ℕ) → j < global_words → get_or (taken l.globals global_words p) j 0 ≡ get_or l.globals j 0 =
    early_mark l.globals global_words p false (omega arith) in
    λ i. record {
      shared = record {
        global_epoch = early 0 (omega arith) i;
        list_head = early 1 (omega arith) i;
        entry_next = λ k. cell participant_words l.participants k 1;
        word = λ k. cell participant_words l.participants k 0;
        queue_head = early 2 (omega arith) i;
        queue_tail = early 3 (omega arith) i;
        node_next = λ k. cell node_words l.nodes k 0;
      };
      own = λ k. record_at (cell participant_words l.participants k);
      held = cell max_objects l.held;
      bag = bag_from l.nodes l.queued;
      slot_free = slots_mark-slot N l.globals p false (rw s.globals (omega arith)) hp i;
      node_free = nodes-mark-slot N l.globals p false M hp i;
      aside = early 4 (omega arith) i;
    }

-- lists in range with a free slot, which is what `checks` says of a registration that it lets pass
module _ (N M : ℕ) (l : Lent) (s : Sound N M l) (free : least N (tables_of N M l).slot_free < N) where
  -- the tables, and their smallest free slot
  abbrev pub tables : Tables
  tables = tables_of N M l

  abbrev pub first : ℕ
  first = least N tables.slot_free

  size : Sized N M l
  size = sized_is N M l s.lengths

  -- it may be made
  pub may_enroll : Enrolls N l
  unfolding tables_of
  may_enroll =
      let small = limits-small N M s.limits in
      record {
        bits = record {
          small = small.1.0;
          long = rw size.globals (omega arith);
          inside = sym (bits_in_is N M N tables.slot_free) ∙ (facts N M tables s.range).slots;
        };
        free = free;
        rows = rw size.participants (omega arith);
      }

  row_in : first * 21 + 21 ≤ length l.participants
  row_in = rw size.participants (omega arith)

  -- the slot taken, and the two stores to its entry
  abbrev with_slot : Lent
  with_slot = lent (taken l.globals global_words first) l.participants l.nodes l.held l.queued

  abbrev next : Ask
  next = Ask.Store (Word.EntryNext (slot first)) null

  abbrev word : Ask
  word = Ask.Store (Word.ParticipantWord (slot first)) starting

  -- the lists afterwards are as long as they were
  next_length : length (write_participants (Word.EntryNext (slot first)) null l.participants) ≡ length l.participants
  unfolding write_participants
  next_length = length-set l.participants (first * 21 + 1) null

  word-length : length (write_participants (Word.ParticipantWord (slot first)) starting (write_participants (Word.EntryNext (slot first)) null l.participants))
      ≡ length l.participants
  unfolding write_participants
  word-length = length-set (write_participants (Word.EntryNext (slot first)) null l.participants) (first * 21) starting ∙ next_length

  pub enrolled-sized : Sized N M (enrolled_lent N l)
  unfolding tables_of
  enrolled-sized = record {
    globals = length-marked l.globals global_words first false ∙ size.globals;
    participants = stored_length _ first (record_of new_participant) ∙ word-length ∙ size.participants;
    nodes = size.nodes;
    held = size.held;
    queued = size.queued;
  }

  -- they hold the tables of the definition
  pub enrolled-tables : tables_of N M (enrolled_lent N l) ≡ (enrolled first tables).tables
  unfolding tables_of enrolled left_by write_globals write_nodes leaves
  enrolled-tables =
      stored_tables N M (left_lent word (left_lent next with_slot)) first (record_of new_participant) (rw word-length row_in)
      ∙ ap (T.with_own first (record_of new_participant))
      (left-tables N M word (left_lent next with_slot) (rw next_length row_in)
      ∙ ap (λ (t : Tables). T.with_shared (leaves word t.shared) t)
      (left-tables N M next with_slot row_in
      ∙ ap (λ (t : Tables). T.with_shared (leaves next t.shared) t) (taken-tables N M l size first free)))

  -- what `enroll` promises is the definition's registration
  pub leaves-enrolled : (r : Answer) (l' : Lent) → Enrolled N l r l' → Leaves N M (enrolled first tables) [] r l' []
  unfolding enrolled
  leaves-enrolled r l' e = record {
    answer = e.answer;
    lent = e.lent ∙ lists_are N M (enrolled_lent N l) (enrolled first tables).tables enrolled-sized enrolled-tables
        (λ j. subst (λ (l : Lent). get_or l.globals j 0 < 2 ^ 64) e.lent (e.words j));
    freed = refl;
  }
