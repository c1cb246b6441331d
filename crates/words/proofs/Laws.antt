-- What an access leaves, read as tables: the shared words are those of the definition, and nothing else has changed. A list that an access
-- leaves is the list itself or the list with one word set, and which words these can be is said once for each list. Last, the same for an access
-- that may fail for no reason. Assumes nothing.
use mathlib.Core.Path.{◌≡◌, refl, ap, ap₂, sym, ◌∙◌, subst, fun_ext}
use mathlib.Core.Bool.{Bool, true, false}
use mathlib.Core.List.{List}
use Prim.Native.Nat.{ℕ, ◌+◌, ◌*◌, ◌≤◌, ◌<◌}
use native.Mathlib.Nat.{add-zero}
use native.Mathlib.Omega.{arith}
use lib.ListN.{length, get_or, set, length-set}
use lib.Seq.{get_or-set_same, get_or-set_other}
use Rattle.definition.specs.Base.{branch, Tab, put}
use Rattle.definition.proofs.Base.{branch_ind, put_ind, put_other}
use Rattle.definition.specs.Links.{tagged}
use Rattle.definition.specs.Bags.{max_objects}
use Rattle.definition.specs.Ranges.{bit_words}
use Rattle.definition.specs.Tables.{Shared, read, write, with_shared}
use Rattle.definition.specs.Rule.{agrees, leaves, fails}
use Rattle.definition.specs.Layout.{Lent, global_words, participant_words, node_words, cell, bits, tables_of}
use Rattle.definition.specs.Layout.{record_at, shared_from, bag_from, slot_bits, node_bits}
use Rattle.definition.specs.declared.Word.{Word}
use Rattle.definition.specs.declared.Ask.{Ask}
use Rattle.definition.specs.declared.Seen.{Seen}
use Rattle.records.proofs.Laws.{each, column, each_set, each_kept}
use Rattle.words.specs.Words.{shared_of, named, word_in, write_globals, write_participants, write_nodes, write_lent, Made}
use Rattle.words.specs.Words.{left_by, left_globals, left_participants, left_nodes, left_lent}

-- ---- which words can be set

-- what holds of a list, and of the list after a store of any value to the word named, holds of what the access leaves of it
left_ind : (P : List ℕ → Type 0) (stores : Word → ℕ → List ℕ → List ℕ) (ask : Ask) (s : Shared) (l : List ℕ)
    → P l → ((v : ℕ) → P (stores (named ask) v l)) → P (left_by stores ask s l)
unfolding left_by
left_ind P stores (Ask.Load w) s l same set = same
left_ind P stores (Ask.Store w v) s l same set = set v
left_ind P stores (Ask.Exchange w e v) s l same set = branch_ind P (agrees w e s) (λ _. set v) (λ _. same)
left_ind P stores (Ask.ExchangeWeak w e v) s l same set = branch_ind P (agrees w e s) (λ _. set v) (λ _. same)
left_ind P stores (Ask.FetchOr w) s l same set = set _

-- the first word of a row
first : (P : List ℕ → Type 0) (l : List ℕ) (i w v : ℕ) → P (set l (i * w + 0) v) → P (set l (i * w) v)
first P l i w v h = subst (λ (k : ℕ). P (set l k v)) (add-zero (i * w)) h

-- of `globals`: one of the first four words
globals_ind : (P : List ℕ → Type 0) (w : Word) (v : ℕ) (l : Lent) → word_in w l
    → P l.globals → ((k : ℕ) → k < 4 → P (set l.globals k v)) → P (write_globals w v l.globals)
unfolding write_globals
globals_ind P Word.GlobalEpoch v l h same set = set 0 (omega arith)
globals_ind P Word.ListHead v l h same set = set 1 (omega arith)
globals_ind P (Word.EntryNext i) v l h same set = same
globals_ind P (Word.ParticipantWord i) v l h same set = same
globals_ind P Word.QueueHead v l h same set = set 2 (omega arith)
globals_ind P Word.QueueTail v l h same set = set 3 (omega arith)
globals_ind P (Word.NodeNext k) v l h same set = same

-- of `participants`: the first or the second word of a row
participants_ind : (P : List ℕ → Type 0) (w : Word) (v : ℕ) (l : Lent) → word_in w l → P l.participants
    → ((i : ℕ) → i * 21 + 21 ≤ length l.participants → P (set l.participants (i * 21 + 0) v))
    → ((i : ℕ) → i * 21 + 21 ≤ length l.participants → P (set l.participants (i * 21 + 1) v)) → P (write_participants w v l.participants)
unfolding write_participants
participants_ind P Word.GlobalEpoch v l h same word next = same
participants_ind P Word.ListHead v l h same word next = same
participants_ind P (Word.EntryNext i) v l h same word next = next i.0 h
participants_ind P (Word.ParticipantWord i) v l h same word next = first P l.participants i.0 21 v (word i.0 h)
participants_ind P Word.QueueHead v l h same word next = same
participants_ind P Word.QueueTail v l h same word next = same
participants_ind P (Word.NodeNext k) v l h same word next = same

-- of `nodes`: the first word of a row
nodes_ind : (P : List ℕ → Type 0) (w : Word) (v : ℕ) (l : Lent) → word_in w l → P l.nodes
    → ((k : ℕ) → k * 3 + 3 ≤ length l.nodes → P (set l.nodes (k * 3 + 0) v)) → P (write_nodes w v l.nodes)
unfolding write_nodes
nodes_ind P Word.GlobalEpoch v l h same next = same
nodes_ind P Word.ListHead v l h same next = same
nodes_ind P (Word.EntryNext i) v l h same next = same
nodes_ind P (Word.ParticipantWord i) v l h same next = same
nodes_ind P Word.QueueHead v l h same next = same
nodes_ind P Word.QueueTail v l h same next = same
nodes_ind P (Word.NodeNext k) v l h same next = first P l.nodes k.0 3 v (next k.0 h)

-- ---- the shared words

-- a list's words as a table, after one of them was set
get_or-put : (l : List ℕ) (k v : ℕ) → k < length l → (λ j. get_or (set l k v) j 0) ≡ put (λ j. get_or l j 0) k v
get_or-put l k v h =
    fun_ext (λ j.
    put_ind (λ (x : ℕ). get_or (set l k v) j 0 ≡ x) (λ j. get_or l j 0) k j v
    (λ e. ap (λ (i : ℕ). get_or (set l k v) i 0) (sym e) ∙ get_or-set_same l k v 0 h)
    (λ ne. get_or-set_other l k j v 0 (λ e. ne (sym e))))

-- the shared words by the words of `globals`, both columns of the participants, and that of the nodes
abbrev shared_by : (globals word entry_next node_next : Tab ℕ) → Shared
shared_by g word entry_next node_next =
    record { global_epoch = g 0; list_head = g 1; entry_next = entry_next; word = word; queue_head = g 2; queue_tail = g 3; node_next = node_next }

module _ (l : Lent) (v : ℕ) where
  -- one of the four words of `globals`
  global : (k : ℕ) → k < length l.globals → shared_from (set l.globals k v) l.participants l.nodes
      ≡ shared_by (put (λ j. get_or l.globals j 0) k v) (column 0 participant_words l.participants) (column 1 participant_words l.participants)
      (column 0 node_words l.nodes)
  unfolding shared_from
  global k h =
      ap (λ (t : Tab ℕ). shared_by t (column 0 participant_words l.participants) (column 1 participant_words l.participants) (column 0 node_words l.nodes))
      (get_or-put l.globals k v h)

  -- a store to a word is the definition's `write`
  pub write-shared : (w : Word) → word_in w l → shared_of (write_lent w v l) ≡ write w v (shared_of l)
  unfolding write_globals write_participants write_nodes write shared_from put branch participant_words node_words
  write-shared Word.GlobalEpoch h = global 0 (omega arith)
  write-shared Word.ListHead h = global 1 (omega arith)
  write-shared (Word.EntryNext i) h =
      ap₂ (λ (a b : Tab ℕ). shared_by (λ j. get_or l.globals j 0) a b (column 0 node_words l.nodes))
      (each_kept (λ (row : Tab ℕ). row 0) 21 l.participants i.0 1 v (omega arith) (omega arith) refl)
      (each_set (λ (row : Tab ℕ). row 1) 21 l.participants i.0 1 v (omega arith) (omega arith))
  write-shared (Word.ParticipantWord i) h =
      first (λ (ps : List ℕ). shared_from l.globals ps l.nodes ≡ write (Word.ParticipantWord i) v (shared_of l)) l.participants i.0 21 v
      (ap₂ (λ (a b : Tab ℕ). shared_by (λ j. get_or l.globals j 0) a b (column 0 node_words l.nodes))
      (each_set (λ (row : Tab ℕ). row 0) 21 l.participants i.0 0 v (omega arith) (omega arith))
      (each_kept (λ (row : Tab ℕ). row 1) 21 l.participants i.0 0 v (omega arith) (omega arith) refl))
  write-shared Word.QueueHead h = global 2 (omega arith)
  write-shared Word.QueueTail h = global 3 (omega arith)
  write-shared (Word.NodeNext k) h =
      first (λ (ns : List ℕ). shared_from l.globals l.participants ns ≡ write (Word.NodeNext k) v (shared_of l)) l.nodes k.0 3 v
      (ap (shared_by (λ j. get_or l.globals j 0) (column 0 participant_words l.participants) (column 1 participant_words l.participants))
      (each_set (λ (row : Tab ℕ). row 0) 3 l.nodes k.0 0 v (omega arith) (omega arith)))

-- ---- what an access leaves

module _ (ask : Ask) (l : Lent) (h : word_in (named ask) l) where
  -- what holds of a list, and of it with one of its shared words set, holds of what is left of it
  left-globals : (P : List ℕ → Type 0) → P l.globals → ((v k : ℕ) → k < 4 → P (set l.globals k v)) → P (left_globals ask l)
  left-globals P same set = left_ind P write_globals ask (shared_of l) l.globals same (λ v. globals_ind P (named ask) v l h same (set v))

  left-participants : (P : List ℕ → Type 0) → P l.participants → ((v i : ℕ) → i * 21 + 21 ≤ length l.participants → P (set l.participants (i * 21 + 0) v))
      → ((v i : ℕ) → i * 21 + 21 ≤ length l.participants → P (set l.participants (i * 21 + 1) v)) → P (left_participants ask l)
  left-participants P same word next =
      left_ind P write_participants ask (shared_of l) l.participants same (λ v. participants_ind P (named ask) v l h same (word v) (next v))

  left-nodes : (P : List ℕ → Type 0) → P l.nodes → ((v k : ℕ) → k * 3 + 3 ≤ length l.nodes → P (set l.nodes (k * 3 + 0) v)) → P (left_nodes ask l)
  left-nodes P same next = left_ind P write_nodes ask (shared_of l) l.nodes same (λ v. nodes_ind P (named ask) v l h same (next v))

  -- no length changes
  pub length-left-globals : length (left_globals ask l) ≡ length l.globals
  length-left-globals = left-globals (λ (xs : List ℕ). length xs ≡ length l.globals) refl (λ v k _. length-set l.globals k v)

  pub length-left-participants : length (left_participants ask l) ≡ length l.participants
  length-left-participants =
      left-participants (λ (xs : List ℕ). length xs ≡ length l.participants) refl
      (λ v i _. length-set l.participants (i * 21 + 0) v) (λ v i _. length-set l.participants (i * 21 + 1) v)

  pub length-left-nodes : length (left_nodes ask l) ≡ length l.nodes
  length-left-nodes = left-nodes (λ (xs : List ℕ). length xs ≡ length l.nodes) refl (λ v k _. length-set l.nodes (k * 3 + 0) v)

  -- the words of `globals` after the fourth are as they were: the set-aside total, and the free bits
  pub kept-globals : (k : ℕ) → 4 ≤ k → get_or (left_globals ask l) k 0 ≡ get_or l.globals k 0
  kept-globals k beyond =
      left-globals (λ (xs : List ℕ). get_or xs k 0 ≡ get_or l.globals k 0) refl (λ v j four. get_or-set_other l.globals j k v 0 (λ (e : k ≡ j). omega arith))

  pub kept-slot_bits : (N : ℕ) → slot_bits N (left_globals ask l) ≡ slot_bits N l.globals
  unfolding slot_bits global_words
  kept-slot_bits N = ap (bits (bit_words N)) (fun_ext (λ k. kept-globals (global_words + k) (omega arith)))

  pub kept-node_bits : (N M : ℕ) → node_bits N M (left_globals ask l) ≡ node_bits N M l.globals
  unfolding node_bits global_words
  kept-node_bits N M = ap (bits (bit_words M)) (fun_ext (λ k. kept-globals (global_words + bit_words N + k) (omega arith)))

  -- every participant's record is as it was
  pub kept_records : (λ i. record_at (cell participant_words (left_participants ask l) i)) ≡ each record_at participant_words l.participants
  unfolding participant_words record_at put branch
  kept_records =
      left-participants (λ (xs : List ℕ). each record_at participant_words xs ≡ each record_at participant_words l.participants) refl
      (λ v i row. each_kept record_at 21 l.participants i 0 v (omega arith) (omega arith) refl)
      (λ v i row. each_kept record_at 21 l.participants i 1 v (omega arith) (omega arith) refl)

  -- the columns of `nodes` after the first are as they were, so the bags are
  pub kept-nodes : (c : ℕ) → 1 ≤ c → column c node_words (left_nodes ask l) ≡ column c node_words l.nodes
  unfolding node_words
  kept-nodes c beyond =
      left-nodes (λ (xs : List ℕ). column c node_words xs ≡ column c node_words l.nodes) refl
      (λ v k row. each_kept (λ (t : Tab ℕ). t c) 3 l.nodes k 0 v (omega arith) (omega arith) (put_other (cell 3 l.nodes k) 0 c v (λ (e : 0 ≡ c). omega arith)))

  pub kept-bags : (q : List ℕ) → bag_from (left_nodes ask l) q ≡ bag_from l.nodes q
  unfolding bag_from
  kept-bags q =
      ap₂ (λ (a b : Tab ℕ). λ k. record { epoch = a k; len = b k; deferreds = cell max_objects q k }) (kept-nodes 1 (omega arith)) (kept-nodes 2 (omega arith))

-- an exchange that is done, or not
chosen : (w : Word) (v : ℕ) (l : Lent) → word_in w l → (b : Bool)
    → shared_from (branch b (write_globals w v l.globals) l.globals) (branch b (write_participants w v l.participants) l.participants)
    (branch b (write_nodes w v l.nodes) l.nodes)
    ≡ branch b (write w v (shared_of l)) (shared_of l)
unfolding branch
chosen w v l h true = write-shared l v w h
chosen w v l h false = refl

-- the shared words are those that the definition leaves
pub left-shared : (ask : Ask) (l : Lent) → word_in (named ask) l → shared_of (left_lent ask l) ≡ leaves ask (shared_of l)
unfolding left_by leaves
left-shared (Ask.Load w) l h = refl
left-shared (Ask.Store w v) l h = write-shared l v w h
left-shared (Ask.Exchange w e v) l h = chosen w v l h (agrees w e (shared_of l))
left-shared (Ask.ExchangeWeak w e v) l h = chosen w v l h (agrees w e (shared_of l))
left-shared (Ask.FetchOr w) l h = write-shared l (tagged (read w (shared_of l))) w h

-- so an access changes the shared words and nothing else
pub left-tables : (N M : ℕ) (ask : Ask) (l : Lent) → word_in (named ask) l
    → tables_of N M (left_lent ask l) ≡ with_shared (leaves ask (tables_of N M l).shared) (tables_of N M l)
unfolding tables_of
left-tables N M ask l h = λ i. record {
  shared = left-shared ask l h i;
  own = kept_records ask l h i;
  held = cell max_objects l.held;
  bag = kept-bags ask l h l.queued i;
  slot_free = kept-slot_bits ask l h N i;
  node_free = kept-node_bits ask l h N M i;
  aside = kept-globals ask l h 4 (omega arith) i;
}

-- ---- a step that is marked or not

-- what an access comes to: one that fails for no reason leaves what a load of its word leaves, so that all of the above holds for it as well
unfoldable pub comes_to : (marked : Bool) → Ask → Ask
comes_to marked ask = branch (fails marked ask) (Ask.Load (named ask)) ask

module _ (marked : Bool) (ask : Ask) (l : Lent) where
  -- it names the same word
  pub comes_in : word_in (named ask) l → word_in (named (comes_to marked ask)) l
  unfolding comes_to
  comes_in h = branch_ind (λ (a : Ask). word_in (named a) l) (fails marked ask) (λ _. h) (λ _. h)

  either : (b : Bool) → branch b l (left_lent ask l) ≡ left_lent (branch b (Ask.Load (named ask)) ask) l
  unfolding branch left_by
  either true = refl
  either false = refl

  -- and it leaves the lists that the access left
  pub made-left : (r : Seen) (l' : Lent) → Made marked ask l r l' → l' ≡ left_lent (comes_to marked ask) l
  unfolding comes_to
  made-left r l' m = m.lent ∙ either (fails marked ask)
