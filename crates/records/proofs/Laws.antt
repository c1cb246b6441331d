-- What a store does to a list that is read as rows of w words: one entry of the table is put. Stated once, for any width, row and column;
-- a participant's record is an instance. Assumes nothing.
use mathlib.Core.Path.{◌≡◌, refl, ap, sym, ◌∙◌, fun_ext}
use mathlib.Core.Bool.{Bool, true, false}
use mathlib.Core.Logic.{◌≢◌}
use mathlib.Core.List.{List, [], ◌∷◌}
use Prim.Native.Nat.{ℕ, suc, ◌+◌, ◌*◌, ◌/◌, ◌%◌, ◌≤◌, ◌<◌}
use native.Mathlib.Nat.{add-zero, mul-add-div_right, mul-add-mod_self_right, div-eq_of_lt, mod-eq_of_lt}
use native.Mathlib.Omega.{arith}
use lib.Dec.{eqb, ltb}
use lib.ListN.{length, get_or, set, take, drop, length-set}
use lib.Seq.{sets, sets-eq, length-sets, drop-drop, get_or-set_same, get_or-set_other}
use borrow.Rule.Slice.PartMut.{put_mid}
use Rattle.std.proofs.Common.{append_assoc}
use borrow.Author.Tests.{ltb-true}
use Rattle.definition.specs.Base.{branch, Tab, put}
use Rattle.definition.proofs.Base.{put_same, put_other, put_ind, put_back}
use Rattle.definition.proofs.Lists.{cell_in}
use Rattle.definition.specs.Bags.{max_objects}
use Rattle.definition.specs.Tables.{with_own}
use Rattle.definition.specs.Layout.{Lent, participant_words, node_words, cell, record_at, record_words, shared_from, bag_from, slot_bits, node_bits, tables_of}
use Rattle.definition.specs.Codec.{participant_of}
use Rattle.definition.specs.declared.Record.{Record}
use Rattle.definition.specs.declared.Participant.{Participant}
use Rattle.lent.proofs.Laws.{one_row}
use Rattle.records.specs.Stores.{stored_record, stored_lent}

-- ---- tables

-- a function of a choice; a choice made twice
branch-map : {A B : Type 0} (f : A → B) (b : Bool) (x y : A) → f (branch b x y) ≡ branch b (f x) (f y)
unfolding branch
branch-map f true x y = refl
branch-map f false x y = refl

branch-twice : {A : Type 0} (b : Bool) (x y z : A) → branch b x (branch b y z) ≡ branch b x z
unfolding branch
branch-twice true x y z = refl
branch-twice false x y z = refl

-- a function of each entry of a changed table
pub put-map : {A B : Type 0} (f : A → B) (t : Tab A) (i : ℕ) (v : A) → (λ j. f (put t i v j)) ≡ put (λ j. f (t j)) i (f v)
unfolding put
put-map f t i v = fun_ext (λ j. branch-map f (eqb i j) v (t j))

-- of two changes at one index the later one stays
pub put-put : {A : Type 0} (t : Tab A) (i : ℕ) (a b : A) → put (put t i a) i b ≡ put t i b
unfolding put
put-put t i a b = fun_ext (λ j. branch-twice (eqb i j) b a (t j))

-- a change to what was there is none
pub put_own : {A : Type 0} (t : Tab A) (i : ℕ) → put t i (t i) ≡ t
put_own t i = fun_ext (put_back t i)

-- entries from c on, one after another
abbrev pub puts : {A : Type 0} → Tab A → ℕ → List A → Tab A
puts t c [] = t
puts t c (v ∷ vs) = puts (put t c v) (suc c) vs

-- an entry before them
puts_before : {A : Type 0} (t : Tab A) (c : ℕ) (vs : List A) (k : ℕ) → k < c → puts t c vs k ≡ t k
puts_before t c [] k h = refl
puts_before t c (v ∷ vs) k h = puts_before (put t c v) (suc c) vs k (omega arith) ∙ put_other t c k v (omega arith)

-- ---- one store

-- the row and the column of a place
pub row_of : (w i c : ℕ) → c < w → (i * w + c) / w ≡ i
row_of w i c p = mul-add-div_right (omega arith) i c ∙ ap (λ (q : ℕ). i + q) (div-eq_of_lt p) ∙ add-zero i

pub column_of : (w i c : ℕ) → c < w → (i * w + c) % w ≡ c
column_of w i c p = mul-add-mod_self_right i w c ∙ mod-eq_of_lt p

-- two lists that agree at a place of a row have the same cell there
cell_same : (w : ℕ) (l m : List ℕ) (j k : ℕ) → (k < w → get_or l (j * w + k) 0 ≡ get_or m (j * w + k) 0) → cell w l j k ≡ cell w m j k
unfolding cell branch
cell_same w l m j k h = by (ltb k w) refl
  where
    by : (b : Bool) → ltb k w ≡ b → branch b (get_or l (j * w + k) 0) 0 ≡ branch b (get_or m (j * w + k) 0) 0
    by true e = h (ltb-true k w e)
    by false e = refl

-- a store to row i, column c changes that entry and no other
pub cell-set : (w : ℕ) (l : List ℕ) (i c v : ℕ) → c < w → i * w + c < length l
    → cell w (set l (i * w + c) v) ≡ put (cell w l) i (put (cell w l i) c v)
cell-set w l i c v p q = fun_ext (λ j. fun_ext (λ k. at j k))
  where
    l' : List ℕ
    l' = set l (i * w + c) v

    -- a place in another row, or in another column, is another place
    kept : (j k : ℕ) → (k < w → j * w + k ≢ i * w + c) → cell w l' j k ≡ cell w l j k
    kept j k h = cell_same w l' l j k (λ s. get_or-set_other l (i * w + c) (j * w + k) v 0 (h s))

    stored : cell w l' i c ≡ v
    stored = cell_in w l' i c p ∙ get_or-set_same l (i * w + c) v 0 q

    within : (k : ℕ) → cell w l' i k ≡ put (cell w l i) c v k
    within k =
        put_ind (λ (x : ℕ). cell w l' i k ≡ x) (cell w l i) c k v
        (λ e. ap (cell w l' i) (sym e) ∙ stored)
        (λ ne. kept i k (λ s e. ne (sym (sym (column_of w i k s) ∙ ap (λ (n : ℕ). n % w) e ∙ column_of w i c p))))

    at : (j k : ℕ) → cell w l' j k ≡ put (cell w l) i (put (cell w l i) c v) j k
    at j k =
        put_ind (λ (row : Tab ℕ). cell w l' j k ≡ row k) (cell w l) i j (put (cell w l i) c v)
        (λ e. ap (λ (n : ℕ). cell w l' n k) (sym e) ∙ within k)
        (λ ne. kept j k (λ s e. ne (sym (sym (row_of w j k s) ∙ ap (λ (n : ℕ). n / w) e ∙ row_of w i c p))))

-- what is read of each row, by f; a column of the rows
abbrev pub each : {B : Type 0} → (Tab ℕ → B) → ℕ → List ℕ → Tab B
each f w l = λ j. f (cell w l j)

abbrev pub column : ℕ → ℕ → List ℕ → Tab ℕ
column c w l = λ j. cell w l j c

-- after that store it is read of one changed row
pub each_set : {B : Type 0} (f : Tab ℕ → B) (w : ℕ) (l : List ℕ) (i c v : ℕ) → c < w → i * w + c < length l
    → each f w (set l (i * w + c) v) ≡ put (each f w l) i (f (put (cell w l i) c v))
each_set f w l i c v p q = ap (λ (t : Tab (Tab ℕ)). λ j. f (t j)) (cell-set w l i c v p q) ∙ put-map f (cell w l) i (put (cell w l i) c v)

-- and what does not hang on that column is as it was
pub each_kept : {B : Type 0} (f : Tab ℕ → B) (w : ℕ) (l : List ℕ) (i c v : ℕ) → c < w → i * w + c < length l
    → f (put (cell w l i) c v) ≡ f (cell w l i) → each f w (set l (i * w + c) v) ≡ each f w l
each_kept f w l i c v p q e = each_set f w l i c v p q ∙ ap (put (each f w l) i) e ∙ put_own (each f w l) i

-- ---- a run of stores

-- a run of stores from row i, column c on, within the row
pub cell-sets : (w : ℕ) (l : List ℕ) (i c : ℕ) (vs : List ℕ) → c + length vs ≤ w → i * w + w ≤ length l
    → cell w (sets l (i * w + c) vs) ≡ put (cell w l) i (puts (cell w l i) c vs)
cell-sets w l i c [] p q = sym (put_own (cell w l) i)
cell-sets w l i c (v ∷ vs) p q =
    let l' : List ℕ = set l (i * w + c) v in
    let next : suc (i * w + c) ≡ i * w + suc c = omega arith in
    ap (λ (n : ℕ). cell w (sets l' n vs)) next
    ∙ cell-sets w l' i (suc c) vs (omega arith) (simp length-set (omega arith))
    ∙ rw (cell-set w l i c v (omega arith) (omega arith), put_same, put-put)

-- ---- a participant's record

-- the record in a row alone, by its words
pub row_words : (row : List ℕ) → record_at (cell participant_words row 0) ≡ record_at (λ c. get_or row c 0)
unfolding record_at cell participant_words branch
row_words row = refl

-- the cells of a row alone are those of the row
pub row_alone : (l : List ℕ) (p : ℕ) → cell participant_words (take 21 (drop (p * 21) l)) 0 ≡ cell participant_words l p
unfolding participant_words
row_alone l p = one_row 21 l p

-- so the participant that was read of a row is that of the list
pub loaded : (l row : List ℕ) (p : ℕ) (o : Participant) → row ≡ take 21 (drop (p * 21) l) → o ≡ participant_of (record_at (cell participant_words row 0))
    → o ≡ participant_of (record_at (cell participant_words l p))
loaded l row p o e h = h ∙ ap (λ (r : List ℕ). participant_of (record_at (cell participant_words r 0))) e
    ∙ ap (λ (t : Tab ℕ). participant_of (record_at t)) (row_alone l p)

-- what was written is read back
record_back : (row : Tab ℕ) (r : Record) → record_at (puts row 2 (record_words r)) ≡ r
unfolding record_at record_words put branch
record_back row r = refl

-- a record is stored where its words are copied into its row, behind the shared ones
pub copied : (l : List ℕ) (p k : ℕ) (ws : List ℕ) (r : Record) → ws ≡ record_words r → k ≡ 19 → p * 21 + 21 ≤ length l
    → put_mid (p * 21 + 2) k l ws ≡ stored_record l p r
unfolding stored_record participant_words record_words
copied l p k ws r e n h = sym (sets-eq (record_words r) l (p * 21 + 2) (omega arith) ∙ rw (e, n, drop-drop, append_assoc))

module _ (l : List ℕ) (p : ℕ) (r : Record) where
  -- a store changes no length
  pub stored_length : length (stored_record l p r) ≡ length l
  unfolding stored_record
  stored_length = length-sets l (p * participant_words + 2) (record_words r)

  -- the rows after a store, where the list has that of p
  stored_rows : p * 21 + 21 ≤ length l
      → cell participant_words (stored_record l p r) ≡ put (cell participant_words l) p (puts (cell participant_words l p) 2 (record_words r))
  unfolding stored_record participant_words record_words
  stored_rows h = cell-sets participant_words l p 2 (record_words r) (omega arith) h

  -- what is read of each row
  stored_each : {B : Type 0} (f : Tab ℕ → B) → p * 21 + 21 ≤ length l
      → each f participant_words (stored_record l p r) ≡ put (each f participant_words l) p (f (puts (cell participant_words l p) 2 (record_words r)))
  stored_each f h = ap (λ (t : Tab (Tab ℕ)). λ i. f (t i)) (stored_rows h) ∙ put-map f (cell participant_words l) p (puts (cell participant_words l p) 2 (record_words r))

  -- the records: that of p is the one stored
  pub stored_records : p * 21 + 21 ≤ length l
      → (λ i. record_at (cell participant_words (stored_record l p r) i)) ≡ put (λ i. record_at (cell participant_words l i)) p r
  stored_records h = stored_each record_at h ∙ ap (put (each record_at participant_words l) p) (record_back (cell participant_words l p) r)

  -- the shared words, columns 0 and 1, are as they were
  pub stored_shared : (c : ℕ) → c < 2 → p * 21 + 21 ≤ length l → column c participant_words (stored_record l p r) ≡ column c participant_words l
  stored_shared c s h =
      stored_each (λ (row : Tab ℕ). row c) h
      ∙ ap (put (column c participant_words l) p) (puts_before (cell participant_words l p) 2 (record_words r) c s) ∙ put_own (column c participant_words l) p

-- so a store changes one participant's record and nothing else of the tables
pub stored_tables : (N M : ℕ) (l : Lent) (p : ℕ) (r : Record) → p * 21 + 21 ≤ length l.participants
    → tables_of N M (stored_lent l p r) ≡ with_own p r (tables_of N M l)
unfolding tables_of shared_from
stored_tables N M l p r h = λ i. record {
  shared = record {
    global_epoch = get_or l.globals 0 0;
    list_head = get_or l.globals 1 0;
    entry_next = stored_shared l.participants p r 1 (omega arith) h i;
    word = stored_shared l.participants p r 0 (omega arith) h i;
    queue_head = get_or l.globals 2 0;
    queue_tail = get_or l.globals 3 0;
    node_next = column 0 node_words l.nodes;
  };
  own = stored_records l.participants p r h i;
  held = cell max_objects l.held;
  bag = bag_from l.nodes l.queued;
  slot_free = slot_bits N l.globals;
  node_free = node_bits N M l.globals;
  aside = get_or l.globals 4 0;
}
