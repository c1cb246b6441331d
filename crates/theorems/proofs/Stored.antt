-- Refusal 1 never occurs. The definition's test `in_range` asks for what the invariant says of the machine, and for six facts about how the tables
-- hold it, which the machine does not show (`Stored`): every record's place is in its canonical code, no free bit is set beyond the table, a
-- sealed bag is no longer than a bag may be, and every word of a held item is one of an item. These six are kept by every step, call and
-- registering of the definition, and hold at a fresh start. With the node that a step must take (Roomy) this excludes refusal 1 in both its
-- forms. Leans on Ranged and Roomy. Assumes nothing.
use mathlib.Core.Path.{◌≡◌, refl, sym}
use mathlib.Core.Bool.{Bool, true, false, ◌&&◌, ◌||◌, true≢false}
use mathlib.Core.List.{List, [], ◌∷◌, ◌++◌}
use Prim.Native.Nat.{ℕ, zero, suc, ◌+◌, ◌*◌, ◌/◌, ◌%◌, ◌≤◌, ◌<◌}
use native.Mathlib.Omega.{arith}
use lib.Dec.{eqb, ltb, leb}
use borrow.Author.Tests.{eqb-false, eq-eqb, ne_eqb, ltb-true, lt-ltb, le-leb}
use Rattle.definition.specs.Base.{branch, Tab, put, count, least, listed}
use Rattle.definition.specs.Bags.{max_objects, SealedBag, item_word, item_of, items, moved, free_slots, free_nodes}
use Rattle.definition.specs.Flow.{collect_steps, at}
use Rattle.definition.specs.Tables.{Shared, Tables}
use Rattle.definition.specs.Tables as T
use Rattle.definition.specs.Codec.{code_of, place_of, record_of, participant_of, same_code}
use Rattle.definition.specs.Rule.{asks, follows, sees, leaves}
use Rattle.definition.specs.Internal.{rule}
use Rattle.definition.specs.Calls.{max_count, max_token, opens}
use Rattle.definition.specs.Ranges.{bit_words, is_rest, slot_in, node_in, ptr_in, pred_in, cursor_in, pops_in, then_in, register_in, walk_in, pop_in, push_in, place_in}
use Rattle.definition.specs.Ranges.{entry_pointer_in, head_pointer_in, node_pointer_in, end_pointer_in, item_in, bag_in, code_in, record_in, bits_in, shared_in, in_range, fresh}
use Rattle.definition.specs.Step.{put_item, seal_into, in_bag, free_bag, settle, follow, rule_at, take_step}
use Rattle.definition.specs.Public.{takes_node, the, new_participant, enrolled, damaged, missing}
use Rattle.definition.specs.Marks.{back}
use Rattle.definition.proofs.Opens.{opens_in}
use Rattle.definition.proofs.Base.{branch-true, same?, put_ind, put_same, put_other, both, all_intro, count-le}
use Rattle.definition.proofs.Codec.{place_back}
use Rattle.definition.proofs.Within.{PtrIn, PredIn, CursorIn, PopsIn, ThenIn, RegisterIn, WalkIn, PopIn, PushIn, PlaceIn, ItemIn, WorkIn, AfterIn}
use Rattle.theorems.proofs.Machine.{view, Fits}
use Rattle.theorems.proofs.Length.{Fitting, follows-fits, begins-fits}
use Rattle.theorems.proofs.Ghost.{Ghost}
use Rattle.theorems.proofs.Invariant.{Each}
use Rattle.theorems.proofs.Inv.{Inv, Steps, Calls, rule_of, after_of}
use Rattle.theorems.proofs.Safety.{sum_at}
use Rattle.theorems.proofs.Roomy.{step-has-node}
use Rattle.theorems.proofs.Ranged.{work_after}
use Rattle.theorems.proofs.Types.{Slot, Node, Ptr, Pred, Cursor, Item, Pops, Deferring, Then, RegisterAt, WalkAt, PopAt, PushAt}
use Rattle.theorems.proofs.Types.{Place, Participant, Code, Record, Work, After, Call}

-- what the tables must say beside the machine that they hold
pub record Stored (N M : ℕ) (t : Tables) : Type 0 where
  pub codes : (q : ℕ) → q < N → same_code (code_of (place_of (t.own q).code)) (t.own q).code ≡ true
  pub slot_bits : (i : ℕ) → i < 64 * bit_words N → t.slot_free i ≡ true → i < N
  pub node_bits : (i : ℕ) → i < 64 * bit_words M → t.node_free i ≡ true → i < M
  pub lengths : (n : ℕ) → n < M → (t.bag n).len ≤ max_objects
  pub held_words : (q : ℕ) → q < N → (j : ℕ) → j < (t.own q).held → 1 ≤ t.held q j % 4
  pub bag_words : (n : ℕ) → n < M → (j : ℕ) → j < (t.bag n).len → 1 ≤ (t.bag n).deferreds j % 4

-- ---- places in range, as tests

module _ (N M : ℕ) where
  -- one law for each test
  slot_test : (s : Slot) → s.0 < N → slot_in N M s ≡ true
  unfolding slot_in
  slot_test s h = lt-ltb s.0 N h

  node_test : (n : Node) → n.0 < M → node_in N M n ≡ true
  unfolding node_in
  node_test n h = lt-ltb n.0 M h

  ptr_test : (q : Ptr) → PtrIn N M q → ptr_in N M q ≡ true
  unfolding ptr_in PtrIn
  ptr_test Ptr.Null h = refl
  ptr_test (Ptr.At s) h = slot_test s h

  pred_test : (q : Pred) → PredIn N M q → pred_in N M q ≡ true
  unfolding pred_in PredIn
  pred_test Pred.Head h = refl
  pred_test (Pred.Entry s) h = slot_test s h

  cursor_test : (c : Cursor) → CursorIn N M c → cursor_in N M c ≡ true
  unfolding cursor_in
  cursor_test c h = rw (pred_test c.pred h.0, slot_test c.curr h.1) refl

  pops_test : (p : Pops) → PopsIn N M p → pops_in N M p ≡ true
  unfolding pops_in
  pops_test p h = rw (le-leb 1 p.left h.0, le-leb p.left collect_steps h.1) refl

  then_test : (f : Then) → ThenIn N M f → then_in N M f ≡ true
  unfolding then_in ThenIn
  then_test (Then.Defer (Deferring.Token token)) h = le-leb token max_token h
  then_test (Then.Defer (Deferring.Slot t c succ)) h = rw (cursor_test c h.0, ptr_test succ h.1) refl
  then_test (Then.Defer (Deferring.Node p head next)) h = rw (pops_test p h.0, node_test head h.1.0, node_test next h.1.1) refl
  then_test Then.Flush h = refl
  then_test Then.Finalize h = refl

  register_test : (a : RegisterAt) → RegisterIn N M a → register_in N M a ≡ true
  unfolding register_in RegisterIn
  register_test RegisterAt.Head h = refl
  register_test (RegisterAt.Next next) h = ptr_test next h
  register_test (RegisterAt.Link next) h = ptr_test next h

  walk_test : (a : WalkAt) → WalkIn N M a → walk_in N M a ≡ true
  unfolding walk_in WalkIn
  walk_test WalkAt.Head h = refl
  walk_test (WalkAt.Next c) h = cursor_test c h
  walk_test (WalkAt.Unlink c succ) h = rw (cursor_test c h.0, ptr_test succ h.1) refl
  walk_test WalkAt.Stalled h = refl

  pop_test : (a : PopAt) → PopIn N M a → pop_in N M a ≡ true
  unfolding pop_in PopIn
  pop_test PopAt.Head h = refl
  pop_test (PopAt.Next head) h = node_test head h
  pop_test (PopAt.Exchange head next) h = rw (node_test head h.0, node_test next h.1) refl
  pop_test (PopAt.Tail head next) h = rw (node_test head h.0, node_test next h.1) refl
  pop_test (PopAt.TailMove head next) h = rw (node_test head h.0, node_test next h.1) refl

  push_test : (a : PushAt) → PushIn N M a → push_in N M a ≡ true
  unfolding push_in PushIn
  push_test PushAt.Epoch h = refl
  push_test (PushAt.Tail new) h = node_test new h
  push_test (PushAt.Next new onto) h = rw (node_test new h.0, node_test onto h.1) refl
  push_test (PushAt.Help new onto next) h = rw (node_test new h.0.0, node_test onto h.0.1, node_test next h.1) refl
  push_test (PushAt.Link new onto) h = rw (node_test new h.0, node_test onto h.1) refl
  push_test (PushAt.Move new onto) h = rw (node_test new h.0, node_test onto h.1) refl

  place_test : (pl : Place) → PlaceIn N M pl → place_in N M pl ≡ true
  unfolding place_in PlaceIn
  place_test Place.Rest h = refl
  place_test (Place.Register a) h = register_test a h
  place_test (Place.PinEpoch k) h = refl
  place_test (Place.PinWord k e) h = refl
  place_test (Place.Repin a) h = refl
  place_test Place.UnpinWord h = refl
  place_test (Place.AdvanceEpoch k) h = refl
  place_test (Place.Walk t a) h = walk_test a h
  place_test (Place.AdvanceWord t curr succ) h = rw (slot_test curr h.0, ptr_test succ h.1) refl
  place_test (Place.AdvanceStore t) h = refl
  place_test (Place.Pop p a) h = rw (pops_test p h.0, pop_test a h.1) refl
  place_test (Place.Push f a) h = rw (then_test f h.0, push_test a h.1) refl
  place_test Place.FinalWord h = refl
  place_test Place.FinalTag h = refl

  -- a word of an item, by its kind
  item_by : (w : ℕ) → 1 ≤ w % 4 → (a : Bool) → eqb (w % 4) 1 ≡ a → (b : Bool) → eqb (w % 4) 2 ≡ b → ItemIn N M (item_of w) → item_in N M w ≡ true
  unfolding item_of item_in branch ItemIn
  item_by w h true e b f k = let i = rw e at k in rw (e, le-leb (w / 4) max_token i) refl
  item_by w h false e true f k = let i = rw (e, f) at k in rw (e, f, lt-ltb (w / 4) M i) refl
  item_by w h false e false f k =
      let i = rw (e, f) at k in
      let x = eqb-false (w % 4) 1 e in let y = eqb-false (w % 4) 2 f in
      rw (e, f, eq-eqb (w % 4) 3 (omega arith), lt-ltb (w / 4) N i) refl

  -- whatever its kind
  item_test : (w : ℕ) → 1 ≤ w % 4 → ItemIn N M (item_of w) → item_in N M w ≡ true
  item_test w h k = item_by w h (eqb (w % 4) 1) refl (eqb (w % 4) 2) refl k

-- ---- bags

-- of each of the first k entries
each_last : (P : Item → Type 0) (l : List Item) (i : Item) → Each P (l ++ i ∷ []) → Each P l × P i
unfolding Each
each_last P [] i h = (tt, h.0)
each_last P (x ∷ l) i h = let k = each_last P l i h.1 in ((h.0, k.0), k.1)

-- any of them
each_listed : (P : Item → Type 0) (k : ℕ) (f : Tab Item) → Each P (listed k f) → (j : ℕ) → j < k → P (f j)
unfolding listed
each_listed P zero f h j lt = absurd (omega arith)
each_listed P (suc k) f h j lt =
    let x = each_last P (listed k f) (f k) h in
    same? j k (λ e. rw e x.1) (λ ne. each_listed P k f x.0 j (omega arith))

-- a bag in range
bag_test : (N M k : ℕ) (d : Tab ℕ) → k ≤ max_objects → ((j : ℕ) → j < k → 1 ≤ d j % 4) → Each (ItemIn N M) (items k d) → bag_in N M k d ≡ true
unfolding bag_in items
bag_test N M k d le w h = rw (
  le-leb k max_objects le,
  all_intro k (λ j. item_in N M (d j)) (λ j lt. item_test N M (d j) (w j lt) (each_listed (ItemIn N M) k (λ j. item_of (d j)) h j lt)),
) refl

-- ---- free bits

-- one bit
bit_test : (b c : Bool) → (b ≡ true → c ≡ true) → branch b c true ≡ true
unfolding branch
bit_test true c h = h refl
bit_test false c h = refl

-- all bits of the words that hold them
bits_test : (N M n : ℕ) (f : Tab Bool) → ((i : ℕ) → i < 64 * bit_words n → f i ≡ true → i < n) → bits_in N M n f ≡ true
unfolding bits_in
bits_test N M n f h = all_intro (64 * bit_words n) (λ i. branch (f i) (ltb i n) true) (λ i lt. bit_test (f i) (ltb i n) (λ e. lt-ltb i n (h i lt e)))

-- ---- records and shared words

-- what the test for rest says
pub is_rest_lem : (pl : Place) → is_rest pl ≡ true → pl ≡ Place.Rest
unfolding is_rest
is_rest_lem Place.Rest h = refl
is_rest_lem (Place.Register a) h = absurd (true≢false (sym h))
is_rest_lem (Place.PinEpoch k) h = absurd (true≢false (sym h))
is_rest_lem (Place.PinWord k e) h = absurd (true≢false (sym h))
is_rest_lem (Place.Repin a) h = absurd (true≢false (sym h))
is_rest_lem Place.UnpinWord h = absurd (true≢false (sym h))
is_rest_lem (Place.AdvanceEpoch k) h = absurd (true≢false (sym h))
is_rest_lem (Place.Walk t a) h = absurd (true≢false (sym h))
is_rest_lem (Place.AdvanceWord t curr succ) h = absurd (true≢false (sym h))
is_rest_lem (Place.AdvanceStore t) h = absurd (true≢false (sym h))
is_rest_lem (Place.Pop q a) h = absurd (true≢false (sym h))
is_rest_lem (Place.Push f a) h = absurd (true≢false (sym h))
is_rest_lem Place.FinalWord h = absurd (true≢false (sym h))
is_rest_lem Place.FinalTag h = absurd (true≢false (sym h))

-- a share at rest
rest_test : (b : Bool) (s : ℕ) → (b ≡ true → s ≡ 0) → branch b (eqb s 0) true ≡ true
unfolding branch
rest_test true s h = eq-eqb s 0 (h refl)
rest_test false s h = refl

-- a record in range
record_test : (N M aside : ℕ) (r : Record) → r.counts.guards ≤ max_count → r.counts.handles ≤ max_count → r.share ≤ aside
    → same_code (code_of (place_of r.code)) r.code ≡ true → PlaceIn N M (place_of r.code) → (place_of r.code ≡ Place.Rest → r.share ≡ 0) → record_in N M aside r ≡ true
unfolding record_in code_in
record_test N M aside r g h s c i z =
    rw (
      le-leb r.counts.guards max_count g,
      le-leb r.counts.handles max_count h,
      le-leb r.share aside s,
      c,
      place_test N M (place_of r.code) i,
      rest_test (is_rest (place_of r.code)) r.share (λ e. z (is_rest_lem (place_of r.code) e)),
    ) refl

-- a node's next
node-pointer_test : (N M w : ℕ) → (w / 2 ≤ M) × (w % 2 ≡ 0) → node_pointer_in N M w ≡ true
unfolding node_pointer_in
node-pointer_test N M w h = rw (eq-eqb (w % 2) 0 h.1, le-leb (w / 2) M h.0) refl

-- the queue's head or tail
end_pointer_test : (N M w : ℕ) → (1 ≤ w / 2) × ((w / 2 ≤ M) × (w % 2 ≡ 0)) → end_pointer_in N M w ≡ true
unfolding end_pointer_in
end_pointer_test N M w h = rw (node-pointer_test N M w h.1, le-leb 1 (w / 2) h.0) refl

-- the list's head
head_pointer_test : (N M w : ℕ) → (w / 2 ≤ N) × (w % 2 ≡ 0) → head_pointer_in N M w ≡ true
unfolding head_pointer_in
head_pointer_test N M w h = rw (eq-eqb (w % 2) 0 h.1, le-leb (w / 2) N h.0) refl

-- an entry's next
entry_pointer_test : (N M w : ℕ) → w / 2 ≤ N → entry_pointer_in N M w ≡ true
unfolding entry_pointer_in
entry_pointer_test N M w h = le-leb (w / 2) N h

-- ---- the whole test

module _ (N M : ℕ) (t : Tables) (g : Ghost) (inv : Inv N M (view t) g) (st : Stored N M t) where
  -- the shared words
  shared_ok : shared_in N M t.shared ≡ true
  unfolding shared_in
  shared_ok = rw (
    head_pointer_test N M t.shared.list_head inv.ranged.list_head,
    end_pointer_test N M t.shared.queue_head inv.ranged.queue_head,
    end_pointer_test N M t.shared.queue_tail inv.ranged.queue_tail,
    all_intro N (λ i. entry_pointer_in N M (t.shared.entry_next i)) (λ i lt. entry_pointer_test N M (t.shared.entry_next i) (inv.ranged.entry_next i lt)),
    all_intro M (λ n. node_pointer_in N M (t.shared.node_next n)) (λ n lt. node-pointer_test N M (t.shared.node_next n) (inv.ranged.node_next n lt)),
  ) refl

  -- the total is at most the free nodes, and every share is part of it
  aside_ok : t.aside ≤ M
  aside_ok = let a = inv.roomy.enough in let b = count-le M t.node_free in omega arith

  -- so it is no less than a share
  share_ok : (q : ℕ) → q < N → (t.own q).share ≤ t.aside
  unfolding participant_of
  share_ok q hq = let a = inv.roomy.total in let b = sum_at N (λ q. (t.own q).share) q hq in omega arith

  -- the records
  record_ok : (q : ℕ) → q < N → record_in N M t.aside (t.own q) ≡ true
  unfolding participant_of
  record_ok q hq = record_test N M t.aside (t.own q) (inv.ranged.counts q hq).0 (inv.ranged.counts q hq).1 (share_ok q hq) (st.codes q hq) (inv.ranged.places q hq) (inv.ranged.shares q hq)

  -- the bags of participants
  held_ok : (q : ℕ) → q < N → bag_in N M (t.own q).held (t.held q) ≡ true
  unfolding participant_of
  held_ok q hq = bag_test N M (t.own q).held (t.held q) (inv.ranged.held q hq).0 (st.held_words q hq) (inv.ranged.held q hq).1

  -- the bags of nodes
  bag_ok : (n : ℕ) → n < M → bag_in N M (t.bag n).len (t.bag n).deferreds ≡ true
  bag_ok n hn = bag_test N M (t.bag n).len (t.bag n).deferreds (st.lengths n hn) (st.bag_words n hn) (inv.ranged.bags n hn)

  -- all of it
  range_ok : in_range N M t ≡ true
  unfolding in_range
  range_ok = rw (
    shared_ok,
    le-leb t.aside M aside_ok,
    all_intro N (λ i. record_in N M t.aside (t.own i)) record_ok,
    bits_test N M N t.slot_free st.slot_bits,
    bits_test N M M t.node_free st.node_bits,
    all_intro N (λ i. bag_in N M (t.own i).held (t.held i)) held_ok,
    all_intro M (λ n. bag_in N M (t.bag n).len (t.bag n).deferreds) bag_ok,
  ) refl

-- tables that hold a machine of the invariant, and hold it well, are in range
pub in_range_lem : (N M : ℕ) (t : Tables) (g : Ghost) → Inv N M (view t) g → Stored N M t → in_range N M t ≡ true
in_range_lem N M t g inv st = range_ok N M t g inv st

-- the first form of refusal 1: the tables are never damaged
pub never_damaged_lem : (N M : ℕ) (t : Tables) (g : Ghost) → Inv N M (view t) g → Stored N M t → damaged N M t ≡ false
unfolding damaged
never_damaged_lem N M t g inv st = rw (in_range_lem N M t g inv st) refl

-- the second: a node that a step must take is there, and its own
pub never_missing : (N M p : ℕ) (t : Tables) (g : Ghost) → Inv N M (view t) g → p < N → missing N M p t ≡ false
unfolding missing
never_missing N M p t g inv hp = by (takes_node (the p t).place) refl
  where
    by : (b : Bool) → takes_node (the p t).place ≡ b → (b && (eqb (count M t.node_free) 0 || eqb (the p t).share 0)) ≡ false
    by false e = refl
    by true e =
        let k = step-has-node N M p (view t) g inv hp e in
        let s = sum_at N (λ q. (the q t).share) p hp in
        let a = inv.roomy.total in let b = inv.roomy.enough in let c = k.1 in
        rw (ne_eqb (count M t.node_free) 0 (λ z. omega arith), ne_eqb (the p t).share 0 (λ z. omega arith)) refl

-- ---- kept

-- a place that was written is in its canonical code
same_code_lem : (c : Code) → same_code c c ≡ true
unfolding same_code
same_code_lem c = rw (
  eq-eqb c.number c.number refl,
  eq-eqb c.then c.then refl,
  eq-eqb c.owner c.owner refl,
  eq-eqb c.epoch c.epoch refl,
  eq-eqb c.left c.left refl,
  eq-eqb c.pred c.pred refl,
  eq-eqb c.curr c.curr refl,
  eq-eqb c.succ c.succ refl,
  eq-eqb c.old c.old refl,
  eq-eqb c.popped c.popped refl,
  eq-eqb c.new c.new refl,
  eq-eqb c.onto c.onto refl,
  eq-eqb c.next c.next refl,
  eq-eqb c.token c.token refl,
) refl

-- as every step and call writes it
written_code : (o : Participant) → same_code (code_of (place_of (record_of o).code)) (record_of o).code ≡ true
unfolding record_of
written_code o = rw (place_back o.place) (same_code_lem (code_of o.place))

-- a word of an item is not a word of none
item_word_lem : (i : Item) → 1 ≤ item_word i % 4
unfolding item_word
item_word_lem (Item.Token t) = omega arith
item_word_lem (Item.Node n) = omega arith
item_word_lem (Item.Slot s) = omega arith

-- freeing sets bits within the table
pub free_slots_in : (N M : ℕ) (l : List Item) (f : Tab Bool) (i : ℕ) → Each (ItemIn N M) l → (f i ≡ true → i < N) → free_slots l f i ≡ true → i < N
unfolding free_slots Each ItemIn
free_slots_in N M [] f i e h k = h k
free_slots_in N M (Item.Token t ∷ l) f i e h k = free_slots_in N M l f i e.1 h k
free_slots_in N M (Item.Node n ∷ l) f i e h k = free_slots_in N M l f i e.1 h k
free_slots_in N M (Item.Slot s ∷ l) f i e h k = free_slots_in N M l (put f s.0 true) i e.1
    (put_ind (λ (b : Bool). b ≡ true → i < N) f s.0 i true (λ x _. rw (← x) e.0) (λ _. h)) k

-- of nodes
pub free-nodes_in : (N M : ℕ) (l : List Item) (f : Tab Bool) (i : ℕ) → Each (ItemIn N M) l → (f i ≡ true → i < M) → free_nodes l f i ≡ true → i < M
unfolding free_nodes Each ItemIn
free-nodes_in N M [] f i e h k = h k
free-nodes_in N M (Item.Token t ∷ l) f i e h k = free-nodes_in N M l f i e.1 h k
free-nodes_in N M (Item.Slot s ∷ l) f i e h k = free-nodes_in N M l f i e.1 h k
free-nodes_in N M (Item.Node n ∷ l) f i e h k = free-nodes_in N M l (put f n.0 true) i e.1
    (put_ind (λ (b : Bool). b ≡ true → i < M) f n.0 i true (λ x _. rw (← x) e.0) (λ _. h)) k

module _ (N M p : ℕ) (o : Participant) (t : Tables) (st : Stored N M t) (hp : p < N) (le : (t.own p).held ≤ max_objects)
    (bags : (n : ℕ) → n < M → Each (ItemIn N M) (items (t.bag n).len (t.bag n).deferreds)) where
  -- records
  codes_kept : (q : ℕ) → q < N → same_code (code_of (place_of (put t.own p (record_of o) q).code)) (put t.own p (record_of o) q).code ≡ true
  codes_kept q hq = put_ind (λ (r : Record). same_code (code_of (place_of r.code)) r.code ≡ true) t.own p q (record_of o) (λ _. written_code o) (λ _. st.codes q hq)

  -- a bag that is as it was; one with a word more; one that is gone
  same_held : o.held ≡ (t.own p).held → (q : ℕ) → q < N → (j : ℕ) → j < (put t.own p (record_of o) q).held → 1 ≤ t.held q j % 4
  unfolding record_of
  same_held e q hq j = put_ind (λ (r : Record). j < r.held → 1 ≤ t.held q j % 4) t.own p q (record_of o) (λ i lt. st.held_words q hq j (rw (← i) (omega arith))) (λ _. st.held_words q hq j)

  -- one with a word more
  put-held : (x : Item) → o.held ≡ (t.own p).held + 1 → (q : ℕ) → q < N → (j : ℕ) → j < (put t.own p (record_of o) q).held
      → 1 ≤ put t.held p (put (t.held p) (t.own p).held (item_word x)) q j % 4
  unfolding record_of
  put-held x e q hq j = same? p q
      (λ i. rw (← i, put_same t.own p (record_of o), put_same t.held p (put (t.held p) (t.own p).held (item_word x)))
      (λ lt. put_ind (λ (w : ℕ). 1 ≤ w % 4) (t.held p) (t.own p).held j (item_word x) (λ _. item_word_lem x) (λ ne. st.held_words p hp j (omega arith))))
      (λ ne. rw (put_other t.own p q (record_of o) ne, put_other t.held p q (put (t.held p) (t.own p).held (item_word x)) ne) (st.held_words q hq j))

  -- one that is gone
  no_held : o.held ≡ 0 → (q : ℕ) → q < N → (j : ℕ) → j < (put t.own p (record_of o) q).held → 1 ≤ t.held q j % 4
  unfolding record_of
  no_held e q hq j = put_ind (λ (r : Record). j < r.held → 1 ≤ t.held q j % 4) t.own p q (record_of o) (λ _ lt. absurd (omega arith)) (λ _. st.held_words q hq j)

  -- by the work
  stored_work : (w : Work) (x : ℕ) → Fits (t.own p).held o.held w → WorkIn N M w → Stored N M (T.with_aside x (T.with_own p (record_of o) (settle p w t)))
  unfolding settle put_item seal_into free_bag in_bag Fits WorkIn moved
  stored_work Work.Nothing x f i = record
      { codes = codes_kept; slot_bits = st.slot_bits; node_bits = st.node_bits; lengths = st.lengths; held_words = same_held f; bag_words = st.bag_words }
  stored_work (Work.Put y) x f i = record
      { codes = codes_kept; slot_bits = st.slot_bits; node_bits = st.node_bits; lengths = st.lengths; held_words = put-held y f; bag_words = st.bag_words }
  stored_work (Work.PutThenFree y n) x f i = record {
    codes = codes_kept;
    slot_bits = λ j lt. free_slots_in N M (items (t.bag n.0).len (t.bag n.0).deferreds) t.slot_free j (bags n.0 i.1) (st.slot_bits j lt);
    node_bits = λ j lt. free-nodes_in N M (items (t.bag n.0).len (t.bag n.0).deferreds) t.node_free j (bags n.0 i.1) (st.node_bits j lt);
    lengths = λ k hk. put_ind (λ (b : SealedBag). b.len ≤ max_objects) t.bag n.0 k _ (λ _. omega arith) (λ _. st.lengths k hk);
    held_words = put-held y f;
    bag_words = λ k hk j. put_ind (λ (b : SealedBag). j < b.len → 1 ≤ b.deferreds j % 4) t.bag n.0 k _ (λ _ lt. absurd (omega arith)) (λ _. st.bag_words k hk j);
  }
  stored_work (Work.Seal n e) x f i = record {
    codes = codes_kept;
    slot_bits = st.slot_bits;
    node_bits = λ j lt. put_ind (λ (b : Bool). b ≡ true → j < M) t.node_free n.0 j false (λ _ z. absurd (true≢false (sym z))) (λ _. st.node_bits j lt);
    lengths = λ k hk. put_ind (λ (b : SealedBag). b.len ≤ max_objects) t.bag n.0 k _ (λ _. le) (λ _. st.lengths k hk);
    held_words = no_held f;
    bag_words = λ k hk j. put_ind (λ (b : SealedBag). j < b.len → 1 ≤ b.deferreds j % 4) t.bag n.0 k _
        (λ _ lt. rw (branch-true (t.held p j) ((t.bag n.0).deferreds j) (lt-ltb j (t.own p).held lt)) (st.held_words p hp j lt)) (λ _. st.bag_words k hk j);
  }

-- the six facts do not speak of the shared words
stored_shared : (N M : ℕ) (s : Shared) (t : Tables) → Stored N M t → Stored N M (T.with_shared s t)
stored_shared N M s t st = record
    { codes = st.codes; slot_bits = st.slot_bits; node_bits = st.node_bits; lengths = st.lengths; held_words = st.held_words; bag_words = st.bag_words }

-- whatever follows
stored_follow : (N M p : ℕ) (a : After) (t : Tables) → Stored N M t → p < N → (t.own p).held ≤ max_objects
    → ((n : ℕ) → n < M → Each (ItemIn N M) (items (t.bag n).len (t.bag n).deferreds)) → Fits (t.own p).held a.participant.held a.work → AfterIn N M a
    → Stored N M (follow p a t).tables
unfolding follow AfterIn
stored_follow N M p a t st hp le bags f i = stored_work N M p a.participant t st hp le bags a.work _ f i

-- the work of a step, read off the tables
pub step_work : (N M p : ℕ) (t : Tables) (g : Ghost) → Inv N M (view t) g → Steps N M p (view t)
    → let r = rule (record { 0 = p }) (record { 0 = least M t.node_free }) (λ n. (t.bag n.0).epoch) (the p t) (the p t).place in AfterIn N M (follows r (sees (asks r) t.shared))
unfolding after_of rule_of
step_work N M p t g inv steps = work_after N M p (view t) g inv steps

-- a new participant holds nothing
new_empty : (j : ℕ) → j < (record_of new_participant).held → ⊥
unfolding record_of new_participant
new_empty j lt = omega arith

-- a step
pub stored_step : (N M p : ℕ) (t : Tables) (g : Ghost) → Inv N M (view t) g → Steps N M p (view t) → Stored N M t → Stored N M (take_step M p t).tables
unfolding take_step rule_at participant_of Fitting
stored_step N M p t g inv steps st =
    let r = rule (record { 0 = p }) (record { 0 = least M t.node_free }) (λ n. (t.bag n.0).epoch) (the p t) (the p t).place in
    stored_follow N M p (follows r (sees (asks r) t.shared)) (T.with_shared (leaves (asks r) t.shared) t) (stored_shared N M (leaves (asks r) t.shared) t st) steps.here
    (inv.ranged.held p steps.here).0 inv.ranged.bags
    (follows-fits (t.own p).held (record { 0 = p }) (record { 0 = least M t.node_free }) (λ n. (t.bag n.0).epoch) (the p t) (the p t).place (sees (asks r) t.shared) refl)
    (step_work N M p t g inv steps)

-- a call
pub stored_call : (N M p : ℕ) (c : Call) (t : Tables) (g : Ghost) → Inv N M (view t) g → Calls N M p c (view t) → Stored N M t → Stored N M (follow p (opens N c (the p t)) t).tables
unfolding opens participant_of Fitting
stored_call N M p c t g inv calls st =
    stored_follow N M p (opens N c (the p t)) t st calls.here (inv.ranged.held p calls.here).0 inv.ranged.bags
    (begins-fits (t.own p).held c _ refl) (opens_in N M c (the p t) calls.token).1

-- a marked step that fails
pub stored_back : (N M p : ℕ) (next : Ptr) (t : Tables) → Stored N M t → Stored N M (back p next t).tables
unfolding record_of participant_of
stored_back N M p next t st = record {
  codes = λ q hq. put_ind (λ (r : Record). same_code (code_of (place_of r.code)) r.code ≡ true) t.own p q _
      (λ _. written_code (at (Place.Register (RegisterAt.Next next)) (the p t))) (λ _. st.codes q hq);
  slot_bits = st.slot_bits;
  node_bits = st.node_bits;
  lengths = st.lengths;
  held_words = λ q hq j. put_ind (λ (r : Record). j < r.held → 1 ≤ t.held q j % 4) t.own p q _ (λ i lt. st.held_words q hq j (rw (← i) lt)) (λ _. st.held_words q hq j);
  bag_words = st.bag_words;
}

-- a registering
pub stored_register : (N M p : ℕ) (t : Tables) → Stored N M t → Stored N M (enrolled p t).tables
unfolding enrolled
stored_register N M p t st = record {
  codes = λ q hq. put_ind (λ (r : Record). same_code (code_of (place_of r.code)) r.code ≡ true) t.own p q (record_of new_participant) (λ _. written_code new_participant) (λ _. st.codes q hq);
  slot_bits = λ j lt. put_ind (λ (b : Bool). b ≡ true → j < N) t.slot_free p j false (λ _ z. absurd (true≢false (sym z))) (λ _. st.slot_bits j lt);
  node_bits = st.node_bits;
  lengths = st.lengths;
  held_words = λ q hq j. put_ind (λ (r : Record). j < r.held → 1 ≤ t.held q j % 4) t.own p q (record_of new_participant) (λ _ lt. absurd (new_empty j lt)) (λ _. st.held_words q hq j);
  bag_words = st.bag_words;
}

-- a fresh start
pub stored_fresh : (N M : ℕ) → Stored N M (fresh N M)
unfolding fresh
stored_fresh N M = record {
  codes = λ q _. rw (place_back Place.Rest) (same_code_lem (code_of Place.Rest));
  slot_bits = λ i _ e. ltb-true i N e;
  node_bits = λ i _ e. ltb-true i M (both (leb 1 i) (ltb i M) e).1;
  lengths = λ n _. omega arith;
  held_words = λ q _ j lt. absurd (omega arith);
  bag_words = λ n _ j lt. absurd (omega arith);
}
