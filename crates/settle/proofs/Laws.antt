-- The work on the lent lists is the definition's `settle` on the tables that they hold. Each case: which of the lists change, and what that makes of
-- the tables, by the laws of `bits` and `bags`. Assumes nothing.
use mathlib.Core.Path.{◌≡◌, refl, ap, sym, ◌∙◌}
use mathlib.Core.Bool.{true, false}
use mathlib.Core.List.{List}
use Prim.Native.Nat.{ℕ, ◌+◌, ◌-◌, ◌*◌, ◌≤◌, ◌<◌}
use native.Mathlib.Omega.{arith}
use lib.ListN.{length, get_or, set, take, drop, length-drop}
use lib.Seq.{paste, take-take, length-take-le}
use borrow.Rule.Slice.PartMut.{mid_of, put_mid, set_mid_at}
use Rattle.definition.specs.Base.{Tab, put}
use Rattle.definition.specs.Links.{null}
use Rattle.definition.specs.Bags.{max_objects, item_word, moved}
use Rattle.definition.specs.Tables.{Shared, Tables, write}
use Rattle.definition.specs.Tables as T
use Rattle.definition.specs.Layout.{Lent, cell, global_words, participant_words, node_words, record_at, shared_from, bag_from, slot_bits, node_bits, tables_of}
use Rattle.definition.specs.Ranges.{bit_words, bag_in}
use Rattle.definition.specs.Step.{put_item, seal_into, in_bag, free_bag, settle}
use Rattle.definition.specs.declared.Work.{Work}
use Rattle.definition.specs.declared.Word.{Word}
use Rattle.definition.proofs.Lists.{Sized}
use Rattle.bits.specs.Bits.{taken}
use Rattle.bits.proofs.Laws.{early_mark, slots_mark-node, nodes-mark-node}
use Rattle.bags.specs.Bags.{bag_items, stamped, free_items}
use Rattle.bags.proofs.Cells.{column}
use Rattle.bags.proofs.Nodes.{held-put, next_sealed, bag_sealed, bag-emptied, next_emptied}
use Rattle.bags.proofs.Freeing.{early_freed, bag_slots, bag-nodes}
use Rattle.settle.specs.Settle.{settled_globals, settled_nodes, settled_held, settled_queued, settled_lent}

-- an item put behind k others into the words from a bag on, which were lent alone
pub item_put : (h : List ℕ) (from k v : ℕ) (bag : List ℕ) → from + k < length h → bag ≡ set (mid_of from (length h - from) h) k v
    → put_mid from (length h - from) h bag ≡ set h (from + k) v
item_put h from k v bag fits is =
    let room : k < length (mid_of from (length h - from) h) = rw (length-take-le (length h - from) (drop from h) (omega (arith, length-drop from h))) (omega arith) in
    ap (put_mid from (length h - from) h) is ∙ set_mid_at from (length h - from) k h v room

-- a bag that was lent alone has its k words, and is copied as from its list
module _ (h : List ℕ) (from n k : ℕ) (is : n ≡ k) (fits : from + k ≤ length h) where
  pub length_lent : length (take n (drop from h)) ≡ k
  length_lent = rw is (length-take-le k (drop from h) (omega (arith, length-drop from h)))

  pub pasted : (q : List ℕ) (to : ℕ) → paste q to (take n (drop from h)) (length (take n (drop from h))) ≡ paste q to (drop from h) k
  pasted q to = ap (paste q to (take n (drop from h))) length_lent ∙ rw (is, take-take k k (drop from h) (omega arith)) refl

-- what the work names is within the tables: the bag has room for an item, a bag to be freed is in range, a node is one of M
unfoldable pub Fits : (N M p k : ℕ) → Work → Lent → Type 0
Fits N M p k Work.Nothing l = Unit {0}
Fits N M p k (Work.Put i) l = k < 64
Fits N M p k (Work.PutThenFree i x) l =
    (k < 64) × ((x.0 < M) × (bag_in N M (bag_from l.nodes l.queued x.0).len (bag_from l.nodes l.queued x.0).deferreds ≡ true))
Fits N M p k (Work.Seal x e) l = (k ≤ 64) × (x.0 < M)

module _ (N M p k : ℕ) (l : Lent) (s : Sized N M l) (hp : p < N) (held : (record_at (cell participant_words l.participants p)).held ≡ k) where
  row_in : p * 64 + 64 ≤ length l.held
  row_in = rw s.held (omega arith)

  -- an item put
  put-held : (v : ℕ) → k < 64 → cell max_objects (set l.held (p * 64 + k) v)
      ≡ put (cell max_objects l.held) p (put (cell max_objects l.held p) (record_at (cell participant_words l.participants p)).held v)
  put-held v h = rw held (held-put l.held p k v h (let r = row_in in omega arith))

  -- the words of `globals` before the free bits, with the participants and the nodes' links, are the shared words
  shared_same : (g n : List ℕ) → ((j : ℕ) → j < global_words → get_or g j 0 ≡ get_or l.globals j 0) → (next : Tab ℕ) → column node_words 0 n ≡ next
      → shared_from g l.participants n ≡ record {
        global_epoch = get_or l.globals 0 0;
        list_head = get_or l.globals 1 0;
        entry_next = λ i. cell participant_words l.participants i 1;
        word = λ i. cell participant_words l.participants i 0;
        queue_head = get_or l.globals 2 0;
        queue_tail = get_or l.globals 3 0;
        node_next = next;
      }
  unfolding shared_from global_words
  shared_same g n early next h = λ j. record {
    global_epoch = early 0 (omega arith) j;
    list_head = early 1 (omega arith) j;
    entry_next = λ i. cell participant_words l.participants i 1;
    word = λ i. cell participant_words l.participants i 0;
    queue_head = early 2 (omega arith) j;
    queue_tail = early 3 (omega arith) j;
    node_next = h j;
  }

  node_in_lem : (x : ℕ) → x < M → x * 3 + 3 ≤ length l.nodes
  node_in_lem x h = rw s.nodes (omega arith)

  bits_in_lem : global_words + bit_words N + bit_words M ≤ length l.globals
  unfolding global_words
  bits_in_lem = rw s.globals (omega arith)

  aside_early : 4 < global_words
  unfolding global_words
  aside_early = omega arith

  shared_is : shared_from l.globals l.participants l.nodes ≡ record {
    global_epoch = get_or l.globals 0 0;
    list_head = get_or l.globals 1 0;
    entry_next = λ i. cell participant_words l.participants i 1;
    word = λ i. cell participant_words l.participants i 0;
    queue_head = get_or l.globals 2 0;
    queue_tail = get_or l.globals 3 0;
    node_next = column node_words 0 l.nodes;
  }
  unfolding shared_from
  shared_is = refl

  sealed_shared : (x : ℕ) → ◌≡◌ {A = Shared} (record {
    global_epoch = get_or l.globals 0 0;
    list_head = get_or l.globals 1 0;
    entry_next = λ i. cell participant_words l.participants i 1;
    word = λ i. cell participant_words l.participants i 0;
    queue_head = get_or l.globals 2 0;
    queue_tail = get_or l.globals 3 0;
    node_next = put (column node_words 0 l.nodes) x null;
  })
      (write (Word.NodeNext (record { 0 = x })) null (shared_from l.globals l.participants l.nodes))
  unfolding shared_from write
  sealed_shared x = refl

  sealed_bags : (x e : ℕ) → k ≤ 64 → x < M → bag_from (stamped l.nodes x e k) (paste l.queued (x * 64) (drop (p * 64) l.held) k)
      ≡ put (bag_from l.nodes l.queued) x (record {
        epoch = e;
        len = (record_at (cell participant_words l.participants p)).held;
        deferreds = moved (record_at (cell participant_words l.participants p)).held (cell max_objects l.held p) (bag_from l.nodes l.queued x).deferreds;
      })
  unfolding bag_from
  sealed_bags x e hk hx =
      rw held
      (unfold bag_from in (bag_sealed l.nodes x e k (node_in_lem x hx) l.held l.queued p hk (let r = row_in in omega arith) (rw s.queued (omega arith))))

  -- the popped bag freed behind the item
  freed-tables : (x v : ℕ) → k < 64 → x < M → bag_in N M (bag_from l.nodes l.queued x).len (bag_from l.nodes l.queued x).deferreds ≡ true
      → tables_of N M (record {
        globals = free_items N (bag_items l.nodes l.queued x) l.globals;
        participants = l.participants;
        nodes = set l.nodes (x * 3 + 2) 0;
        held = set l.held (p * 64 + k) v;
        queued = l.queued;
      })
      ≡ free_bag x (T.with_held p (put (cell max_objects l.held p) (record_at (cell participant_words l.participants p)).held v) (tables_of N M l))
  unfolding tables_of free_bag in_bag
  freed-tables x v hk hx bag =
      let g = free_items N (bag_items l.nodes l.queued x) l.globals in
      let early : (j : ℕ) → j < global_words → get_or g j 0 ≡ get_or l.globals j 0 = early_freed N (bag_items l.nodes l.queued x) l.globals in
      λ j. record {
        shared = (shared_same g (set l.nodes (x * 3 + 2) 0) early (column node_words 0 l.nodes) (next_emptied l.nodes x (node_in_lem x hx)) ∙ sym shared_is) j;
        own = λ q. record_at (cell participant_words l.participants q);
        held = put-held v hk j;
        bag = bag-emptied l.nodes l.queued x (node_in_lem x hx) j;
        slot_free = bag_slots N M l.nodes l.queued x bag l.globals bits_in_lem j;
        node_free = bag-nodes N M l.nodes l.queued x bag l.globals bits_in_lem j;
        aside = early 4 aside_early j;
      }

  -- the bag sealed into the node
  sealed_tables : (x e : ℕ) → k ≤ 64 → x < M
      → tables_of N M (record {
        globals = taken l.globals (global_words + bit_words N) x;
        participants = l.participants;
        nodes = stamped l.nodes x e k;
        held = l.held;
        queued = paste l.queued (x * 64) (drop (p * 64) l.held) k;
      })
      ≡ seal_into p x e (tables_of N M l)
  unfolding tables_of seal_into write
  sealed_tables x e hk hx =
      let g = taken l.globals (global_words + bit_words N) x in
      let early : (j : ℕ) → j < global_words → get_or g j 0 ≡ get_or l.globals j 0 = early_mark l.globals (global_words + bit_words N) x false (omega arith) in
      λ j. record {
        shared = (shared_same g (stamped l.nodes x e k) early (put (column node_words 0 l.nodes) x null)
            (next_sealed l.nodes x e k (node_in_lem x hx)) ∙ sealed_shared x) j;
        own = λ q. record_at (cell participant_words l.participants q);
        held = cell max_objects l.held;
        bag = sealed_bags x e hk hx j;
        slot_free = slots_mark-node N l.globals x false j;
        node_free = nodes-mark-node N l.globals x false M bits_in_lem hx j;
        aside = early 4 aside_early j;
      }

  pub settled : (w : Work) → Fits N M p k w l → tables_of N M (settled_lent N p k w l) ≡ settle p w (tables_of N M l)
  unfolding settled_globals settled_nodes settled_held settled_queued tables_of settle put_item Fits
  settled Work.Nothing f = refl
  settled (Work.Put i) f = λ j. record {
    shared = shared_from l.globals l.participants l.nodes;
    own = λ q. record_at (cell participant_words l.participants q);
    held = put-held (item_word i) f j;
    bag = bag_from l.nodes l.queued;
    slot_free = slot_bits N l.globals;
    node_free = node_bits N M l.globals;
    aside = get_or l.globals 4 0;
  }
  settled (Work.PutThenFree i x) f = freed-tables x.0 (item_word i) f.0 f.1.0 f.1.1
  settled (Work.Seal x e) f = sealed_tables x.0 e.0 f.0 f.1
