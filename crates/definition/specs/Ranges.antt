-- Sizes, ranges and a fresh start. What a stored number may be (refusal 1 where it is not; docs/RANGES.md has the same as a table), by N
-- participants and M nodes. Epoch words, seals, carried epochs and pin counts may be any word. Assumes nothing.
use Rattle.std.specs.Prelude.{Bool, true, false, ◌&&◌, ℕ, ◌+◌, ◌*◌, ◌/◌, ◌%◌, eqb, ltb, leb}
use Rattle.epoch.specs.Epoch.{starting}
use Rattle.definition.specs.Base.{branch, Tab, all}
use Rattle.definition.specs.Links.{null, link}
use Rattle.definition.specs.Bags.{max_objects}
use Rattle.definition.specs.Tables.{Shared, Tables}
use Rattle.definition.specs.Flow.{collect_steps}
use Rattle.definition.specs.Codec.{code_of, place_of, same_code}
use Rattle.definition.specs.Calls.{max_count, max_token}
use Rattle.definition.specs.Types.{Slot, Node, Ptr, Pred, Cursor, Pops, Deferring, Then, RegisterAt, WalkAt, PopAt, PushAt, Place, Code, Record}

-- the limits: participants 1 to 32, nodes 2 to 128
unfoldable pub max_participants : ℕ
max_participants = 32

unfoldable pub max_nodes : ℕ
max_nodes = 128

unfoldable pub within_limits : (N M : ℕ) → Bool
within_limits N M = leb 1 N && leb N max_participants && leb 2 M && leb M max_nodes

-- the free bits stand in words of 64: how many words n bits take
unfoldable pub bit_words : ℕ → ℕ
bit_words n = (n + 63) / 64

-- whether a place is rest
unfoldable pub is_rest : Place → Bool
is_rest Place.Rest = true
is_rest (Place.Register a) = false
is_rest (Place.PinEpoch k) = false
is_rest (Place.PinWord k e) = false
is_rest (Place.Repin a) = false
is_rest Place.UnpinWord = false
is_rest (Place.AdvanceEpoch k) = false
is_rest (Place.Walk t a) = false
is_rest (Place.AdvanceWord t curr succ) = false
is_rest (Place.AdvanceStore t) = false
is_rest (Place.Pop p a) = false
is_rest (Place.Push then a) = false
is_rest Place.FinalWord = false
is_rest Place.FinalTag = false

module _ (N M : ℕ) where
  -- an index of a slot, of a node
  unfoldable pub slot_in : Slot → Bool
  slot_in s = ltb s.0 N

  unfoldable pub node_in : Node → Bool
  node_in n = ltb n.0 M

  unfoldable pub ptr_in : Ptr → Bool
  ptr_in Ptr.Null = true
  ptr_in (Ptr.At s) = slot_in s

  unfoldable pub pred_in : Pred → Bool
  pred_in Pred.Head = true
  pred_in (Pred.Entry s) = slot_in s

  unfoldable pub cursor_in : Cursor → Bool
  cursor_in c = pred_in c.pred && slot_in c.curr

  -- the pops left, this one included
  unfoldable pub pops_in : Pops → Bool
  pops_in p = leb 1 p.left && leb p.left collect_steps

  unfoldable pub then_in : Then → Bool
  then_in (Then.Defer (Deferring.Token token)) = leb token max_token
  then_in (Then.Defer (Deferring.Slot t c succ)) = cursor_in c && ptr_in succ
  then_in (Then.Defer (Deferring.Node p head next)) = pops_in p && node_in head && node_in next
  then_in Then.Flush = true
  then_in Then.Finalize = true

  unfoldable pub register_in : RegisterAt → Bool
  register_in RegisterAt.Head = true
  register_in (RegisterAt.Next next) = ptr_in next
  register_in (RegisterAt.Link next) = ptr_in next

  unfoldable pub walk_in : WalkAt → Bool
  walk_in WalkAt.Head = true
  walk_in (WalkAt.Next c) = cursor_in c
  walk_in (WalkAt.Unlink c succ) = cursor_in c && ptr_in succ
  walk_in WalkAt.Stalled = true

  unfoldable pub pop_in : PopAt → Bool
  pop_in PopAt.Head = true
  pop_in (PopAt.Next head) = node_in head
  pop_in (PopAt.Exchange head next) = node_in head && node_in next
  pop_in (PopAt.Tail head next) = node_in head && node_in next
  pop_in (PopAt.TailMove head next) = node_in head && node_in next

  unfoldable pub push_in : PushAt → Bool
  push_in PushAt.Epoch = true
  push_in (PushAt.Tail new) = node_in new
  push_in (PushAt.Next new onto) = node_in new && node_in onto
  push_in (PushAt.Help new onto next) = node_in new && node_in onto && node_in next
  push_in (PushAt.Link new onto) = node_in new && node_in onto
  push_in (PushAt.Move new onto) = node_in new && node_in onto

  -- what a place carries
  unfoldable pub place_in : Place → Bool
  place_in Place.Rest = true
  place_in (Place.Register a) = register_in a
  place_in (Place.PinEpoch k) = true
  place_in (Place.PinWord k e) = true
  place_in (Place.Repin a) = true
  place_in Place.UnpinWord = true
  place_in (Place.AdvanceEpoch k) = true
  place_in (Place.Walk t a) = walk_in a
  place_in (Place.AdvanceWord t curr succ) = slot_in curr && ptr_in succ
  place_in (Place.AdvanceStore t) = true
  place_in (Place.Pop p a) = pops_in p && pop_in a
  place_in (Place.Push then a) = then_in then && push_in a
  place_in Place.FinalWord = true
  place_in Place.FinalTag = true

  -- a pointer to an entry; its tag may be set, or not
  unfoldable pub entry_pointer_in : ℕ → Bool
  entry_pointer_in w = leb (w / 2) N

  unfoldable pub head_pointer_in : ℕ → Bool
  head_pointer_in w = eqb (w % 2) 0 && leb (w / 2) N

  -- a pointer to a node, without a tag: null may stand in a node's next
  unfoldable pub node_pointer_in : ℕ → Bool
  node_pointer_in w = eqb (w % 2) 0 && leb (w / 2) M

  unfoldable pub end_pointer_in : ℕ → Bool
  end_pointer_in w = node_pointer_in w && leb 1 (w / 2)

  -- an item that is held, as its word
  unfoldable pub item_in : ℕ → Bool
  item_in w = branch (eqb (w % 4) 1) (leb (w / 4) max_token) (branch (eqb (w % 4) 2) (ltb (w / 4) M) (eqb (w % 4) 3 && ltb (w / 4) N))

  -- a bag of k items: those beyond its length are not held
  unfoldable pub bag_in : ℕ → Tab ℕ → Bool
  bag_in k d = leb k max_objects && all k (λ j. item_in (d j))

  -- a place: one of thirty, with what it carries, and nothing in the other columns
  unfoldable pub code_in : Code → Bool
  code_in c = same_code (code_of (place_of c)) c && place_in (place_of c)

  -- a participant's record, beside a set-aside total: a share is a running operation's
  unfoldable pub record_in : ℕ → Record → Bool
  record_in aside r = leb r.counts.guards max_count && leb r.counts.handles max_count && leb r.share aside && code_in r.code
      && branch (is_rest (place_of r.code)) (eqb r.share 0) true

  -- free bits: none is set at n or beyond
  unfoldable pub bits_in : ℕ → Tab Bool → Bool
  bits_in n f = all (64 * bit_words n) (λ i. branch (f i) (ltb i n) true)

  -- all of it
  unfoldable pub shared_in : Shared → Bool
  shared_in s = head_pointer_in s.list_head && end_pointer_in s.queue_head && end_pointer_in s.queue_tail
      && all N (λ i. entry_pointer_in (s.entry_next i)) && all M (λ n. node_pointer_in (s.node_next n))

  unfoldable pub in_range : Tables → Bool
  in_range t = shared_in t.shared && leb t.aside M && all N (λ i. record_in t.aside (t.own i))
      && bits_in N t.slot_free && bits_in M t.node_free
      && all N (λ i. bag_in (t.own i).held (t.held i)) && all M (λ n. bag_in (t.bag n).len (t.bag n).deferreds)

-- internal.rs, `Global::new`, with every slot free and node 0 the sentinel of queue.rs, `Queue::new`
unfoldable pub fresh : (N M : ℕ) → Tables
fresh N M = record {
  shared = record {
    global_epoch = starting;
    list_head = null;
    entry_next = λ i. null;
    word = λ i. starting;
    queue_head = link 0;
    queue_tail = link 0;
    node_next = λ n. null;
  };
  own = λ i. record { counts = record { guards = 0; handles = 0; pins = 0 }; held = 0; share = 0; code = code_of Place.Rest };
  held = λ i. λ k. 0;
  bag = λ n. record { epoch = 0; len = 0; deferreds = λ k. 0 };
  slot_free = λ i. ltb i N;
  node_free = λ n. leb 1 n && ltb n M;
  aside = 0;
}
