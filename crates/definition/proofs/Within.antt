-- What it is for a place to be in range, as facts and no longer as tests; and what follows: a place in range asks for words
-- within the tables, and the work after it names slots and nodes within them. So a step on tables in range stays inside them.
-- Assumes nothing.
use mathlib.Core.Path.{◌≡◌}
use mathlib.Core.Bool.{Bool, true, ◌&&◌}
use Prim.Native.Nat.{ℕ, ◌≤◌, ◌<◌}
use lib.Dec.{leb}
use borrow.Author.Tests.{ltb-true, leb-true}
use Rattle.definition.specs.Base.{branch}
use Rattle.definition.specs.Calls.{max_token}
use Rattle.definition.specs.Flow.{collect_steps, on, done, also, finalize, collected, pops, advanced, walk, waiting, placed, defer, pushed}
use Rattle.definition.specs.Rule.{asks, follows}
use Rattle.definition.specs.List.{insert, delete, iterate, pred_word}
use Rattle.definition.specs.Queue.{seal_bag, push, pop}
use Rattle.definition.specs.Internal.{pin_epoch, pin_word, pin_counted, unpin_word, repin, advance_epoch, advance_word, advance_store, final_word, rule}
use Rattle.definition.specs.Ranges.{place_in, slot_in, node_in, ptr_in, pred_in, cursor_in, pops_in, then_in, register_in, walk_in, pop_in, push_in}
use Rattle.definition.specs.Types.{Epoch, Slot, Node, Ptr, Pred, Cursor, Item, Owner, Try, Pops, Deferring, Then, RegisterAt, RepinAt, WalkAt, PopAt, PushAt}
use Rattle.definition.specs.Types.{Place, Participant, Word, Ask, Seen, Work, After, slot}
use Rattle.definition.proofs.Base.{both, branch_ind}

module _ (N M : ℕ) where
  unfoldable pub PtrIn : Ptr → Type 0
  PtrIn Ptr.Null = Unit {0}
  PtrIn (Ptr.At s) = s.0 < N

  unfoldable pub PredIn : Pred → Type 0
  PredIn Pred.Head = Unit {0}
  PredIn (Pred.Entry s) = s.0 < N

  abbrev pub CursorIn : Cursor → Type 0
  CursorIn c = PredIn c.pred × (c.curr.0 < N)

  abbrev pub PopsIn : Pops → Type 0
  PopsIn p = (1 ≤ p.left) × (p.left ≤ collect_steps)

  unfoldable pub ThenIn : Then → Type 0
  ThenIn (Then.Defer (Deferring.Token token)) = token ≤ max_token
  ThenIn (Then.Defer (Deferring.Slot t c succ)) = CursorIn c × PtrIn succ
  ThenIn (Then.Defer (Deferring.Node p head next)) = PopsIn p × ((head.0 < M) × (next.0 < M))
  ThenIn Then.Flush = Unit {0}
  ThenIn Then.Finalize = Unit {0}

  unfoldable pub RegisterIn : RegisterAt → Type 0
  RegisterIn RegisterAt.Head = Unit {0}
  RegisterIn (RegisterAt.Next next) = PtrIn next
  RegisterIn (RegisterAt.Link next) = PtrIn next

  unfoldable pub WalkIn : WalkAt → Type 0
  WalkIn WalkAt.Head = Unit {0}
  WalkIn (WalkAt.Next c) = CursorIn c
  WalkIn (WalkAt.Unlink c succ) = CursorIn c × PtrIn succ
  WalkIn WalkAt.Stalled = Unit {0}

  unfoldable pub PopIn : PopAt → Type 0
  PopIn PopAt.Head = Unit {0}
  PopIn (PopAt.Next head) = head.0 < M
  PopIn (PopAt.Exchange head next) = (head.0 < M) × (next.0 < M)
  PopIn (PopAt.Tail head next) = (head.0 < M) × (next.0 < M)
  PopIn (PopAt.TailMove head next) = (head.0 < M) × (next.0 < M)

  unfoldable pub PushIn : PushAt → Type 0
  PushIn PushAt.Epoch = Unit {0}
  PushIn (PushAt.Tail new) = new.0 < M
  PushIn (PushAt.Next new onto) = (new.0 < M) × (onto.0 < M)
  PushIn (PushAt.Help new onto next) = ((new.0 < M) × (onto.0 < M)) × (next.0 < M)
  PushIn (PushAt.Link new onto) = (new.0 < M) × (onto.0 < M)
  PushIn (PushAt.Move new onto) = (new.0 < M) × (onto.0 < M)

  -- what a place carries
  unfoldable pub PlaceIn : Place → Type 0
  PlaceIn Place.Rest = Unit {0}
  PlaceIn (Place.Register a) = RegisterIn a
  PlaceIn (Place.PinEpoch k) = Unit {0}
  PlaceIn (Place.PinWord k e) = Unit {0}
  PlaceIn (Place.Repin a) = Unit {0}
  PlaceIn Place.UnpinWord = Unit {0}
  PlaceIn (Place.AdvanceEpoch k) = Unit {0}
  PlaceIn (Place.Walk t a) = WalkIn a
  PlaceIn (Place.AdvanceWord t curr succ) = (curr.0 < N) × PtrIn succ
  PlaceIn (Place.AdvanceStore t) = Unit {0}
  PlaceIn (Place.Pop p a) = PopsIn p × PopIn a
  PlaceIn (Place.Push f a) = ThenIn f × PushIn a
  PlaceIn Place.FinalWord = Unit {0}
  PlaceIn Place.FinalTag = Unit {0}

  -- tests that are true, and the facts that they say: one pair of laws for each test, one way and the other
  slot_in_lem : (s : Slot) → slot_in N M s ≡ true → s.0 < N
  unfolding slot_in
  slot_in_lem s h = ltb-true s.0 N h

  node_in_lem : (n : Node) → node_in N M n ≡ true → n.0 < M
  unfolding node_in
  node_in_lem n h = ltb-true n.0 M h

  nodes_in_lem : (a b : Node) → (node_in N M a && node_in N M b) ≡ true → (a.0 < M) × (b.0 < M)
  nodes_in_lem a b h = let x = both (node_in N M a) (node_in N M b) h in (node_in_lem a x.0, node_in_lem b x.1)

  ptr_in_lem : (q : Ptr) → ptr_in N M q ≡ true → PtrIn q
  unfolding ptr_in PtrIn
  ptr_in_lem Ptr.Null h = tt
  ptr_in_lem (Ptr.At s) h = slot_in_lem s h

  pred_in_lem : (q : Pred) → pred_in N M q ≡ true → PredIn q
  unfolding pred_in PredIn
  pred_in_lem Pred.Head h = tt
  pred_in_lem (Pred.Entry s) h = slot_in_lem s h

  cursor_in_lem : (c : Cursor) → cursor_in N M c ≡ true → CursorIn c
  unfolding cursor_in
  cursor_in_lem c h = let x = both (pred_in N M c.pred) (slot_in N M c.curr) h in (pred_in_lem c.pred x.0, slot_in_lem c.curr x.1)

  cut_in : (c : Cursor) (q : Ptr) → (cursor_in N M c && ptr_in N M q) ≡ true → CursorIn c × PtrIn q
  cut_in c q h = let x = both (cursor_in N M c) (ptr_in N M q) h in (cursor_in_lem c x.0, ptr_in_lem q x.1)

  pops_in_lem : (p : Pops) → pops_in N M p ≡ true → PopsIn p
  unfolding pops_in
  pops_in_lem p h = let x = both (leb 1 p.left) (leb p.left collect_steps) h in (leb-true 1 p.left x.0, leb-true p.left collect_steps x.1)

  then_in_lem : (f : Then) → then_in N M f ≡ true → ThenIn f
  unfolding then_in ThenIn
  then_in_lem (Then.Defer (Deferring.Token token)) h = leb-true token max_token h
  then_in_lem (Then.Defer (Deferring.Slot t c succ)) h = cut_in c succ h
  then_in_lem (Then.Defer (Deferring.Node p head next)) h =
      let x = both (pops_in N M p && node_in N M head) (node_in N M next) h in
      let y = both (pops_in N M p) (node_in N M head) x.0 in
      (pops_in_lem p y.0, (node_in_lem head y.1, node_in_lem next x.1))
  then_in_lem Then.Flush h = tt
  then_in_lem Then.Finalize h = tt

  register_in_lem : (a : RegisterAt) → register_in N M a ≡ true → RegisterIn a
  unfolding register_in RegisterIn
  register_in_lem RegisterAt.Head h = tt
  register_in_lem (RegisterAt.Next next) h = ptr_in_lem next h
  register_in_lem (RegisterAt.Link next) h = ptr_in_lem next h

  walk_in_lem : (a : WalkAt) → walk_in N M a ≡ true → WalkIn a
  unfolding walk_in WalkIn
  walk_in_lem WalkAt.Head h = tt
  walk_in_lem (WalkAt.Next c) h = cursor_in_lem c h
  walk_in_lem (WalkAt.Unlink c succ) h = cut_in c succ h
  walk_in_lem WalkAt.Stalled h = tt

  pop_in_lem : (a : PopAt) → pop_in N M a ≡ true → PopIn a
  unfolding pop_in PopIn
  pop_in_lem PopAt.Head h = tt
  pop_in_lem (PopAt.Next head) h = node_in_lem head h
  pop_in_lem (PopAt.Exchange head next) h = nodes_in_lem head next h
  pop_in_lem (PopAt.Tail head next) h = nodes_in_lem head next h
  pop_in_lem (PopAt.TailMove head next) h = nodes_in_lem head next h

  push_in_lem : (a : PushAt) → push_in N M a ≡ true → PushIn a
  unfolding push_in PushIn
  push_in_lem PushAt.Epoch h = tt
  push_in_lem (PushAt.Tail new) h = node_in_lem new h
  push_in_lem (PushAt.Next new onto) h = nodes_in_lem new onto h
  push_in_lem (PushAt.Help new onto next) h =
      let x = both (node_in N M new && node_in N M onto) (node_in N M next) h in (nodes_in_lem new onto x.0, node_in_lem next x.1)
  push_in_lem (PushAt.Link new onto) h = nodes_in_lem new onto h
  push_in_lem (PushAt.Move new onto) h = nodes_in_lem new onto h

  pub place_in_lem : (pl : Place) → place_in N M pl ≡ true → PlaceIn pl
  unfolding place_in PlaceIn
  place_in_lem Place.Rest h = tt
  place_in_lem (Place.Register a) h = register_in_lem a h
  place_in_lem (Place.PinEpoch k) h = tt
  place_in_lem (Place.PinWord k e) h = tt
  place_in_lem (Place.Repin a) h = tt
  place_in_lem Place.UnpinWord h = tt
  place_in_lem (Place.AdvanceEpoch k) h = tt
  place_in_lem (Place.Walk t a) h = walk_in_lem a h
  place_in_lem (Place.AdvanceWord t curr succ) h = let x = both (slot_in N M curr) (ptr_in N M succ) h in (slot_in_lem curr x.0, ptr_in_lem succ x.1)
  place_in_lem (Place.AdvanceStore t) h = tt
  place_in_lem (Place.Pop p a) h = let x = both (pops_in N M p) (pop_in N M a) h in (pops_in_lem p x.0, pop_in_lem a x.1)
  place_in_lem (Place.Push f a) h = let x = both (then_in N M f) (push_in N M a) h in (then_in_lem f x.0, push_in_lem a x.1)
  place_in_lem Place.FinalWord h = tt
  place_in_lem Place.FinalTag h = tt

  -- a shared word within the tables
  unfoldable pub WordIn : Word → Type 0
  WordIn Word.GlobalEpoch = Unit {0}
  WordIn Word.ListHead = Unit {0}
  WordIn (Word.EntryNext s) = s.0 < N
  WordIn (Word.ParticipantWord s) = s.0 < N
  WordIn Word.QueueHead = Unit {0}
  WordIn Word.QueueTail = Unit {0}
  WordIn (Word.NodeNext n) = n.0 < M

  unfoldable pub AskIn : Ask → Type 0
  AskIn (Ask.Load w) = WordIn w
  AskIn (Ask.Store w v) = WordIn w
  AskIn (Ask.Exchange w e v) = WordIn w
  AskIn (Ask.ExchangeWeak w e v) = WordIn w
  AskIn (Ask.FetchOr w) = WordIn w

  pred-word : (q : Pred) → PredIn q → WordIn (pred_word q)
  unfolding WordIn pred_word PredIn
  pred-word Pred.Head h = tt
  pred-word (Pred.Entry s) h = h

  -- the access of a place in range
  pub asks_in : (p : ℕ) (spare : Node) (sealed : Node → ℕ) (o : Participant) (pl : Place) → p < N → PlaceIn pl
      → AskIn (asks (rule (slot p) spare sealed o pl))
  unfolding AskIn WordIn asks rule insert delete iterate push pop pin_epoch pin_word unpin_word repin advance_epoch advance_word advance_store final_word
      PlaceIn RegisterIn WalkIn PopIn PushIn
  asks_in p spare sealed o Place.Rest hp h = tt
  asks_in p spare sealed o (Place.Register RegisterAt.Head) hp h = tt
  asks_in p spare sealed o (Place.Register (RegisterAt.Next next)) hp h = hp
  asks_in p spare sealed o (Place.Register (RegisterAt.Link next)) hp h = tt
  asks_in p spare sealed o (Place.PinEpoch k) hp h = tt
  asks_in p spare sealed o (Place.PinWord k e) hp h = hp
  asks_in p spare sealed o (Place.Repin RepinAt.Word) hp h = hp
  asks_in p spare sealed o (Place.Repin (RepinAt.Epoch e)) hp h = tt
  asks_in p spare sealed o (Place.Repin (RepinAt.Store e)) hp h = hp
  asks_in p spare sealed o Place.UnpinWord hp h = hp
  asks_in p spare sealed o (Place.AdvanceEpoch k) hp h = tt
  asks_in p spare sealed o (Place.Walk t WalkAt.Head) hp h = tt
  asks_in p spare sealed o (Place.Walk t (WalkAt.Next c)) hp h = h.1
  asks_in p spare sealed o (Place.Walk t (WalkAt.Unlink c succ)) hp h = pred-word c.pred h.0.0
  asks_in p spare sealed o (Place.Walk t WalkAt.Stalled) hp h = tt
  asks_in p spare sealed o (Place.AdvanceWord t curr succ) hp h = h.0
  asks_in p spare sealed o (Place.AdvanceStore t) hp h = tt
  asks_in p spare sealed o (Place.Pop q PopAt.Head) hp h = tt
  asks_in p spare sealed o (Place.Pop q (PopAt.Next head)) hp h = h.1
  asks_in p spare sealed o (Place.Pop q (PopAt.Exchange head next)) hp h = tt
  asks_in p spare sealed o (Place.Pop q (PopAt.Tail head next)) hp h = tt
  asks_in p spare sealed o (Place.Pop q (PopAt.TailMove head next)) hp h = tt
  asks_in p spare sealed o (Place.Push f PushAt.Epoch) hp h = tt
  asks_in p spare sealed o (Place.Push f (PushAt.Tail new)) hp h = tt
  asks_in p spare sealed o (Place.Push f (PushAt.Next new onto)) hp h = h.1.1
  asks_in p spare sealed o (Place.Push f (PushAt.Help new onto next)) hp h = tt
  asks_in p spare sealed o (Place.Push f (PushAt.Link new onto)) hp h = h.1.1
  asks_in p spare sealed o (Place.Push f (PushAt.Move new onto)) hp h = tt
  asks_in p spare sealed o Place.FinalWord hp h = hp
  asks_in p spare sealed o Place.FinalTag hp h = hp

  -- an item, and the work that names it
  unfoldable pub ItemIn : Item → Type 0
  ItemIn (Item.Token token) = token ≤ max_token
  ItemIn (Item.Node n) = n.0 < M
  ItemIn (Item.Slot s) = s.0 < N

  unfoldable pub WorkIn : Work → Type 0
  WorkIn Work.Nothing = Unit {0}
  WorkIn (Work.Put item) = ItemIn item
  WorkIn (Work.PutThenFree item n) = ItemIn item × (n.0 < M)
  WorkIn (Work.Seal n e) = n.0 < M

  unfoldable pub AfterIn : After → Type 0
  AfterIn a = WorkIn a.work

  -- what follows names no more than what goes in: one law for each of the functions of specs/Flow
  pub on_in : (pl : Place) (o : Participant) → AfterIn (on pl o)
  unfolding AfterIn WorkIn on
  on_in pl o = tt

  pub done_in : (v : ℕ) (o : Participant) → AfterIn (done v o)
  unfolding AfterIn WorkIn done
  done_in v o = tt

  also_in : (w : Work) (a : After) → WorkIn w → AfterIn (also w a)
  unfolding AfterIn also
  also_in w a h = h

  pub pick_in : (b : Bool) (x y : After) → AfterIn x → AfterIn y → AfterIn (branch b x y)
  pick_in b x y h k = branch_ind AfterIn b (λ _. h) (λ _. k)

  collected_in : (k : Owner) (o : Participant) → AfterIn (collected k o)
  unfolding collected
  collected_in Owner.Pin o = done_in 0 o
  collected_in Owner.Flush o = done_in 0 o
  collected_in Owner.Finalize o = on_in (Place.Push Then.Finalize PushAt.Epoch) o

  pub finalize_in : (o : Participant) → AfterIn (finalize o)
  unfolding finalize
  finalize_in o = on_in _ _

  pops-follow : (k : Owner) (e : Epoch) (left : ℕ) (o : Participant) → AfterIn (pops k e left o)
  unfolding pops
  pops-follow k e left o = pick_in _ _ _ (collected_in k o) (on_in _ _)

  advanced_in : (k : Owner) (e : Epoch) (o : Participant) → AfterIn (advanced k e o)
  unfolding advanced
  advanced_in k e o = pops-follow k e collect_steps o

  walk-follow : (t : Try) (pred : Pred) (q : Ptr) (o : Participant) → AfterIn (walk t pred q o)
  unfolding walk
  walk-follow t pred Ptr.Null o = on_in _ _
  walk-follow t pred (Ptr.At s) o = on_in _ _

  placed_in : (d : Deferring) (o : Participant) → ThenIn (Then.Defer d) → AfterIn (placed d o)
  unfolding placed ThenIn waiting WorkIn ItemIn
  placed_in (Deferring.Token token) o h = also_in _ _ h
  placed_in (Deferring.Slot t c succ) o h = also_in _ _ h.0.1
  placed_in (Deferring.Node p head next) o h = also_in _ _ h.1

  pub defer_in : (d : Deferring) (o : Participant) → ThenIn (Then.Defer d) → AfterIn (defer d o)
  unfolding defer
  defer_in d o h = pick_in _ _ _ (placed_in d _ h) (on_in _ _)

  pushed_in : (f : Then) (o : Participant) → ThenIn f → AfterIn (pushed f o)
  unfolding pushed
  pushed_in (Then.Defer d) o h = defer_in d o h
  pushed_in Then.Flush o h = on_in _ _
  pushed_in Then.Finalize o h = on_in _ _

  ruleset within = (on_in, done_in, also_in, pick_in, collected_in, finalize_in, pops-follow, advanced_in, walk-follow, defer_in, pushed_in)

  -- the work after the access of a place in range
  pub follows_in : (p : ℕ) (spare : Node) (sealed : Node → ℕ) (o : Participant) (pl : Place) (seen : Seen) → spare.0 < M → PlaceIn pl
      → AfterIn (follows (rule (slot p) spare sealed o pl) seen)
  unfolding follows rule insert delete iterate push pop pin_epoch pin_word pin_counted unpin_word repin advance_epoch advance_word advance_store final_word
      PlaceIn WalkIn PopIn ThenIn seal_bag WorkIn
  follows_in p spare sealed o Place.Rest seen hs h = search within
  follows_in p spare sealed o (Place.Register RegisterAt.Head) seen hs h = search within
  follows_in p spare sealed o (Place.Register (RegisterAt.Next next)) seen hs h = search within
  follows_in p spare sealed o (Place.Register (RegisterAt.Link next)) seen hs h = search within
  follows_in p spare sealed o (Place.PinEpoch k) seen hs h = search within
  follows_in p spare sealed o (Place.PinWord k e) seen hs h = search within
  follows_in p spare sealed o (Place.Repin RepinAt.Word) seen hs h = search within
  follows_in p spare sealed o (Place.Repin (RepinAt.Epoch e)) seen hs h = search within
  follows_in p spare sealed o (Place.Repin (RepinAt.Store e)) seen hs h = search within
  follows_in p spare sealed o Place.UnpinWord seen hs h = search within
  follows_in p spare sealed o (Place.AdvanceEpoch k) seen hs h = search within
  follows_in p spare sealed o (Place.Walk t WalkAt.Head) seen hs h = search within
  follows_in p spare sealed o (Place.Walk t (WalkAt.Next c)) seen hs h = search within
  follows_in p spare sealed o (Place.Walk t (WalkAt.Unlink c succ)) seen hs h = search within
  follows_in p spare sealed o (Place.Walk t WalkAt.Stalled) seen hs h = search within
  follows_in p spare sealed o (Place.AdvanceWord t curr succ) seen hs h = search within
  follows_in p spare sealed o (Place.AdvanceStore t) seen hs h = search within
  follows_in p spare sealed o (Place.Pop q PopAt.Head) seen hs h = search within
  follows_in p spare sealed o (Place.Pop q (PopAt.Next head)) seen hs h = search within
  follows_in p spare sealed o (Place.Pop q (PopAt.Exchange head next)) seen hs h = search within
  follows_in p spare sealed o (Place.Pop q (PopAt.Tail head next)) seen hs h = search within
  follows_in p spare sealed o (Place.Pop q (PopAt.TailMove head next)) seen hs h = search within
  follows_in p spare sealed o (Place.Push f PushAt.Epoch) seen hs h = search within
  follows_in p spare sealed o (Place.Push f (PushAt.Tail new)) seen hs h = search within
  follows_in p spare sealed o (Place.Push f (PushAt.Next new onto)) seen hs h = search within
  follows_in p spare sealed o (Place.Push f (PushAt.Help new onto next)) seen hs h = search within
  follows_in p spare sealed o (Place.Push f (PushAt.Link new onto)) seen hs h = search within
  follows_in p spare sealed o (Place.Push f (PushAt.Move new onto)) seen hs h = search within
  follows_in p spare sealed o Place.FinalWord seen hs h = search within
  follows_in p spare sealed o Place.FinalTag seen hs h = search within
