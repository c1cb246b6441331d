-- What a step or a call does to everything that is counted: what waits in p's place, the nodes that p holds, the queue's head. Ten kinds, each
-- with the place that does it, and what is retired by it (`gained`). All that is counted goes by these ten and not by the thirty places.
-- Assumes nothing.
use mathlib.Core.Path.{◌≡◌, refl, sym, ◌∙◌}
use mathlib.Core.Logic.{◌≢◌}
use mathlib.Core.Bool.{Bool, true, false}
use mathlib.Core.Option.{Option, none, some}
use Prim.Native.Nat.{ℕ, ◌-◌}
use lib.Dec.{eqb}
use borrow.Author.Tests.{eqb-false}
use Rattle.definition.specs.Base.{branch}
use Rattle.definition.specs.Links.{link, pointer}
use Rattle.definition.specs.Flow as Flow
use Rattle.definition.specs.Flow.{collect_steps, on, done, also, finalize, collected, advanced, walk, waiting, placed, defer, pushed}
use Rattle.definition.specs.Tables.{Shared, read, write}
use Rattle.definition.specs.Rule.{asks, follows, sees, leaves}
use Rattle.definition.specs.List.{insert, delete, iterate, pred_word}
use Rattle.definition.specs.Queue.{seal_bag, push, pop}
use Rattle.definition.specs.Internal.{pin_epoch, pin_word, pin_counted, unpin_word, repin, advance_epoch, advance_word, advance_store, final_word, rule}
use Rattle.definition.specs.Calls.{begins, opens}
use Rattle.definition.proofs.Base.{branch_ind}
use Rattle.theorems.proofs.Leads.{Leads, leads}
use Rattle.theorems.proofs.Ghost.{Turn, turn_of}
use Rattle.theorems.proofs.Invariant.{waiting_item, taken_node, old_head, popped_node}
use Rattle.theorems.proofs.Types.{Epoch, Node, Ptr, Pred, Cursor, Item, Owner, Try, Pops, Deferring, Then, RegisterAt, RepinAt, WalkAt, PopAt, PushAt, Place, Participant, Work, After, Call}

-- what a step retires: the slot that it unlinked; the old head of its pop, once the tail is known to be elsewhere or was moved
unfoldable pub gained : Place → (won : Bool) → (tail : ℕ) → Option Item
gained Place.Rest won tail = none
gained (Place.Register a) won tail = none
gained (Place.PinEpoch k) won tail = none
gained (Place.PinWord k e) won tail = none
gained (Place.Repin a) won tail = none
gained Place.UnpinWord won tail = none
gained (Place.AdvanceEpoch k) won tail = none
gained (Place.Walk t WalkAt.Head) won tail = none
gained (Place.Walk t (WalkAt.Next c)) won tail = none
gained (Place.Walk t (WalkAt.Unlink c succ)) won tail = branch won (some (Item.Slot c.curr)) none
gained (Place.Walk t WalkAt.Stalled) won tail = none
gained (Place.AdvanceWord t curr succ) won tail = none
gained (Place.AdvanceStore t) won tail = none
gained (Place.Pop q PopAt.Head) won tail = none
gained (Place.Pop q (PopAt.Next head)) won tail = none
gained (Place.Pop q (PopAt.Exchange head next)) won tail = none
gained (Place.Pop q (PopAt.Tail head next)) won tail = branch (eqb tail (link head.0)) none (some (Item.Node head))
gained (Place.Pop q (PopAt.TailMove head next)) won tail = some (Item.Node head)
gained (Place.Push f a) won tail = none
gained Place.FinalWord won tail = none
gained Place.FinalTag won tail = none

-- a call retires the token that it defers
unfoldable pub gained_by : Call → Option Item
gained_by Call.Acquire = none
gained_by Call.Release = none
gained_by Call.Pin = none
gained_by Call.Unpin = none
gained_by Call.Repin = none
gained_by (Call.Defer token) = some (Item.Token token)
gained_by Call.Flush = none

-- a place where nothing waits and no node is held
unfoldable pub Bare : Place → Type 0
Bare pl = (waiting_item pl ≡ none) × ((taken_node pl ≡ none) × ((old_head pl ≡ none) × (popped_node pl ≡ none)))

-- two places with the same waiting and the same nodes held
pub record Same (pl pl' : Place) : Type 0 where
  pub waits : waiting_item pl' ≡ waiting_item pl
  pub taken : taken_node pl' ≡ taken_node pl
  pub old : old_head pl' ≡ old_head pl
  pub popped : popped_node pl' ≡ popped_node pl

-- the work with which an item comes into the bag
unfoldable pub work_of : Deferring → Work
work_of (Deferring.Token token) = Work.Put (Item.Token token)
work_of (Deferring.Slot t c succ) = Work.Put (Item.Slot c.curr)
work_of (Deferring.Node p head next) = Work.PutThenFree (Item.Node head) next

-- a deferring ends with its item in the bag, or waits for a push
pub data Deferred (d : Deferring) : Work → Place → Type 0 where
  stored : {pl' : Place} → Bare pl' → Deferred d (work_of d) pl'
  waits : Deferred d Work.Nothing (Place.Push (Then.Defer d) PushAt.Epoch)

-- the tail has left the node: it was elsewhere, or was moved to the node's next
pub data Left (head next : ℕ) (s s' : Shared) : Type 0 where
  elsewhere : s.queue_tail ≢ link head → s'.queue_tail ≡ s.queue_tail → Left head next s s'
  moved : s.queue_tail ≡ link head → s'.queue_tail ≡ link next → Left head next s s'

-- from the shared words s and a place to s', a work and a place; with the turn of the ghost and what is retired
pub data Kind (p : ℕ) (spare : Node) (s s' : Shared) : Place → Turn → Option Item → Work → Place → Type 0 where
  idle : {pl pl' : Place} → s'.queue_head ≡ s.queue_head → Same pl pl' → Kind p spare s s' pl Turn.quiet none Work.Nothing pl'
  enlists : {next : Ptr} {pl' : Place} → s'.queue_head ≡ s.queue_head → Bare pl'
      → Kind p spare s s' (Place.Register (RegisterAt.Link next)) (Turn.enlists p) none Work.Nothing pl'
  seals : {f : Then} → s' ≡ s
      → Kind p spare s s' (Place.Push f PushAt.Epoch) Turn.quiet none (Work.Seal spare (record { 0 = s.global_epoch })) (Place.Push f (PushAt.Tail spare))
  links : {f : Then} {new onto : Node} → s'.queue_head ≡ s.queue_head
      → Kind p spare s s' (Place.Push f (PushAt.Link new onto)) (Turn.links new.0) none Work.Nothing (Place.Push f (PushAt.Move new onto))
  pops : {q : Pops} {head next : Node} → s.queue_head ≡ link head.0 → s'.queue_head ≡ link next.0
      → Kind p spare s s' (Place.Pop q (PopAt.Exchange head next)) Turn.quiet none Work.Nothing (Place.Pop q (PopAt.Tail head next))
  unlinks : {t : Try} {c : Cursor} {succ : Ptr} {w : Work} {pl' : Place} → s'.queue_head ≡ s.queue_head → read (pred_word c.pred) s ≡ link c.curr.0
      → Deferred (Deferring.Slot t c succ) w pl' → Kind p spare s s' (Place.Walk t (WalkAt.Unlink c succ)) (Turn.unlinks c.curr.0) (some (Item.Slot c.curr)) w pl'
  retires : {q : Pops} {head next : Node} {w : Work} {pl' : Place} → s'.queue_head ≡ s.queue_head → Left head.0 next.0 s s'
      → Deferred (Deferring.Node q head next) w pl' → Kind p spare s s' (Place.Pop q (PopAt.Tail head next)) Turn.quiet (some (Item.Node head)) w pl'
  moves : {q : Pops} {head next : Node} {w : Work} {pl' : Place} → s'.queue_head ≡ s.queue_head → Left head.0 next.0 s s'
      → Deferred (Deferring.Node q head next) w pl' → Kind p spare s s' (Place.Pop q (PopAt.TailMove head next)) Turn.quiet (some (Item.Node head)) w pl'
  pushes : {d : Deferring} {new onto : Node} {w : Work} {pl' : Place} → s'.queue_head ≡ s.queue_head
      → Deferred d w pl' → Kind p spare s s' (Place.Push (Then.Defer d) (PushAt.Move new onto)) Turn.quiet none w pl'
  accepts : {token : ℕ} {w : Work} {pl' : Place} → s' ≡ s → Deferred (Deferring.Token token) w pl'
      → Kind p spare s s' Place.Rest Turn.quiet (some (Item.Token token)) w pl'

-- ---- what follows an access: no work and a bare place, for the functions of specs/Flow that end or begin something

-- no work, and a bare place
unfoldable Bares : After → Type 0
Bares a = (a.work ≡ Work.Nothing) × Bare a.participant.place

on_bares : (pl : Place) (o : Participant) → Bare pl → Bares (on pl o)
unfolding Bares on
on_bares pl o h = (refl, h)

done_bares : (v : ℕ) (o : Participant) → Bares (done v o)
unfolding Bares Bare done waiting_item taken_node old_head popped_node
done_bares v o = (refl, (refl, (refl, (refl, refl))))

pick_bares : (b : Bool) (x y : After) → Bares x → Bares y → Bares (branch b x y)
pick_bares b x y h k = branch_ind Bares b (λ _. h) (λ _. k)

collected_bares : (k : Owner) (o : Participant) → Bares (collected k o)
unfolding collected Bare waiting_item taken_node old_head popped_node
collected_bares Owner.Pin o = done_bares 0 o
collected_bares Owner.Flush o = done_bares 0 o
collected_bares Owner.Finalize o = on_bares _ o (refl, (refl, (refl, refl)))

finalize_bares : (o : Participant) → Bares (finalize o)
unfolding finalize Bare waiting_item taken_node old_head popped_node
finalize_bares o = on_bares _ _ (refl, (refl, (refl, refl)))

pops_bares : (k : Owner) (e : Epoch) (left : ℕ) (o : Participant) → Bares (Flow.pops k e left o)
unfolding Flow.pops Bare waiting_item taken_node old_head popped_node
pops_bares k e left o = pick_bares _ _ _ (collected_bares k o) (on_bares _ o (refl, (refl, (refl, refl))))

advanced_bares : (k : Owner) (e : Epoch) (o : Participant) → Bares (advanced k e o)
unfolding advanced
advanced_bares k e o = pops_bares k e collect_steps o

walk_bares : (t : Try) (pred : Pred) (q : Ptr) (o : Participant) → Bares (walk t pred q o)
unfolding walk Bare waiting_item taken_node old_head popped_node
walk_bares t pred Ptr.Null o = on_bares _ o (refl, (refl, (refl, refl)))
walk_bares t pred (Ptr.At i) o = on_bares _ o (refl, (refl, (refl, refl)))

ruleset bares = (on_bares, done_bares, pick_bares, collected_bares, finalize_bares, pops_bares, advanced_bares, walk_bares)

-- a deferring, as a fact about what follows
unfoldable Defers : Deferring → After → Type 0
Defers d a = Deferred d a.work a.participant.place

-- an item that is put, with nothing left waiting; one that is placed; one that waits; each deferring
bare_stored : (d : Deferring) (w : Work) (a : After) → work_of d ≡ w → Bares a → Defers d (also w a)
unfolding Defers Bares also
bare_stored d w a e h = rw (← e) (Deferred.stored h.1)

placed-defers : (d : Deferring) (o : Participant) → Defers d (placed d o)
unfolding placed work_of waiting
placed-defers (Deferring.Token token) o = bare_stored (Deferring.Token token) _ _ refl (done_bares _ o)
placed-defers (Deferring.Slot t c succ) o = bare_stored (Deferring.Slot t c succ) _ _ refl (walk_bares t c.pred succ o)
placed-defers (Deferring.Node p head next) o = bare_stored (Deferring.Node p head next) _ _ refl (pops_bares p.owner p.epoch (p.left - 1) o)

waits-defers : (d : Deferring) (o : Participant) → Defers d (on (Place.Push (Then.Defer d) PushAt.Epoch) o)
unfolding Defers on
waits-defers d o = Deferred.waits

defers : (d : Deferring) (o : Participant) → Defers d (defer d o)
unfolding defer
defers d o = branch_ind (Defers d) _ (λ _. placed-defers d _) (λ _. waits-defers d o)

-- two places of one push: what waits behind it, and the node that was popped before it, are the same
waits_push : (f : Then) (at at' : PushAt) → waiting_item (Place.Push f at') ≡ waiting_item (Place.Push f at)
unfolding waiting_item
waits_push (Then.Defer d) at at' = refl
waits_push Then.Flush at at' = refl
waits_push Then.Finalize at at' = refl

popped_push : (f : Then) (at at' : PushAt) → popped_node (Place.Push f at') ≡ popped_node (Place.Push f at)
unfolding popped_node
popped_push (Then.Defer (Deferring.Token token)) at at' = refl
popped_push (Then.Defer (Deferring.Slot t c succ)) at at' = refl
popped_push (Then.Defer (Deferring.Node p head next)) at at' = refl
popped_push Then.Flush at at' = refl
popped_push Then.Finalize at at' = refl

same_push : (f : Then) (at at' : PushAt) → taken_node (Place.Push f at') ≡ taken_node (Place.Push f at) → Same (Place.Push f at) (Place.Push f at')
unfolding old_head
same_push f at at' h = record { waits = waits_push f at at'; taken = h; old = refl; popped = popped_push f at at' }

-- ---- the kind of each place's step, and of each call

module _ (p : ℕ) (spare : Node) (s : Shared) where
  -- the kind, as a fact about what follows
  unfoldable Does : Place → Turn → Option Item → Shared → After → Type 0
  Does pl v i s' a = Kind p spare s s' pl v i a.work a.participant.place

  -- a bare place goes to a bare place
  goes-bare : (pl : Place) (s' : Shared) (a : After) → s'.queue_head ≡ s.queue_head → Bare pl → Bares a → Does pl Turn.quiet none s' a
  unfolding Does Bares Bare
  goes-bare pl s' a h b k = rw k.0 (Kind.idle h (record
      { waits = k.1.0 ∙ sym b.0; taken = k.1.1.0 ∙ sym b.1.0; old = k.1.1.1.0 ∙ sym b.1.1.0; popped = k.1.1.1.1 ∙ sym b.1.1.1 }))

  -- a place goes to one with the same waiting and nodes
  goes_same : (pl pl' : Place) (s' : Shared) (o : Participant) → s'.queue_head ≡ s.queue_head → Same pl pl' → Does pl Turn.quiet none s' (on pl' o)
  unfolding Does on
  goes_same pl pl' s' o h k = Kind.idle h k

  goes_push : (f : Then) (at at' : PushAt) (s' : Shared) (o : Participant) → s'.queue_head ≡ s.queue_head → taken_node (Place.Push f at') ≡ taken_node (Place.Push f at)
      → Does (Place.Push f at) Turn.quiet none s' (on (Place.Push f at') o)
  goes_push f at at' s' o h k = goes_same _ _ s' o h (same_push f at at' k)

  -- the exchange of an insertion, done
  goes_enlists : (next : Ptr) (s' : Shared) (a : After) → s'.queue_head ≡ s.queue_head → Bares a → Does (Place.Register (RegisterAt.Link next)) (Turn.enlists p) none s' a
  unfolding Does Bares
  goes_enlists next s' a h k = rw k.0 (Kind.enlists h k.1)

  -- a push that was begun for an item ends; a push ends
  goes-deferred : (d : Deferring) (new onto : Node) (s' : Shared) (o : Participant) → s'.queue_head ≡ s.queue_head
      → Does (Place.Push (Then.Defer d) (PushAt.Move new onto)) Turn.quiet none s' (defer d o)
  unfolding Does Defers
  goes-deferred d new onto s' o h = Kind.pushes h (defers d o)

  goes-pushed : (f : Then) (new onto : Node) (s' : Shared) (o : Participant) → s'.queue_head ≡ s.queue_head
      → Does (Place.Push f (PushAt.Move new onto)) Turn.quiet none s' (pushed f o)
  unfolding pushed Bare waiting_item taken_node old_head popped_node
  goes-pushed (Then.Defer d) new onto s' o h = goes-deferred d new onto s' o h
  goes-pushed Then.Flush new onto s' o h = goes-bare _ s' _ h (refl, (refl, (refl, refl))) (search bares)
  goes-pushed Then.Finalize new onto s' o h = goes-bare _ s' _ h (refl, (refl, (refl, refl))) (search bares)

  -- the tail load of a pop
  goes_tail : (q : Pops) (head next : Node) (o : Participant) (b : Bool) → eqb s.queue_tail (link head.0) ≡ b
      → Does (Place.Pop q (PopAt.Tail head next)) Turn.quiet (branch b none (some (Item.Node head))) s
      (branch b (on (Place.Pop q (PopAt.TailMove head next)) o) (defer (Deferring.Node q head next) o))
  unfolding branch
  goes_tail q head next o true e = goes_same _ _ s o refl (unfold waiting_item taken_node old_head popped_node in (record { waits = refl; taken = refl; old = refl; popped = refl }))
  goes_tail q head next o false e = unfold Does Defers in (Kind.retires refl (Left.elsewhere (eqb-false _ _ e) refl) (defers (Deferring.Node q head next) o))

  -- the exchange of a pop's tail, done or not; that of an unlinking, done
  goes_moves : (q : Pops) (head next : Node) (s' : Shared) (o : Participant) → s'.queue_head ≡ s.queue_head → Left head.0 next.0 s s'
      → Does (Place.Pop q (PopAt.TailMove head next)) Turn.quiet (some (Item.Node head)) s' (defer (Deferring.Node q head next) o)
  unfolding Does Defers
  goes_moves q head next s' o h k = Kind.moves h k (defers (Deferring.Node q head next) o)

  goes_unlinks : (t : Try) (c : Cursor) (succ : Ptr) (s' : Shared) (o : Participant) → s'.queue_head ≡ s.queue_head → read (pred_word c.pred) s ≡ link c.curr.0
      → Does (Place.Walk t (WalkAt.Unlink c succ)) (Turn.unlinks c.curr.0) (some (Item.Slot c.curr)) s' (defer (Deferring.Slot t c succ) o)
  unfolding Does Defers
  goes_unlinks t c succ s' o h e = Kind.unlinks h e (defers (Deferring.Slot t c succ) o)

  -- the word of a predecessor is not the queue's head
  pred_head : (q : Pred) (v : ℕ) → (write (pred_word q) v s).queue_head ≡ s.queue_head
  unfolding write pred_word
  pred_head Pred.Head v = refl
  pred_head (Pred.Entry i) v = refl

  -- one or the other, for a push
  goes-pick : (pl : Place) (b : Bool) (x y : After) → Does pl Turn.quiet none s x → Does pl Turn.quiet none s y → Does pl Turn.quiet none s (branch b x y)
  goes-pick pl b x y h k = branch_ind (Does pl Turn.quiet none s) b (λ _. h) (λ _. k)

  ruleset kinds = (goes-bare, goes_same, goes_push, goes_enlists, goes-pushed, goes-pick, bares)

  -- the kind of a step, for `leads`
  abbrev Makes : Place → Bool → Shared → After → Type 0
  Makes pl won s' a = Does pl (turn_of p pl won) (gained pl won s.queue_tail) s' a

  module _ (sealed : Node → ℕ) (o : Participant) where
    makes : (pl : Place) → Leads (Makes pl) s (rule (record { 0 = p }) spare sealed o pl)
    unfolding Leads rule insert delete iterate push pop pin_epoch pin_word pin_counted unpin_word repin advance_epoch advance_word advance_store final_word turn_of gained branch read write
        Bare waiting_item taken_node old_head popped_node
    makes Place.Rest = search kinds
    makes (Place.Register RegisterAt.Head) = search kinds
    makes (Place.Register (RegisterAt.Next next)) = search kinds
    makes (Place.Register (RegisterAt.Link next)) = search kinds
    makes (Place.PinEpoch k) = search kinds
    makes (Place.PinWord k e) = search kinds depth 8
    makes (Place.Repin RepinAt.Word) = search kinds
    makes (Place.Repin (RepinAt.Epoch e)) = search kinds
    makes (Place.Repin (RepinAt.Store e)) = search kinds
    makes Place.UnpinWord = search kinds
    makes (Place.AdvanceEpoch k) = search kinds
    makes (Place.Walk t WalkAt.Head) = search kinds
    makes (Place.Walk t (WalkAt.Next c)) = search kinds
    makes (Place.Walk t (WalkAt.Unlink c succ)) = (λ e. goes_unlinks t c succ _ o (pred_head c.pred (pointer succ)) e, λ _. search kinds)
    makes (Place.Walk t WalkAt.Stalled) = search kinds
    makes (Place.AdvanceWord t curr succ) = search kinds
    makes (Place.AdvanceStore t) = search kinds
    makes (Place.Pop q PopAt.Head) = search kinds
    makes (Place.Pop q (PopAt.Next head)) = search kinds depth 8
    makes (Place.Pop q (PopAt.Exchange head next)) = (λ e. unfold Does on in (Kind.pops e refl), λ _. search kinds)
    makes (Place.Pop q (PopAt.Tail head next)) = goes_tail q head next o (eqb s.queue_tail (link head.0)) refl
    makes (Place.Pop q (PopAt.TailMove head next)) =
        (λ e. goes_moves q head next _ o refl (Left.moved e refl), λ ne. goes_moves q head next _ o refl (Left.elsewhere ne refl))
    makes (Place.Push f PushAt.Epoch) = unfold Does seal_bag also on in (Kind.seals refl)
    makes (Place.Push f (PushAt.Tail new)) = search kinds
    makes (Place.Push f (PushAt.Next new onto)) = search kinds
    makes (Place.Push f (PushAt.Help new onto next)) = search kinds
    makes (Place.Push f (PushAt.Link new onto)) = (λ _. unfold Does on in (Kind.links refl), λ _. search kinds)
    makes (Place.Push f (PushAt.Move new onto)) = search kinds
    makes Place.FinalWord = search kinds
    makes Place.FinalTag = search kinds

    -- the kind of each step
    pub step_kind : (pl : Place) → let r = rule (record { 0 = p }) spare sealed o pl in
        Kind p spare s (leaves (asks r) s) pl (turn_of p pl (sees (asks r) s).won) (gained pl (sees (asks r) s).won s.queue_tail)
        (follows r (sees (asks r) s)).work (follows r (sees (asks r) s)).participant.place
    step_kind pl = unfold Does in (leads (Makes pl) s (rule (record { 0 = p }) spare sealed o pl) (makes pl))

  -- a call, of a participant at rest
  accepts_token : (token : ℕ) (o : Participant) → Does Place.Rest Turn.quiet (some (Item.Token token)) s (defer (Deferring.Token token) o)
  unfolding Does Defers
  accepts_token token o = Kind.accepts refl (defers (Deferring.Token token) o)

  -- each call
  call-does : (c : Call) (o : Participant) → Does Place.Rest Turn.quiet (gained_by c) s (begins c o)
  unfolding begins gained_by Bare waiting_item taken_node old_head popped_node
  call-does Call.Acquire o = search kinds
  call-does Call.Release o = search kinds
  call-does Call.Pin o = search kinds
  call-does Call.Unpin o = search kinds
  call-does Call.Repin o = search kinds
  call-does (Call.Defer token) o = accepts_token token o
  call-does Call.Flush o = search kinds

  -- the kind of each call
  pub call_kind : (N : ℕ) (c : Call) (o : Participant) (pl : Place) → pl ≡ Place.Rest
      → Kind p spare s s pl Turn.quiet (gained_by c) (opens N c o).work (opens N c o).participant.place
  unfolding opens
  call_kind N c o pl e = rw e (unfold Does in (call-does c _))
