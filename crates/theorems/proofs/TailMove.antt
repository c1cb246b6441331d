-- No pop ever moves the tail: in a run from a fresh start nobody stands at the pop's tail move. The tail is the last node or the one before.
-- While it is the one before, who linked the last node is still about to move the tail from it (`Mover`), and is pinned: no later than the
-- seal of that node, for it was pinned already when it sealed. A pop that exchanged the tail's node for the last one would have found that seal
-- two epochs old, but the global epoch is within one of every pin. So a pop takes the head only from a node that the tail has left, and its tail
-- load never gives the old head. Beside the invariant of Inv, which it needs and does not change. Leans on `Nodes` (what a move does to nodes),
-- `Change` and `Moves` (what a step can do), `Epochs` (the pins are near), `Runs` (a run is such moves). Assumes nothing.
use mathlib.Core.Path.{◌≡◌, refl, ap, sym, ◌∙◌}
use mathlib.Core.Logic.{◌≢◌}
use mathlib.Core.Bool.{Bool, true, true≢false}
use mathlib.Core.List.{List, [], ◌∷◌}
use mathlib.Core.Option.{Option, none, some}
use Prim.Native.Nat.{ℕ, ◌+◌, ◌*◌, ◌^◌, ◌≤◌, ◌<◌}
use native.Mathlib.Omega.{arith}
use lib.Dec.{eqb}
use borrow.Author.Tests.{eqb-true}
use Rattle.definition.specs.Base.{Tab, least}
use Rattle.definition.specs.Links.{null, link, is_null, index}
use Rattle.definition.specs.Tables.{Tables, Shared, read, write}
use Rattle.definition.specs.Flow.{on, also, defer, pushed}
use Rattle.definition.specs.Rule.{asks, follows, sees, leaves}
use Rattle.definition.specs.List.{pred_word}
use Rattle.definition.specs.Queue.{seal_bag, push, pop}
use Rattle.definition.specs.Internal.{rule}
use Rattle.definition.specs.Calls.{opens}
use Rattle.definition.specs.Public.{new_participant}
use Rattle.definition.specs.Codec.{participant_of}
use Rattle.definition.specs.Ranges.{fresh}
use Rattle.definition.specs.Step.{Out}
use Rattle.definition.proofs.Base.{same?, put_ind, put_same, put_other, branch_ind}
use Rattle.definition.proofs.Codec.{place_back, index-link}
use Rattle.theorems.specs.OnTables.{Event, does, after, advances}
use Rattle.theorems.proofs.Machine.{Machine, Sealed, view, with_shared, works, followed}
use Rattle.theorems.proofs.Leads.{Leads, leads}
use Rattle.theorems.proofs.Ghost.{Use, NodeUse, Ghost, Turn, turn_of, num, G, head_of, tail_of, pos_turned, last_turned, moved}
use Rattle.theorems.proofs.Invariant.{Of, pop_epoch, taken_node, old_head, Pinned, SafeNode, HoldsPop, HoldsPush, HoldsAt}
use Rattle.theorems.proofs.Change.{MovesTail, Change}
use Rattle.theorems.proofs.Inv.{Inv, Steps, Calls, Registers, Misses, missed, view_step, view_call, view_back}
use Rattle.theorems.proofs.Inv.{rule_of, won_of, left_of, after_of, goes, goes_ghost, stepped, stepped_ghost, called, called_ghost, registered, registered_ghost}
use Rattle.theorems.proofs.Linked.{free_unused, pinned-linked, step-change}
use Rattle.theorems.proofs.Moves.{Deferred, Kind}
use Rattle.theorems.proofs.Moves as Mv
use Rattle.theorems.proofs.Queue.{Lined, spare≢taken, goes_to, last_is_tail}
use Rattle.theorems.proofs.Nodes.{Onward, Sound, moves_next, null_is, lined, tail_in, head_in, free_spare, kind_of, step_turned, step-sound, onward-step, call-sound, onward-call, onward-register, worked_ends, still}
use Rattle.theorems.proofs.QueuePlaces.{in_queue?, by_queue, BareAt, Bare, out_bare, collected-bare, placed-bare, bare-after}
use Rattle.theorems.proofs.HeldNodes.{call_gpin, call-bare, queue-pinned, place_mine, place_other, step_gpin, call-place_mine, call-place_other}
use Rattle.theorems.proofs.Epochs.{none_not_some, of_none, of_known}
use Rattle.theorems.proofs.Popped.{some_same}
use Rattle.theorems.proofs.Start.{start_ghost, inv_start}
use Rattle.theorems.proofs.Stored.{stored_fresh}
use Rattle.theorems.proofs.Checks.{view_register}
use Rattle.theorems.proofs.Misses.{each, reads}
use Rattle.theorems.proofs.Runs.{Happens, happens, ghost_after, inv_happens, stored_happens, epoch-does, fresh-epoch}
use Rattle.theorems.proofs.Runs as R
use Rattle.theorems.proofs.Types.{Ptr, Slot, Node, Pred, Item, Pops, Deferring, Then, PopAt, PushAt, Place, Participant, Work, After, Call}

-- ---- places

-- any place but the pop's tail move
unfoldable pub NotMove : Place → Type 0
NotMove Place.Rest = Unit {0}
NotMove (Place.Register a) = Unit {0}
NotMove (Place.PinEpoch k) = Unit {0}
NotMove (Place.PinWord k e) = Unit {0}
NotMove (Place.Repin a) = Unit {0}
NotMove Place.UnpinWord = Unit {0}
NotMove (Place.AdvanceEpoch k) = Unit {0}
NotMove (Place.Walk t a) = Unit {0}
NotMove (Place.AdvanceWord t curr succ) = Unit {0}
NotMove (Place.AdvanceStore t) = Unit {0}
NotMove (Place.Pop q PopAt.Head) = Unit {0}
NotMove (Place.Pop q (PopAt.Next head)) = Unit {0}
NotMove (Place.Pop q (PopAt.Exchange head next)) = Unit {0}
NotMove (Place.Pop q (PopAt.Tail head next)) = Unit {0}
NotMove (Place.Pop q (PopAt.TailMove head next)) = ⊥
NotMove (Place.Push f a) = Unit {0}
NotMove Place.FinalWord = Unit {0}
NotMove Place.FinalTag = Unit {0}

-- a place that holds nothing of nodes has taken none, has no old head and is not the tail move
bare_carries : (pl : Place) → BareAt pl → (taken_node pl ≡ none) × ((old_head pl ≡ none) × NotMove pl)
unfolding BareAt taken_node old_head NotMove
bare_carries Place.Rest h = (refl, (refl, tt))
bare_carries (Place.Register a) h = (refl, (refl, tt))
bare_carries (Place.PinEpoch k) h = (refl, (refl, tt))
bare_carries (Place.PinWord k e) h = (refl, (refl, tt))
bare_carries (Place.Repin a) h = (refl, (refl, tt))
bare_carries Place.UnpinWord h = (refl, (refl, tt))
bare_carries (Place.AdvanceEpoch k) h = (refl, (refl, tt))
bare_carries (Place.Walk t a) h = (refl, (refl, tt))
bare_carries (Place.AdvanceWord t curr succ) h = (refl, (refl, tt))
bare_carries (Place.AdvanceStore t) h = (refl, (refl, tt))
bare_carries (Place.Pop q PopAt.Head) h = (refl, (refl, tt))
bare_carries (Place.Pop q (PopAt.Next head)) h = absurd h
bare_carries (Place.Pop q (PopAt.Exchange head next)) h = absurd h
bare_carries (Place.Pop q (PopAt.Tail head next)) h = absurd h
bare_carries (Place.Pop q (PopAt.TailMove head next)) h = absurd h
bare_carries (Place.Push f PushAt.Epoch) h = (refl, (refl, tt))
bare_carries (Place.Push f (PushAt.Tail new)) h = absurd h
bare_carries (Place.Push f (PushAt.Next new onto)) h = absurd h
bare_carries (Place.Push f (PushAt.Help new onto next)) h = absurd h
bare_carries (Place.Push f (PushAt.Link new onto)) h = absurd h
bare_carries (Place.Push f (PushAt.Move new onto)) h = absurd h
bare_carries Place.FinalWord h = (refl, (refl, tt))
bare_carries Place.FinalTag h = (refl, (refl, tt))

-- who has taken a node stands in the queue
taken-queue : (n : ℕ) (pl : Place) → taken_node pl ≡ some n → in_queue? pl ≡ true
unfolding in_queue?
taken-queue n = by_queue (λ pl. taken_node pl ≡ some n → in_queue? pl ≡ true) (λ q a e. refl) (λ f a e. refl)
    (λ pl out e. absurd (none_not_some n (sym (bare_carries pl (out_bare pl out)).0 ∙ e)))

-- ---- what follows is not the tail move

not_bare : (a : After) → Bare a → NotMove a.participant.place
unfolding Bare
not_bare a h = (bare_carries a.participant.place h).1.1

not_on : (pl : Place) (o : Participant) → NotMove pl → NotMove (on pl o).participant.place
unfolding on
not_on pl o h = h

not_begun : (f : Then) (a : PushAt) (o : Participant) → NotMove (on (Place.Push f a) o).participant.place
unfolding on NotMove
not_begun f a o = tt

not_defer : (d : Deferring) (o : Participant) → NotMove (defer d o).participant.place
unfolding defer
not_defer d o = branch_ind (λ (a : After). NotMove a.participant.place) _ (λ _. not_bare _ (placed-bare d _)) (λ _. not_begun (Then.Defer d) PushAt.Epoch o)

not_pushed : (f : Then) (o : Participant) → NotMove (pushed f o).participant.place
unfolding pushed
not_pushed (Then.Defer d) o = not_defer d o
not_pushed Then.Flush o = not_on _ o (unfold NotMove in tt)
not_pushed Then.Finalize o = not_on _ _ (unfold NotMove in tt)

module _ (s : Shared) where
  abbrev Keeps : Bool → Shared → After → Type 0
  Keeps won s' a = NotMove a.participant.place

  not_pop : (sealed : Node → ℕ) (q : Pops) (o : Participant) (a : PopAt) → NotMove (Place.Pop q a) → Of (λ n. s.queue_tail ≢ link n) (old_head (Place.Pop q a))
      → Leads Keeps s (pop sealed q o a)
  unfolding Leads pop NotMove Of old_head read
  not_pop sealed q o PopAt.Head h old = not_on _ o (unfold NotMove in tt)
  not_pop sealed q o (PopAt.Next head) h old = branch_ind (λ (a : After). NotMove a.participant.place) _ (λ _. not_bare _ (collected-bare q.owner o))
      (λ _. branch_ind (λ (a : After). NotMove a.participant.place) _ (λ _. not_on _ o (unfold NotMove in tt)) (λ _. not_bare _ (collected-bare q.owner o)))
  not_pop sealed q o (PopAt.Exchange head next) h old = ((λ _. not_on _ o (unfold NotMove in tt)), (λ _. not_on _ o (unfold NotMove in tt)))
  not_pop sealed q o (PopAt.Tail head next) h old = branch_ind (λ (a : After). NotMove a.participant.place) (eqb s.queue_tail (link head.0))
      (λ e. absurd (old (eqb-true s.queue_tail (link head.0) e))) (λ _. not_defer (Deferring.Node q head next) o)
  not_pop sealed q o (PopAt.TailMove head next) h old = absurd h

  not_push : (spare : Node) (f : Then) (o : Participant) (a : PushAt) → Leads Keeps s (push spare f o a)
  unfolding Leads push read
  not_push spare f o PushAt.Epoch = unfold seal_bag also on NotMove in tt
  not_push spare f o (PushAt.Tail new) = not_begun f _ o
  not_push spare f o (PushAt.Next new onto) =
      branch_ind (λ (a : After). NotMove a.participant.place) _ (λ _. not_begun f _ o) (λ _. not_begun f _ o)
  not_push spare f o (PushAt.Help new onto next) = ((λ _. not_begun f _ o), (λ _. not_begun f _ o))
  not_push spare f o (PushAt.Link new onto) = ((λ _. not_begun f _ o), (λ _. not_begun f _ o))
  not_push spare f o (PushAt.Move new onto) = ((λ _. not_pushed f o), (λ _. not_pushed f o))

  module _ (self : Slot) (spare : Node) (sealed : Node → ℕ) (o : Participant) where
    -- wherever a step begins, if the tail is not the old head
    not_after : (pl : Place) → NotMove pl → Of (λ n. s.queue_tail ≢ link n) (old_head pl)
        → NotMove (follows (rule self spare sealed o pl) (sees (asks (rule self spare sealed o pl)) s)).participant.place
    unfolding rule
    not_after = by_queue
        (λ pl. NotMove pl → Of (λ n. s.queue_tail ≢ link n) (old_head pl)
        → NotMove (follows (rule self spare sealed o pl) (sees (asks (rule self spare sealed o pl)) s)).participant.place)
        (λ q a h old. leads Keeps s (pop sealed q o a) (not_pop sealed q o a h old))
        (λ f a h old. leads Keeps s (push spare f o a) (not_push spare f o a))
        (λ pl out h old. not_bare _ (bare-after self spare sealed o pl _ out))

    -- the push's own move finds the tail where it expects it; its link finds no next
    move_wins : (pl : Place) (f : Then) (new onto : Node) → pl ≡ Place.Push f (PushAt.Move new onto) → s.queue_tail ≡ link onto.0
        → (leaves (asks (rule self spare sealed o pl)) s).queue_tail ≡ link new.0
    unfolding rule
    move_wins pl f new onto e at = rw e (leads (λ won s' a. s'.queue_tail ≡ link new.0) s (push spare f o (PushAt.Move new onto))
        (unfold Leads push read write in ((λ _. refl), (λ ne. absurd (ne at)))))

    link_wins : (pl : Place) (f : Then) (new onto : Node) → pl ≡ Place.Push f (PushAt.Link new onto) → s.node_next onto.0 ≡ null
        → (follows (rule self spare sealed o pl) (sees (asks (rule self spare sealed o pl)) s)).participant.place ≡ Place.Push f (PushAt.Move new onto)
    unfolding rule
    link_wins pl f new onto e at = rw e (leads (λ won s' a. a.participant.place ≡ Place.Push f (PushAt.Move new onto)) s (push spare f o (PushAt.Link new onto))
        (unfold Leads push read on in ((λ _. refl), (λ ne. absurd (ne at)))))

-- ---- what a change does to the tail

-- an unlinked entry's word is none of the queue
pred_tail : (pred : Pred) (w : ℕ) (s : Shared) → (write (pred_word pred) w s).queue_tail ≡ s.queue_tail
unfolding write pred_word
pred_tail Pred.Head w s = refl
pred_tail (Pred.Entry i) w s = refl

-- the tail and the last stay; or the tail is moved; or a node is linked
tail_cases : (R : Type 0) (p : ℕ) (pl : Place) (s : Shared) (last : ℕ) (pos : Tab ℕ) (v : Turn) (s' : Shared) → Change p pl s v s'
    → (last_turned v last ≡ last → pos_turned v last pos ≡ pos → s'.queue_tail ≡ s.queue_tail → R)
    → ((from to : ℕ) → MovesTail pl from to → last_turned v last ≡ last → pos_turned v last pos ≡ pos → s.queue_tail ≡ link from → s'.queue_tail ≡ link to → R)
    → ((f : Then) (new onto : Node) → pl ≡ Place.Push f (PushAt.Link new onto) → s.node_next onto.0 ≡ null → s'.queue_tail ≡ s.queue_tail → R)
    → R
unfolding write last_turned pos_turned
tail_cases R p pl s last pos v s' (Change.none i e) a b c = a (rw i refl) (rw i refl) (rw e refl)
tail_cases R p pl s last pos v s' (Change.advances t _ i e) a b c = a (rw i refl) (rw i refl) (rw e refl)
tail_cases R p pl s last pos v s' (Change.pins k w _ i e) a b c = a (rw i refl) (rw i refl) (rw e refl)
tail_cases R p pl s last pos v s' (Change.repins w _ i e) a b c = a (rw i refl) (rw i refl) (rw e refl)
tail_cases R p pl s last pos v s' (Change.unpins _ i e) a b c = a (rw i refl) (rw i refl) (rw e refl)
tail_cases R p pl s last pos v s' (Change.finals _ i e) a b c = a (rw i refl) (rw i refl) (rw e refl)
tail_cases R p pl s last pos v s' (Change.aims next _ i e) a b c = a (rw i refl) (rw i refl) (rw e refl)
tail_cases R p pl s last pos v s' (Change.enlists next _ i _ e) a b c = a (rw i refl) (rw i refl) (rw e refl)
tail_cases R p pl s last pos v s' (Change.unlinks t k succ _ i _ e) a b c = a (rw i refl) (rw i refl) (rw e (pred_tail k.pred _ s))
tail_cases R p pl s last pos v s' (Change.tags _ i e) a b c = a (rw i refl) (rw i refl) (rw e refl)
tail_cases R p pl s last pos v s' (Change.pops q head next _ i _ e) a b c = a (rw i refl) (rw i refl) (rw e refl)
tail_cases R p pl s last pos v s' (Change.tails from to at i won e) a b c = b from to at (rw i refl) (rw i refl) won (rw e refl)
tail_cases R p pl s last pos v s' (Change.links f new onto at i won e) a b c = c f new onto at won (rw e refl)

-- ---- what a move does to the taken node and the old head of who makes it

deferred_none : (d : Deferring) (w : Work) (pl : Place) → Deferred d w pl → (taken_node pl ≡ none) × (old_head pl ≡ none)
unfolding Mv.Bare taken_node old_head
deferred_none d w pl (Deferred.stored k) = (k.1.0, k.1.1.0)
deferred_none d w pl Deferred.waits = (refl, refl)

-- a node that is taken afterwards was taken, or is sealed into now
kind_taken : (R : Type 0) (p : ℕ) (spare : Node) (s s' : Shared) (pl : Place) (v : Turn) (i : Option Item) (w : Work) (pl' : Place) → Kind p spare s s' pl v i w pl'
    → (n : ℕ) → taken_node pl' ≡ some n → (taken_node pl ≡ some n → R)
    → (in_queue? pl ≡ true → w ≡ Work.Seal spare (record { 0 = s.global_epoch }) → some spare.0 ≡ some n → R) → R
unfolding Mv.Bare taken_node in_queue?
kind_taken R p spare s s' pl v i w pl' (Kind.idle h k) n e a b = a (sym k.taken ∙ e)
kind_taken R p spare s s' pl v i w pl' (Kind.enlists h k) n e a b = absurd (none_not_some n (sym k.1.0 ∙ e))
kind_taken R p spare s s' pl v i w pl' (Kind.seals h) n e a b = b refl refl e
kind_taken R p spare s s' pl v i w pl' (Kind.links h) n e a b = absurd (none_not_some n e)
kind_taken R p spare s s' pl v i w pl' (Kind.pops h k) n e a b = absurd (none_not_some n e)
kind_taken R p spare s s' pl v i w pl' (Kind.unlinks h _ k) n e a b = absurd (none_not_some n (sym (deferred_none _ w pl' k).0 ∙ e))
kind_taken R p spare s s' pl v i w pl' (Kind.retires h _ k) n e a b = absurd (none_not_some n (sym (deferred_none _ w pl' k).0 ∙ e))
kind_taken R p spare s s' pl v i w pl' (Kind.moves h _ k) n e a b = absurd (none_not_some n (sym (deferred_none _ w pl' k).0 ∙ e))
kind_taken R p spare s s' pl v i w pl' (Kind.pushes h k) n e a b = absurd (none_not_some n (sym (deferred_none _ w pl' k).0 ∙ e))
kind_taken R p spare s s' pl v i w pl' (Kind.accepts h k) n e a b = absurd (none_not_some n (sym (deferred_none _ w pl' k).0 ∙ e))

-- an old head afterwards was one, or is exchanged now
kind_old : (R : Type 0) (p : ℕ) (spare : Node) (s s' : Shared) (pl : Place) (v : Turn) (i : Option Item) (w : Work) (pl' : Place) → Kind p spare s s' pl v i w pl'
    → (n : ℕ) → old_head pl' ≡ some n → (old_head pl ≡ some n → R)
    → ((q : Pops) (head next : Node) → pl ≡ Place.Pop q (PopAt.Exchange head next) → s.queue_head ≡ link head.0 → some head.0 ≡ some n → R) → R
unfolding Mv.Bare old_head
kind_old R p spare s s' pl v i w pl' (Kind.idle h k) n e a b = a (sym k.old ∙ e)
kind_old R p spare s s' pl v i w pl' (Kind.enlists h k) n e a b = absurd (none_not_some n (sym k.1.1.0 ∙ e))
kind_old R p spare s s' pl v i w pl' (Kind.seals h) n e a b = absurd (none_not_some n e)
kind_old R p spare s s' pl v i w pl' (Kind.links h) n e a b = absurd (none_not_some n e)
kind_old R p spare s s' pl v i w pl' (Kind.pops h k) n e a b = b _ _ _ refl h e
kind_old R p spare s s' pl v i w pl' (Kind.unlinks h _ k) n e a b = absurd (none_not_some n (sym (deferred_none _ w pl' k).1 ∙ e))
kind_old R p spare s s' pl v i w pl' (Kind.retires h _ k) n e a b = absurd (none_not_some n (sym (deferred_none _ w pl' k).1 ∙ e))
kind_old R p spare s s' pl v i w pl' (Kind.moves h _ k) n e a b = absurd (none_not_some n (sym (deferred_none _ w pl' k).1 ∙ e))
kind_old R p spare s s' pl v i w pl' (Kind.pushes h k) n e a b = absurd (none_not_some n (sym (deferred_none _ w pl' k).1 ∙ e))
kind_old R p spare s s' pl v i w pl' (Kind.accepts h k) n e a b = absurd (none_not_some n (sym (deferred_none _ w pl' k).1 ∙ e))

-- ---- the clauses

-- who linked the last node while the tail is one behind: it is about to move the tail from where it is, and was pinned when it sealed the node
pub record Mover (N : ℕ) (m : Machine) (g : Ghost) : Type 0 where
  pub who : ℕ
  pub goal : Then
  pub new : Node
  pub onto : Node
  pub here : who < N
  pub stands : (m.own who).place ≡ Place.Push goal (PushAt.Move new onto)
  pub tail : onto.0 ≡ tail_of m.shared
  pub pin : g.gpin who ≤ num (m.bag new.0).epoch

pub record Behind (N M : ℕ) (m : Machine) (g : Ghost) : Type 0 where
  pub taken : (q : ℕ) → q < N → Of (λ n. g.gpin q ≤ num (m.bag n).epoch) (taken_node (m.own q).place)
  pub mover : g.last ≡ g.pos (tail_of m.shared) + 1 → Mover N m g
  pub left : (q : ℕ) → q < N → Of (λ n. g.pos n < g.pos (tail_of m.shared)) (old_head (m.own q).place)
  pub never : (q : ℕ) → q < N → NotMove (m.own q).place

module _ (N M : ℕ) (m : Machine) (g : Ghost) (inv : Inv N M m g) where
  line : Lined M (head_of m.shared) (tail_of m.shared) m.shared.node_next g.node_use g.pos g.last
  line = lined M m g inv.queued

  -- what anybody holds at its place
  holds : (q : ℕ) → q < N → (pl : Place) → (m.own q).place ≡ pl → HoldsAt N M m g (g.gpin q) pl
  holds q hq pl e = rw e at (inv.held.holds q hq)

  -- the mover's node is the next of the tail
  mover_next : (v : Mover N m g) → m.shared.node_next (tail_of m.shared) ≡ link v.new.0
  unfolding HoldsAt HoldsPush
  mover_next v = rw (← v.tail) (holds v.who v.here _ v.stands).1.1

  mover_at : (v : Mover N m g) → (g.node_use v.new.0 ≡ NodeUse.placed) × (g.pos v.new.0 ≡ g.pos (tail_of m.shared) + 1)
  mover_at v = goes_to line (tail_of m.shared) v.new.0 (tail_in N M v.who m g inv v.here) inv.queued.tail (omega arith) (mover_next v)

  -- and it is pinned
  mover_pinned : (v : Mover N m g) → Pinned m v.who
  unfolding in_queue?
  mover_pinned v = queue-pinned N M m g inv v.who v.here (rw v.stands refl)

  module _ (b : Behind N M m g) where
    -- the heart: a pop that can exchange the head finds that the tail has left it
    exchange-left : (p : ℕ) → p < N → (q : Pops) (head next : Node) → (m.own p).place ≡ Place.Pop q (PopAt.Exchange head next) → m.shared.queue_head ≡ link head.0
        → g.pos head.0 < g.pos (tail_of m.shared)
    unfolding HoldsAt HoldsPop SafeNode
    exchange-left p hp q head next at won =
        let h = holds p hp (Place.Pop q (PopAt.Exchange head next)) at in
        let is : head_of m.shared ≡ head.0 = ap index won ∙ index-link head.0 in
        let to : m.shared.node_next (head_of m.shared) ≡ link next.0 = rw is h.1.0 in
        let k = goes_to line (head_of m.shared) next.0 (head_in N M p m g inv hp) inv.queued.head (omega arith) to in
        let after : g.pos next.0 ≡ g.pos head.0 + 1 = rw is at k.1 in
        let inr : next.0 < M = next_in head.0 next.0 h.0.0.0 h.1.0 in
        let le = inv.queued.pos_le next.0 inr k.0 in
        let near = inv.queued.near in
        let old : num (m.bag next.0).epoch + 2 ≤ num q.epoch.0 = h.1.1 is in
        let small : num q.epoch.0 ≤ G m = pop-le p hp q _ at in
        same? (g.pos head.0) (g.pos (tail_of m.shared))
        (λ e. absurd (clash next inr k.0 (omega arith) (omega arith) (omega arith)))
        (λ ne. apart-lt (g.pos head.0) (g.pos (tail_of m.shared)) (omega arith) ne)
      where
        apart-lt : (x y : ℕ) → x ≤ y → x ≢ y → x < y
        apart-lt x y le ne = let z : (x ≡ y) → ⊥ = ne in omega arith

        next_in : (x z : ℕ) → x < M → m.shared.node_next x ≡ link z → z < M
        next_in x z hx e = let k = inv.ranged.node_next x hx in let r = k.0 in unfold link in (let i : m.shared.node_next x ≡ 2 * (z + 1) = e in omega arith)

        pop-le : (p : ℕ) → p < N → (q : Pops) (a : PopAt) → (m.own p).place ≡ Place.Pop q a → num q.epoch.0 ≤ G m
        pop-le p hp q a e = unfold Of pop_epoch in (rw e at (inv.epochs.pop_le p hp))

        clash : (next : Node) → next.0 < M → g.node_use next.0 ≡ NodeUse.placed → g.last ≡ g.pos (tail_of m.shared) + 1 → g.pos next.0 ≡ g.last
            → num (m.bag next.0).epoch + 2 ≤ G m → ⊥
        clash next inr placed lag is_last old =
            let v = b.mover lag in
            let n = mover_at v in
            let at = n.1 in
            let same : v.new.0 ≡ next.0 = inv.queued.differ v.new.0 next.0 (next_in (tail_of m.shared) v.new.0 (tail_in N M v.who m g inv v.here) (mover_next v)) inr n.0 placed (omega arith) in
            let pin : g.gpin v.who ≤ num (m.bag next.0).epoch = rw same at v.pin in
            let near = inv.epochs.near v.who v.here (mover_pinned v) in
            omega arith

    -- where the tail has left the old head, the tail is not the old head
    tail_not : (q : ℕ) → q < N → Of (λ n. m.shared.queue_tail ≢ link n) (old_head (m.own q).place)
    tail_not q hq = of_known _ (old_head (m.own q).place) (λ n e same.
        let lt : g.pos n < g.pos (tail_of m.shared) = unfold Of in (rw e at (b.left q hq)) in
        let is : tail_of m.shared ≡ n = ap index same ∙ index-link n in
        let z : g.pos (tail_of m.shared) ≡ g.pos n = ap g.pos is in
        omega arith)

    -- ---- what stays, by any move
    module _ (m' : Machine) (g' : Ghost) (ow : Onward N M m g m'.shared m'.bag g') (seal : (x : ℕ) → g.node_use x ≢ NodeUse.spare → (m'.bag x).epoch ≡ (m.bag x).epoch) where
      taken-stays : (q : ℕ) → q < N → (n : ℕ) → taken_node (m.own q).place ≡ some n → g.gpin q ≤ num (m'.bag n).epoch
      taken-stays q hq n e =
          let t : (g.node_use n ≡ NodeUse.taken) × (is_null (m.shared.node_next n) ≡ true) = unfold Of in (rw e at (inv.used.taken q hq)) in
          let h : g.gpin q ≤ num (m.bag n).epoch = unfold Of in (rw e at (b.taken q hq)) in
          rw (seal n (λ i. spare≢taken (sym i ∙ t.0))) h

      left-stays : (q : ℕ) → q < N → (n : ℕ) → old_head (m.own q).place ≡ some n → g'.pos n < g'.pos (tail_of m'.shared)
      left-stays q hq n e =
          let o : (g.node_use n ≡ NodeUse.placed) × (g.pos n < g.pos (head_of m.shared)) = unfold Of in (rw e at (inv.used.old q hq)) in
          let h : g.pos n < g.pos (tail_of m.shared) = unfold Of in (rw e at (b.left q hq)) in
          let same = ow.pos n o.0 in
          let up = ow.tail in
          omega arith

      mover_stays : (v : Mover N m g) → (m'.own v.who).place ≡ (m.own v.who).place → g'.gpin v.who ≡ g.gpin v.who → tail_of m'.shared ≡ tail_of m.shared → Mover N m' g'
      mover_stays v place pin tail = record {
        who = v.who;
        goal = v.goal;
        new = v.new;
        onto = v.onto;
        here = v.here;
        stands = place ∙ v.stands;
        tail = v.tail ∙ sym tail;
        pin = rw (pin, ow.seal v.new.0 (mover_at v).0) v.pin;
      }

-- ---- a step

-- a seal is written only into a spare node
works_sealed : (N M p : ℕ) (m : Machine) (g : Ghost) → Inv N M m g → p < N → (s : Shared) (w : Work) → Sound M p m w → (x : ℕ) → g.node_use x ≢ NodeUse.spare
    → ((works p w (with_shared s m)).bag x).epoch ≡ (m.bag x).epoch
unfolding works Sound
works_sealed N M p m g inv hp s Work.Nothing k x h = refl
works_sealed N M p m g inv hp s (Work.Put i) k x h = refl
works_sealed N M p m g inv hp s (Work.PutThenFree i n) k x h = put_ind (λ (b : Sealed). b.epoch ≡ (m.bag x).epoch) m.bag n.0 x _ (λ j. rw j) (λ _. refl)
works_sealed N M p m g inv hp s (Work.Seal n e) k x h =
    ap (λ (b : Sealed). b.epoch) (put_other m.bag n.0 x _ (λ j. h (rw (← j) (free_spare N M p m g inv hp n.0 k.0 k.1))))

-- and is there then
works_seals : (p : ℕ) (m : Machine) (s : Shared) (n : Node) (e : ℕ) → ((works p (Work.Seal n (record { 0 = e })) (with_shared s m)).bag n.0).epoch ≡ e
unfolding works
works_seals p m s n e = ap (λ (b : Sealed). b.epoch) (put_same m.bag n.0 _)

module _ (N M p : ℕ) (m : Machine) (g : Ghost) (inv : Inv N M m g) (b : Behind N M m g) (st : Steps N M p m) where
  ow : Onward N M m g (stepped M p m).shared (stepped M p m).bag (stepped_ghost M p m g)
  ow = onward-step N M p m g inv st

  step-seal : (x : ℕ) → g.node_use x ≢ NodeUse.spare → ((stepped M p m).bag x).epoch ≡ (m.bag x).epoch
  unfolding stepped goes followed
  step-seal x h = works_sealed N M p m g inv st.here (left_of M p m) (after_of M p m).work (step-sound N M p m g inv st) x h

  step_seals : (n : Node) (e : ℕ) → (after_of M p m).work ≡ Work.Seal n (record { 0 = e }) → ((stepped M p m).bag n.0).epoch ≡ e
  unfolding stepped goes followed
  step_seals n e is = rw is (works_seals p m (left_of M p m) n e)

  step_tail : tail_of (stepped M p m).shared ≡ tail_of (left_of M p m)
  unfolding stepped goes followed
  step_tail = (worked_ends N M p m g inv st.here _ _ (step_turned N M p m g inv st) (after_of M p m).work).1

  step_last : (stepped_ghost M p m g).last ≡ last_turned (turn_of p (m.own p).place (won_of M p m)) g.last
  unfolding stepped_ghost goes_ghost moved
  step_last = refl

  step-pos : (stepped_ghost M p m g).pos ≡ pos_turned (turn_of p (m.own p).place (won_of M p m)) g.last g.pos
  unfolding stepped_ghost goes_ghost moved
  step-pos = refl

  -- the taken nodes
  taken_own : (n : ℕ) → taken_node (after_of M p m).participant.place ≡ some n → (stepped_ghost M p m g).gpin p ≤ num ((stepped M p m).bag n).epoch
  taken_own n e = kind_taken ((stepped_ghost M p m g).gpin p ≤ num ((stepped M p m).bag n).epoch) p _ _ _ _ _ _ _ _ (kind_of N M p m g inv st) n e
      (λ was. rw (step_gpin N M p m g inv st p (λ _. taken-queue n (m.own p).place was)) (taken-stays N M m g inv b (stepped M p m) (stepped_ghost M p m g) ow step-seal p st.here n was))
      (λ i w same.
      let is : least M m.node_free ≡ n = some_same _ _ same in
      let le : g.gpin p ≤ num m.shared.global_epoch = unfold G in (inv.epochs.pin_le p st.here (queue-pinned N M m g inv p st.here i)) in
      rw (step_gpin N M p m g inv st p (λ _. i), ← is, step_seals (record { 0 = least M m.node_free }) m.shared.global_epoch w) le)

  taken-step : (q : ℕ) → q < N → Of (λ n. (stepped_ghost M p m g).gpin q ≤ num ((stepped M p m).bag n).epoch) (taken_node ((stepped M p m).own q).place)
  taken-step q hq = same? p q
      (λ e. rw (← e, place_mine N M p m g inv st) (of_known _ (taken_node (after_of M p m).participant.place) taken_own))
      (λ ne. rw (place_other N M p m g inv st q ne, step_gpin N M p m g inv st q (λ e. absurd (ne e)))
      (of_known _ (taken_node (m.own q).place) (taken-stays N M m g inv b (stepped M p m) (stepped_ghost M p m g) ow step-seal q hq)))

  -- the old heads
  left_own : (n : ℕ) → old_head (after_of M p m).participant.place ≡ some n → (stepped_ghost M p m g).pos n < (stepped_ghost M p m g).pos (tail_of (stepped M p m).shared)
  unfolding HoldsAt HoldsPop SafeNode
  left_own n e = kind_old ((stepped_ghost M p m g).pos n < (stepped_ghost M p m g).pos (tail_of (stepped M p m).shared)) p _ _ _ _ _ _ _ _ (kind_of N M p m g inv st) n e
      (λ was. left-stays N M m g inv b (stepped M p m) (stepped_ghost M p m g) ow step-seal p st.here n was)
      (λ q head next at won same.
      let is : head.0 ≡ n = some_same _ _ same in
      let h = holds N M m g inv p st.here (Place.Pop q (PopAt.Exchange head next)) at in
      let lt = exchange-left N M m g inv b p st.here q head next at won in
      let stays = ow.pos head.0 h.0.0.1.0 in
      let up = ow.tail in
      rw (← is) (omega arith))

  left-step : (q : ℕ) → q < N → Of (λ n. (stepped_ghost M p m g).pos n < (stepped_ghost M p m g).pos (tail_of (stepped M p m).shared)) (old_head ((stepped M p m).own q).place)
  left-step q hq = same? p q
      (λ e. rw (← e, place_mine N M p m g inv st) (of_known _ (old_head (after_of M p m).participant.place) left_own))
      (λ ne. rw (place_other N M p m g inv st q ne)
      (of_known _ (old_head (m.own q).place) (left-stays N M m g inv b (stepped M p m) (stepped_ghost M p m g) ow step-seal q hq)))

  -- nobody comes to the tail move
  never_own : NotMove (after_of M p m).participant.place
  unfolding after_of rule_of
  never_own = not_after m.shared (record { 0 = p }) (record { 0 = least M m.node_free }) (λ n. (m.bag n.0).epoch) (m.own p) (m.own p).place
      (b.never p st.here) (tail_not N M m g inv b p st.here)

  never_step : (q : ℕ) → q < N → NotMove ((stepped M p m).own q).place
  never_step q hq = same? p q (λ e. rw (← e, place_mine N M p m g inv st) never_own) (λ ne. rw (place_other N M p m g inv st q ne) (b.never q hq))

  -- the tail's word is a link
  tail_link : m.shared.queue_tail ≡ link (tail_of m.shared)
  unfolding link index
  tail_link = let h = inv.ranged.queue_tail in let x = h.0 in let y = h.1.0 in let z = h.1.1 in omega arith

  -- the mover does not stay behind by a step of its own
  moves_on : (v : Mover N m g) → p ≡ v.who → (left_of M p m).queue_tail ≡ link v.new.0
  unfolding left_of rule_of
  moves_on v e = move_wins m.shared (record { 0 = p }) (record { 0 = least M m.node_free }) (λ n. (m.bag n.0).epoch) (m.own p) (m.own p).place
      v.goal v.new v.onto (rw e v.stands) (tail_link ∙ ap link (sym v.tail))

  -- the tail stays
  mover_quiet : (left_of M p m).queue_tail ≡ m.shared.queue_tail → Mover N m g → Mover N (stepped M p m) (stepped_ghost M p m g)
  mover_quiet same v = same? p v.who
      (λ e.
      let at = (mover_at N M m g inv v).1 in
      let to : tail_of m.shared ≡ v.new.0 = ap index (sym same ∙ moves_on v e) ∙ index-link v.new.0 in
      let k : g.pos (tail_of m.shared) ≡ g.pos v.new.0 = ap g.pos to in
      absurd (omega arith))
      (λ ne. mover_stays N M m g inv b (stepped M p m) (stepped_ghost M p m g) ow step-seal v (place_other N M p m g inv st v.who ne)
      (step_gpin N M p m g inv st v.who (λ e. absurd (ne e))) (step_tail ∙ ap index same))

  -- the tail was moved: it is not behind any more
  moved_up : (from to : ℕ) → MovesTail (m.own p).place from to → m.shared.queue_tail ≡ link from → (left_of M p m).queue_tail ≡ link to
      → g.last ≢ g.pos (tail_of (left_of M p m)) + 1
  moved_up from to moves was is lag =
      let e : tail_of m.shared ≡ from = ap index was ∙ index-link from in
      let z : m.shared.node_next (tail_of m.shared) ≡ link to = rw e (moves_next N M p m g inv st.here (m.own p).place from to moves (inv.held.holds p st.here)) in
      let k = (goes_to (line N M m g inv) (tail_of m.shared) to (tail_in N M p m g inv st.here) inv.queued.tail (omega arith) z).1 in
      let i : g.pos (tail_of (left_of M p m)) ≡ g.pos to = ap g.pos (ap index is ∙ index-link to) in
      let near = inv.queued.near in
      omega arith

  -- a node was linked: who linked it is the mover
  linked_at : (f : Then) (new onto : Node) → (m.own p).place ≡ Place.Push f (PushAt.Link new onto) → m.shared.node_next onto.0 ≡ null
      → (after_of M p m).participant.place ≡ Place.Push f (PushAt.Move new onto)
  unfolding after_of rule_of
  linked_at f new onto at free =
      link_wins m.shared (record { 0 = p }) (record { 0 = least M m.node_free }) (λ n. (m.bag n.0).epoch) (m.own p) (m.own p).place f new onto at free

  mover_link : (f : Then) (new onto : Node) → (m.own p).place ≡ Place.Push f (PushAt.Link new onto) → m.shared.node_next onto.0 ≡ null
      → (left_of M p m).queue_tail ≡ m.shared.queue_tail → Mover N (stepped M p m) (stepped_ghost M p m g)
  unfolding HoldsAt HoldsPush SafeNode
  mover_link f new onto at free same =
      let h = (holds N M m g inv p st.here (Place.Push f (PushAt.Link new onto)) at).1 in
      let end = last_is_tail (line N M m g inv) onto.0 h.0.0 (tail_in N M p m g inv st.here) h.0.1.0 (rw free null_is) h.1 in
      let has : taken_node (m.own p).place ≡ some new.0 = rw at (unfold taken_node in refl) in
      record {
        who = p;
        goal = f;
        new = new;
        onto = onto;
        here = st.here;
        stands = place_mine N M p m g inv st ∙ linked_at f new onto at free;
        tail = end.0 ∙ sym (step_tail ∙ ap index same);
        pin = rw (step_gpin N M p m g inv st p (λ _. taken-queue new.0 (m.own p).place has))
            (taken-stays N M m g inv b (stepped M p m) (stepped_ghost M p m g) ow step-seal p st.here new.0 has);
      }

  mover_step : (stepped_ghost M p m g).last ≡ (stepped_ghost M p m g).pos (tail_of (stepped M p m).shared) + 1 → Mover N (stepped M p m) (stepped_ghost M p m g)
  mover_step lag = tail_cases (Mover N (stepped M p m) (stepped_ghost M p m g)) p (m.own p).place m.shared g.last g.pos _ _ (step-change M p m)
      (λ l e same. mover_quiet same (b.mover (rw (step_last, step-pos, step_tail, l, e, same) at lag)))
      (λ from to moves l e was is. absurd (moved_up from to moves was is (rw (step_last, step-pos, step_tail, l, e) at lag)))
      mover_link

  pub behind-step : Behind N M (stepped M p m) (stepped_ghost M p m g)
  behind-step = record { taken = taken-step; mover = mover_step; left = left-step; never = never_step }

-- ---- a call

-- a place of a push is not that of a participant at rest
push_not_rest : (f : Then) (a : PushAt) → Place.Push f a ≡ Place.Rest → ⊥
push_not_rest f a e = true≢false (unfold in_queue? in (ap in_queue? e))

module _ (N M p : ℕ) (c : Call) (m : Machine) (g : Ghost) (inv : Inv N M m g) (b : Behind N M m g) (ca : Calls N M p c m) where
  ow_call : Onward N M m g (called N p c m).shared (called N p c m).bag (called_ghost N p c m g)
  ow_call = onward-call N M p c m g inv ca

  call-seal : (x : ℕ) → g.node_use x ≢ NodeUse.spare → ((called N p c m).bag x).epoch ≡ (m.bag x).epoch
  unfolding called followed
  call-seal x h = works_sealed N M p m g inv ca.here m.shared (opens N c (m.own p)).work (call-sound N M p c m g inv ca) x h

  call_tail : tail_of (called N p c m).shared ≡ tail_of m.shared
  unfolding called followed
  call_tail = (worked_ends N M p m g inv ca.here Turn.quiet m.shared (still N M p c m g inv ca) (opens N c (m.own p)).work).1

  call_last : (called_ghost N p c m g).last ≡ g.last
  unfolding called_ghost moved last_turned
  call_last = refl

  call-pos : (called_ghost N p c m g).pos ≡ g.pos
  unfolding called_ghost moved pos_turned
  call-pos = refl

  call_carries : (taken_node (opens N c (m.own p)).participant.place ≡ none) × ((old_head (opens N c (m.own p)).participant.place ≡ none) × NotMove (opens N c (m.own p)).participant.place)
  call_carries = bare_carries _ (call-bare N M p c m g inv ca)

  mover_call : (called_ghost N p c m g).last ≡ (called_ghost N p c m g).pos (tail_of (called N p c m).shared) + 1 → Mover N (called N p c m) (called_ghost N p c m g)
  mover_call lag =
      let v = b.mover (rw (call_last, call-pos, call_tail) at lag) in
      mover_stays N M m g inv b (called N p c m) (called_ghost N p c m g) ow_call call-seal v
      (call-place_other N M p c m g inv ca v.who (λ e. push_not_rest v.goal (PushAt.Move v.new v.onto) (sym v.stands ∙ rw (← e) ca.resting))) (call_gpin N M p c m g inv ca v.who) call_tail

  pub behind-call : Behind N M (called N p c m) (called_ghost N p c m g)
  behind-call = record {
    taken = λ q hq. same? p q
        (λ e. rw (← e, call-place_mine N M p c m g inv ca) (of_none _ _ call_carries.0))
        (λ ne. rw (call-place_other N M p c m g inv ca q ne, call_gpin N M p c m g inv ca q)
        (of_known _ (taken_node (m.own q).place) (taken-stays N M m g inv b (called N p c m) (called_ghost N p c m g) ow_call call-seal q hq)));
    mover = mover_call;
    left = λ q hq. same? p q
        (λ e. rw (← e, call-place_mine N M p c m g inv ca) (of_none _ _ call_carries.1.0))
        (λ ne. rw (call-place_other N M p c m g inv ca q ne)
        (of_known _ (old_head (m.own q).place) (left-stays N M m g inv b (called N p c m) (called_ghost N p c m g) ow_call call-seal q hq)));
    never = λ q hq. same? p q
        (λ e. rw (← e, call-place_mine N M p c m g inv ca) call_carries.1.1)
        (λ ne. rw (call-place_other N M p c m g inv ca q ne) (b.never q hq));
  }

-- ---- registering

module _ (N M p : ℕ) (m : Machine) (g : Ghost) (inv : Inv N M m g) (b : Behind N M m g) (re : Registers N p m) where
  ow_register : Onward N M m g (registered p m).shared (registered p m).bag (registered_ghost p g)
  ow_register = onward-register N M p m g inv re

  register-seal : (x : ℕ) → g.node_use x ≢ NodeUse.spare → ((registered p m).bag x).epoch ≡ (m.bag x).epoch
  unfolding registered
  register-seal x h = refl

  register_mine : ((registered p m).own p).place ≡ new_participant.place
  unfolding registered
  register_mine = ap (λ (o : Participant). o.place) (put_same m.own p new_participant)

  register_other : (q : ℕ) → p ≢ q → ((registered p m).own q).place ≡ (m.own q).place
  unfolding registered
  register_other q ne = ap (λ (o : Participant). o.place) (put_other m.own p q new_participant ne)

  new_carries : (taken_node new_participant.place ≡ none) × ((old_head new_participant.place ≡ none) × NotMove new_participant.place)
  new_carries = bare_carries _ (unfold BareAt new_participant in tt)

  register_tail : tail_of (registered p m).shared ≡ tail_of m.shared
  unfolding registered write
  register_tail = refl

  register_gpin : (q : ℕ) → (registered_ghost p g).gpin q ≡ g.gpin q
  unfolding registered_ghost
  register_gpin q = refl

  register_last : (registered_ghost p g).last ≡ g.last
  unfolding registered_ghost
  register_last = refl

  register-pos : (registered_ghost p g).pos ≡ g.pos
  unfolding registered_ghost
  register-pos = refl

  -- a free slot is nobody's that is pinned
  free-unpinned : Pinned m p → ⊥
  free-unpinned pin = unused_not_linked (sym (free_unused N m g inv.records p re.here re.free) ∙ (pinned-linked N m g inv.records p re.here pin).0)
    where
      unused_not_linked : Use.unused ≡ Use.linked → ⊥
      unused_not_linked e = let z : ◌≡◌ {A = ℕ} 0 1 = cc in omega arith

  mover_register : (registered_ghost p g).last ≡ (registered_ghost p g).pos (tail_of (registered p m).shared) + 1 → Mover N (registered p m) (registered_ghost p g)
  mover_register lag =
      let v = b.mover (rw (register_last, register-pos, register_tail) at lag) in
      mover_stays N M m g inv b (registered p m) (registered_ghost p g) ow_register register-seal v
      (register_other v.who (λ e. free-unpinned (rw e (mover_pinned N M m g inv v)))) (register_gpin v.who) register_tail

  pub behind-register : Behind N M (registered p m) (registered_ghost p g)
  behind-register = record {
    taken = λ q hq. same? p q
        (λ e. rw (← e, register_mine) (of_none _ _ new_carries.0))
        (λ ne. rw (register_other q ne, register_gpin q)
        (of_known _ (taken_node (m.own q).place) (taken-stays N M m g inv b (registered p m) (registered_ghost p g) ow_register register-seal q hq)));
    mover = mover_register;
    left = λ q hq. same? p q
        (λ e. rw (← e, register_mine) (of_none _ _ new_carries.1.0))
        (λ ne. rw (register_other q ne)
        (of_known _ (old_head (m.own q).place) (left-stays N M m g inv b (registered p m) (registered_ghost p g) ow_register register-seal q hq)));
    never = λ q hq. same? p q
        (λ e. rw (← e, register_mine) new_carries.1.1)
        (λ ne. rw (register_other q ne) (b.never q hq));
  }

-- a marked step that fails: a registering has taken no node, is no mover and no popper
module _ (N M p : ℕ) (next : Ptr) (m : Machine) (g : Ghost) (b : Behind N M m g) (s : Misses N p next m) where
  mover_misses : Mover N m g → Mover N (missed p next m) g
  mover_misses v = record {
    who = v.who;
    goal = v.goal;
    new = v.new;
    onto = v.onto;
    here = v.here;
    tail = v.tail;
    pin = v.pin;
    stands = put_ind (λ (o : Participant). o.place ≡ Place.Push v.goal (PushAt.Move v.new v.onto)) m.own p v.who _ (λ i. absurd (elsewhere i)) (λ _. v.stands);
  }
    where
      -- a mover is not registering
      elsewhere : p ≡ v.who → ⊥
      elsewhere i = let links = s.stands in let moves = v.stands in let z : ◌≡◌ {A = ℕ} 0 1 = cc in omega arith

  pub behind_misses : Behind N M (missed p next m) g
  behind_misses = record {
    taken = λ q hq. rw (reads N p next m taken_node s.stands (unfold taken_node in refl) q) (b.taken q hq);
    mover = λ lag. mover_misses (b.mover lag);
    left = λ q hq. rw (reads N p next m old_head s.stands (unfold old_head in refl) q) (b.left q hq);
    never = each N p next m (λ q o. NotMove o.place) (unfold NotMove in tt) b.never;
  }

-- ---- along a run

-- at a fresh start everybody rests, and the tail is the last node
pub behind-start : (N M : ℕ) → Behind N M (view (fresh N M)) start_ghost
behind-start N M = record {
  taken = λ q hq. of_none _ _ (ap taken_node (rests q) ∙ (unfold taken_node in refl));
  mover = λ lag. absurd (ahead lag);
  left = λ q hq. of_none _ _ (ap old_head (rests q) ∙ (unfold old_head in refl));
  never = λ q hq. rw (rests q) (unfold NotMove in tt);
}
  where
    rests : (q : ℕ) → ((view (fresh N M)).own q).place ≡ Place.Rest
    rests q = unfold fresh participant_of in (place_back Place.Rest)

    ahead : start_ghost.last ≡ start_ghost.pos (tail_of (view (fresh N M)).shared) + 1 → ⊥
    ahead lag = let z : ◌≡◌ {A = ℕ} 1 2 = unfold start_ghost in lag in omega arith

-- after an event
pub behind_happens : (N M : ℕ) (t : Tables) (g : Ghost) → Inv N M (view t) g → Behind N M (view t) g → {v : Event} {o : Out} (h : Happens N M t v o)
    → Behind N M (view o.tables) (ghost_after h g)
unfolding ghost_after
behind_happens N M t g inv b (Happens.refuses r h) = b
behind_happens N M t g inv b (Happens.goes {p = p} s) = rw (view_step M p t) (behind-step N M p (view t) g inv b s)
behind_happens N M t g inv b (Happens.misses {p = p} {next = next} s) = rw (view_back p next t) (behind_misses N M p next (view t) g b s)
behind_happens N M t g inv b (Happens.calls {p = p} {c = c} ca) = rw (view_call N p c t) (behind-call N M p c (view t) g inv b ca)
behind_happens N M t g inv b (Happens.enrols {p = p} re) = rw (view_register p t) (behind-register N M p (view t) g inv b re)

-- tables with a ghost that have the invariant and these clauses
pub record Clear (N M : ℕ) (t : Tables) : Type 0 where
  pub sound : R.Sound N M t
  pub behind : Behind N M (view t) sound.ghost

module _ (N M : ℕ) where
  -- one event
  pub clear-does : (t : Tables) → Clear N M t → G (view t) < 2 ^ 62 → (v : Event) → Clear N M (does N M v t).tables
  clear-does t c small v =
      let g = c.sound.ghost in
      let h = happens N M t g c.sound.inv c.sound.stored small v in
      record {
        sound = record { ghost = ghost_after h g; inv = inv_happens N M t g c.sound.inv c.sound.stored h; stored = stored_happens N M t g c.sound.inv c.sound.stored h };
        behind = behind_happens N M t g c.sound.inv c.behind h;
      }

  -- many
  pub clear-after : (l : List Event) (t : Tables) → Clear N M t → G (view t) + advances N M l t < 2 ^ 62 → Clear N M (after N M l t)
  unfolding after advances
  clear-after [] t c lt = c
  clear-after (v ∷ l) t c lt =
      let u = epoch-does N M t c.sound (omega arith) v in
      clear-after l (does N M v t).tables (clear-does t c (omega arith) v) (omega arith)

-- from a fresh start
pub clear-run : (N M : ℕ) → 1 ≤ N → 2 ≤ M → (l : List Event) → advances N M l (fresh N M) < 2 ^ 62 → Clear N M (after N M l (fresh N M))
clear-run N M h_n h_m l lt =
    let e = fresh-epoch N M in
    clear-after N M l (fresh N M) (record { sound = record { ghost = start_ghost; inv = inv_start N M h_n h_m; stored = stored_fresh N M }; behind = behind-start N M }) (omega arith)

-- nobody ever stands at the pop's tail move
pub never_tail_move : (N M : ℕ) → 1 ≤ N → 2 ≤ M → (l : List Event) → advances N M l (fresh N M) < 2 ^ 62
    → (p : ℕ) → p < N → (q : Pops) (head next : Node) → ((view (after N M l (fresh N M))).own p).place ≢ Place.Pop q (PopAt.TailMove head next)
unfolding NotMove
never_tail_move N M h_n h_m l lt p hp q head next e = rw e at ((clear-run N M h_n h_m l lt).behind.never p hp)
