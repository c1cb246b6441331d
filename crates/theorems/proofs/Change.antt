-- What a step can do to the shared words: thirteen changes, each with the place that makes it. A clause about everybody else goes by these and
-- not by the thirty places. Assumes nothing.
use mathlib.Core.Path.{◌≡◌, refl}
use mathlib.Core.Bool.{Bool}
use Prim.Native.Nat.{ℕ}
use Rattle.epoch.specs.Epoch.{starting, pinned, successor}
use Rattle.definition.specs.Base.{branch}
use Rattle.definition.specs.Links.{null, link, tagged, pointer}
use Rattle.definition.specs.Tables.{Shared, read, write}
use Rattle.definition.specs.Rule.{asks, sees, leaves}
use Rattle.definition.specs.List.{insert, delete, iterate, pred_word}
use Rattle.definition.specs.Queue.{push, pop}
use Rattle.definition.specs.Internal.{pin_epoch, pin_word, unpin_word, repin, advance_epoch, advance_word, advance_store, final_word, rule}
use Rattle.theorems.proofs.Leads.{Leads, leads}
use Rattle.theorems.proofs.Ghost.{Turn, turn_of}
use Rattle.theorems.proofs.Types.{Epoch, Node, Ptr, Cursor, Owner, Try, Pops, Then, RegisterAt, RepinAt, WalkAt, PopAt, PushAt, Place, Participant, Word, After}

-- the places that move the queue's tail, from a node to its next
pub data MovesTail : Place → (from to : ℕ) → Type 0 where
  pop_moves : {q : Pops} {head next : Node} → MovesTail (Place.Pop q (PopAt.TailMove head next)) head.0 next.0
  helps : {f : Then} {new onto next : Node} → MovesTail (Place.Push f (PushAt.Help new onto next)) onto.0 next.0
  push_moves : {f : Then} {new onto : Node} → MovesTail (Place.Push f (PushAt.Move new onto)) onto.0 new.0

module _ (p : ℕ) (pl : Place) (s : Shared) where
  pub data Change (turn : Turn) (s' : Shared) : Type 0 where
    none : turn ≡ Turn.quiet → s' ≡ s → Change turn s'
    advances : (t : Try) → pl ≡ Place.AdvanceStore t → turn ≡ Turn.quiet → s' ≡ write Word.GlobalEpoch (successor t.epoch.0) s → Change turn s'
    pins : (k : Owner) (e : Epoch) → pl ≡ Place.PinWord k e → turn ≡ Turn.quiet
        → s' ≡ write (Word.ParticipantWord (record { 0 = p })) (pinned e.0) s → Change turn s'
    repins : (e : Epoch) → pl ≡ Place.Repin (RepinAt.Store e) → turn ≡ Turn.quiet
        → s' ≡ write (Word.ParticipantWord (record { 0 = p })) e.0 s → Change turn s'
    unpins : pl ≡ Place.UnpinWord → turn ≡ Turn.quiet → s' ≡ write (Word.ParticipantWord (record { 0 = p })) starting s → Change turn s'
    finals : pl ≡ Place.FinalWord → turn ≡ Turn.quiet → s' ≡ write (Word.ParticipantWord (record { 0 = p })) starting s → Change turn s'
    aims : (next : Ptr) → pl ≡ Place.Register (RegisterAt.Next next) → turn ≡ Turn.quiet
        → s' ≡ write (Word.EntryNext (record { 0 = p })) (pointer next) s → Change turn s'
    enlists : (next : Ptr) → pl ≡ Place.Register (RegisterAt.Link next) → turn ≡ Turn.enlists p → s.list_head ≡ pointer next
        → s' ≡ write Word.ListHead (link p) s → Change turn s'
    unlinks : (t : Try) (c : Cursor) (succ : Ptr) → pl ≡ Place.Walk t (WalkAt.Unlink c succ) → turn ≡ Turn.unlinks c.curr.0
        → read (pred_word c.pred) s ≡ link c.curr.0 → s' ≡ write (pred_word c.pred) (pointer succ) s → Change turn s'
    tags : pl ≡ Place.FinalTag → turn ≡ Turn.quiet → s' ≡ write (Word.EntryNext (record { 0 = p })) (tagged (s.entry_next p)) s → Change turn s'
    pops : (q : Pops) (head next : Node) → pl ≡ Place.Pop q (PopAt.Exchange head next) → turn ≡ Turn.quiet → s.queue_head ≡ link head.0
        → s' ≡ write Word.QueueHead (link next.0) s → Change turn s'
    tails : (from to : ℕ) → MovesTail pl from to → turn ≡ Turn.quiet → s.queue_tail ≡ link from → s' ≡ write Word.QueueTail (link to) s → Change turn s'
    links : (f : Then) (new onto : Node) → pl ≡ Place.Push f (PushAt.Link new onto) → turn ≡ Turn.links new.0 → s.node_next onto.0 ≡ null
        → s' ≡ write (Word.NodeNext onto) (link new.0) s → Change turn s'

-- each place makes one of them
abbrev Makes : ℕ → Place → Shared → Bool → Shared → After → Type 0
Makes p pl s won s' a = Change p pl s (turn_of p pl won) s'

module _ (p : ℕ) (spare : Node) (sealed : Node → ℕ) (o : Participant) (s : Shared) where
  makes : (pl : Place) → Leads (Makes p pl s) s (rule (record { 0 = p }) spare sealed o pl)
  unfolding Leads rule insert delete iterate push pop pin_epoch pin_word unpin_word repin advance_epoch advance_word advance_store final_word turn_of branch read
  makes Place.Rest = none refl refl
  makes (Place.Register RegisterAt.Head) = none refl refl
  makes (Place.Register (RegisterAt.Next next)) = aims next refl refl refl
  makes (Place.Register (RegisterAt.Link next)) = (λ h. enlists next refl refl h refl, λ _. none refl refl)
  makes (Place.PinEpoch k) = none refl refl
  makes (Place.PinWord k e) = pins k e refl refl refl
  makes (Place.Repin RepinAt.Word) = none refl refl
  makes (Place.Repin (RepinAt.Epoch e)) = none refl refl
  makes (Place.Repin (RepinAt.Store e)) = repins e refl refl refl
  makes Place.UnpinWord = unpins refl refl refl
  makes (Place.AdvanceEpoch k) = none refl refl
  makes (Place.Walk t WalkAt.Head) = none refl refl
  makes (Place.Walk t (WalkAt.Next c)) = none refl refl
  makes (Place.Walk t (WalkAt.Unlink c succ)) = (λ h. unlinks t c succ refl refl h refl, λ _. none refl refl)
  makes (Place.Walk t WalkAt.Stalled) = none refl refl
  makes (Place.AdvanceWord t curr succ) = none refl refl
  makes (Place.AdvanceStore t) = advances t refl refl refl
  makes (Place.Pop q PopAt.Head) = none refl refl
  makes (Place.Pop q (PopAt.Next head)) = none refl refl
  makes (Place.Pop q (PopAt.Exchange head next)) = (λ h. pops q head next refl refl h refl, λ _. none refl refl)
  makes (Place.Pop q (PopAt.Tail head next)) = none refl refl
  makes (Place.Pop q (PopAt.TailMove head next)) = (λ h. tails head.0 next.0 pop_moves refl h refl, λ _. none refl refl)
  makes (Place.Push f PushAt.Epoch) = none refl refl
  makes (Place.Push f (PushAt.Tail new)) = none refl refl
  makes (Place.Push f (PushAt.Next new onto)) = none refl refl
  makes (Place.Push f (PushAt.Help new onto next)) = (λ h. tails onto.0 next.0 helps refl h refl, λ _. none refl refl)
  makes (Place.Push f (PushAt.Link new onto)) = (λ h. links f new onto refl refl h refl, λ _. none refl refl)
  makes (Place.Push f (PushAt.Move new onto)) = (λ h. tails onto.0 new.0 push_moves refl h refl, λ _. none refl refl)
  makes Place.FinalWord = finals refl refl refl
  makes Place.FinalTag = tags refl refl refl

  pub changes : (pl : Place) → let r = rule (record { 0 = p }) spare sealed o pl in Change p pl s (turn_of p pl (sees (asks r) s).won) (leaves (asks r) s)
  changes pl = leads (Makes p pl s) s (rule (record { 0 = p }) spare sealed o pl) (makes pl)
