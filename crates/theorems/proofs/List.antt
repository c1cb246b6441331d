-- Group L is kept: the list of participants stays in order through every step, call and registering. Only two steps change who is in it. An
-- insertion puts a slot before the head whose own next is that head. An unlinking takes out the slot behind the head or behind a slot that is
-- not tagged, so in the list; and since each has one predecessor, nothing else points to what is taken out. A tag leaves a link where it
-- points, a slot that is freed was out, and a next that is written otherwise is of a slot not yet in the list. Leans on `Order` (the order
-- itself), `Linked` (who is in the list), `Change` and `Worked` (what a step can do). Assumes nothing.
use mathlib.Core.Path.{◌≡◌, refl, ap, sym, ◌∙◌}
use mathlib.Core.Logic.{◌≢◌}
use mathlib.Core.Bool.{Bool, true, false}
use mathlib.Core.List.{List, [], ◌∷◌}
use mathlib.Core.Option.{none, some}
use Prim.Native.Nat.{ℕ, zero, suc, ◌+◌, ◌-◌, ◌/◌, ◌%◌, ◌<◌}
use native.Mathlib.Omega.{arith}
use borrow.Author.Tests.{ne_eqb}
use Rattle.definition.specs.Base.{branch, Tab, put, least}
use Rattle.definition.specs.Links.{null, link, is_null, is_tagged, tagged, index, pointee, pointer}
use Rattle.definition.specs.Flow.{collect_steps, on, done, also, finalize, collected, pops, advanced, walk, placed, defer, pushed}
use Rattle.definition.specs.Tables.{Shared, read, write}
use Rattle.definition.specs.List.{insert, delete, iterate, pred_word}
use Rattle.definition.specs.Queue.{seal_bag, push, pop}
use Rattle.definition.specs.Internal.{pin_epoch, pin_word, pin_counted, unpin_word, repin, advance_epoch, advance_word, advance_store, final_word, rule}
use Rattle.definition.specs.Calls.{begins, opens}
use Rattle.definition.specs.Public.{new_participant}
use Rattle.definition.proofs.Base.{branch_ind, same?, put_ind, put_same, put_other}
use Rattle.definition.proofs.Codec.{pointee-pointer}
use Rattle.theorems.proofs.Leads.{Leads, leads}
use Rattle.theorems.proofs.Machine.{Machine, followed, map-put}
use Rattle.theorems.proofs.Ghost.{Use, Ghost, Turn, use_turned, birth_turned, births_turned, slots_freed, use_worked, moved}
use Rattle.theorems.proofs.Invariant.{popped_node, Registers, OwnNext, Born, Listed, SafePred, SafeSlot, HoldsAt, HoldsWalk, times}
use Rattle.theorems.proofs.Change.{Change}
use Rattle.theorems.proofs.Worked.{Worked}
use Rattle.theorems.proofs.Inv.{Inv, rule_of, left_of, after_of, goes_ghost, stepped, stepped_ghost, Steps, called, called_ghost, Calls, registered, registered_ghost}
use Rattle.theorems.proofs.Inv as I
use Rattle.theorems.proofs.Safety.{popped_in, in_bag-occurs, use_unfreed}
use Rattle.theorems.proofs.Order.{Order, out_not_linked, registering_not_linked, to_slot, order-links, order_uses, order_enlist, order_behead, order_unlink}
use Rattle.theorems.proofs.Linked.{in_range_lem, registers_use, safe_linked, free_unused, followed_next, followed_head, followed_own, stepped_next, stepped_head, stepped_own, step-change, step_worked}
use Rattle.theorems.proofs.Types.{Epoch, Node, Ptr, Pred, Cursor, Item, Owner, Try, Deferring, Then, RegisterAt, RepinAt, WalkAt, PopAt, PushAt, Place, Participant, Word, Work, After, Call}

-- ---- links as words

-- a link to an index points to it
pub pointee-link : (i : ℕ) → pointee (link i) ≡ Ptr.At (record { 0 = i })
unfolding pointer
pointee-link i = pointee-pointer (Ptr.At (record { 0 = i }))

-- a tag leaves a link where it points
pointee-tagged : (w : ℕ) → pointee (tagged w) ≡ pointee w
unfolding pointee is_null index tagged
pointee-tagged w = let e : (w - w % 2 + 1) / 2 ≡ w / 2 = omega arith in rw e

-- a plain link has no tag
pub link_untagged : (w i : ℕ) → w ≡ link i → is_tagged w ≡ false
unfolding is_tagged link
link_untagged w i e = ne_eqb (w % 2) 1 (λ (z : w % 2 ≡ 1). omega arith)

-- ---- the order of a machine

-- the clauses about links, over the shared words; read off the group and put into it again
abbrev pub OrderOf : ℕ → Tab Use → Tab ℕ → ℕ → Shared → Type 0
OrderOf N u birth births s = Order N u birth births (pointee s.list_head) (λ q. pointee (s.entry_next q))

pub order_of : (N : ℕ) (m : Machine) (g : Ghost) → Listed N m g → OrderOf N g.slot_use g.birth g.births m.shared
order_of N m g l = record
    { birth_le = l.birth_le; differ = l.differ; head = l.head; next = l.next; falls = l.falls; head_reaches = l.head_reaches; next_reaches = l.next_reaches }

listed_of : (N : ℕ) (m : Machine) (g : Ghost) (h : ℕ) (t : Tab ℕ) → m.shared.list_head ≡ h → m.shared.entry_next ≡ t
    → Order N g.slot_use g.birth g.births (pointee h) (λ q. pointee (t q)) → ((q : ℕ) → q < N → OwnNext (m.own q).place (m.shared.entry_next q)) → Listed N m g
listed_of N m g h t eh et o own = record {
  birth_le = o.birth_le;
  differ = o.differ;
  head = rw eh o.head;
  next = rw et o.next;
  falls = rw et o.falls;
  head_reaches = rw eh o.head_reaches;
  next_reaches = rw et o.next_reaches;
  own_next = own;
}

-- ---- the change of the shared words

-- the place that unlinks holds: its predecessor and slot are safe, the slot is tagged, and its link is known
pub unlink_holds : (N M : ℕ) (m : Machine) (g : Ghost) (b : ℕ) (pl : Place) (t : Try) (c : Cursor) (succ : Ptr) → pl ≡ Place.Walk t (WalkAt.Unlink c succ)
    → HoldsAt N M m g b pl → (SafePred N g b c.pred × SafeSlot N g b c.curr.0)
    × ((is_tagged (m.shared.entry_next c.curr.0) ≡ true) × (pointee (m.shared.entry_next c.curr.0) ≡ succ))
unfolding HoldsAt HoldsWalk
unlink_holds N M m g b pl t c succ e h = rw e at h

-- at the exchange of an insertion the own next is the head that is exchanged
own_next_is : (pl : Place) (next : Ptr) (w : ℕ) → pl ≡ Place.Register (RegisterAt.Link next) → OwnNext pl w → w ≡ pointer next
unfolding OwnNext
own_next_is pl next w e h = rw e at h

-- a place of registering, by what it is
registers_at : (pl : Place) (a : RegisterAt) → pl ≡ Place.Register a → Registers pl
unfolding Registers
registers_at pl a e = rw e tt

module _ (N M p : ℕ) (m : Machine) (g : Ghost) (inv : Inv N M m g) (hp : p < N) where
  abbrev pl : Place
  pl = (m.own p).place

  abbrev s : Shared
  s = m.shared

  abbrev u : Tab Use
  u = g.slot_use

  ord : OrderOf N u g.birth g.births s
  ord = order_of N m g inv.listed

  -- p's own next, while p is not in the list
  order_own : (v : ℕ) → u p ≡ Use.registering → OrderOf N u g.birth g.births (write (Word.EntryNext (record { 0 = p })) v s)
  unfolding write
  order_own v e = order-links N u g.birth g.births (pointee s.list_head) (λ q. pointee (s.entry_next q)) ord (λ q. pointee (put s.entry_next p v q))
      (λ q l. ap pointee (put_other s.entry_next p q v (λ i. registering_not_linked (u q) (ap u (sym i) ∙ e) l)))

  -- a tag on p's next
  order_tags : OrderOf N u g.birth g.births (write (Word.EntryNext (record { 0 = p })) (tagged (s.entry_next p)) s)
  unfolding write
  order_tags = order-links N u g.birth g.births (pointee s.list_head) (λ q. pointee (s.entry_next q)) ord
      (λ q. pointee (put s.entry_next p (tagged (s.entry_next p)) q))
      (λ q l. put_ind (λ w. pointee w ≡ pointee (s.entry_next q)) s.entry_next p q (tagged (s.entry_next p))
      (λ e. pointee-tagged (s.entry_next p) ∙ ap (λ (i : ℕ). pointee (s.entry_next i)) e) (λ _. refl))

  -- p put before the head
  order_inserts : (next : Ptr) → pl ≡ Place.Register (RegisterAt.Link next) → s.list_head ≡ pointer next
      → OrderOf N (put u p Use.linked) (put g.birth p (g.births + 1)) (g.births + 1) (write Word.ListHead (link p) s)
  unfolding write
  order_inserts next e h = rw (pointee-link p)
      (order_enlist N u g.birth g.births (pointee s.list_head) (λ q. pointee (s.entry_next q)) ord p hp
      (registers_use N m g inv.records p hp (registers_at pl (RegisterAt.Link next) e))
      (ap pointee (own_next_is pl next (s.entry_next p) e (inv.listed.own_next p hp) ∙ sym h)))

  -- a slot taken out behind its predecessor
  order_unlinks : (b : ℕ) (pred : Pred) (curr : ℕ) (succ : Ptr) → SafePred N g b pred → pointee (s.entry_next curr) ≡ succ
      → read (pred_word pred) s ≡ link curr → OrderOf N (put u curr Use.out) g.birth g.births (write (pred_word pred) (pointer succ) s)
  unfolding read write pred_word SafePred
  order_unlinks b Pred.Head curr succ safe is h =
      let at_head : pointee s.list_head ≡ Ptr.At (record { 0 = curr }) = ap pointee h ∙ pointee-link curr in
      let in_list_lem : (curr < N) × (u curr ≡ Use.linked) = to_slot N u curr (pointee s.list_head) at_head ord.head in
      rw (pointee-pointer succ, ← is)
      (order_behead N u g.birth g.births (pointee s.list_head) (λ q. pointee (s.entry_next q)) ord curr in_list_lem.0 in_list_lem.1 at_head)
  order_unlinks b (Pred.Entry x) curr succ safe is h =
      let to : Tab Ptr = λ q. pointee (s.entry_next q) in
      let linked : u x.0 ≡ Use.linked = safe_linked N m g inv.records b x.0 safe (link_untagged (s.entry_next x.0) curr h) in
      let at_x : to x.0 ≡ Ptr.At (record { 0 = curr }) = ap pointee h ∙ pointee-link curr in
      let in_list_lem : (curr < N) × (u curr ≡ Use.linked) = to_slot N u curr (to x.0) at_x (ord.next x.0 (in_range_lem N g b x.0 safe) linked) in
      order-links N (put u curr Use.out) g.birth g.births (pointee s.list_head) (put to x.0 (to curr))
      (order_unlink N u g.birth g.births (pointee s.list_head) to ord curr in_list_lem.0 in_list_lem.1 x.0 (in_range_lem N g b x.0 safe) linked at_x)
      (λ q. pointee (put s.entry_next x.0 (pointer succ) q))
      (λ q _. map-put pointee s.entry_next x.0 (pointer succ) q ∙ ap (λ (l : Ptr). put to x.0 l q) (pointee-pointer succ ∙ sym is))

  -- each of the thirteen changes keeps the order
  order_turned : (v : Turn) (s' : Shared) → Change p pl s v s'
      → OrderOf N (use_turned v u) (birth_turned v g.births g.birth) (births_turned v g.births) s'
  unfolding use_turned birth_turned births_turned
  order_turned v s' (Change.none ev es) = rw (ev, es) ord
  order_turned v s' (Change.advances t e ev es) = unfold write in (rw (ev, es) ord)
  order_turned v s' (Change.pins k w e ev es) = unfold write in (rw (ev, es) ord)
  order_turned v s' (Change.repins w e ev es) = unfold write in (rw (ev, es) ord)
  order_turned v s' (Change.unpins e ev es) = unfold write in (rw (ev, es) ord)
  order_turned v s' (Change.finals e ev es) = unfold write in (rw (ev, es) ord)
  order_turned v s' (Change.aims next e ev es) =
      rw (ev, es) (order_own (pointer next) (registers_use N m g inv.records p hp (registers_at pl (RegisterAt.Next next) e)))
  order_turned v s' (Change.enlists next e ev h es) = rw (ev, es) (order_inserts next e h)
  order_turned v s' (Change.unlinks t c succ e ev h es) =
      let holds = unlink_holds N M m g (g.gpin p) pl t c succ e (inv.held.holds p hp) in
      rw (ev, es) (order_unlinks (g.gpin p) c.pred c.curr.0 succ holds.0.0 holds.1.1 h)
  order_turned v s' (Change.tags e ev es) = rw (ev, es) order_tags
  order_turned v s' (Change.pops q head next e ev h es) = unfold write in (rw (ev, es) ord)
  order_turned v s' (Change.tails from to e ev h es) = unfold write in (rw (ev, es) ord)
  order_turned v s' (Change.links f new onto e ev h es) = unfold write in (rw (ev, es) ord)

-- ---- slots freed

-- a slot that is freed is not in use, any other is used as before
pub freed_ind : (P : Use → Type 0) (l : List Item) (u : Tab Use) (q : ℕ) → P Use.unused → P (u q) → P (slots_freed l u q)
unfolding slots_freed
freed_ind P [] u q free kept = kept
freed_ind P (Item.Token t ∷ l) u q free kept = freed_ind P l u q free kept
freed_ind P (Item.Node n ∷ l) u q free kept = freed_ind P l u q free kept
freed_ind P (Item.Slot s ∷ l) u q free kept = freed_ind P l (put u s.0 Use.unused) q free (put_ind P u s.0 q Use.unused (λ _. free) (λ _. kept))

-- a slot not in use is not in the list, nor counts as inserted
unused_not_linked : {P : Type 0} (u : Use) → u ≡ Use.unused → u ≡ Use.linked → P
unused_not_linked u a b = let z : ◌≡◌ {A = ℕ} 0 1 = cc in absurd (omega arith)

unused_not_born : (u : Use) → Born Use.unused → Born u
unfolding Born
unused_not_born u b = absurd b

-- no pop is under way while registering or walking
no_pop-register : {P : Type 0} (pl : Place) (a : RegisterAt) (n : ℕ) → pl ≡ Place.Register a → popped_node pl ≡ some n → P
unfolding popped_node
no_pop-register pl a n e h = let k : none ≡ some n = rw e at h in let z : ◌≡◌ {A = ℕ} 0 1 = cc in absurd (omega arith)

no_pop-walk : {P : Type 0} (pl : Place) (t : Try) (a : WalkAt) (n : ℕ) → pl ≡ Place.Walk t a → popped_node pl ≡ some n → P
unfolding popped_node
no_pop-walk pl t a n e h = let k : none ≡ some n = rw e at h in let z : ◌≡◌ {A = ℕ} 0 1 = cc in absurd (omega arith)

-- who has popped a node changes neither the list nor a link
popped_quiet : (p : ℕ) (pl : Place) (s : Shared) (v : Turn) (s' : Shared) (n : ℕ) (u : Tab Use) → Change p pl s v s' → popped_node pl ≡ some n → use_turned v u ≡ u
unfolding use_turned
popped_quiet p pl s v s' n u (Change.none ev es) h = rw ev
popped_quiet p pl s v s' n u (Change.advances t e ev es) h = rw ev
popped_quiet p pl s v s' n u (Change.pins k w e ev es) h = rw ev
popped_quiet p pl s v s' n u (Change.repins w e ev es) h = rw ev
popped_quiet p pl s v s' n u (Change.unpins e ev es) h = rw ev
popped_quiet p pl s v s' n u (Change.finals e ev es) h = rw ev
popped_quiet p pl s v s' n u (Change.aims next e ev es) h = rw ev
popped_quiet p pl s v s' n u (Change.enlists next e ev k es) h = no_pop-register pl (RegisterAt.Link next) n e h
popped_quiet p pl s v s' n u (Change.unlinks t c succ e ev k es) h = no_pop-walk pl t (WalkAt.Unlink c succ) n e h
popped_quiet p pl s v s' n u (Change.tags e ev es) h = rw ev
popped_quiet p pl s v s' n u (Change.pops q head next e ev k es) h = rw ev
popped_quiet p pl s v s' n u (Change.tails from to e ev k es) h = rw ev
popped_quiet p pl s v s' n u (Change.links f new onto e ev k es) h = rw ev

module _ (N M p : ℕ) (m : Machine) (g : Ghost) (inv : Inv N M m g) (hp : p < N) where
  -- a slot of a bag that is freed was out
  freed_out : (n q : ℕ) → popped_node (m.own p).place ≡ some n → q < N → g.slot_use q ≡ Use.linked → slots_freed (m.bag n).holds g.slot_use q ≡ g.slot_use q
  freed_out n q pops lt e = go (times (Item.Slot (record { 0 = q })) (m.bag n).holds) refl
    where
      go : (k : ℕ) → times (Item.Slot (record { 0 = q })) (m.bag n).holds ≡ k → slots_freed (m.bag n).holds g.slot_use q ≡ g.slot_use q
      go zero z = use_unfreed (m.bag n).holds q g.slot_use z
      go (suc k) z = out_not_linked (g.slot_use q) (inv.used.slot_out q lt (in_bag-occurs N M m n (Item.Slot (record { 0 = q })) (popped_in N M m g inv p hp n pops) (λ y. omega arith))) e

  -- so the order does not see it go
  order-freed : (n : ℕ) (birth : Tab ℕ) (births : ℕ) (s' : Shared) → popped_node (m.own p).place ≡ some n → OrderOf N g.slot_use birth births s'
      → OrderOf N (slots_freed (m.bag n).holds g.slot_use) birth births s'
  order-freed n birth births s' pops o =
      let u : Tab Use = g.slot_use in
      order_uses N u birth births (pointee s'.list_head) (λ q. pointee (s'.entry_next q)) o (slots_freed (m.bag n).holds u)
      (λ q lt. freed_ind (λ w. w ≡ Use.linked → u q ≡ Use.linked) (m.bag n).holds u q (unused_not_linked Use.unused refl) (λ e. e))
      (λ q lt e. freed_out n q pops lt e ∙ e)
      (λ q lt. freed_ind (λ w. Born w → Born (u q)) (m.bag n).holds u q (unused_not_born (u q)) (λ b. b))

  -- the work of a step
  order_worked : (v : Turn) (s' : Shared) (spare : Node) (a : After) → Change p (m.own p).place m.shared v s' → Worked spare (popped_node (m.own p).place) a
      → (birth : Tab ℕ) (births : ℕ) → OrderOf N (use_turned v g.slot_use) birth births s' → OrderOf N (use_worked a.work m (use_turned v g.slot_use)) birth births s'
  unfolding use_worked
  order_worked v s' spare a ch (Worked.nothing e) birth births o = rw e o
  order_worked v s' spare a ch (Worked.puts i e) birth births o = rw e o
  order_worked v s' spare a ch (Worked.seals w e) birth births o = rw e o
  order_worked v s' spare a ch (Worked.frees i n e was over) birth births o =
      let quiet = popped_quiet p (m.own p).place m.shared v s' n.0 g.slot_use ch was in
      rw (e, quiet) (order-freed n.0 birth births s' was (rw quiet at o))

-- ---- the own next of an insertion

-- only a place of registering says anything of it
own_next-free : (pl : Place) (w : ℕ) → (Registers pl → ⊥) → OwnNext pl w
unfolding OwnNext Registers
own_next-free Place.Rest w h = tt
own_next-free (Place.Register RegisterAt.Head) w h = absurd (h tt)
own_next-free (Place.Register (RegisterAt.Next next)) w h = absurd (h tt)
own_next-free (Place.Register (RegisterAt.Link next)) w h = absurd (h tt)
own_next-free (Place.PinEpoch k) w h = tt
own_next-free (Place.PinWord k e) w h = tt
own_next-free (Place.Repin a) w h = tt
own_next-free Place.UnpinWord w h = tt
own_next-free (Place.AdvanceEpoch k) w h = tt
own_next-free (Place.Walk t a) w h = tt
own_next-free (Place.AdvanceWord t curr succ) w h = tt
own_next-free (Place.AdvanceStore t) w h = tt
own_next-free (Place.Pop q a) w h = tt
own_next-free (Place.Push f a) w h = tt
own_next-free Place.FinalWord w h = tt
own_next-free Place.FinalTag w h = tt

-- after what follows, with the own next w
unfoldable Aims : ℕ → After → Type 0
Aims w a = OwnNext a.participant.place w

module _ (w : ℕ) where
  -- by the functions of specs/Flow: none but an insertion stands before the exchange of one
  on_aims : (pl : Place) (o : Participant) → OwnNext pl w → Aims w (on pl o)
  unfolding Aims on
  on_aims pl o h = h

  done_aims : (v : ℕ) (o : Participant) → Aims w (done v o)
  unfolding Aims done OwnNext
  done_aims v o = tt

  also_aims : (k : Work) (a : After) → Aims w a → Aims w (also k a)
  unfolding Aims also
  also_aims k a h = h

  pick_aims : (b : Bool) (x y : After) → Aims w x → Aims w y → Aims w (branch b x y)
  pick_aims b x y h k = branch_ind (Aims w) b (λ _. h) (λ _. k)

  collected_aims : (k : Owner) (o : Participant) → Aims w (collected k o)
  unfolding collected OwnNext
  collected_aims Owner.Pin o = done_aims 0 o
  collected_aims Owner.Flush o = done_aims 0 o
  collected_aims Owner.Finalize o = on_aims _ o tt

  finalize_aims : (o : Participant) → Aims w (finalize o)
  unfolding finalize OwnNext
  finalize_aims o = on_aims _ _ tt

  pops_aims : (k : Owner) (e : Epoch) (left : ℕ) (o : Participant) → Aims w (pops k e left o)
  unfolding pops OwnNext
  pops_aims k e left o = pick_aims _ _ _ (collected_aims k o) (on_aims _ o tt)

  advanced_aims : (k : Owner) (e : Epoch) (o : Participant) → Aims w (advanced k e o)
  unfolding advanced
  advanced_aims k e o = pops_aims k e collect_steps o

  walk_aims : (t : Try) (pred : Pred) (q : Ptr) (o : Participant) → Aims w (walk t pred q o)
  unfolding walk OwnNext
  walk_aims t pred Ptr.Null o = on_aims _ o tt
  walk_aims t pred (Ptr.At s) o = on_aims _ o tt

  placed_aims : (d : Deferring) (o : Participant) → Aims w (placed d o)
  unfolding placed
  placed_aims (Deferring.Token token) o = also_aims _ _ (done_aims _ o)
  placed_aims (Deferring.Slot t c succ) o = also_aims _ _ (walk_aims t c.pred succ o)
  placed_aims (Deferring.Node p head next) o = also_aims _ _ (pops_aims p.owner p.epoch (p.left - 1) o)

  defer_aims : (d : Deferring) (o : Participant) → Aims w (defer d o)
  unfolding defer OwnNext
  defer_aims d o = pick_aims _ _ _ (placed_aims d _) (on_aims _ o tt)

  pushed_aims : (f : Then) (o : Participant) → Aims w (pushed f o)
  unfolding pushed OwnNext
  pushed_aims (Then.Defer d) o = defer_aims d o
  pushed_aims Then.Flush o = on_aims _ o tt
  pushed_aims Then.Finalize o = on_aims _ _ tt

  -- a call begins at no place of registering
  begins_aims : (c : Call) (o : Participant) → Aims w (begins c o)
  unfolding begins OwnNext
  begins_aims Call.Acquire o = done_aims 0 _
  begins_aims Call.Release o = pick_aims _ _ _ (finalize_aims o) (done_aims 0 _)
  begins_aims Call.Pin o = pick_aims _ _ _ (on_aims _ _ tt) (done_aims 0 _)
  begins_aims Call.Unpin o = pick_aims _ _ _ (on_aims _ _ tt) (done_aims 0 _)
  begins_aims Call.Repin o = pick_aims _ _ _ (on_aims _ _ tt) (done_aims 0 _)
  begins_aims (Call.Defer token) o = defer_aims (Deferring.Token token) o
  begins_aims Call.Flush o = pick_aims _ _ _ (on_aims _ _ tt) (on_aims _ _ tt)

-- an own next that is stored is read back
next_stored : (s : Shared) (p v : ℕ) → (write (Word.EntryNext (record { 0 = p })) v s).entry_next p ≡ v
unfolding write
next_stored s p v = put_same s.entry_next p v

ruleset aiming = (on_aims, done_aims, also_aims, pick_aims, collected_aims, finalize_aims, pops_aims, advanced_aims, walk_aims, defer_aims, pushed_aims)

-- after the access of each place: an insertion that stands before its exchange has just written its own next
module _ (p : ℕ) (spare : Node) (sealed : Node → ℕ) (o : Participant) (s : Shared) where
  aims : (pl : Place) → Leads (λ won s' a. Aims (s'.entry_next p) a) s (rule (record { 0 = p }) spare sealed o pl)
  unfolding Leads rule insert delete iterate push pop pin_epoch pin_word pin_counted unpin_word repin advance_epoch advance_word advance_store final_word seal_bag OwnNext
  aims Place.Rest = search aiming
  aims (Place.Register RegisterAt.Head) = search aiming
  aims (Place.Register (RegisterAt.Next next)) = on_aims _ _ _ (next_stored s p (pointer next))
  aims (Place.Register (RegisterAt.Link next)) = (λ _. search aiming, λ _. search aiming)
  aims (Place.PinEpoch k) = search aiming
  aims (Place.PinWord k e) = search aiming
  aims (Place.Repin RepinAt.Word) = search aiming
  aims (Place.Repin (RepinAt.Epoch e)) = search aiming
  aims (Place.Repin (RepinAt.Store e)) = search aiming
  aims Place.UnpinWord = search aiming
  aims (Place.AdvanceEpoch k) = search aiming
  aims (Place.Walk t WalkAt.Head) = search aiming
  aims (Place.Walk t (WalkAt.Next c)) = search aiming
  aims (Place.Walk t (WalkAt.Unlink c succ)) = (λ _. search aiming, λ _. search aiming)
  aims (Place.Walk t WalkAt.Stalled) = search aiming
  aims (Place.AdvanceWord t curr succ) = search aiming
  aims (Place.AdvanceStore t) = search aiming
  aims (Place.Pop q PopAt.Head) = search aiming
  aims (Place.Pop q (PopAt.Next head)) = search aiming
  aims (Place.Pop q (PopAt.Exchange head next)) = (λ _. search aiming, λ _. search aiming)
  aims (Place.Pop q (PopAt.Tail head next)) = search aiming
  aims (Place.Pop q (PopAt.TailMove head next)) = (λ _. search aiming, λ _. search aiming)
  aims (Place.Push f PushAt.Epoch) = search aiming
  aims (Place.Push f (PushAt.Tail new)) = search aiming
  aims (Place.Push f (PushAt.Next new onto)) = search aiming
  aims (Place.Push f (PushAt.Help new onto next)) = (λ _. search aiming, λ _. search aiming)
  aims (Place.Push f (PushAt.Link new onto)) = (λ _. search aiming, λ _. search aiming)
  aims (Place.Push f (PushAt.Move new onto)) = (λ _. search aiming, λ _. search aiming)
  aims Place.FinalWord = search aiming
  aims Place.FinalTag = search aiming

-- ---- a step

module _ (N M p : ℕ) (m : Machine) (g : Ghost) (inv : Inv N M m g) (hp : p < N) where
  -- a slot in the list is at no place of registering
  linked-free : (q : ℕ) (w : ℕ) → q < N → g.slot_use q ≡ Use.linked → OwnNext (m.own q).place w
  linked-free q w lt e = own_next-free (m.own q).place w (λ r. registering_not_linked (g.slot_use q) (registers_use N m g inv.records q lt r) e)

  -- everybody else's own next: an unlinking writes only into slots in the list
  unlink_others : (b : ℕ) (pred : Pred) (curr v : ℕ) → SafePred N g b pred → read (pred_word pred) m.shared ≡ link curr
      → (q : ℕ) → q < N → OwnNext (m.own q).place ((write (pred_word pred) v m.shared).entry_next q)
  unfolding read write pred_word SafePred
  unlink_others b Pred.Head curr v safe h q lt = inv.listed.own_next q lt
  unlink_others b (Pred.Entry x) curr v safe h q lt = put_ind (OwnNext (m.own q).place) m.shared.entry_next x.0 q v
      (λ e. linked-free q v lt (ap g.slot_use (sym e) ∙ safe_linked N m g inv.records b x.0 safe (link_untagged (m.shared.entry_next x.0) curr h)))
      (λ _. inv.listed.own_next q lt)

  -- and so through each of the changes
  own_others : (v : Turn) (s' : Shared) → Change p (m.own p).place m.shared v s' → (q : ℕ) → q < N → p ≢ q → OwnNext (m.own q).place (s'.entry_next q)
  own_others v s' (Change.none ev es) q lt ne = rw es (inv.listed.own_next q lt)
  own_others v s' (Change.advances t e ev es) q lt ne = unfold write in (rw es (inv.listed.own_next q lt))
  own_others v s' (Change.pins k w e ev es) q lt ne = unfold write in (rw es (inv.listed.own_next q lt))
  own_others v s' (Change.repins w e ev es) q lt ne = unfold write in (rw es (inv.listed.own_next q lt))
  own_others v s' (Change.unpins e ev es) q lt ne = unfold write in (rw es (inv.listed.own_next q lt))
  own_others v s' (Change.finals e ev es) q lt ne = unfold write in (rw es (inv.listed.own_next q lt))
  own_others v s' (Change.aims next e ev es) q lt ne = unfold write in (rw (es, put_other m.shared.entry_next p q (pointer next) ne) (inv.listed.own_next q lt))
  own_others v s' (Change.enlists next e ev h es) q lt ne = unfold write in (rw es (inv.listed.own_next q lt))
  own_others v s' (Change.unlinks t c succ e ev h es) q lt ne =
      let holds = unlink_holds N M m g (g.gpin p) (m.own p).place t c succ e (inv.held.holds p hp) in
      rw es (unlink_others (g.gpin p) c.pred c.curr.0 (pointer succ) holds.0.0 h q lt)
  own_others v s' (Change.tags e ev es) q lt ne =
      unfold write in (rw (es, put_other m.shared.entry_next p q (tagged (m.shared.entry_next p)) ne) (inv.listed.own_next q lt))
  own_others v s' (Change.pops r head next e ev h es) q lt ne = unfold write in (rw es (inv.listed.own_next q lt))
  own_others v s' (Change.tails from to e ev h es) q lt ne = unfold write in (rw es (inv.listed.own_next q lt))
  own_others v s' (Change.links f new onto e ev h es) q lt ne = unfold write in (rw es (inv.listed.own_next q lt))

  -- p's own next after its access
  step_own : Aims ((left_of M p m).entry_next p) (after_of M p m)
  unfolding left_of after_of rule_of
  step_own = leads (λ won s' a. Aims (s'.entry_next p) a) m.shared _ (aims p (record { 0 = least M m.node_free }) (λ n. (m.bag n.0).epoch) (m.own p) m.shared (m.own p).place)

  -- the order after the access and the work
  step-order : OrderOf N (stepped_ghost M p m g).slot_use (stepped_ghost M p m g).birth (stepped_ghost M p m g).births (left_of M p m)
  unfolding stepped_ghost goes_ghost moved
  step-order = order_worked N M p m g inv hp _ (left_of M p m) _ (after_of M p m) (step-change M p m) (step_worked M p m) _ _
      (order_turned N M p m g inv hp _ (left_of M p m) (step-change M p m))

  -- every own next after the step
  step-own_next : (q : ℕ) → q < N → OwnNext ((stepped M p m).own q).place ((stepped M p m).shared.entry_next q)
  unfolding Aims
  step-own_next q lt = rw (stepped_own M p m, stepped_next M p m)
      (put_ind (λ o. OwnNext o.place ((left_of M p m).entry_next q)) m.own p q (after_of M p m).participant
      (λ e. rw (← e) step_own) (λ ne. own_others _ (left_of M p m) (step-change M p m) q lt ne))

-- the list is kept by a step
pub listed-step : (N M p : ℕ) (m : Machine) (g : Ghost) → Inv N M m g → Steps N M p m → Listed N (stepped M p m) (stepped_ghost M p m g)
listed-step N M p m g inv st =
    listed_of N (stepped M p m) (stepped_ghost M p m g) (left_of M p m).list_head (left_of M p m).entry_next (stepped_head M p m) (stepped_next M p m)
    (step-order N M p m g inv st.here) (step-own_next N M p m g inv st.here)

-- ---- a call: it changes no shared word and no use of a slot

-- work that frees nothing
unfoldable Spares : Machine → After → Type 0
Spares m a = (u : Tab Use) → use_worked a.work m u ≡ u

module _ (m : Machine) where
  -- by the functions of specs/Flow that a call begins with
  on_spares : (pl : Place) (o : Participant) → Spares m (on pl o)
  unfolding Spares on use_worked
  on_spares pl o u = refl

  done_spares : (v : ℕ) (o : Participant) → Spares m (done v o)
  unfolding Spares done use_worked
  done_spares v o u = refl

  pick_spares : (b : Bool) (x y : After) → Spares m x → Spares m y → Spares m (branch b x y)
  pick_spares b x y h k = branch_ind (Spares m) b (λ _. h) (λ _. k)

  token_spares : (token : ℕ) (o : Participant) → Spares m (placed (Deferring.Token token) o)
  unfolding Spares placed also use_worked
  token_spares token o u = refl

  -- what a call begins frees nothing
  begins_spares : (c : Call) (o : Participant) → Spares m (begins c o)
  unfolding begins finalize defer
  begins_spares Call.Acquire o = done_spares 0 _
  begins_spares Call.Release o = pick_spares _ _ _ (on_spares _ _) (done_spares 0 _)
  begins_spares Call.Pin o = pick_spares _ _ _ (on_spares _ _) (done_spares 0 _)
  begins_spares Call.Unpin o = pick_spares _ _ _ (on_spares _ _) (done_spares 0 _)
  begins_spares Call.Repin o = pick_spares _ _ _ (on_spares _ _) (done_spares 0 _)
  begins_spares (Call.Defer token) o = pick_spares _ _ _ (token_spares token _) (on_spares _ _)
  begins_spares Call.Flush o = pick_spares _ _ _ (on_spares _ _) (on_spares _ _)

-- the list is kept by a call
pub listed-call : (N M p : ℕ) (c : Call) (m : Machine) (g : Ghost) → Inv N M m g → Calls N M p c m → Listed N (called N p c m) (called_ghost N p c m g)
unfolding called called_ghost moved use_turned birth_turned births_turned Spares Aims opens
listed-call N M p c m g inv st =
    let a : After = begins c _ in
    listed_of N (followed p a m) (called_ghost N p c m g) m.shared.list_head m.shared.entry_next (followed_head p a m) (followed_next p a m)
    (rw (begins_spares m c _ g.slot_use) (order_of N m g inv.listed))
    (λ q lt. rw (followed_own p a m, followed_next p a m)
    (put_ind (λ o. OwnNext o.place (m.shared.entry_next q)) m.own p q a.participant
    (λ _. begins_aims (m.shared.entry_next q) c _) (λ _. inv.listed.own_next q lt)))

-- ---- a registering: slot p was free, so nothing in the list is changed

module _ (N : ℕ) (u : Tab Use) (birth : Tab ℕ) (births : ℕ) (first : Ptr) (to : Tab Ptr) (ord : Order N u birth births first to) (p : ℕ) (free : u p ≡ Use.unused) where
  back : (q : ℕ) → put u p Use.registering q ≡ Use.linked → (p ≢ q) × (u q ≡ Use.linked)
  back q e = same? p q
      (λ i. registering_not_linked (put u p Use.registering q) (rw (← i) (put_same u p Use.registering)) e)
      (λ ne. (ne, sym (put_other u p q Use.registering ne) ∙ e))

  born_back : (q : ℕ) → Born (put u p Use.registering q) → Born (u q)
  born_back q = put_ind (λ w. Born w → Born (u q)) u p q Use.registering (λ _. unfold Born in (λ b. absurd b)) (λ _. λ b. b)

  -- the order, with p being registered and its next written
  order-registers : (to' : Tab Ptr) → ((q : ℕ) → p ≢ q → to' q ≡ to q) → Order N (put u p Use.registering) birth births first to'
  order-registers to' same = order-links N (put u p Use.registering) birth births first to
      (order_uses N u birth births first to ord (put u p Use.registering) (λ q _ e. (back q e).1)
      (λ q _ e. put_other u p q Use.registering (λ i. unused_not_linked (u q) (ap u (sym i) ∙ free) e) ∙ e) (λ q _. born_back q))
      to' (λ q e. same q (back q e).0)

-- the list is kept by a registering
pub listed-register : (N M p : ℕ) (m : Machine) (g : Ghost) → Inv N M m g → I.Registers N p m → Listed N (registered p m) (registered_ghost p g)
unfolding registered registered_ghost write new_participant
listed-register N M p m g inv st =
    listed_of N (registered p m) (registered_ghost p g) m.shared.list_head (put m.shared.entry_next p null) refl refl
    (order-registers N g.slot_use g.birth g.births (pointee m.shared.list_head) (λ q. pointee (m.shared.entry_next q)) (order_of N m g inv.listed) p
    (free_unused N m g inv.records p st.here st.free) (λ q. pointee (put m.shared.entry_next p null q))
    (λ q ne. ap pointee (put_other m.shared.entry_next p q null ne)))
    (λ q lt. same? p q
    (λ e. rw (← e, put_same m.own p new_participant) (unfold OwnNext in tt))
    (λ ne. rw (put_other m.own p q new_participant ne, put_other m.shared.entry_next p q null ne) (inv.listed.own_next q lt)))
