-- R, room, kept by every step, call and registering: the set-aside total is the sum of the shares and at most the number of free nodes, and every
-- running operation has room for what it can still retire. A step changes the total by the change of its own share; a seal takes one free node
-- and one of the share; freeing only adds free nodes. The slots that left the list since a pin are not freed while it stands (Safety), so their
-- number never falls, and it grows when one is unlinked: that is why a walk needs no node for a slot that somebody else retired. So a step
-- that must take a node finds one. Leans on Epochs, Listed (who is unlinked was in the list), Used and Held. Assumes nothing.
use mathlib.Core.Path.{◌≡◌, refl, ap, sym, ◌∙◌}
use mathlib.Core.Logic.{◌≢◌}
use mathlib.Core.Bool.{Bool, true, false, true≢false}
use mathlib.Core.List.{List, [], ◌∷◌}
use Prim.Native.Nat.{ℕ, zero, suc, ◌+◌, ◌-◌, ◌≤◌, ◌<◌}
use native.Mathlib.Omega.{arith}
use borrow.Author.Tests.{leb-true, le-leb}
use Rattle.epoch.specs.Epoch.{is_pinned}
use Rattle.definition.specs.Base.{branch, Tab, put, sum, count, least}
use Rattle.definition.specs.Links.{link, pointee, pointer, is_tagged}
use Rattle.definition.specs.Bags.{free_nodes}
use Rattle.definition.specs.Tables.{Shared, read, write}
use Rattle.definition.specs.Rule.{asks, sees}
use Rattle.definition.specs.List.{pred_word}
use Rattle.definition.specs.Calls.{needs, opens}
use Rattle.definition.specs.Public.{takes_node, new_participant}
use Rattle.definition.proofs.Base.{same?, put_ind, put_same, sum_ext, sum-put, count-le, count_least, least_marked}
use Rattle.theorems.proofs.Machine.{Machine, works, followed}
use Rattle.theorems.proofs.Ghost.{Use, Ghost, Turn, turn_of, G, use_turned, gone_turned, use_worked, moved}
use Rattle.theorems.proofs.Leads.{leads}
use Rattle.theorems.proofs.Change.{Change}
use Rattle.theorems.proofs.Worked.{Worked}
use Rattle.theorems.proofs.Frames.{own_goes}
use Rattle.theorems.proofs.Live.{unlinked_word}
use Rattle.theorems.proofs.Safety.{sum_at, slot_unfreed, use_unfreed}
use Rattle.theorems.proofs.Records.{chg, wrk, mine, Mine, Turned, turned, word-kept}
use Rattle.theorems.proofs.Epochs.{gpin_same}
use Rattle.theorems.proofs.Order.{to_slot}
use Rattle.theorems.proofs.Linked.{under-pin, safe_linked, free_unused, followed_own}
use Rattle.theorems.proofs.List.{pointee-link, link_untagged, unlink_holds}
use Rattle.theorems.proofs.Tidy.{ShareBy, Tidy, rest_share, tidy, Light, opens_tidy, opens_light}
use Rattle.theorems.proofs.Room.{counts_left, counts_under, room_up, fine_filled, RoomAfter, Gains, RoomQ, room_step, call_room}
use Rattle.theorems.proofs.Invariant.{Pinned, Fine, SafeUse, SafeSlot, SafePred, popped_node, left_since, W, Room, RoomPush, Roomy}
use Rattle.theorems.proofs.Inv.{Inv, Steps, Calls, rule_of, won_of, left_of, after_of, goes, goes_ghost, stepped, stepped_ghost, called, called_ghost, registered, registered_ghost}
use Rattle.theorems.proofs.Inv as I
use Rattle.theorems.proofs.Types.{Pred, Item, Then, RegisterAt, RepinAt, WalkAt, PushAt, Place, Participant, After, Call}

-- ---- counting marked indices

-- one index
one_at : (b c : Bool) → (b ≡ true → c ≡ true) → branch b 1 0 ≤ branch c 1 0
unfolding branch
one_at true c h = rw (h refl) (omega arith)
one_at false true h = omega arith
one_at false false h = omega arith

-- an index that is not marked counts nothing
unmarked : (b : Bool) → b ≡ false → branch {A = ℕ} b 1 0 ≡ 0
unfolding branch
unmarked b e = rw e refl

-- one that is marked counts one
marked : (b : Bool) → b ≡ true → branch {A = ℕ} b 1 0 ≡ 1
unfolding branch
marked b e = rw e refl

-- where at least as much is marked
pub count_mono : (n : ℕ) (f g : Tab Bool) → ((i : ℕ) → i < n → f i ≡ true → g i ≡ true) → count n f ≤ count n g
unfolding count sum
count_mono zero f g h = omega arith
count_mono (suc n) f g h = let a = count_mono n f g (λ i lt. h i (omega arith)) in let b = one_at (f n) (g n) (h n (omega arith)) in omega arith

-- one more is marked
pub count_more : (n : ℕ) (f g : Tab Bool) (j : ℕ) → j < n → f j ≡ false → g j ≡ true → ((i : ℕ) → i < n → f i ≡ true → g i ≡ true) → count n f + 1 ≤ count n g
unfolding count sum
count_more zero f g j lt e k h = absurd (omega arith)
count_more (suc n) f g j lt e k h = same? j n
    (λ s. let a = count_mono n f g (λ i l. h i (omega arith)) in
    let b = unmarked (f n) (ap f (sym s) ∙ e) in let c = marked (g n) (ap g (sym s) ∙ k) in
    omega arith)
    (λ ne. let a = count_more n f g j (omega arith) e k (λ i l. h i (omega arith)) in let b = one_at (f n) (g n) (h n (omega arith)) in omega arith)

-- one that was marked is taken away
pub count-take : (n : ℕ) (f : Tab Bool) (i : ℕ) → i < n → f i ≡ true → count n (put f i false) + 1 ≡ count n f
unfolding count branch
count-take n f i lt e = let a = sum-put n (λ (b : Bool). branch {A = ℕ} b 1 0) f i false lt in let b = marked (f i) e in omega arith

-- freeing takes no free node away
pub stays-free : (l : List Item) (f : Tab Bool) (x : ℕ) → f x ≡ true → free_nodes l f x ≡ true
unfolding free_nodes
stays-free [] f x h = h
stays-free (Item.Token t ∷ l) f x h = stays-free l f x h
stays-free (Item.Slot s ∷ l) f x h = stays-free l f x h
stays-free (Item.Node n ∷ l) f x h = stays-free l (put f n.0 true) x (put_ind (λ (b : Bool). b ≡ true) f n.0 x true (λ _. refl) (λ _. h))

-- ---- slots that left since a pin

-- what it says
since_is : (u : Use) (b r : ℕ) → left_since u b r ≡ true → (u ≡ Use.out) × (b ≤ r)
unfolding left_since
since_is Use.unused b r h = absurd (true≢false (sym h))
since_is Use.registering b r h = absurd (true≢false (sym h))
since_is Use.linked b r h = absurd (true≢false (sym h))
since_is Use.out b r h = (refl, leb-true b r h)

-- and when it holds
since_out : (u : Use) (b r : ℕ) → u ≡ Use.out → b ≤ r → left_since u b r ≡ true
unfolding left_since
since_out u b r e h = rw e (le-leb b r h)

-- a slot in the list has not left
since-linked : (u : Use) (b r : ℕ) → u ≡ Use.linked → left_since u b r ≡ false
unfolding left_since
since-linked u b r e = rw e refl

-- a slot that is out stays out through a turn that inserts another
out_stays : (v : Turn) (x : ℕ) (u : Tab Use) → ((i : ℕ) → v ≡ Turn.enlists i → u i ≢ Use.out) → u x ≡ Use.out → use_turned v u x ≡ Use.out
unfolding use_turned
out_stays Turn.quiet x u ne h = h
out_stays (Turn.enlists i) x u ne h = put_ind (λ (w : Use). w ≡ Use.out) u i x Use.linked (λ e. absurd (ne i refl (ap u e ∙ h))) (λ _. h)
out_stays (Turn.unlinks i) x u ne h = put_ind (λ (w : Use). w ≡ Use.out) u i x Use.out (λ _. refl) (λ _. h)
out_stays (Turn.links n) x u ne h = h

-- no slot that left has left earlier than it did
gone_up : (v : Turn) (e b x : ℕ) (r : Tab ℕ) → b ≤ e → b ≤ r x → b ≤ gone_turned v e r x
unfolding gone_turned
gone_up Turn.quiet e b x r le h = h
gone_up (Turn.enlists i) e b x r le h = h
gone_up (Turn.unlinks i) e b x r le h = put_ind (λ (k : ℕ). b ≤ k) r i x e (λ _. le) (λ _. h)
gone_up (Turn.links n) e b x r le h = h

-- a slot that is unlinked is out, as of now
unlinked_out : (i : ℕ) (u : Tab Use) → use_turned (Turn.unlinks i) u i ≡ Use.out
unfolding use_turned
unlinked_out i u = put_same u i Use.out

-- and left now
unlinked_gone : (i e : ℕ) (r : Tab ℕ) → gone_turned (Turn.unlinks i) e r i ≡ e
unfolding gone_turned
unlinked_gone i e r = put_same r i e

-- turns are told apart
quiet_unlinks : (x : ℕ) → Turn.quiet ≡ Turn.unlinks x → ⊥
quiet_unlinks x e = let z : ◌≡◌ {A = ℕ} 0 1 = cc in omega arith

enlists_unlinks : (i x : ℕ) → Turn.enlists i ≡ Turn.unlinks x → ⊥
enlists_unlinks i x e = let z : ◌≡◌ {A = ℕ} 0 1 = cc in omega arith

links_unlinks : (i x : ℕ) → Turn.links i ≡ Turn.unlinks x → ⊥
links_unlinks i x e = let z : ◌≡◌ {A = ℕ} 0 1 = cc in omega arith

quiet_enlists : (x : ℕ) → Turn.quiet ≡ Turn.enlists x → ⊥
quiet_enlists x e = let z : ◌≡◌ {A = ℕ} 0 1 = cc in omega arith

links_enlists : (i x : ℕ) → Turn.links i ≡ Turn.enlists x → ⊥
links_enlists i x e = let z : ◌≡◌ {A = ℕ} 0 1 = cc in omega arith

-- who has left since a pin is safe for it
safe_since : (N : ℕ) (g : Ghost) (b x : ℕ) → x < N → g.slot_use x ≡ Use.out → b ≤ g.gone x → SafeSlot N g b x
unfolding SafeSlot SafeUse
safe_since N g b x lt e h = (lt, rw e h)

-- so is who is in the list
safe_in_list : (N : ℕ) (g : Ghost) (b x : ℕ) → x < N → g.slot_use x ≡ Use.linked → SafeSlot N g b x
unfolding SafeSlot SafeUse
safe_in_list N g b x lt e = (lt, rw e tt)

-- a place that counts the slots that left stores no word of its own
no_counts : (pl qp : Place) → pl ≡ qp → counts_left qp ≡ false → counts_left pl ≡ true → ⊥
no_counts pl qp e f h = true≢false (sym h ∙ ap counts_left e ∙ f)

-- so its word is as it was
pub own_word-kept : (p : ℕ) (pl : Place) (s s' : Shared) (v : Turn) → Change p pl s v s' → counts_left pl ≡ true → s'.word p ≡ s.word p
unfolding write counts_left
own_word-kept p pl s s' v (Change.none t e) c = rw e
own_word-kept p pl s s' v (Change.advances y h t e) c = rw e
own_word-kept p pl s s' v (Change.pins k y h t e) c = absurd (no_counts pl (Place.PinWord k y) h refl c)
own_word-kept p pl s s' v (Change.repins y h t e) c = absurd (no_counts pl (Place.Repin (RepinAt.Store y)) h refl c)
own_word-kept p pl s s' v (Change.unpins h t e) c = absurd (no_counts pl Place.UnpinWord h refl c)
own_word-kept p pl s s' v (Change.finals h t e) c = absurd (no_counts pl Place.FinalWord h refl c)
own_word-kept p pl s s' v (Change.aims next h t e) c = rw e
own_word-kept p pl s s' v (Change.enlists next h t w e) c = rw e
own_word-kept p pl s s' v (Change.unlinks y x succ h t w e) c = rw e (ap (λ (f : Tab ℕ). f p) (unlinked_word x.pred (pointer succ) s))
own_word-kept p pl s s' v (Change.tags h t e) c = rw e
own_word-kept p pl s s' v (Change.pops q x y h t w e) c = rw e
own_word-kept p pl s s' v (Change.tails f y h t w e) c = rw e
own_word-kept p pl s s' v (Change.links f n o h t w e) c = rw e

-- what is behind a link that was just exchanged was in the list
module _ (N M : ℕ) (m : Machine) (g : Ghost) (inv : Inv N M m g) where
  -- by the predecessor
  behind : (b : ℕ) (pred : Pred) (curr : ℕ) → SafePred N g b pred → read (pred_word pred) m.shared ≡ link curr → (curr < N) × (g.slot_use curr ≡ Use.linked)
  unfolding read pred_word SafePred SafeSlot
  behind b Pred.Head curr safe h = to_slot N g.slot_use curr (pointee m.shared.list_head) (ap pointee h ∙ pointee-link curr) inv.listed.head
  behind b (Pred.Entry x) curr safe h =
      to_slot N g.slot_use curr (pointee (m.shared.entry_next x.0)) (ap pointee h ∙ pointee-link curr)
      (inv.listed.next x.0 safe.0 (safe_linked N m g inv.records b x.0 safe (link_untagged (m.shared.entry_next x.0) curr h)))

  -- by the change
  unlinked_now : (p : ℕ) → p < N → (v : Turn) (s' : Shared) → Change p (m.own p).place m.shared v s' → (i : ℕ) → v ≡ Turn.unlinks i → (i < N) × (g.slot_use i ≡ Use.linked)
  unlinked_now p hp v s' (Change.none t e) i u = absurd (quiet_unlinks i (sym t ∙ u))
  unlinked_now p hp v s' (Change.advances y h t e) i u = absurd (quiet_unlinks i (sym t ∙ u))
  unlinked_now p hp v s' (Change.pins k y h t e) i u = absurd (quiet_unlinks i (sym t ∙ u))
  unlinked_now p hp v s' (Change.repins y h t e) i u = absurd (quiet_unlinks i (sym t ∙ u))
  unlinked_now p hp v s' (Change.unpins h t e) i u = absurd (quiet_unlinks i (sym t ∙ u))
  unlinked_now p hp v s' (Change.finals h t e) i u = absurd (quiet_unlinks i (sym t ∙ u))
  unlinked_now p hp v s' (Change.aims next h t e) i u = absurd (quiet_unlinks i (sym t ∙ u))
  unlinked_now p hp v s' (Change.enlists next h t w e) i u = absurd (enlists_unlinks p i (sym t ∙ u))
  unlinked_now p hp v s' (Change.unlinks y c succ h t w e) i u =
      let j : c.curr.0 ≡ i = cc (sym t ∙ u) in
      rw j at (behind (g.gpin p) c.pred c.curr.0 (unlink_holds N M m g (g.gpin p) (m.own p).place y c succ h (inv.held.holds p hp)).0.0 w)
  unlinked_now p hp v s' (Change.tags h t e) i u = absurd (quiet_unlinks i (sym t ∙ u))
  unlinked_now p hp v s' (Change.pops q x y h t w e) i u = absurd (quiet_unlinks i (sym t ∙ u))
  unlinked_now p hp v s' (Change.tails f y h t w e) i u = absurd (quiet_unlinks i (sym t ∙ u))
  unlinked_now p hp v s' (Change.links f n o h t w e) i u = absurd (links_unlinks n.0 i (sym t ∙ u))

-- a place that unlinks gains what it unlinks
gains_by : (N p : ℕ) (w v : ℕ) (le : v ≤ N) (pl : Place) (pins h k s : ℕ) → Room N pl pins h k s w → ((i : ℕ) → turn_of p pl true ≡ Turn.unlinks i → w + 1 ≤ v) → Gains N v le pl k s
unfolding Room Gains turn_of branch
gains_by N p w v le Place.Rest pins h k s x f = tt
gains_by N p w v le (Place.Register a) pins h k s x f = tt
gains_by N p w v le (Place.PinEpoch o) pins h k s x f = tt
gains_by N p w v le (Place.PinWord o e) pins h k s x f = tt
gains_by N p w v le (Place.Repin a) pins h k s x f = tt
gains_by N p w v le Place.UnpinWord pins h k s x f = tt
gains_by N p w v le (Place.AdvanceEpoch o) pins h k s x f = tt
gains_by N p w v le (Place.Walk t WalkAt.Head) pins h k s x f = tt
gains_by N p w v le (Place.Walk t (WalkAt.Next c)) pins h k s x f = tt
gains_by N p w v le (Place.Walk t (WalkAt.Unlink c succ)) pins h k s x f = let i = x.1 in let j = f c.curr.0 refl in omega arith
gains_by N p w v le (Place.Walk t WalkAt.Stalled) pins h k s x f = tt
gains_by N p w v le (Place.AdvanceWord t curr succ) pins h k s x f = tt
gains_by N p w v le (Place.AdvanceStore t) pins h k s x f = tt
gains_by N p w v le (Place.Pop q a) pins h k s x f = tt
gains_by N p w v le (Place.Push o a) pins h k s x f = tt
gains_by N p w v le Place.FinalWord pins h k s x f = tt
gains_by N p w v le Place.FinalTag pins h k s x f = tt

-- ---- the step

module _ (N M p : ℕ) (m : Machine) (g : Ghost) (inv : Inv N M m g) (st : Steps N M p m) where
  abbrev pl : Place
  pl = (m.own p).place

  abbrev s' : Shared
  s' = left_of M p m

  abbrev a : After
  a = after_of M p m

  abbrev v : Turn
  v = turn_of p pl (won_of M p m)

  abbrev m' : Machine
  m' = stepped M p m

  abbrev g' : Ghost
  g' = stepped_ghost M p m g

  abbrev c : Change p pl m.shared v s'
  c = chg N M p m g inv st

  -- whoever steps is not out of the list
  mine_not_out : g.slot_use p ≢ Use.out
  mine_not_out e = go (mine N M p m g inv st)
    where
      go : Mine (g.slot_use p) (is_tagged (m.shared.entry_next p)) (is_pinned (m.shared.word p)) (m.own p) (m.held p) → ⊥
      go (Mine.fresh u h) = let z : ◌≡◌ {A = ℕ} 0 1 = cc in omega arith
      go (Mine.live u t l) = let z : ◌≡◌ {A = ℕ} 0 1 = cc in omega arith

  -- nor whoever is inserted
  enlists_not_out : (i : ℕ) → v ≡ Turn.enlists i → g.slot_use i ≢ Use.out
  enlists_not_out i u = go (turned p pl m.shared v s' c)
    where
      go : Turned p pl v → g.slot_use i ≢ Use.out
      go (Turned.quiet t) = absurd (quiet_enlists i (sym t ∙ u))
      go (Turned.enlisted next h t) = let e : p ≡ i = cc (sym t ∙ u) in (λ o. mine_not_out (ap g.slot_use e ∙ o))
      go (Turned.unlinked y x succ h t) = absurd (enlists_unlinks i x.curr.0 (sym u ∙ t))
      go (Turned.linked f n o h t) = absurd (links_enlists n.0 i (sym t ∙ u))

  -- a slot that somebody pinned holds is not freed
  use_by : Worked (record { 0 = least M m.node_free }) (popped_node pl) a → (d x : ℕ) → d < N → Pinned m d → SafeSlot N g (g.gpin d) x
      → use_worked a.work m (use_turned v g.slot_use) x ≡ use_turned v g.slot_use x
  unfolding use_worked
  use_by (Worked.nothing e) d x hd pd safe = rw e refl
  use_by (Worked.puts i e) d x hd pd safe = rw e refl
  use_by (Worked.frees i n e w k) d x hd pd safe = rw e (use_unfreed (m.bag n.0).holds x (use_turned v g.slot_use) (slot_unfreed N M m g inv p st.here n.0 w d x hd pd safe))
  use_by (Worked.seals y e) d x hd pd safe = rw e refl

  -- so its use is what the turn makes of it
  use_after : (d x : ℕ) → d < N → Pinned m d → SafeSlot N g (g.gpin d) x → g'.slot_use x ≡ use_turned v g.slot_use x
  unfolding stepped_ghost goes_ghost moved
  use_after d x hd pd safe = use_by (wrk N M p m g inv st) d x hd pd safe

  -- when it left
  gone-after : (x : ℕ) → g'.gone x ≡ gone_turned v (G m) g.gone x
  unfolding stepped_ghost goes_ghost moved
  gone-after x = refl

  -- a slot that left since a pin still counts
  since-kept : (d x : ℕ) → d < N → Pinned m d → x < N → left_since (g.slot_use x) (g.gpin d) (g.gone x) ≡ true → left_since (g'.slot_use x) (g.gpin d) (g'.gone x) ≡ true
  since-kept d x hd pd hx h =
      let k = since_is (g.slot_use x) (g.gpin d) (g.gone x) h in
      since_out (g'.slot_use x) (g.gpin d) (g'.gone x)
      (use_after d x hd pd (safe_since N g (g.gpin d) x hx k.0 k.1) ∙ out_stays v x g.slot_use enlists_not_out k.0)
      (rw (gone-after x) (gone_up v (G m) (g.gpin d) x g.gone (inv.epochs.pin_le d hd pd) k.1))

  -- so their number does not fall
  left-kept : (d : ℕ) → d < N → Pinned m d → W N g (g.gpin d) ≤ W N g' (g.gpin d)
  unfolding W
  left-kept d hd pd = count_mono N _ _ (λ x hx h. since-kept d x hd pd hx h)

  -- and one that is unlinked now counts besides
  left_grows : (d : ℕ) → d < N → Pinned m d → (i : ℕ) → v ≡ Turn.unlinks i → W N g (g.gpin d) + 1 ≤ W N g' (g.gpin d)
  unfolding W
  left_grows d hd pd i e =
      let k = unlinked_now N M m g inv p st.here v s' c i e in
      count_more N _ _ i k.0 (since-linked (g.slot_use i) (g.gpin d) (g.gone i) k.1)
      (since_out (g'.slot_use i) (g.gpin d) (g'.gone i)
      (use_after d i hd pd (safe_in_list N g (g.gpin d) i k.0 k.1) ∙ ap (λ (t : Turn). use_turned t g.slot_use i) e ∙ unlinked_out i g.slot_use)
      (rw (gone-after i, e, unlinked_gone i (G m) g.gone) (inv.epochs.pin_le d hd pd)))
      (λ x hx h. since-kept d x hd pd hx h)

  -- the pin of whoever's word is as it was
  gpin_after_lem : (q : ℕ) → s'.word q ≡ m.shared.word q → g'.gpin q ≡ g.gpin q
  unfolding stepped_ghost goes_ghost moved
  gpin_after_lem q e = gpin_same (G m) m.shared.word s'.word g.gpin q e

  abbrev w : ℕ
  w = W N g (g.gpin p)

  abbrev w' : ℕ
  w' = W N g' (g'.gpin p)

  -- there are no more than slots
  few : w' ≤ N
  unfolding W
  few = count-le N _

  -- the pin of who steps, at a place that counts
  own_pin : counts_left pl ≡ true → (g'.gpin p ≡ g.gpin p) × Pinned m p
  own_pin h = (gpin_after_lem p (own_word-kept p pl m.shared s' v c h), under-pin N m g inv.records p st.here (counts_under pl h))

  -- so for it too their number does not fall
  own_left : counts_left pl ≡ true → w ≤ w'
  own_left h = let k = own_pin h in rw k.0 (left-kept p st.here k.1)

  -- who unlinks is at such a place
  unlinks_counts : (qp : Place) (i : ℕ) → turn_of p qp true ≡ Turn.unlinks i → counts_left qp ≡ true
  unfolding turn_of branch counts_left
  unlinks_counts Place.Rest i h = absurd (quiet_unlinks i h)
  unlinks_counts (Place.Register RegisterAt.Head) i h = absurd (quiet_unlinks i h)
  unlinks_counts (Place.Register (RegisterAt.Next next)) i h = absurd (quiet_unlinks i h)
  unlinks_counts (Place.Register (RegisterAt.Link next)) i h = absurd (enlists_unlinks p i h)
  unlinks_counts (Place.PinEpoch k) i h = absurd (quiet_unlinks i h)
  unlinks_counts (Place.PinWord k e) i h = absurd (quiet_unlinks i h)
  unlinks_counts (Place.Repin x) i h = absurd (quiet_unlinks i h)
  unlinks_counts Place.UnpinWord i h = absurd (quiet_unlinks i h)
  unlinks_counts (Place.AdvanceEpoch k) i h = refl
  unlinks_counts (Place.Walk t x) i h = refl
  unlinks_counts (Place.AdvanceWord t curr succ) i h = refl
  unlinks_counts (Place.AdvanceStore t) i h = refl
  unlinks_counts (Place.Pop q x) i h = absurd (quiet_unlinks i h)
  unlinks_counts (Place.Push f x) i h = refl
  unlinks_counts Place.FinalWord i h = absurd (quiet_unlinks i h)
  unlinks_counts Place.FinalTag i h = absurd (quiet_unlinks i h)

  -- and it gains what it unlinks
  own_gains : won_of M p m ≡ true → (i : ℕ) → turn_of p pl true ≡ Turn.unlinks i → w + 1 ≤ w'
  own_gains won i e = let k = own_pin (unlinks_counts pl i e) in rw k.0 (left_grows p st.here k.1 i (ap (λ (b : Bool). turn_of p pl b) won ∙ e))

  abbrev room : Room N pl (m.own p).counts.pins (m.own p).counts.handles (m.own p).held (m.own p).share w
  room = inv.roomy.room p st.here

  -- room for who steps
  room_own : RoomAfter N w' a
  unfolding after_of won_of rule_of
  room_own = leads (RoomQ N w' few pl (m.own p)) m.shared (rule_of M p m)
      (room_step N w' few M p (record { 0 = least M m.node_free }) (λ n. (m.bag n.0).epoch) (m.own p) m.shared pl
      (inv.ranged.places p st.here) (fine_filled (g.slot_use p) _ _ (m.own p) (m.held p) (inv.records.lengths p) (inv.records.fine p st.here))
      (room_up N pl _ _ _ _ w w' own_left room))
      (λ won. gains_by N p w w' few pl _ _ _ _ room (own_gains won))

  -- for everybody else
  room_other : (q : ℕ) → q < N → q ≢ p → Room N (m.own q).place (m.own q).counts.pins (m.own q).counts.handles (m.own q).held (m.own q).share (W N g' (g'.gpin q))
  room_other q hq ne = rw (gpin_after_lem q (word-kept p pl m.shared s' v c q ne))
      (room_up N (m.own q).place _ _ _ _ (W N g (g.gpin q)) (W N g' (g.gpin q))
      (λ h. left-kept q hq (under-pin N m g inv.records q hq (counts_under (m.own q).place h))) (inv.roomy.room q hq))

  -- for each
  room_after : (q : ℕ) → q < N → Room N (m'.own q).place (m'.own q).counts.pins (m'.own q).counts.handles (m'.own q).held (m'.own q).share (W N g' (g'.gpin q))
  unfolding stepped RoomAfter
  room_after q hq = rw (own_goes p m s' a q) (put_ind (λ (o : Participant). Room N o.place o.counts.pins o.counts.handles o.held o.share (W N g' (g'.gpin q))) m.own p q a.participant
      (λ e. rw (← e) room_own) (λ ne. room_other q hq (λ i. ne (sym i))))

  -- ---- the total

  -- it changes by the own share
  aside-after : m'.aside ≡ m.aside - (m.own p).share + a.participant.share
  unfolding stepped goes followed
  aside-after = refl

  -- of which the own share is part
  share_le : (m.own p).share ≤ m.aside
  share_le = rw inv.roomy.total (sum_at N (λ q. (m.own q).share) p st.here)

  -- so it is still the sum
  total_after : m'.aside ≡ sum N (λ q. (m'.own q).share)
  unfolding stepped
  total_after =
      let e = sum_ext N (λ q. (m'.own q).share) (λ q. (put m.own p a.participant q).share) (λ q _. ap (λ (o : Participant). o.share) (own_goes p m s' a q)) in
      let k = sum-put N (λ (o : Participant). o.share) m.own p a.participant st.here in
      let t = inv.roomy.total in let l = share_le in let z = aside-after in
      omega arith

  -- the numbers of who steps
  pub tidy_after : Tidy (takes_node pl) (m.own p).share a
  unfolding after_of rule_of
  tidy_after = tidy (record { 0 = p }) (record { 0 = least M m.node_free }) (λ n. (m.bag n.0).epoch) (m.own p) pl (sees (asks (rule_of M p m)) m.shared)
      (record { counts = inv.ranged.counts p st.here; held = (inv.ranged.held p st.here).0; share = omega arith })
      (rest_share pl (m.own p).share (inv.ranged.shares p st.here))

  -- by the work: a node is taken from the free ones with one of the share
  enough_by : Worked (record { 0 = least M m.node_free }) (popped_node pl) a → ShareBy (takes_node pl) (m.own p).share a.participant.share a.work → m'.aside ≤ count M m'.node_free
  unfolding stepped goes followed works ShareBy
  enough_by (Worked.nothing e) t = let h : a.participant.share ≤ (m.own p).share = rw e at t in let l = share_le in let i = inv.roomy.enough in rw e (omega arith)
  enough_by (Worked.puts i e) t = let h : a.participant.share ≤ (m.own p).share = rw e at t in let l = share_le in let i = inv.roomy.enough in rw e (omega arith)
  enough_by (Worked.frees i n e x k) t =
      let h : a.participant.share ≤ (m.own p).share = rw e at t in let l = share_le in let i = inv.roomy.enough in
      let j = count_mono M m.node_free (free_nodes (m.bag n.0).holds m.node_free) (λ x _ f. stays-free (m.bag n.0).holds m.node_free x f) in
      rw e (omega arith)
  enough_by (Worked.seals y e) t =
      let h : (takes_node pl ≡ true) × (a.participant.share ≡ (m.own p).share - 1) = rw e at t in
      let hs = h.1 in
      let sp = st.spare h.0 in let one = sp.1 in
      let l = share_le in let i = inv.roomy.enough in
      let j = count-take M m.node_free (least M m.node_free) sp.0 (least_marked M m.node_free sp.0) in
      rw e (omega arith)

  -- all three
  roomy_at : Roomy N M m' g'
  roomy_at = record { total = total_after; enough = enough_by (wrk N M p m g inv st) tidy_after.share; room = room_after }

-- R is kept by a step
pub roomy_step : (N M p : ℕ) (m : Machine) (g : Ghost) → Inv N M m g → Steps N M p m → Roomy N M (stepped M p m) (stepped_ghost M p m g)
roomy_step N M p m g inv st = roomy_at N M p m g inv st

-- ---- a call: what it sets aside was free

module _ (N M p : ℕ) (c : Call) (m : Machine) (g : Ghost) (inv : Inv N M m g) (cl : Calls N M p c m) where
  abbrev o : Participant
  o = m.own p

  abbrev opened : After
  opened = opens N c (m.own p)

  abbrev m₁ : Machine
  m₁ = called N p c m

  abbrev g₁ : Ghost
  g₁ = called_ghost N p c m g

  -- a call frees nothing
  light_uses : Light opened → use_worked opened.work m (use_turned Turn.quiet g.slot_use) ≡ g.slot_use
  unfolding use_worked use_turned
  light_uses (Light.nothing e) = rw e refl
  light_uses (Light.puts i e) = rw e refl

  -- so all uses are as they were
  uses_called : g₁.slot_use ≡ g.slot_use
  unfolding called_ghost moved
  uses_called = light_uses (opens_light N c o)

  -- nobody leaves
  gone-called : g₁.gone ≡ g.gone
  unfolding called_ghost moved gone_turned
  gone-called = refl

  -- nobody is pinned by it
  gpin_called : (q : ℕ) → g₁.gpin q ≡ g.gpin q
  unfolding called_ghost moved
  gpin_called q = gpin_same (G m) m.shared.word m.shared.word g.gpin q refl

  -- so the same slots have left
  left-called : (q : ℕ) → W N g₁ (g₁.gpin q) ≡ W N g (g.gpin q)
  unfolding W
  left-called q = rw (uses_called, gone-called, gpin_called q) refl

  -- one record changes
  own_called : (q : ℕ) → m₁.own q ≡ put m.own p opened.participant q
  unfolding called
  own_called q = ap (λ (t : Tab Participant). t q) (followed_own p opened m)

  -- no more than slots
  few_called : W N g (g.gpin p) ≤ N
  unfolding W
  few_called = count-le N _

  -- room for each
  room_called : (q : ℕ) → q < N → Room N (m₁.own q).place (m₁.own q).counts.pins (m₁.own q).counts.handles (m₁.own q).held (m₁.own q).share (W N g₁ (g₁.gpin q))
  unfolding RoomAfter
  room_called q hq = rw (left-called q, own_called q)
      (put_ind (λ (o : Participant). Room N o.place o.counts.pins o.counts.handles o.held o.share (W N g (g.gpin q))) m.own p q opened.participant
      (λ e. rw (← e) (call_room N (W N g (g.gpin p)) o c few_called (inv.ranged.held p cl.here).0)) (λ _. inv.roomy.room q hq))

  -- the total grows by what is set aside
  aside-called : m₁.aside ≡ m.aside - (m.own p).share + opened.participant.share
  unfolding called followed
  aside-called = refl

  -- at rest there was none
  no_share : (m.own p).share ≡ 0
  no_share = inv.ranged.shares p cl.here cl.resting

  -- so it is the sum
  total_called : m₁.aside ≡ sum N (λ q. (m₁.own q).share)
  total_called =
      let e = sum_ext N (λ q. (m₁.own q).share) (λ q. (put m.own p opened.participant q).share) (λ q _. ap (λ (x : Participant). x.share) (own_called q)) in
      let k = sum-put N (λ (x : Participant). x.share) m.own p opened.participant cl.here in
      let t = inv.roomy.total in let z = aside-called in let y = no_share in
      omega arith

  -- the numbers of who calls
  pub tidy_called : Tidy false (needs N c o) opened
  tidy_called = opens_tidy N c o (inv.ranged.counts p cl.here) (inv.ranged.held p cl.here).0 cl.below

  -- no more than it asked for
  light_share : Light opened → ShareBy false (needs N c o) opened.participant.share opened.work → opened.participant.share ≤ needs N c o
  unfolding ShareBy
  light_share (Light.nothing e) h = rw e at h
  light_share (Light.puts i e) h = rw e at h

  -- no node is taken or freed
  light_nodes : Light opened → m₁.node_free ≡ m.node_free
  unfolding called followed works
  light_nodes (Light.nothing e) = rw e refl
  light_nodes (Light.puts i e) = rw e refl

  -- and that much was free (check 11)
  enough-called : m₁.aside ≤ count M m₁.node_free
  enough-called = rw (light_nodes (opens_light N c o))
      (let s = light_share (opens_light N c o) tidy_called.share in let r = cl.room in let z = aside-called in let y = no_share in omega arith)

  -- all three
  roomy_by_call : Roomy N M m₁ g₁
  roomy_by_call = record { total = total_called; enough = enough-called; room = room_called }

-- R is kept by a call
pub roomy_call : (N M p : ℕ) (c : Call) (m : Machine) (g : Ghost) → Inv N M m g → Calls N M p c m → Roomy N M (called N p c m) (called_ghost N p c m g)
roomy_call N M p c m g inv cl = roomy_by_call N M p c m g inv cl

-- ---- registering: a free slot has no share, and has not left the list

-- a free slot has no share
fine_share : (t w : Bool) (o : Participant) (b : List Item) (u : Use) → u ≡ Use.unused → Fine u t w o b → o.share ≡ 0
unfolding Fine
fine_share t w o b u e h = let k = rw e at h in k.1.1.1

-- nor did it leave
since_unused : (u : Use) (b r : ℕ) → u ≡ Use.unused → left_since u b r ≡ false
unfolding left_since
since_unused u b r e = rw e refl

module _ (N M p : ℕ) (m : Machine) (g : Ghost) (inv : Inv N M m g) (rg : I.Registers N p m) where
  -- the slot was not in use
  unused : g.slot_use p ≡ Use.unused
  unused = free_unused N m g inv.records p rg.here rg.free

  -- so the same slots have left
  left-registered : (b : ℕ) → W N g b ≤ W N (registered_ghost p g) b
  unfolding W registered_ghost
  left-registered b = count_mono N _ _ (λ x _ h. put_ind (λ (u : Use). left_since u b (g.gone x) ≡ true) g.slot_use p x Use.registering
      (λ e. absurd (true≢false (sym h ∙ since_unused (g.slot_use x) b (g.gone x) (ap g.slot_use (sym e) ∙ unused)))) (λ _. h))

  -- a new participant asks for no room
  new_room : (w : ℕ) → Room N new_participant.place new_participant.counts.pins new_participant.counts.handles new_participant.held new_participant.share w
  unfolding new_participant Room
  new_room w = tt

  -- nor has it a share
  new_share : new_participant.share ≡ 0
  unfolding new_participant
  new_share = refl

  -- all three
  roomy_by_register : Roomy N M (registered p m) (registered_ghost p g)
  unfolding registered
  roomy_by_register = record {
    total =
        let k = sum-put N (λ (x : Participant). x.share) m.own p new_participant rg.here in
        let s = fine_share _ _ (m.own p) (m.held p) (g.slot_use p) unused (inv.records.fine p rg.here) in
        let t = inv.roomy.total in let n = new_share in omega arith;
    enough = inv.roomy.enough;
    room = λ q hq. put_ind (λ (o : Participant). Room N o.place o.counts.pins o.counts.handles o.held o.share (W N (registered_ghost p g) ((registered_ghost p g).gpin q))) m.own p q new_participant
        (λ _. new_room _) (λ _. unfold registered_ghost in (room_up N (m.own q).place _ _ _ _ (W N g (g.gpin q)) _ (λ _. left-registered (g.gpin q)) (inv.roomy.room q hq)));
  }

-- R is kept by a registering
pub roomy_register : (N M p : ℕ) (m : Machine) (g : Ghost) → Inv N M m g → I.Registers N p m → Roomy N M (registered p m) (registered_ghost p g)
roomy_register N M p m g inv rg = roomy_by_register N M p m g inv rg

-- ---- a step that must take a node finds one, and has one of its own

-- its share has one
takes_one : (N : ℕ) (pl : Place) (pins h k s w : ℕ) → takes_node pl ≡ true → Room N pl pins h k s w → 1 ≤ s
unfolding takes_node Room RoomPush
takes_one N Place.Rest pins h k s w e r = absurd (true≢false (sym e))
takes_one N (Place.Register a) pins h k s w e r = absurd (true≢false (sym e))
takes_one N (Place.PinEpoch o) pins h k s w e r = absurd (true≢false (sym e))
takes_one N (Place.PinWord o x) pins h k s w e r = absurd (true≢false (sym e))
takes_one N (Place.Repin a) pins h k s w e r = absurd (true≢false (sym e))
takes_one N Place.UnpinWord pins h k s w e r = absurd (true≢false (sym e))
takes_one N (Place.AdvanceEpoch o) pins h k s w e r = absurd (true≢false (sym e))
takes_one N (Place.Walk t a) pins h k s w e r = absurd (true≢false (sym e))
takes_one N (Place.AdvanceWord t curr succ) pins h k s w e r = absurd (true≢false (sym e))
takes_one N (Place.AdvanceStore t) pins h k s w e r = absurd (true≢false (sym e))
takes_one N (Place.Pop q a) pins h k s w e r = absurd (true≢false (sym e))
takes_one N (Place.Push (Then.Defer d) PushAt.Epoch) pins h k s w e r = r.1
takes_one N (Place.Push Then.Flush PushAt.Epoch) pins h k s w e r = r.1.0
takes_one N (Place.Push Then.Finalize PushAt.Epoch) pins h k s w e r = r.1
takes_one N (Place.Push f (PushAt.Tail new)) pins h k s w e r = absurd (true≢false (sym e))
takes_one N (Place.Push f (PushAt.Next new onto)) pins h k s w e r = absurd (true≢false (sym e))
takes_one N (Place.Push f (PushAt.Help new onto next)) pins h k s w e r = absurd (true≢false (sym e))
takes_one N (Place.Push f (PushAt.Link new onto)) pins h k s w e r = absurd (true≢false (sym e))
takes_one N (Place.Push f (PushAt.Move new onto)) pins h k s w e r = absurd (true≢false (sym e))
takes_one N Place.FinalWord pins h k s w e r = absurd (true≢false (sym e))
takes_one N Place.FinalTag pins h k s w e r = absurd (true≢false (sym e))

-- and so many are free
pub step-has-node : (N M p : ℕ) (m : Machine) (g : Ghost) → Inv N M m g → p < N → takes_node (m.own p).place ≡ true → (least M m.node_free < M) × (1 ≤ (m.own p).share)
step-has-node N M p m g inv hp e =
    let one = takes_one N (m.own p).place _ _ _ (m.own p).share _ e (inv.roomy.room p hp) in
    let s = sum_at N (λ q. (m.own q).share) p hp in
    let t = inv.roomy.total in let n = inv.roomy.enough in
    (count_least M m.node_free (λ z. omega arith), one)
