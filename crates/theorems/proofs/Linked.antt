-- Who is in the list: a pinned participant is, and its entry is not tagged; whoever walks, pops or pushes is pinned; a slot that is held safely
-- and is not tagged is in the list, since slots out of it are tagged. And what every move leaves as it was: the words of the list, but for the
-- access itself, and everybody else's record. Assumes nothing.
use mathlib.Core.Path.{◌≡◌, refl, ap, sym, ◌∙◌}
use mathlib.Core.Bool.{Bool, true, false, true≢false, false≢true}
use mathlib.Core.List.{List}
use Prim.Native.Nat.{ℕ, ◌<◌}
use Rattle.definition.specs.Base.{Tab, put, least}
use Rattle.definition.specs.Links.{is_tagged}
use Rattle.definition.specs.Tables.{write}
use Rattle.theorems.proofs.Machine.{Machine, with_shared, works, followed}
use Rattle.theorems.proofs.Ghost.{Use, Ghost, turn_of}
use Rattle.theorems.proofs.Invariant.{popped_node, Live, Registers, InList, Fine, is_unused, Records, Pinned, SafeUse, SafeSlot}
use Rattle.theorems.proofs.Change.{Change, changes}
use Rattle.theorems.proofs.Worked.{Worked, worked}
use Rattle.theorems.proofs.Inv.{rule_of, won_of, goes, left_of, after_of, stepped}
use Rattle.theorems.proofs.Types.{Item, PushAt, Place, Participant, Work, After}

-- ---- by the record of a slot

-- a pinned word rules out every use but that of a slot in the list that is not tagged
fine_pinned : (u : Use) (tag pin : Bool) (o : Participant) (b : List Item) → Fine u tag pin o b → pin ≡ true → (u ≡ Use.linked) × (tag ≡ false)
unfolding Fine InList
fine_pinned Use.unused tag pin o b h e = absurd (true≢false (sym e ∙ h.1.0))
fine_pinned Use.registering tag pin o b h e = absurd (true≢false (sym e ∙ h.1.1.0))
fine_pinned Use.linked true pin o b h e = absurd (true≢false (sym e ∙ h.1.0))
fine_pinned Use.linked false pin o b h e = (refl, refl)
fine_pinned Use.out tag pin o b h e = absurd (true≢false (sym e ∙ h.0.1.0))

-- the places at which a participant is pinned
unfoldable pub under_pin : Place → Bool
under_pin Place.Rest = false
under_pin (Place.Register a) = false
under_pin (Place.PinEpoch k) = false
under_pin (Place.PinWord k e) = false
under_pin (Place.Repin a) = true
under_pin Place.UnpinWord = true
under_pin (Place.AdvanceEpoch k) = true
under_pin (Place.Walk t a) = true
under_pin (Place.AdvanceWord t curr succ) = true
under_pin (Place.AdvanceStore t) = true
under_pin (Place.Pop p a) = true
under_pin (Place.Push f a) = true
under_pin Place.FinalWord = true
under_pin Place.FinalTag = false

-- a registered participant at such a place
live_pinned : (pl : Place) (pin : Bool) (g s : ℕ) (b : List Item) → Live pl pin g s b → under_pin pl ≡ true → pin ≡ true
unfolding Live under_pin
live_pinned Place.Rest pin g s b h e = absurd (false≢true e)
live_pinned (Place.Register a) pin g s b h e = absurd (false≢true e)
live_pinned (Place.PinEpoch k) pin g s b h e = absurd (false≢true e)
live_pinned (Place.PinWord k w) pin g s b h e = absurd (false≢true e)
live_pinned (Place.Repin a) pin g s b h e = h.0
live_pinned Place.UnpinWord pin g s b h e = h.0
live_pinned (Place.AdvanceEpoch k) pin g s b h e = h.0
live_pinned (Place.Walk t a) pin g s b h e = h.0
live_pinned (Place.AdvanceWord t curr succ) pin g s b h e = h.0
live_pinned (Place.AdvanceStore t) pin g s b h e = h.0
live_pinned (Place.Pop p a) pin g s b h e = h.0
live_pinned (Place.Push f PushAt.Epoch) pin g s b h e = h.0.0
live_pinned (Place.Push f (PushAt.Tail new)) pin g s b h e = h.0.0
live_pinned (Place.Push f (PushAt.Next new onto)) pin g s b h e = h.0.0
live_pinned (Place.Push f (PushAt.Help new onto next)) pin g s b h e = h.0.0
live_pinned (Place.Push f (PushAt.Link new onto)) pin g s b h e = h.0.0
live_pinned (Place.Push f (PushAt.Move new onto)) pin g s b h e = h.0.0
live_pinned Place.FinalWord pin g s b h e = h.0
live_pinned Place.FinalTag pin g s b h e = absurd (false≢true e)

-- no such place is one of a quiet or registering slot
not_at_rest : (pl : Place) → under_pin pl ≡ true → pl ≡ Place.Rest → ⊥
unfolding under_pin
not_at_rest pl e i = false≢true (rw i at e)

not_registers : (pl : Place) → under_pin pl ≡ true → Registers pl → ⊥
unfolding under_pin Registers
not_registers Place.Rest e h = h
not_registers (Place.Register a) e h = false≢true e
not_registers (Place.PinEpoch k) e h = h
not_registers (Place.PinWord k w) e h = h
not_registers (Place.Repin a) e h = h
not_registers Place.UnpinWord e h = h
not_registers (Place.AdvanceEpoch k) e h = h
not_registers (Place.Walk t a) e h = h
not_registers (Place.AdvanceWord t curr succ) e h = h
not_registers (Place.AdvanceStore t) e h = h
not_registers (Place.Pop p a) e h = h
not_registers (Place.Push f a) e h = h
not_registers Place.FinalWord e h = h
not_registers Place.FinalTag e h = h

-- and any slot at such a place
fine_under-pin : (u : Use) (tag pin : Bool) (o : Participant) (b : List Item) → Fine u tag pin o b → under_pin o.place ≡ true → pin ≡ true
unfolding Fine InList
fine_under-pin Use.unused tag pin o b h e = absurd (not_at_rest o.place e h.0)
fine_under-pin Use.registering tag pin o b h e = absurd (not_registers o.place e h.0)
fine_under-pin Use.linked true pin o b h e = absurd (not_at_rest o.place e h.0)
fine_under-pin Use.linked false pin o b h e = live_pinned o.place pin o.counts.guards o.share b h e
fine_under-pin Use.out tag pin o b h e = absurd (not_at_rest o.place e h.0.0)

-- a place of registering is none of a registered participant, nor of one at rest
live_not_registers : (pl : Place) (pin : Bool) (g s : ℕ) (b : List Item) → Live pl pin g s b → Registers pl → ⊥
unfolding Live Registers
live_not_registers Place.Rest pin g s b h r = r
live_not_registers (Place.Register a) pin g s b h r = h
live_not_registers (Place.PinEpoch k) pin g s b h r = r
live_not_registers (Place.PinWord k w) pin g s b h r = r
live_not_registers (Place.Repin a) pin g s b h r = r
live_not_registers Place.UnpinWord pin g s b h r = r
live_not_registers (Place.AdvanceEpoch k) pin g s b h r = r
live_not_registers (Place.Walk t a) pin g s b h r = r
live_not_registers (Place.AdvanceWord t curr succ) pin g s b h r = r
live_not_registers (Place.AdvanceStore t) pin g s b h r = r
live_not_registers (Place.Pop p a) pin g s b h r = r
live_not_registers (Place.Push f a) pin g s b h r = r
live_not_registers Place.FinalWord pin g s b h r = r
live_not_registers Place.FinalTag pin g s b h r = r

rest_not_registers : (pl : Place) → pl ≡ Place.Rest → Registers pl → ⊥
unfolding Registers
rest_not_registers pl e r = rw e at r

-- so a slot at such a place is being registered
fine_registers : (u : Use) (tag pin : Bool) (o : Participant) (b : List Item) → Fine u tag pin o b → Registers o.place → u ≡ Use.registering
unfolding Fine InList
fine_registers Use.unused tag pin o b h r = absurd (rest_not_registers o.place h.0 r)
fine_registers Use.registering tag pin o b h r = refl
fine_registers Use.linked true pin o b h r = absurd (rest_not_registers o.place h.0 r)
fine_registers Use.linked false pin o b h r = absurd (live_not_registers o.place pin o.counts.guards o.share b h r)
fine_registers Use.out tag pin o b h r = absurd (rest_not_registers o.place h.0.0 r)

-- what is safe is a slot
pub in_range_lem : (N : ℕ) (g : Ghost) (b x : ℕ) → SafeSlot N g b x → x < N
unfolding SafeSlot
in_range_lem N g b x h = h.0

-- a slot that is safe and not tagged is in the list
fine_safe : (u : Use) (tag pin : Bool) (o : Participant) (b : List Item) (at gone : ℕ) → Fine u tag pin o b → SafeUse u at gone → tag ≡ false → u ≡ Use.linked
unfolding Fine SafeUse
fine_safe Use.unused tag pin o b at gone h safe e = absurd safe
fine_safe Use.registering tag pin o b at gone h safe e = absurd safe
fine_safe Use.linked tag pin o b at gone h safe e = refl
fine_safe Use.out tag pin o b at gone h safe e = absurd (true≢false (sym h.1 ∙ e))

-- what the free bit says
is_unused_lem : (u : Use) → is_unused u ≡ true → u ≡ Use.unused
unfolding is_unused
is_unused_lem Use.unused e = refl
is_unused_lem Use.registering e = absurd (false≢true e)
is_unused_lem Use.linked e = absurd (false≢true e)
is_unused_lem Use.out e = absurd (false≢true e)

module _ (N : ℕ) (m : Machine) (g : Ghost) (rec : Records N m g) where
  -- a free slot is not in use
  pub free_unused : (q : ℕ) → q < N → m.slot_free q ≡ true → g.slot_use q ≡ Use.unused
  free_unused q lt e = is_unused_lem (g.slot_use q) (sym (rec.bits q lt) ∙ e)

  -- a pinned participant is in the list, and not tagged
  pub pinned-linked : (q : ℕ) → q < N → Pinned m q → (g.slot_use q ≡ Use.linked) × (is_tagged (m.shared.entry_next q) ≡ false)
  pinned-linked q lt pin = fine_pinned (g.slot_use q) _ _ (m.own q) (m.held q) (rec.fine q lt) pin

  -- whoever is at a place under a pin is pinned
  pub under-pin : (q : ℕ) → q < N → under_pin (m.own q).place ≡ true → Pinned m q
  under-pin q lt e = fine_under-pin (g.slot_use q) _ _ (m.own q) (m.held q) (rec.fine q lt) e

  -- whoever is at a place of registering is being registered, so not in the list yet
  pub registers_use : (q : ℕ) → q < N → Registers (m.own q).place → g.slot_use q ≡ Use.registering
  registers_use q lt r = fine_registers (g.slot_use q) _ _ (m.own q) (m.held q) (rec.fine q lt) r

  -- a slot that is held safely and not tagged is in the list
  pub safe_linked : (at x : ℕ) → SafeSlot N g at x → is_tagged (m.shared.entry_next x) ≡ false → g.slot_use x ≡ Use.linked
  unfolding SafeSlot
  safe_linked at x safe e = fine_safe (g.slot_use x) _ _ (m.own x) (m.held x) at (g.gone x) (rec.fine x safe.0) safe.1 e

-- ---- what a move leaves as it was

-- work does not touch the list nor the participants' words and records
works_next : (p : ℕ) (w : Work) (m : Machine) → (works p w m).shared.entry_next ≡ m.shared.entry_next
unfolding works write
works_next p Work.Nothing m = refl
works_next p (Work.Put i) m = refl
works_next p (Work.PutThenFree i n) m = refl
works_next p (Work.Seal n e) m = refl

works_head : (p : ℕ) (w : Work) (m : Machine) → (works p w m).shared.list_head ≡ m.shared.list_head
unfolding works write
works_head p Work.Nothing m = refl
works_head p (Work.Put i) m = refl
works_head p (Work.PutThenFree i n) m = refl
works_head p (Work.Seal n e) m = refl

works-word : (p : ℕ) (w : Work) (m : Machine) → (works p w m).shared.word ≡ m.shared.word
unfolding works write
works-word p Work.Nothing m = refl
works-word p (Work.Put i) m = refl
works-word p (Work.PutThenFree i n) m = refl
works-word p (Work.Seal n e) m = refl

works_own : (p : ℕ) (w : Work) (m : Machine) → (works p w m).own ≡ m.own
unfolding works
works_own p Work.Nothing m = refl
works_own p (Work.Put i) m = refl
works_own p (Work.PutThenFree i n) m = refl
works_own p (Work.Seal n e) m = refl

-- after what follows: the list and the words, and each record
pub followed_next : (p : ℕ) (a : After) (m : Machine) → (followed p a m).shared.entry_next ≡ m.shared.entry_next
unfolding followed
followed_next p a m = works_next p a.work m

pub followed_head : (p : ℕ) (a : After) (m : Machine) → (followed p a m).shared.list_head ≡ m.shared.list_head
unfolding followed
followed_head p a m = works_head p a.work m

pub followed-word : (p : ℕ) (a : After) (m : Machine) → (followed p a m).shared.word ≡ m.shared.word
unfolding followed
followed-word p a m = works-word p a.work m

pub followed_own : (p : ℕ) (a : After) (m : Machine) → (followed p a m).own ≡ put m.own p a.participant
unfolding followed
followed_own p a m = ap (λ (t : Tab Participant). put t p a.participant) (works_own p a.work m)

module _ (M p : ℕ) (m : Machine) where
  -- the change that a step makes, and its work
  pub step-change : Change p (m.own p).place m.shared (turn_of p (m.own p).place (won_of M p m)) (left_of M p m)
  unfolding won_of left_of rule_of
  step-change = changes p (record { 0 = least M m.node_free }) (λ n. (m.bag n.0).epoch) (m.own p) m.shared (m.own p).place

  pub step_worked : Worked (record { 0 = least M m.node_free }) (popped_node (m.own p).place) (after_of M p m)
  unfolding after_of rule_of
  step_worked = worked (record { 0 = least M m.node_free }) (record { 0 = p }) (λ n. (m.bag n.0).epoch) (m.own p) (m.own p).place _

  -- after it: what its access left, and its own record
  pub stepped_next : (stepped M p m).shared.entry_next ≡ (left_of M p m).entry_next
  unfolding stepped goes
  stepped_next = followed_next p (after_of M p m) (with_shared (left_of M p m) m)

  pub stepped_head : (stepped M p m).shared.list_head ≡ (left_of M p m).list_head
  unfolding stepped goes
  stepped_head = followed_head p (after_of M p m) (with_shared (left_of M p m) m)

  pub stepped-word : (stepped M p m).shared.word ≡ (left_of M p m).word
  unfolding stepped goes
  stepped-word = followed-word p (after_of M p m) (with_shared (left_of M p m) m)

  pub stepped_own : (stepped M p m).own ≡ put m.own p (after_of M p m).participant
  unfolding stepped goes
  stepped_own = followed_own p (after_of M p m) (with_shared (left_of M p m) m)
