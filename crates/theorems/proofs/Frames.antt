-- What a move leaves alone: the parts of the machine after an access that left the shared words s and what follows it, field by field.
-- Assumes nothing.
use mathlib.Core.Path.{◌≡◌, refl, ap, sym, ◌∙◌}
use mathlib.Core.List.{List, [], ◌∷◌}
use Prim.Native.Nat.{ℕ}
use native.Mathlib.Omega.{arith}
use lib.ListN.{length, length-append}
use Rattle.definition.specs.Base.{Tab, put}
use Rattle.definition.specs.Tables.{Shared, write}
use Rattle.definition.proofs.Base.{put_ind}
use Rattle.theorems.proofs.Machine.{Machine, Fits, works, followed}
use Rattle.theorems.proofs.Inv.{goes}
use Rattle.theorems.proofs.Live.{bag_after}
use Rattle.theorems.proofs.Types.{Item, Participant, Work, After}

-- the work touches no record, and of the shared words the next of a node that it seals into
module _ (p : ℕ) (m : Machine) where
  works_own : (w : Work) → (works p w m).own ≡ m.own
  unfolding works
  works_own Work.Nothing = refl
  works_own (Work.Put i) = refl
  works_own (Work.PutThenFree i n) = refl
  works_own (Work.Seal n e) = refl

  works-epoch : (w : Work) → (works p w m).shared.global_epoch ≡ m.shared.global_epoch
  unfolding works write
  works-epoch Work.Nothing = refl
  works-epoch (Work.Put i) = refl
  works-epoch (Work.PutThenFree i n) = refl
  works-epoch (Work.Seal n e) = refl

  works-entry_next : (w : Work) → (works p w m).shared.entry_next ≡ m.shared.entry_next
  unfolding works write
  works-entry_next Work.Nothing = refl
  works-entry_next (Work.Put i) = refl
  works-entry_next (Work.PutThenFree i n) = refl
  works-entry_next (Work.Seal n e) = refl

  pub works-word : (w : Work) → (works p w m).shared.word ≡ m.shared.word
  unfolding works write
  works-word Work.Nothing = refl
  works-word (Work.Put i) = refl
  works-word (Work.PutThenFree i n) = refl
  works-word (Work.Seal n e) = refl

  pub works-queue_head : (w : Work) → (works p w m).shared.queue_head ≡ m.shared.queue_head
  unfolding works write
  works-queue_head Work.Nothing = refl
  works-queue_head (Work.Put i) = refl
  works-queue_head (Work.PutThenFree i n) = refl
  works-queue_head (Work.Seal n e) = refl

  works-held : (w : Work) (q : ℕ) → (works p w m).held q ≡ put m.held p (bag_after w (m.held p)) q
  unfolding works bag_after
  works-held Work.Nothing q = sym (put_ind (λ (l : List Item). l ≡ m.held q) m.held p q (m.held p) (λ e. ap m.held e) (λ _. refl))
  works-held (Work.Put i) q = refl
  works-held (Work.PutThenFree i n) q = refl
  works-held (Work.Seal n e) q = refl

module _ (p : ℕ) (m : Machine) (s : Shared) (a : After) where
  abbrev seen : Machine
  seen = record { shared = s; own = m.own; held = m.held; bag = m.bag; slot_free = m.slot_free; node_free = m.node_free; aside = m.aside }

  pub own_goes : (q : ℕ) → (goes p m s a).own q ≡ put m.own p a.participant q
  unfolding goes followed
  own_goes q = ap (λ (t : Tab Participant). put t p a.participant q) (works_own p seen a.work)

  pub epoch-goes : (goes p m s a).shared.global_epoch ≡ s.global_epoch
  unfolding goes followed
  epoch-goes = works-epoch p seen a.work

  pub entry_next-goes : (goes p m s a).shared.entry_next ≡ s.entry_next
  unfolding goes followed
  entry_next-goes = works-entry_next p seen a.work

  pub word-goes : (goes p m s a).shared.word ≡ s.word
  unfolding goes followed
  word-goes = works-word p seen a.work

  pub held-goes : (q : ℕ) → (goes p m s a).held q ≡ put m.held p (bag_after a.work (m.held p)) q
  unfolding goes followed
  held-goes q = works-held p seen a.work q

-- the bag is as long as its record says
pub length-bag : (w : Work) (b : List Item) (k h : ℕ) → length b ≡ k → Fits k h w → length (bag_after w b) ≡ h
unfolding bag_after Fits
length-bag Work.Nothing b k h e f = e ∙ sym f
length-bag (Work.Put i) b k h e f = length-append b (i ∷ []) ∙ omega arith
length-bag (Work.PutThenFree i n) b k h e f = length-append b (i ∷ []) ∙ omega arith
length-bag (Work.Seal n x) b k h e f = sym f
