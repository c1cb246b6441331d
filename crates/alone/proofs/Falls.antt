-- The step at each place leaves fewer (`falls`): the list's places are ListPlaces, the queue's QueuePlaces, and here are the others, which go down one by one.
-- Assumes nothing.
use mathlib.Core.Path.{◌≡◌, refl}
use mathlib.Core.Logic.{◌≢◌}
use mathlib.Core.Bool.{true}
use Prim.Native.Nat.{ℕ, ◌+◌, ◌*◌, ◌%◌, ◌^◌, ◌≤◌}
use native.Mathlib.Omega.{arith}
use lib.Dec.{eqb}
use Rattle.epoch.specs.Epoch.{starting, pinned}
use Rattle.definition.specs.Tables.{Shared, read, write}
use Rattle.definition.specs.Flow.{finalize, counting}
use Rattle.definition.specs.List.{delete}
use Rattle.definition.specs.Internal.{collects, pin_epoch, pin_word, pin_counted, unpin_word, repin, advance_epoch, advance_store, final_word, rule}
use Rattle.definition.specs.Ranges.{is_rest}
use Rattle.definition.specs.Public.{takes_node}
use Rattle.definition.proofs.Within.{PlaceIn}
use Rattle.theorems.proofs.Leads.{Leads}
use Rattle.theorems.proofs.Ghost.{Ghost}
use Rattle.theorems.proofs.Machine.{Machine}
use Rattle.theorems.proofs.Invariant.{HoldsAt}
use Rattle.theorems.proofs.Inv.{Inv}
use Rattle.theorems.proofs.Types.{Epoch, Slot, Node, Ptr, Owner, RepinAt, Place, Participant, Word}
use Rattle.theorems.proofs.Ahead.{in_list, ahead}
use Rattle.alone.proofs.Left.{push_steps, pops, final_left, repin_left, walk_left, collect_left, place_left}
use Rattle.alone.proofs.Laws.{two}
use Rattle.alone.proofs.Follows.{Less, Fewer, on_less, done_less, pick_less, collected_less, advanced_less}
use Rattle.alone.proofs.ListPlaces.{register-falls, walk-falls, advance_word-falls}
use Rattle.alone.proofs.QueuePlaces.{pop-falls, push-falls}

module _ (L : ℕ) (a : Ptr → ℕ) (s : Shared) where
  pin-word-falls : (self : Slot) (k : Owner) (e : Epoch) (o : Participant) → Leads (Fewer L a s o (Place.PinWord k e)) s (pin_word self k e o)
  unfolding Leads pin_word pin_counted read write Fewer place_left collect_left is_rest
  pin-word-falls self k e o =
      two (λ x n. Less L a (write (Word.ParticipantWord self) (pinned e.0) s) (push_steps * o.share + (1 + n + final_left k)) x) (collects o.counts.pins) _ _ (2 * L + pops + 3) 0
      (λ _. on_less L a _ _ (Place.AdvanceEpoch k) counted refl (unfold place_left in (omega arith)))
      (λ _. collected_less L a _ _ k counted (omega arith))
    where
      counted : Participant
      counted = counting o.counts.guards o.counts.handles ((o.counts.pins + 1) % 2 ^ 64) o

  unpin-falls : (self : Slot) (o : Participant) → Leads (Fewer L a s o Place.UnpinWord) s (unpin_word self o)
  unfolding Leads unpin_word finalize read write Fewer place_left is_rest
  unpin-falls self o =
      two (λ x n. Less L a (write (Word.ParticipantWord self) starting s) (push_steps * o.share + n) x) (eqb o.counts.handles 0) _ _ (5 + collect_left L a o.counts.pins) 1
      (λ _. on_less L a _ _ (Place.PinEpoch Owner.Finalize) (counting 1 1 o.counts.pins o) refl (unfold place_left final_left in (omega arith)))
      (λ _. done_less L a _ _ 0 o (omega arith))

  repin-falls : (self : Slot) (o : Participant) (x : RepinAt) → Leads (Fewer L a s o (Place.Repin x)) s (repin self o x)
  unfolding Leads repin read write Fewer place_left repin_left is_rest
  repin-falls self o RepinAt.Word = on_less L a s _ _ o refl (unfold place_left repin_left in (omega arith))
  repin-falls self o (RepinAt.Epoch e) = pick_less L a s _ _ _ _ (done_less L a s _ 0 o (omega arith)) (on_less L a s _ _ o refl (unfold place_left repin_left in (omega arith)))
  repin-falls self o (RepinAt.Store e) = done_less L a _ _ 0 o (omega arith)

module _ (N M : ℕ) (m : Machine) (g : Ghost) (inv : Inv N M m g) where
  abbrev S : Shared
  S = m.shared

  abbrev L : ℕ
  L = in_list N g.slot_use

  abbrev A : Ptr → ℕ
  A = ahead N g.slot_use g.birth

  -- every place but rest
  pub falls : (b : ℕ) (self : Slot) (spare : Node) (sealed : Node → ℕ) (o : Participant) (pl : Place) → pl ≢ Place.Rest → (takes_node pl ≡ true → 1 ≤ o.share)
      → PlaceIn N M pl → HoldsAt N M m g b pl → Leads (Fewer L A S o pl) S (rule self spare sealed o pl)
  unfolding Leads rule pin_epoch advance_epoch advance_store final_word delete read write Fewer place_left HoldsAt PlaceIn is_rest
  falls b self spare sealed o Place.Rest run one i h = absurd (run refl)
  falls b self spare sealed o (Place.Register x) run one i h = register-falls N M m g inv self o x
  falls b self spare sealed o (Place.PinEpoch k) run one i h = on_less L A S _ _ o refl (unfold place_left in (omega arith))
  falls b self spare sealed o (Place.PinWord k e) run one i h = pin-word-falls L A S self k e o
  falls b self spare sealed o (Place.Repin x) run one i h = repin-falls L A S self o x
  falls b self spare sealed o Place.UnpinWord run one i h = unpin-falls L A S self o
  falls b self spare sealed o (Place.AdvanceEpoch k) run one i h = on_less L A S _ _ o refl (unfold place_left walk_left in (omega arith))
  falls b self spare sealed o (Place.Walk t x) run one i h = walk-falls N M m g inv b t o x h
  falls b self spare sealed o (Place.AdvanceWord t curr succ) run one i h = advance_word-falls N M m g inv t curr succ o
  falls b self spare sealed o (Place.AdvanceStore t) run one i h = advanced_less L A _ _ t.owner _ o (omega arith)
  falls b self spare sealed o (Place.Pop p x) run one i h = pop-falls N M m g inv L A sealed p o x i.0.0
  falls b self spare sealed o (Place.Push f x) run one i h = push-falls N M m g inv L A b spare f o x (λ e. one (rw e (unfold takes_node in refl))) h.1
  falls b self spare sealed o Place.FinalWord run one i h = on_less L A _ _ Place.FinalTag _ refl (unfold place_left in (omega arith))
  falls b self spare sealed o Place.FinalTag run one i h = done_less L A _ _ 0 o (omega arith)
