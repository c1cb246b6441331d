-- What follows an access leaves fewer steps than there were, if what it goes on with does; and what goes on is not at rest. One law for each function of
-- specs/Flow, in its order: the places (List, Queue, Falls) cite them. Assumes nothing.
use mathlib.Core.Path.{◌≡◌, refl}
use mathlib.Core.Bool.{Bool, false}
use Prim.Native.Nat.{ℕ, ◌+◌, ◌-◌, ◌*◌, ◌≤◌}
use native.Mathlib.Omega.{arith}
use lib.Dec.{eqb}
use Rattle.definition.specs.Base.{branch}
use Rattle.definition.specs.Tables.{Shared}
use Rattle.definition.specs.Flow.{collect_steps, on, done, also, collected, pops, advanced, walk, placed, defer, pushed, holding}
use Rattle.definition.specs.Ranges.{is_rest}
use Rattle.definition.proofs.Base.{branch_ind}
use Rattle.theorems.proofs.Types.{Epoch, Ptr, Pred, Owner, Try, Deferring, Then, WalkAt, PushAt, Place, Participant, Work, End, After}
use Rattle.alone.proofs.Left.{push_steps, final_left, going_left, defer_left, then_left, walk_left, pop_left, push_left, place_left, left}

module _ (L : ℕ) (a : Ptr → ℕ) (s : Shared) (k : ℕ) where
  -- fewer than k steps are left, and what goes on is not at rest
  abbrev pub Less : After → Type 0
  Less x = (left L a s x.participant + 1 ≤ k) × (x.end ≡ End.GoesOn → is_rest x.participant.place ≡ false)

  -- so many steps are set aside with the share, less one
  abbrev Under : Participant → ℕ → Type 0
  Under o n = push_steps * o.share + n + 1 ≤ k

  pub on_less : (pl : Place) (o : Participant) → is_rest pl ≡ false → Under o (place_left L a s o.counts.pins o.counts.handles pl) → Less (on pl o)
  unfolding on left
  on_less pl o r h = (h, λ _. r)

  pub done_less : (v : ℕ) (o : Participant) → 1 ≤ k → Less (done v o)
  unfolding done left place_left
  done_less v o h = (omega arith, λ e. let z : ◌≡◌ {A = ℕ} 0 1 = cc in absurd (omega arith))

  pub also_less : (w : Work) (x : After) → Less x → Less (also w x)
  unfolding also
  also_less w x h = h

  pub pick_less : (b : Bool) (x y : After) → Less x → Less y → Less (branch b x y)
  pick_less b x y h j = branch_ind Less b (λ _. h) (λ _. j)

  pub collected_less : (w : Owner) (o : Participant) → Under o (final_left w) → Less (collected w o)
  unfolding collected final_left place_left then_left push_left is_rest
  collected_less Owner.Pin o h = done_less 0 o (omega arith)
  collected_less Owner.Flush o h = done_less 0 o (omega arith)
  collected_less Owner.Finalize o h = on_less (Place.Push Then.Finalize PushAt.Epoch) o refl (omega arith)

  pub pops_less : (w : Owner) (e : Epoch) (r : ℕ) (o : Participant) → Under o (5 * r + final_left w) → Less (pops w e r o)
  unfolding pops place_left pop_left is_rest
  pops_less w e r o h = pick_less (eqb r 0) _ _ (collected_less w o (omega arith)) (on_less _ o refl (omega arith))

  pub advanced_less : (w : Owner) (e : Epoch) (o : Participant) → Under o (5 * collect_steps + final_left w) → Less (advanced w e o)
  unfolding advanced
  advanced_less w e o h = pops_less w e collect_steps o h

  pub walk_less : (t : Try) (q : Pred) (l : Ptr) (o : Participant) → Under o (going_left L a s q l + final_left t.owner) → Less (walk t q l o)
  unfolding walk place_left walk_left going_left is_rest
  walk_less t q Ptr.Null o h = on_less (Place.AdvanceStore t) o refl (omega arith)
  walk_less t q (Ptr.At c) o h = on_less (Place.Walk t (WalkAt.Next (record { pred = q; curr = c }))) o refl (omega arith)

  placed_less : (d : Deferring) (o : Participant) → Under o (defer_left L a s d) → Less (placed d o)
  unfolding placed defer_left
  placed_less (Deferring.Token token) o h = also_less _ _ (done_less _ o (omega arith))
  placed_less (Deferring.Slot t c succ) o h = also_less _ _ (walk_less t c.pred succ o (omega arith))
  placed_less (Deferring.Node p head next) o h = also_less _ _ (pops_less p.owner p.epoch (p.left - 1) o (omega arith))

  -- a push first, where the bag is full: its steps are those of the share
  pub defer_less : (d : Deferring) (o : Participant) → Under o (defer_left L a s d) → Less (defer d o)
  unfolding defer place_left then_left push_left is_rest
  defer_less d o h = pick_less _ _ _ (placed_less d (holding (o.held + 1) o) h) (on_less (Place.Push (Then.Defer d) PushAt.Epoch) o refl (omega arith))

  pub pushed_less : (f : Then) (o : Participant) → Under o (then_left L a s f) → Less (pushed f o)
  unfolding pushed then_left place_left is_rest
  pushed_less (Then.Defer d) o h = defer_less d o h
  pushed_less Then.Flush o h = on_less (Place.AdvanceEpoch Owner.Flush) o refl (unfold final_left in (omega arith))
  pushed_less Then.Finalize o h = on_less Place.FinalWord _ refl (omega arith)

-- what is left before a step of o at a place, with the shared words s; and that the step leaves fewer
module _ (L : ℕ) (a : Ptr → ℕ) (s : Shared) where
  abbrev pub before : Participant → Place → ℕ
  before o pl = push_steps * o.share + place_left L a s o.counts.pins o.counts.handles pl

  unfoldable pub Fewer : Participant → Place → Bool → Shared → After → Type 0
  Fewer o pl won s' x = Less L a s' (before o pl) x
