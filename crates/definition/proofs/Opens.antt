-- What a call begins: its place and its work are within the tables, its share is no more than it needs, and it frees nothing. Assumes nothing.
use mathlib.Core.Path.{◌≡◌, refl}
use mathlib.Core.Bool.{false}
use mathlib.Core.List.{[]}
use Prim.Native.Nat.{ℕ, ◌≤◌}
use native.Mathlib.Nat.{le_refl}
use borrow.Author.Tests.{ltb-false}
use Rattle.definition.specs.Flow.{on, done, also, finalize, placed, defer}
use Rattle.definition.specs.Calls.{max_token, token_above, needs, begins, opens}
use Rattle.definition.specs.Tables.{Tables}
use Rattle.definition.specs.Step.{freed_by}
use Rattle.definition.specs.Types.{Owner, Deferring, Then, RepinAt, PushAt, Place, Participant, After, Call}
use Rattle.definition.proofs.Base.{branch_ind}
use Rattle.definition.proofs.Within.{ThenIn, PushIn, PlaceIn, AfterIn, on_in, done_in, pick_in, finalize_in, defer_in}
use Rattle.definition.proofs.Kept.{PlacedIn, on_kept, done-kept, pick-kept, finalize-kept, defer-kept}
use Rattle.definition.proofs.Kept.{ShareLe, on_share, done_share, pick_share, finalize_share, defer_share}

-- a token that is taken may wait
token_in_lem : (N M token : ℕ) → token_above (Call.Defer token) ≡ false → ThenIn N M (Then.Defer (Deferring.Token token))
unfolding ThenIn token_above
token_in_lem N M token h = ltb-false max_token token h

module _ (N M : ℕ) where
  ruleset works = (on_in, done_in, pick_in, finalize_in, defer_in, token_in_lem)

  -- the work
  begins_in : (c : Call) (o : Participant) → token_above c ≡ false → AfterIn N M (begins c o)
  unfolding begins
  begins_in Call.Acquire o h = search works
  begins_in Call.Release o h = search works
  begins_in Call.Pin o h = search works
  begins_in Call.Unpin o h = search works
  begins_in Call.Repin o h = search works
  begins_in (Call.Defer token) o h = search works
  begins_in Call.Flush o h = search works

  -- the place
  begins-kept : (c : Call) (o : Participant) → token_above c ≡ false → PlacedIn N M (begins c o)
  unfolding begins PlaceIn ThenIn PushIn
  begins-kept Call.Acquire o h = done-kept N M 0 _
  begins-kept Call.Release o h = pick-kept N M _ _ _ (finalize-kept N M o) (done-kept N M 0 _)
  begins-kept Call.Pin o h = pick-kept N M _ _ _ (on_kept N M (Place.PinEpoch Owner.Pin) _ tt) (done-kept N M 0 _)
  begins-kept Call.Unpin o h = pick-kept N M _ _ _ (on_kept N M Place.UnpinWord _ tt) (done-kept N M 0 _)
  begins-kept Call.Repin o h = pick-kept N M _ _ _ (on_kept N M (Place.Repin RepinAt.Word) o tt) (done-kept N M 0 o)
  begins-kept (Call.Defer token) o h = defer-kept N M (Deferring.Token token) o (token_in_lem N M token h)
  begins-kept Call.Flush o h =
      pick-kept N M _ _ _ (on_kept N M (Place.Push Then.Flush PushAt.Epoch) o (tt, tt)) (on_kept N M (Place.AdvanceEpoch Owner.Flush) o tt)

  -- both, with the nodes set aside
  pub opens_in : (c : Call) (o : Participant) → token_above c ≡ false → PlacedIn N M (opens N c o) × AfterIn N M (opens N c o)
  unfolding opens
  opens_in c o h = (begins-kept c _ h, begins_in c _ h)

-- the share
module _ (s : ℕ) where
  ruleset shares = (on_share, done_share, pick_share, finalize_share, defer_share)

  begins_share : (c : Call) (o : Participant) → o.share ≤ s → ShareLe s (begins c o)
  unfolding begins
  begins_share Call.Acquire o h = search shares
  begins_share Call.Release o h = search shares
  begins_share Call.Pin o h = search shares
  begins_share Call.Unpin o h = search shares
  begins_share Call.Repin o h = search shares
  begins_share (Call.Defer token) o h = search shares
  begins_share Call.Flush o h = search shares

pub opens_share : (N : ℕ) (c : Call) (o : Participant) → (opens N c o).participant.share ≤ needs N c o
unfolding opens ShareLe
opens_share N c o = begins_share (needs N c o) c _ (le_refl (needs N c o))

-- nothing is freed
module _ (t : Tables) where
  abbrev Frees-none : After → Type 0
  Frees-none a = freed_by a.work t ≡ []

  begins_none : (c : Call) (o : Participant) → Frees-none (begins c o)
  unfolding begins on done also finalize placed defer freed_by
  begins_none Call.Acquire o = refl
  begins_none Call.Release o = branch_ind Frees-none _ (λ _. refl) (λ _. refl)
  begins_none Call.Pin o = branch_ind Frees-none _ (λ _. refl) (λ _. refl)
  begins_none Call.Unpin o = branch_ind Frees-none _ (λ _. refl) (λ _. refl)
  begins_none Call.Repin o = branch_ind Frees-none _ (λ _. refl) (λ _. refl)
  begins_none (Call.Defer token) o = branch_ind Frees-none _ (λ _. refl) (λ _. refl)
  begins_none Call.Flush o = branch_ind Frees-none _ (λ _. refl) (λ _. refl)

  pub opens_none : (N : ℕ) (c : Call) (o : Participant) → freed_by (opens N c o).work t ≡ []
  unfolding opens
  opens_none N c o = begins_none c _
