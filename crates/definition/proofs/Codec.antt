-- A participant that was written into a record is read back as it was: no place loses anything of what it carries. Assumes nothing.
use mathlib.Core.Path.{◌≡◌, refl}
use mathlib.Core.Bool.{false}
use Prim.Native.Nat.{ℕ, ◌+◌, ◌*◌, ◌/◌}
use native.Mathlib.Omega.{arith}
use borrow.Author.Tests.{ne_eqb}
use Rattle.definition.specs.Base.{branch}
use Rattle.definition.specs.Links.{null, link, is_null, index, pointee, pointer}
use Rattle.definition.specs.Codec.{owner_number, pred_pointer, then_code, pushing, code_of, record_of, owner_of, pred_of, then_of, place_of, participant_of}
use Rattle.definition.specs.Types.{Ptr, Pred, Owner, Deferring, Then, RegisterAt, RepinAt, WalkAt, PopAt, PushAt, Place, Participant}

-- a pointer to an index names it, and is not null
pub link_not_null : (i : ℕ) → is_null (link i) ≡ false
unfolding is_null link
link_not_null i = ne_eqb (2 * (i + 1) / 2) 0 (λ (e : 2 * (i + 1) / 2 ≡ 0). omega arith)

pub index-link : (i : ℕ) → index (link i) ≡ i
unfolding index link
index-link i = omega arith

pub pointee-pointer : (q : Ptr) → pointee (pointer q) ≡ q
unfolding pointee pointer branch is_null null
pointee-pointer Ptr.Null = refl
pointee-pointer (Ptr.At s) = rw (link_not_null s.0, index-link s.0)

pub pred_back : (q : Pred) → pred_of (pred_pointer q) ≡ q
unfolding pred_of pred_pointer branch is_null null
pred_back Pred.Head = refl
pred_back (Pred.Entry s) = rw (link_not_null s.0, index-link s.0)

pub owner_back : (k : Owner) → owner_of (owner_number k) ≡ k
unfolding owner_of owner_number branch
owner_back Owner.Pin = refl
owner_back Owner.Flush = refl
owner_back Owner.Finalize = refl

-- what a push goes on with, wherever the push stands
then_back : (f : Then) (number new onto next : ℕ) → then_of (pushing f number new onto next) ≡ f
unfolding then_of then_code branch
then_back (Then.Defer (Deferring.Token token)) number new onto next = refl
then_back (Then.Defer (Deferring.Slot t c succ)) number new onto next = simp (owner_back, pred_back, pointee-pointer)
then_back (Then.Defer (Deferring.Node p head popped)) number new onto next = simp owner_back
then_back Then.Flush number new onto next = refl
then_back Then.Finalize number new onto next = refl

-- the thirty places
pub place_back : (pl : Place) → place_of (code_of pl) ≡ pl
unfolding place_of code_of branch
place_back Place.Rest = refl
place_back (Place.Register RegisterAt.Head) = refl
place_back (Place.Register (RegisterAt.Next next)) = simp pointee-pointer
place_back (Place.Register (RegisterAt.Link next)) = simp pointee-pointer
place_back (Place.PinEpoch k) = simp owner_back
place_back (Place.PinWord k e) = simp owner_back
place_back (Place.Repin RepinAt.Word) = refl
place_back (Place.Repin (RepinAt.Epoch e)) = refl
place_back (Place.Repin (RepinAt.Store e)) = refl
place_back Place.UnpinWord = refl
place_back (Place.AdvanceEpoch k) = simp owner_back
place_back (Place.Walk t WalkAt.Head) = simp owner_back
place_back (Place.Walk t (WalkAt.Next c)) = simp (owner_back, pred_back)
place_back (Place.AdvanceWord t curr succ) = simp (owner_back, pointee-pointer)
place_back (Place.Walk t (WalkAt.Unlink c succ)) = simp (owner_back, pred_back, pointee-pointer)
place_back (Place.Walk t WalkAt.Stalled) = simp owner_back
place_back (Place.AdvanceStore t) = simp owner_back
place_back (Place.Pop p PopAt.Head) = simp owner_back
place_back (Place.Pop p (PopAt.Next head)) = simp owner_back
place_back (Place.Pop p (PopAt.Exchange head next)) = simp owner_back
place_back (Place.Pop p (PopAt.Tail head next)) = simp owner_back
place_back (Place.Pop p (PopAt.TailMove head next)) = simp owner_back
place_back (Place.Push f PushAt.Epoch) = rw (then_back f 22 0 0 0)
place_back (Place.Push f (PushAt.Tail new)) = rw (then_back f 23 new.0 0 0)
place_back (Place.Push f (PushAt.Next new onto)) = rw (then_back f 24 new.0 onto.0 0)
place_back (Place.Push f (PushAt.Help new onto next)) = rw (then_back f 25 new.0 onto.0 next.0)
place_back (Place.Push f (PushAt.Link new onto)) = rw (then_back f 26 new.0 onto.0 0)
place_back (Place.Push f (PushAt.Move new onto)) = rw (then_back f 27 new.0 onto.0 0)
place_back Place.FinalWord = refl
place_back Place.FinalTag = refl

-- and the whole participant
pub participant_back : (o : Participant) → participant_of (record_of o) ≡ o
unfolding participant_of record_of
participant_back o = rw (place_back o.place)
