-- The laws by which a crate above uses `asks_at` and `follows_at`: a place in range carries indices that a pointer can name, and of all
-- seals a step looks at one. Assumes nothing.
use Rattle.std.proofs.Common.{◌≡◌, ℕ, ◌^◌, ◌<◌, Bool, true, false, ◌&&◌, refl, arith, ltb-true}
use Rattle.definition.specs.Links.{node_at}
use Rattle.definition.specs.Rule.{follows}
use Rattle.definition.specs.Internal.{rule}
use Rattle.definition.specs.Ranges.{slot_in, node_in, ptr_in, pred_in, cursor_in, pops_in, then_in, register_in, walk_in, pop_in, push_in, place_in}
use Rattle.flow.specs.Words.{IsIndex, PtrFits}
use Rattle.list.specs.Fits.{RegisterFits, WalkFits}
use Rattle.queue.specs.Fits.{PushFits, PopFits}
use Rattle.queue.proofs.Laws.{one_seal}
use Rattle.internal.specs.Fits.{PlaceFits}
use Rattle.definition.specs.declared.Node.{Node}
use Rattle.definition.specs.declared.Participant.{Participant}
use Rattle.definition.specs.declared.Place.{Place}
use Rattle.definition.specs.declared.PopAt.{PopAt}
use Rattle.definition.specs.declared.Ptr.{Ptr}
use Rattle.definition.specs.declared.PushAt.{PushAt}
use Rattle.definition.specs.declared.RegisterAt.{RegisterAt}
use Rattle.definition.specs.declared.Seen.{Seen}
use Rattle.definition.specs.declared.Slot.{Slot}
use Rattle.definition.specs.declared.WalkAt.{WalkAt}

-- ---- what a place in range carries

-- two tests that hold together hold each
both_true : (a b : Bool) → a && b ≡ true → (a ≡ true) × (b ≡ true)
both_true true b h = (refl, h)
both_true false b h = absurd (let z : ◌≡◌ {A = ℕ} 0 1 = cc in omega arith)

module _ (N M : ℕ) (few : N < 2 ^ 63) (small : M < 2 ^ 63) where
  -- a slot in range can be named by a pointer
  slot-index : (s : Slot) → slot_in N M s ≡ true → IsIndex s.0
  unfolding slot_in
  slot-index s h = omega (arith, ltb-true s.0 N h)

  -- and so can a node
  node-index : (n : Node) → node_in N M n ≡ true → IsIndex n.0
  unfolding node_in
  node-index n h = omega (arith, ltb-true n.0 M h)

  -- a pointer in range is null, or names a slot in range
  ptr_fits : (q : Ptr) → ptr_in N M q ≡ true → PtrFits q
  unfolding ptr_in
  ptr_fits Ptr.Null h = tt
  ptr_fits (Ptr.At s) h = slot-index s h

  -- two nodes that are in range together
  two_nodes : (n m : Node) → node_in N M n && node_in N M m ≡ true → IsIndex n.0 × IsIndex m.0
  two_nodes n m h = let b = both_true (node_in N M n) (node_in N M m) h in (node-index n b.0, node-index m b.1)

  -- the places of an insertion, of a participant whose own index is in range
  register-fits : (me : Slot) (at : RegisterAt) → me.0 < N → register_in N M at ≡ true → RegisterFits me at
  unfolding register_in
  register-fits me RegisterAt.Head own h = tt
  register-fits me (RegisterAt.Next next) own h = ptr_fits next h
  register-fits me (RegisterAt.Link next) own h = (omega arith, ptr_fits next h)

  -- those of an iteration, of a pop and of a push
  walk-fits : (at : WalkAt) → walk_in N M at ≡ true → WalkFits at
  unfolding walk_in cursor_in
  walk-fits WalkAt.Head h = tt
  walk-fits (WalkAt.Next c) h = tt
  walk-fits (WalkAt.Unlink c succ) h =
      let b = both_true (cursor_in N M c) (ptr_in N M succ) h in
      (slot-index c.curr (both_true (pred_in N M c.pred) (slot_in N M c.curr) b.0).1, ptr_fits succ b.1)
  walk-fits WalkAt.Stalled h = tt

  pop-fits : (at : PopAt) → pop_in N M at ≡ true → PopFits at
  unfolding pop_in
  pop-fits PopAt.Head h = tt
  pop-fits (PopAt.Next head) h = tt
  pop-fits (PopAt.Exchange head next) h = two_nodes head next h
  pop-fits (PopAt.Tail head next) h = tt
  pop-fits (PopAt.TailMove head next) h = two_nodes head next h

  push-fits : (at : PushAt) → push_in N M at ≡ true → PushFits at
  unfolding push_in
  push-fits PushAt.Epoch h = tt
  push-fits (PushAt.Tail new) h = tt
  push-fits (PushAt.Next new onto) h = tt
  push-fits (PushAt.Help new onto next) h =
      let b = both_true (node_in N M new && node_in N M onto) (node_in N M next) h in
      ((two_nodes new onto b.0).1, node-index next b.1)
  push-fits (PushAt.Link new onto) h = (two_nodes new onto h).0
  push-fits (PushAt.Move new onto) h = let b = two_nodes new onto h in (b.1, b.0)

  -- every place in range, of a participant whose own index is in range
  pub place-fits : (me : Slot) (pl : Place) → me.0 < N → place_in N M pl ≡ true → PlaceFits me pl
  unfolding place_in
  place-fits me Place.Rest own h = tt
  place-fits me (Place.Register at) own h = register-fits me at own h
  place-fits me (Place.PinEpoch owner) own h = tt
  place-fits me (Place.PinWord owner e) own h = tt
  place-fits me (Place.Repin at) own h = tt
  place-fits me Place.UnpinWord own h = tt
  place-fits me (Place.AdvanceEpoch owner) own h = tt
  place-fits me (Place.Walk t at) own h = walk-fits at h
  place-fits me (Place.AdvanceWord t curr succ) own h = tt
  place-fits me (Place.AdvanceStore t) own h = tt
  place-fits me (Place.Pop p at) own h = pop-fits at (both_true (pops_in N M p) (pop_in N M at) h).1
  place-fits me (Place.Push then at) own h = push-fits at (both_true (then_in N M then) (push_in N M at) h).1
  place-fits me Place.FinalWord own h = tt
  place-fits me Place.FinalTag own h = tt

-- ---- one seal

-- of all seals, a step looks at that of the bag in the node that the value seen names
pub one_seal_at : (me : Slot) (spare : Node) (sealed : Node → ℕ) (o : Participant) (pl : Place) (seen : Seen)
    → follows (rule me spare sealed o pl) seen ≡ follows (rule me spare (λ n. sealed (node_at seen.value)) o pl) seen
unfolding rule
one_seal_at me spare sealed o Place.Rest seen = refl
one_seal_at me spare sealed o (Place.Register at) seen = refl
one_seal_at me spare sealed o (Place.PinEpoch owner) seen = refl
one_seal_at me spare sealed o (Place.PinWord owner e) seen = refl
one_seal_at me spare sealed o (Place.Repin at) seen = refl
one_seal_at me spare sealed o Place.UnpinWord seen = refl
one_seal_at me spare sealed o (Place.AdvanceEpoch owner) seen = refl
one_seal_at me spare sealed o (Place.Walk t at) seen = refl
one_seal_at me spare sealed o (Place.AdvanceWord t curr succ) seen = refl
one_seal_at me spare sealed o (Place.AdvanceStore t) seen = refl
one_seal_at me spare sealed o (Place.Pop p at) seen = one_seal sealed p o at seen
one_seal_at me spare sealed o (Place.Push then at) seen = refl
one_seal_at me spare sealed o Place.FinalWord seen = refl
one_seal_at me spare sealed o Place.FinalTag seen = refl
