-- A repin that is about to store stores a pinned word: it pinned the epoch that it loaded. Assumes nothing.
use mathlib.Core.Bool.{Bool}
use Prim.Native.Nat.{ℕ, ◌-◌}
use Rattle.epoch.proofs.Laws.{is_pinned-pinned}
use Rattle.definition.specs.Base.{branch, least}
use Rattle.definition.specs.Flow.{collect_steps, on, done, also, finalize, collected, pops, advanced, walk, placed, defer, pushed}
use Rattle.definition.specs.Rule.{asks, follows, sees}
use Rattle.definition.specs.List.{insert, delete, iterate}
use Rattle.definition.specs.Queue.{seal_bag, push, pop}
use Rattle.definition.specs.Internal.{pin_epoch, pin_word, pin_counted, unpin_word, repin, advance_epoch, advance_word, advance_store, final_word, rule}
use Rattle.definition.specs.Calls.{begins}
use Rattle.definition.proofs.Base.{branch_ind}
use Rattle.theorems.proofs.Machine.{Machine}
use Rattle.theorems.proofs.Invariant.{RepinPins}
use Rattle.theorems.proofs.Inv.{rule_of, after_of}
use Rattle.theorems.proofs.Types.{Epoch, Slot, Node, Ptr, Pred, Owner, Try, Deferring, Then, RegisterAt, RepinAt, WalkAt, PopAt, PushAt, Place, Participant, Seen, Work, After, Call}

unfoldable pub RepinAfter : After → Type 0
RepinAfter a = RepinPins a.participant.place

on_repins : (pl : Place) (o : Participant) → RepinPins pl → RepinAfter (on pl o)
unfolding RepinAfter on
on_repins pl o h = h

done_repins : (v : ℕ) (o : Participant) → RepinAfter (done v o)
unfolding RepinAfter done RepinPins
done_repins v o = tt

also_repins : (w : Work) (a : After) → RepinAfter a → RepinAfter (also w a)
unfolding RepinAfter also
also_repins w a h = h

pick_repins : (b : Bool) (x y : After) → RepinAfter x → RepinAfter y → RepinAfter (branch b x y)
pick_repins b x y h k = branch_ind RepinAfter b (λ _. h) (λ _. k)

collected_repins : (k : Owner) (o : Participant) → RepinAfter (collected k o)
unfolding collected RepinPins
collected_repins Owner.Pin o = done_repins 0 o
collected_repins Owner.Flush o = done_repins 0 o
collected_repins Owner.Finalize o = on_repins _ o tt

pops_repins : (k : Owner) (e : Epoch) (left : ℕ) (o : Participant) → RepinAfter (pops k e left o)
unfolding pops RepinPins
pops_repins k e left o = pick_repins _ _ _ (collected_repins k o) (on_repins (Place.Pop (record { owner = k; epoch = e; left = left }) PopAt.Head) o tt)

advanced_repins : (k : Owner) (e : Epoch) (o : Participant) → RepinAfter (advanced k e o)
unfolding advanced
advanced_repins k e o = pops_repins k e collect_steps o

walk_repins : (t : Try) (pred : Pred) (q : Ptr) (o : Participant) → RepinAfter (walk t pred q o)
unfolding walk RepinPins
walk_repins t pred Ptr.Null o = on_repins (Place.AdvanceStore t) o tt
walk_repins t pred (Ptr.At s) o = on_repins (Place.Walk t (WalkAt.Next (record { pred = pred; curr = s }))) o tt

placed_repins : (d : Deferring) (o : Participant) → RepinAfter (placed d o)
unfolding placed
placed_repins (Deferring.Token token) o = also_repins _ _ (done_repins _ o)
placed_repins (Deferring.Slot t c succ) o = also_repins _ _ (walk_repins t c.pred succ o)
placed_repins (Deferring.Node p head next) o = also_repins _ _ (pops_repins p.owner p.epoch (p.left - 1) o)

defer_repins : (d : Deferring) (o : Participant) → RepinAfter (defer d o)
unfolding defer RepinPins
defer_repins d o = pick_repins _ _ _ (placed_repins d _) (on_repins (Place.Push (Then.Defer d) PushAt.Epoch) o tt)

finalize_repins : (o : Participant) → RepinAfter (finalize o)
unfolding finalize RepinPins
finalize_repins o = on_repins (Place.PinEpoch Owner.Finalize) _ tt

pushed_repins : (f : Then) (o : Participant) → RepinAfter (pushed f o)
unfolding pushed RepinPins
pushed_repins (Then.Defer d) o = defer_repins d o
pushed_repins Then.Flush o = on_repins (Place.AdvanceEpoch Owner.Flush) o tt
pushed_repins Then.Finalize o = on_repins Place.FinalWord _ tt

ruleset repinned = (on_repins, done_repins, also_repins, pick_repins, collected_repins, pops_repins, advanced_repins, walk_repins, defer_repins, finalize_repins, pushed_repins, is_pinned-pinned)

follows_repins : (self : Slot) (spare : Node) (sealed : Node → ℕ) (o : Participant) (pl : Place) (seen : Seen) → RepinAfter (follows (rule self spare sealed o pl) seen)
unfolding follows rule insert delete iterate push pop pin_epoch pin_word pin_counted unpin_word repin advance_epoch advance_word advance_store final_word seal_bag RepinPins
follows_repins self spare sealed o Place.Rest seen = search repinned
follows_repins self spare sealed o (Place.Register RegisterAt.Head) seen = search repinned
follows_repins self spare sealed o (Place.Register (RegisterAt.Next next)) seen = search repinned
follows_repins self spare sealed o (Place.Register (RegisterAt.Link next)) seen = search repinned
follows_repins self spare sealed o (Place.PinEpoch k) seen = search repinned
follows_repins self spare sealed o (Place.PinWord k e) seen = search repinned
follows_repins self spare sealed o (Place.Repin RepinAt.Word) seen = search repinned
follows_repins self spare sealed o (Place.Repin (RepinAt.Epoch e)) seen = search repinned
follows_repins self spare sealed o (Place.Repin (RepinAt.Store e)) seen = search repinned
follows_repins self spare sealed o Place.UnpinWord seen = search repinned
follows_repins self spare sealed o (Place.AdvanceEpoch k) seen = search repinned
follows_repins self spare sealed o (Place.Walk t WalkAt.Head) seen = search repinned
follows_repins self spare sealed o (Place.Walk t (WalkAt.Next c)) seen = search repinned
follows_repins self spare sealed o (Place.Walk t (WalkAt.Unlink c succ)) seen = search repinned
follows_repins self spare sealed o (Place.Walk t WalkAt.Stalled) seen = search repinned
follows_repins self spare sealed o (Place.AdvanceWord t curr succ) seen = search repinned
follows_repins self spare sealed o (Place.AdvanceStore t) seen = search repinned
follows_repins self spare sealed o (Place.Pop q PopAt.Head) seen = search repinned
follows_repins self spare sealed o (Place.Pop q (PopAt.Next head)) seen = search repinned
follows_repins self spare sealed o (Place.Pop q (PopAt.Exchange head next)) seen = search repinned
follows_repins self spare sealed o (Place.Pop q (PopAt.Tail head next)) seen = search repinned
follows_repins self spare sealed o (Place.Pop q (PopAt.TailMove head next)) seen = search repinned
follows_repins self spare sealed o (Place.Push f PushAt.Epoch) seen = search repinned
follows_repins self spare sealed o (Place.Push f (PushAt.Tail new)) seen = search repinned
follows_repins self spare sealed o (Place.Push f (PushAt.Next new onto)) seen = search repinned
follows_repins self spare sealed o (Place.Push f (PushAt.Help new onto next)) seen = search repinned
follows_repins self spare sealed o (Place.Push f (PushAt.Link new onto)) seen = search repinned
follows_repins self spare sealed o (Place.Push f (PushAt.Move new onto)) seen = search repinned
follows_repins self spare sealed o Place.FinalWord seen = search repinned
follows_repins self spare sealed o Place.FinalTag seen = search repinned

pub after_repins : (M p : ℕ) (m : Machine) → RepinPins (after_of M p m).participant.place
unfolding after_of rule_of RepinAfter
after_repins M p m = follows_repins (record { 0 = p }) (record { 0 = least M m.node_free }) (λ n. (m.bag n.0).epoch) (m.own p) (m.own p).place (sees (asks (rule_of M p m)) m.shared)

pub begins_repins : (c : Call) (o : Participant) → RepinAfter (begins c o)
unfolding begins RepinPins
begins_repins Call.Acquire o = search repinned
begins_repins Call.Release o = search repinned
begins_repins Call.Pin o = search repinned
begins_repins Call.Unpin o = search repinned
begins_repins Call.Repin o = search repinned
begins_repins (Call.Defer token) o = search repinned
begins_repins Call.Flush o = search repinned
