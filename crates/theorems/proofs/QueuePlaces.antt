-- Which places hold nodes, and what: the parts of group H that speak of nodes, apart from those that speak of slots (Held puts both
-- together). Only pops and pushes under way hold any; whatever ends or begins something leads to a place that holds none, so a step from
-- outside the queue does, and a call. Assumes nothing.
use mathlib.Core.Path.{◌≡◌, refl, sym, ◌∙◌}
use mathlib.Core.Bool.{Bool, true, false, true≢false}
use Prim.Native.Nat.{ℕ, ◌-◌}
use Rattle.definition.specs.Base.{branch}
use Rattle.definition.specs.Flow.{collect_steps, on, done, also, finalize, collected, pops, advanced, walk, placed, defer}
use Rattle.definition.specs.Rule.{follows}
use Rattle.definition.specs.List.{insert, delete, iterate}
use Rattle.definition.specs.Queue.{push, pop}
use Rattle.definition.specs.Internal.{pin_epoch, pin_word, pin_counted, unpin_word, repin, advance_epoch, advance_word, advance_store, final_word, rule}
use Rattle.definition.specs.Calls.{begins}
use Rattle.definition.proofs.Base.{branch_ind}
use Rattle.theorems.proofs.Machine.{Machine}
use Rattle.theorems.proofs.Ghost.{Ghost}
use Rattle.theorems.proofs.Invariant.{PoppedSafe, HoldsThen, HoldsPop, HoldsPush, HoldsAt}
use Rattle.theorems.proofs.Linked.{under_pin}
use Rattle.theorems.proofs.Types.{Epoch, Slot, Node, Ptr, Pred, Owner, Try, Pops, Deferring, Then, RegisterAt, RepinAt, WalkAt, PopAt, PushAt, Place, Participant, Seen, After, Call}

-- what a place holds of nodes: the parts of `HoldsAt` that speak of them
unfoldable pub NodesThen : (M : ℕ) → Machine → Ghost → ℕ → Then → Type 0
NodesThen M m g b (Then.Defer (Deferring.Token token)) = Unit {0}
NodesThen M m g b (Then.Defer (Deferring.Slot t c succ)) = Unit {0}
NodesThen M m g b (Then.Defer (Deferring.Node p head next)) = PoppedSafe M m g b p.epoch.0 next.0
NodesThen M m g b Then.Flush = Unit {0}
NodesThen M m g b Then.Finalize = Unit {0}

unfoldable pub NodesAt : (M : ℕ) → Machine → Ghost → ℕ → Place → Type 0
NodesAt M m g b Place.Rest = Unit {0}
NodesAt M m g b (Place.Register a) = Unit {0}
NodesAt M m g b (Place.PinEpoch k) = Unit {0}
NodesAt M m g b (Place.PinWord k e) = Unit {0}
NodesAt M m g b (Place.Repin a) = Unit {0}
NodesAt M m g b Place.UnpinWord = Unit {0}
NodesAt M m g b (Place.AdvanceEpoch k) = Unit {0}
NodesAt M m g b (Place.Walk t a) = Unit {0}
NodesAt M m g b (Place.AdvanceWord t curr succ) = Unit {0}
NodesAt M m g b (Place.AdvanceStore t) = Unit {0}
NodesAt M m g b (Place.Pop q a) = HoldsPop M m g b q.epoch.0 a
NodesAt M m g b (Place.Push f a) = NodesThen M m g b f × HoldsPush M m g b a
NodesAt M m g b Place.FinalWord = Unit {0}
NodesAt M m g b Place.FinalTag = Unit {0}

-- they follow from the whole
pub then_of_lem : (N M : ℕ) (m : Machine) (g : Ghost) (b : ℕ) (f : Then) → HoldsThen N M m g b f → NodesThen M m g b f
unfolding NodesThen HoldsThen
then_of_lem N M m g b (Then.Defer (Deferring.Token token)) h = tt
then_of_lem N M m g b (Then.Defer (Deferring.Slot t c succ)) h = tt
then_of_lem N M m g b (Then.Defer (Deferring.Node p head next)) h = h
then_of_lem N M m g b Then.Flush h = tt
then_of_lem N M m g b Then.Finalize h = tt

pub nodes_of : (N M : ℕ) (m : Machine) (g : Ghost) (b : ℕ) (pl : Place) → HoldsAt N M m g b pl → NodesAt M m g b pl
unfolding NodesAt HoldsAt
nodes_of N M m g b Place.Rest h = tt
nodes_of N M m g b (Place.Register a) h = tt
nodes_of N M m g b (Place.PinEpoch k) h = tt
nodes_of N M m g b (Place.PinWord k e) h = tt
nodes_of N M m g b (Place.Repin a) h = tt
nodes_of N M m g b Place.UnpinWord h = tt
nodes_of N M m g b (Place.AdvanceEpoch k) h = tt
nodes_of N M m g b (Place.Walk t a) h = tt
nodes_of N M m g b (Place.AdvanceWord t curr succ) h = tt
nodes_of N M m g b (Place.AdvanceStore t) h = tt
nodes_of N M m g b (Place.Pop q a) h = h
nodes_of N M m g b (Place.Push f a) h = (then_of_lem N M m g b f h.0, h.1)
nodes_of N M m g b Place.FinalWord h = tt
nodes_of N M m g b Place.FinalTag h = tt

-- the places of pops and pushes, and all others
unfoldable pub in_queue? : Place → Bool
in_queue? Place.Rest = false
in_queue? (Place.Register a) = false
in_queue? (Place.PinEpoch k) = false
in_queue? (Place.PinWord k e) = false
in_queue? (Place.Repin a) = false
in_queue? Place.UnpinWord = false
in_queue? (Place.AdvanceEpoch k) = false
in_queue? (Place.Walk t a) = false
in_queue? (Place.AdvanceWord t curr succ) = false
in_queue? (Place.AdvanceStore t) = false
in_queue? (Place.Pop q a) = true
in_queue? (Place.Push f a) = true
in_queue? Place.FinalWord = false
in_queue? Place.FinalTag = false

-- a proof about places is one about pops, one about pushes and one about all others
pub by_queue : (P : Place → Type 0) → ((q : Pops) (a : PopAt) → P (Place.Pop q a)) → ((f : Then) (a : PushAt) → P (Place.Push f a))
    → ((pl : Place) → in_queue? pl ≡ false → P pl) → (pl : Place) → P pl
unfolding in_queue?
by_queue P pop push other Place.Rest = other Place.Rest refl
by_queue P pop push other (Place.Register a) = other (Place.Register a) refl
by_queue P pop push other (Place.PinEpoch k) = other (Place.PinEpoch k) refl
by_queue P pop push other (Place.PinWord k e) = other (Place.PinWord k e) refl
by_queue P pop push other (Place.Repin a) = other (Place.Repin a) refl
by_queue P pop push other Place.UnpinWord = other Place.UnpinWord refl
by_queue P pop push other (Place.AdvanceEpoch k) = other (Place.AdvanceEpoch k) refl
by_queue P pop push other (Place.Walk t a) = other (Place.Walk t a) refl
by_queue P pop push other (Place.AdvanceWord t curr succ) = other (Place.AdvanceWord t curr succ) refl
by_queue P pop push other (Place.AdvanceStore t) = other (Place.AdvanceStore t) refl
by_queue P pop push other (Place.Pop q a) = pop q a
by_queue P pop push other (Place.Push f a) = push f a
by_queue P pop push other Place.FinalWord = other Place.FinalWord refl
by_queue P pop push other Place.FinalTag = other Place.FinalTag refl

-- a place that holds nothing of nodes: no pop or push is under way, or it has only begun
unfoldable pub BareThen : Then → Type 0
BareThen (Then.Defer (Deferring.Token token)) = Unit {0}
BareThen (Then.Defer (Deferring.Slot t c succ)) = Unit {0}
BareThen (Then.Defer (Deferring.Node p head next)) = ⊥
BareThen Then.Flush = Unit {0}
BareThen Then.Finalize = Unit {0}

unfoldable pub BareAt : Place → Type 0
BareAt Place.Rest = Unit {0}
BareAt (Place.Register a) = Unit {0}
BareAt (Place.PinEpoch k) = Unit {0}
BareAt (Place.PinWord k e) = Unit {0}
BareAt (Place.Repin a) = Unit {0}
BareAt Place.UnpinWord = Unit {0}
BareAt (Place.AdvanceEpoch k) = Unit {0}
BareAt (Place.Walk t a) = Unit {0}
BareAt (Place.AdvanceWord t curr succ) = Unit {0}
BareAt (Place.AdvanceStore t) = Unit {0}
BareAt (Place.Pop q PopAt.Head) = Unit {0}
BareAt (Place.Pop q (PopAt.Next head)) = ⊥
BareAt (Place.Pop q (PopAt.Exchange head next)) = ⊥
BareAt (Place.Pop q (PopAt.Tail head next)) = ⊥
BareAt (Place.Pop q (PopAt.TailMove head next)) = ⊥
BareAt (Place.Push f PushAt.Epoch) = BareThen f
BareAt (Place.Push f (PushAt.Tail new)) = ⊥
BareAt (Place.Push f (PushAt.Next new onto)) = ⊥
BareAt (Place.Push f (PushAt.Help new onto next)) = ⊥
BareAt (Place.Push f (PushAt.Link new onto)) = ⊥
BareAt (Place.Push f (PushAt.Move new onto)) = ⊥
BareAt Place.FinalWord = Unit {0}
BareAt Place.FinalTag = Unit {0}

-- so whatever is said of the nodes of a place is said of it
bare_then : (M : ℕ) (m : Machine) (g : Ghost) (b : ℕ) (f : Then) → BareThen f → NodesThen M m g b f
unfolding BareThen NodesThen
bare_then M m g b (Then.Defer (Deferring.Token token)) h = tt
bare_then M m g b (Then.Defer (Deferring.Slot t c succ)) h = tt
bare_then M m g b (Then.Defer (Deferring.Node p head next)) h = absurd h
bare_then M m g b Then.Flush h = tt
bare_then M m g b Then.Finalize h = tt

pub bare-nodes : (M : ℕ) (m : Machine) (g : Ghost) (b : ℕ) (pl : Place) → BareAt pl → NodesAt M m g b pl
unfolding BareAt NodesAt HoldsPop HoldsPush
bare-nodes M m g b Place.Rest h = tt
bare-nodes M m g b (Place.Register a) h = tt
bare-nodes M m g b (Place.PinEpoch k) h = tt
bare-nodes M m g b (Place.PinWord k e) h = tt
bare-nodes M m g b (Place.Repin a) h = tt
bare-nodes M m g b Place.UnpinWord h = tt
bare-nodes M m g b (Place.AdvanceEpoch k) h = tt
bare-nodes M m g b (Place.Walk t a) h = tt
bare-nodes M m g b (Place.AdvanceWord t curr succ) h = tt
bare-nodes M m g b (Place.AdvanceStore t) h = tt
bare-nodes M m g b (Place.Pop q PopAt.Head) h = tt
bare-nodes M m g b (Place.Pop q (PopAt.Next head)) h = absurd h
bare-nodes M m g b (Place.Pop q (PopAt.Exchange head next)) h = absurd h
bare-nodes M m g b (Place.Pop q (PopAt.Tail head next)) h = absurd h
bare-nodes M m g b (Place.Pop q (PopAt.TailMove head next)) h = absurd h
bare-nodes M m g b (Place.Push f PushAt.Epoch) h = (bare_then M m g b f h, tt)
bare-nodes M m g b (Place.Push f (PushAt.Tail new)) h = absurd h
bare-nodes M m g b (Place.Push f (PushAt.Next new onto)) h = absurd h
bare-nodes M m g b (Place.Push f (PushAt.Help new onto next)) h = absurd h
bare-nodes M m g b (Place.Push f (PushAt.Link new onto)) h = absurd h
bare-nodes M m g b (Place.Push f (PushAt.Move new onto)) h = absurd h
bare-nodes M m g b Place.FinalWord h = tt
bare-nodes M m g b Place.FinalTag h = tt

-- a place outside the queue holds nothing of nodes
pub out_bare : (pl : Place) → in_queue? pl ≡ false → BareAt pl
unfolding in_queue? BareAt
out_bare Place.Rest i = tt
out_bare (Place.Register a) i = tt
out_bare (Place.PinEpoch k) i = tt
out_bare (Place.PinWord k e) i = tt
out_bare (Place.Repin a) i = tt
out_bare Place.UnpinWord i = tt
out_bare (Place.AdvanceEpoch k) i = tt
out_bare (Place.Walk t a) i = tt
out_bare (Place.AdvanceWord t curr succ) i = tt
out_bare (Place.AdvanceStore t) i = tt
out_bare (Place.Pop q a) i = absurd (true≢false i)
out_bare (Place.Push f a) i = absurd (true≢false i)
out_bare Place.FinalWord i = tt
out_bare Place.FinalTag i = tt

-- who stands at a place of a pop or a push is under a pin
pub queue-under-pin : (pl : Place) → in_queue? pl ≡ true → under_pin pl ≡ true
unfolding in_queue? under_pin
queue-under-pin = by_queue (λ pl. in_queue? pl ≡ true → under_pin pl ≡ true) (λ q a i. refl) (λ f a i. refl) (λ pl out i. absurd (true≢false (sym i ∙ out)))

-- what follows leads to such a place
unfoldable pub Bare : After → Type 0
Bare a = BareAt a.participant.place

-- one law for each of the functions of specs/Flow
on_bare : (pl : Place) (o : Participant) → BareAt pl → Bare (on pl o)
unfolding Bare on
on_bare pl o h = h

done-bare : (v : ℕ) (o : Participant) → Bare (done v o)
unfolding Bare BareAt done
done-bare v o = tt

pick-bare : (b : Bool) (x y : After) → Bare x → Bare y → Bare (branch b x y)
pick-bare b x y h k = branch_ind Bare b (λ _. h) (λ _. k)

pub collected-bare : (k : Owner) (o : Participant) → Bare (collected k o)
unfolding collected BareAt BareThen
collected-bare Owner.Pin o = done-bare 0 o
collected-bare Owner.Flush o = done-bare 0 o
collected-bare Owner.Finalize o = on_bare _ o tt

finalize-bare : (o : Participant) → Bare (finalize o)
unfolding finalize BareAt
finalize-bare o = on_bare _ _ tt

pops-bare : (k : Owner) (e : Epoch) (left : ℕ) (o : Participant) → Bare (pops k e left o)
unfolding pops BareAt
pops-bare k e left o = pick-bare _ _ _ (collected-bare k o) (on_bare _ o tt)

advanced-bare : (k : Owner) (e : Epoch) (o : Participant) → Bare (advanced k e o)
unfolding advanced
advanced-bare k e o = pops-bare k e collect_steps o

walk-bare : (t : Try) (pred : Pred) (q : Ptr) (o : Participant) → Bare (walk t pred q o)
unfolding walk BareAt
walk-bare t pred Ptr.Null o = on_bare _ o tt
walk-bare t pred (Ptr.At s) o = on_bare _ o tt

pub placed-bare : (d : Deferring) (o : Participant) → Bare (placed d o)
unfolding placed also Bare
placed-bare (Deferring.Token token) o = unfold Bare in (done-bare _ o)
placed-bare (Deferring.Slot t c succ) o = unfold Bare in (walk-bare t c.pred succ o)
placed-bare (Deferring.Node p head next) o = unfold Bare in (pops-bare p.owner p.epoch (p.left - 1) o)

-- a deferral that is not of an old head
pub defer-bare : (d : Deferring) (o : Participant) → BareThen (Then.Defer d) → Bare (defer d o)
unfolding defer BareAt
defer-bare d o h = pick-bare _ _ _ (placed-bare d _) (on_bare _ o h)

ruleset bare = (on_bare, done-bare, pick-bare, collected-bare, finalize-bare, pops-bare, advanced-bare, walk-bare, defer-bare)

-- after the access of a place that is none of a pop or a push, and after a call
pub bare-after : (self : Slot) (spare : Node) (sealed : Node → ℕ) (o : Participant) (pl : Place) (seen : Seen) → in_queue? pl ≡ false
    → Bare (follows (rule self spare sealed o pl) seen)
unfolding follows rule insert delete iterate push pop pin_epoch pin_word pin_counted unpin_word repin advance_epoch advance_word advance_store final_word in_queue? BareAt BareThen
bare-after self spare sealed o Place.Rest seen out = search bare
bare-after self spare sealed o (Place.Register RegisterAt.Head) seen out = search bare
bare-after self spare sealed o (Place.Register (RegisterAt.Next next)) seen out = search bare
bare-after self spare sealed o (Place.Register (RegisterAt.Link next)) seen out = search bare
bare-after self spare sealed o (Place.PinEpoch k) seen out = search bare
bare-after self spare sealed o (Place.PinWord k e) seen out = search bare
bare-after self spare sealed o (Place.Repin RepinAt.Word) seen out = search bare
bare-after self spare sealed o (Place.Repin (RepinAt.Epoch e)) seen out = search bare
bare-after self spare sealed o (Place.Repin (RepinAt.Store e)) seen out = search bare
bare-after self spare sealed o Place.UnpinWord seen out = search bare
bare-after self spare sealed o (Place.AdvanceEpoch k) seen out = search bare
bare-after self spare sealed o (Place.Walk t WalkAt.Head) seen out = search bare
bare-after self spare sealed o (Place.Walk t (WalkAt.Next c)) seen out = search bare
bare-after self spare sealed o (Place.Walk t (WalkAt.Unlink c succ)) seen out = search bare
bare-after self spare sealed o (Place.Walk t WalkAt.Stalled) seen out = search bare
bare-after self spare sealed o (Place.AdvanceWord t curr succ) seen out = search bare
bare-after self spare sealed o (Place.AdvanceStore t) seen out = search bare
bare-after self spare sealed o (Place.Pop q a) seen out = absurd (true≢false out)
bare-after self spare sealed o (Place.Push f a) seen out = absurd (true≢false out)
bare-after self spare sealed o Place.FinalWord seen out = search bare
bare-after self spare sealed o Place.FinalTag seen out = search bare

pub bare-begins : (c : Call) (o : Participant) → Bare (begins c o)
unfolding begins BareAt BareThen
bare-begins Call.Acquire o = search bare
bare-begins Call.Release o = search bare
bare-begins Call.Pin o = search bare
bare-begins Call.Unpin o = search bare
bare-begins Call.Repin o = search bare
bare-begins (Call.Defer token) o = search bare
bare-begins Call.Flush o = search bare
