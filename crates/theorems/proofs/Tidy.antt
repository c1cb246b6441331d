-- The numbers of the participant that moves: its counts stay within their limit, its bag within its size, at rest it has no share, and its share
-- falls by the one node that it takes, where it takes one, and never rises. One law for each function of specs/Flow, then one line a place
-- and one a call. Assumes nothing.
use mathlib.Core.Path.{◌≡◌, refl, ◌∙◌}
use mathlib.Core.Bool.{Bool, true, false}
use Prim.Native.Nat.{ℕ, ◌+◌, ◌-◌, ◌≤◌, ◌<◌}
use native.Mathlib.Omega.{arith}
use lib.Dec.{eqb, ltb}
use borrow.Author.Tests.{ltb-true, leb-false}
use Rattle.definition.specs.Base.{branch}
use Rattle.definition.specs.Bags.{max_objects}
use Rattle.definition.specs.Flow.{collect_steps, on, done, also, finalize, collected, pops, advanced, walk, placed, defer, pushed, holding, counting, sharing}
use Rattle.definition.specs.Rule.{follows}
use Rattle.definition.specs.List.{insert, delete, iterate}
use Rattle.definition.specs.Queue.{seal_bag, push, pop}
use Rattle.definition.specs.Internal.{pin_epoch, pin_word, pin_counted, unpin_word, repin, advance_epoch, advance_word, advance_store, final_word, rule}
use Rattle.definition.specs.Calls.{max_count, count_full, needs, begins, opens}
use Rattle.definition.specs.Public.{takes_node}
use Rattle.definition.proofs.Base.{branch_ind}
use Rattle.theorems.proofs.Types.{Epoch, Slot, Node, Ptr, Pred, Item, Owner, Try, Deferring, Then, RegisterAt, RepinAt, WalkAt, PopAt, PushAt}
use Rattle.theorems.proofs.Types.{Place, Participant, Seen, Work, After, Call}

-- a share at rest is nothing
unfoldable pub RestShare : Place → ℕ → Type 0
RestShare Place.Rest s = s ≡ 0
RestShare (Place.Register a) s = Unit {0}
RestShare (Place.PinEpoch k) s = Unit {0}
RestShare (Place.PinWord k e) s = Unit {0}
RestShare (Place.Repin a) s = Unit {0}
RestShare Place.UnpinWord s = Unit {0}
RestShare (Place.AdvanceEpoch k) s = Unit {0}
RestShare (Place.Walk t a) s = Unit {0}
RestShare (Place.AdvanceWord t curr succ) s = Unit {0}
RestShare (Place.AdvanceStore t) s = Unit {0}
RestShare (Place.Pop q a) s = Unit {0}
RestShare (Place.Push f a) s = Unit {0}
RestShare Place.FinalWord s = Unit {0}
RestShare Place.FinalTag s = Unit {0}

-- either way: from the clause about shares at rest, and to it
pub rest_share : (pl : Place) (s : ℕ) → (pl ≡ Place.Rest → s ≡ 0) → RestShare pl s
unfolding RestShare
rest_share Place.Rest s h = h refl
rest_share (Place.Register a) s h = tt
rest_share (Place.PinEpoch k) s h = tt
rest_share (Place.PinWord k e) s h = tt
rest_share (Place.Repin a) s h = tt
rest_share Place.UnpinWord s h = tt
rest_share (Place.AdvanceEpoch k) s h = tt
rest_share (Place.Walk t a) s h = tt
rest_share (Place.AdvanceWord t curr succ) s h = tt
rest_share (Place.AdvanceStore t) s h = tt
rest_share (Place.Pop q a) s h = tt
rest_share (Place.Push f a) s h = tt
rest_share Place.FinalWord s h = tt
rest_share Place.FinalTag s h = tt

pub rests_none : (pl : Place) (s : ℕ) → RestShare pl s → pl ≡ Place.Rest → s ≡ 0
unfolding RestShare
rests_none pl s h e = rw e at h

-- a share beside a work, s being the share before: one node fewer where one is taken
unfoldable pub ShareBy : (takes : Bool) → (before after : ℕ) → Work → Type 0
ShareBy b s r Work.Nothing = r ≤ s
ShareBy b s r (Work.Put i) = r ≤ s
ShareBy b s r (Work.PutThenFree i n) = r ≤ s
ShareBy b s r (Work.Seal n e) = (b ≡ true) × (r ≡ s - 1)

-- the counts of a participant within their limit
abbrev pub Counted : Participant → Type 0
Counted o = (o.counts.guards ≤ max_count) × (o.counts.handles ≤ max_count)

pub record Tidy (b : Bool) (s : ℕ) (a : After) : Type 0 where
  pub rests : RestShare a.participant.place a.participant.share
  pub counts : Counted a.participant
  pub held : a.participant.held ≤ max_objects
  pub share : ShareBy b s a.participant.share a.work

-- what goes in: counts, length and share as they were
pub record Neat (s : ℕ) (o : Participant) : Type 0 where
  pub counts : Counted o
  pub held : o.held ≤ max_objects
  pub share : o.share ≤ s

-- counts that are written anew
recounted : (s g h n : ℕ) (o : Participant) → Neat s o → g ≤ max_count → h ≤ max_count → Neat s (counting g h n o)
recounted s g h n o x y z = record { counts = (y, z); held = x.held; share = x.share }

module _ (b : Bool) (s : ℕ) where
  -- before an access
  on_tidy : (pl : Place) (o : Participant) → Neat s o → RestShare pl o.share → Tidy b s (on pl o)
  unfolding on ShareBy
  on_tidy pl o h r = record { rests = r; counts = h.counts; held = h.held; share = h.share }

  -- at the end of an operation
  done_tidy : (v : ℕ) (o : Participant) → Neat s o → Tidy b s (done v o)
  unfolding done ShareBy RestShare
  done_tidy v o h = record { rests = refl; counts = h.counts; held = h.held; share = omega arith }

  -- either way
  pick_tidy : (c : Bool) (x y : After) → Tidy b s x → Tidy b s y → Tidy b s (branch c x y)
  pick_tidy c x y h k = branch_ind (Tidy b s) c (λ _. h) (λ _. k)

  -- when a collect returns
  collected_tidy : (k : Owner) (o : Participant) → Neat s o → Tidy b s (collected k o)
  unfolding collected RestShare
  collected_tidy Owner.Pin o h = done_tidy 0 o h
  collected_tidy Owner.Flush o h = done_tidy 0 o h
  collected_tidy Owner.Finalize o h = on_tidy (Place.Push Then.Finalize PushAt.Epoch) o h tt

  -- a finalize begins with one handle and one guard
  finalize_tidy : (o : Participant) → Neat s o → Tidy b s (finalize o)
  unfolding finalize RestShare max_count
  finalize_tidy o h = on_tidy (Place.PinEpoch Owner.Finalize) _ (recounted s 1 1 o.counts.pins o h (omega arith) (omega arith)) tt

  -- another pop, or the end of the collect
  pops_tidy : (k : Owner) (e : Epoch) (left : ℕ) (o : Participant) → Neat s o → Tidy b s (pops k e left o)
  unfolding pops RestShare
  pops_tidy k e left o h = pick_tidy _ _ _ (collected_tidy k o h) (on_tidy (Place.Pop (record { owner = k; epoch = e; left = left }) PopAt.Head) o h tt)

  -- the first pop
  advanced_tidy : (k : Owner) (e : Epoch) (o : Participant) → Neat s o → Tidy b s (advanced k e o)
  unfolding advanced
  advanced_tidy k e o h = pops_tidy k e collect_steps o h

  -- the next entry, or the end of the list
  walk_tidy : (t : Try) (pred : Pred) (q : Ptr) (o : Participant) → Neat s o → Tidy b s (walk t pred q o)
  unfolding walk RestShare
  walk_tidy t pred Ptr.Null o h = on_tidy (Place.AdvanceStore t) o h tt
  walk_tidy t pred (Ptr.At i) o h = on_tidy (Place.Walk t (WalkAt.Next (record { pred = pred; curr = i }))) o h tt

-- no node is taken in these, so their share is at most s
quiet_share : (b : Bool) (s r : ℕ) (w : Work) → w ≡ Work.Nothing → ShareBy b s r w → r ≤ s
unfolding ShareBy
quiet_share b s r w e h = rw e at h

-- no work in any of these
quiet_done : (v : ℕ) (o : Participant) → (done v o).work ≡ Work.Nothing
unfolding done
quiet_done v o = refl

quiet_on : (pl : Place) (o : Participant) → (on pl o).work ≡ Work.Nothing
unfolding on
quiet_on pl o = refl

quiet_walk : (t : Try) (pred : Pred) (q : Ptr) (o : Participant) → (walk t pred q o).work ≡ Work.Nothing
unfolding walk
quiet_walk t pred Ptr.Null o = quiet_on _ o
quiet_walk t pred (Ptr.At i) o = quiet_on _ o

quiet_collected : (k : Owner) (o : Participant) → (collected k o).work ≡ Work.Nothing
unfolding collected
quiet_collected Owner.Pin o = quiet_done 0 o
quiet_collected Owner.Flush o = quiet_done 0 o
quiet_collected Owner.Finalize o = quiet_on _ o

quiet_pops : (k : Owner) (e : Epoch) (left : ℕ) (o : Participant) → (pops k e left o).work ≡ Work.Nothing
unfolding pops
quiet_pops k e left o = branch_ind (λ (a : After). a.work ≡ Work.Nothing) (eqb left 0) (λ _. quiet_collected k o)
    (λ _. quiet_on (Place.Pop (record { owner = k; epoch = e; left = left }) PopAt.Head) o)

module _ (b : Bool) (s : ℕ) where
  -- an item put besides, where there was no work
  also_tidy : (w : Work) (a : After) → a.work ≡ Work.Nothing → (a.participant.share ≤ s → ShareBy b s a.participant.share w) → Tidy b s a → Tidy b s (also w a)
  unfolding also
  also_tidy w a q f h = record { rests = h.rests; counts = h.counts; held = h.held; share = f (quiet_share b s _ a.work q h.share) }

  -- the item is in the bag
  placed_tidy : (d : Deferring) (o : Participant) → Neat s o → Tidy b s (placed d o)
  unfolding placed ShareBy
  placed_tidy (Deferring.Token token) o h = also_tidy _ (done _ o) (quiet_done _ o) (λ k. k) (done_tidy b s _ o h)
  placed_tidy (Deferring.Slot t c succ) o h = also_tidy _ (walk t c.pred succ o) (quiet_walk t c.pred succ o) (λ k. k) (walk_tidy b s t c.pred succ o h)
  placed_tidy (Deferring.Node p head next) o h =
      also_tidy _ (pops p.owner p.epoch (p.left - 1) o) (quiet_pops p.owner p.epoch (p.left - 1) o) (λ k. k) (pops_tidy b s p.owner p.epoch (p.left - 1) o h)

  -- a bag with room, and one item more
  one_more : (o : Participant) → o.held < max_objects → Neat s o → Neat s (holding (o.held + 1) o)
  one_more o lt h = record { counts = h.counts; held = omega arith; share = h.share }

  -- an item finds room, or a push comes first
  defer_tidy : (d : Deferring) (o : Participant) → Neat s o → Tidy b s (defer d o)
  unfolding defer RestShare
  defer_tidy d o h = branch_ind (Tidy b s) (ltb o.held max_objects) (λ z. placed_tidy d _ (one_more o (ltb-true o.held max_objects z) h))
      (λ _. on_tidy b s (Place.Push (Then.Defer d) PushAt.Epoch) o h tt)

  -- a push returns
  pushed_tidy : (f : Then) (o : Participant) → Neat s o → Tidy b s (pushed f o)
  unfolding pushed RestShare
  pushed_tidy (Then.Defer d) o h = defer_tidy d o h
  pushed_tidy Then.Flush o h = on_tidy b s (Place.AdvanceEpoch Owner.Flush) o h tt
  pushed_tidy Then.Finalize o h = on_tidy b s Place.FinalWord _ (recounted s 0 o.counts.handles o.counts.pins o h (omega arith) h.counts.1) tt

  -- the bag is sealed: it is empty, and one node of the share is gone
  seal_tidy : (spare : Node) (f : Then) (w : ℕ) (o : Participant) → b ≡ true → o.share ≡ s → Neat s o → Tidy b s (seal_bag spare f w o)
  unfolding seal_bag also on ShareBy RestShare
  seal_tidy spare f w o e i h = record { rests = tt; counts = h.counts; held = omega arith; share = (e, rw i) }

ruleset tidies = (on_tidy, done_tidy, pick_tidy, collected_tidy, finalize_tidy, pops_tidy, advanced_tidy, walk_tidy, defer_tidy, pushed_tidy)

-- a pin is counted
counted_tidy : (s : ℕ) (k : Owner) (o : Participant) → Neat s o → Tidy false s (pin_counted k o)
unfolding pin_counted RestShare
counted_tidy s k o h =
    let n = recounted s o.counts.guards o.counts.handles _ o h h.counts.0 h.counts.1 in
    pick_tidy false s _ _ _ (on_tidy false s (Place.AdvanceEpoch k) _ n tt) (collected_tidy false s k _ n)

-- after the access of each place
pub tidy : (self : Slot) (spare : Node) (sealed : Node → ℕ) (o : Participant) (pl : Place) (seen : Seen) → Neat o.share o → RestShare pl o.share
    → Tidy (takes_node pl) o.share (follows (rule self spare sealed o pl) seen)
unfolding follows rule insert delete iterate push pop pin_epoch pin_word pin_counted unpin_word repin advance_epoch advance_word advance_store final_word takes_node RestShare
tidy self spare sealed o Place.Rest seen h r = search tidies
tidy self spare sealed o (Place.Register RegisterAt.Head) seen h r = search tidies
tidy self spare sealed o (Place.Register (RegisterAt.Next next)) seen h r = search tidies
tidy self spare sealed o (Place.Register (RegisterAt.Link next)) seen h r = search tidies
tidy self spare sealed o (Place.PinEpoch k) seen h r = search tidies
tidy self spare sealed o (Place.PinWord k e) seen h r = counted_tidy o.share k o h
tidy self spare sealed o (Place.Repin RepinAt.Word) seen h r = search tidies
tidy self spare sealed o (Place.Repin (RepinAt.Epoch e)) seen h r = search tidies
tidy self spare sealed o (Place.Repin (RepinAt.Store e)) seen h r = search tidies
tidy self spare sealed o Place.UnpinWord seen h r = pick_tidy _ _ _ _ _ (finalize_tidy _ _ o h) (done_tidy _ _ 0 o h)
tidy self spare sealed o (Place.AdvanceEpoch k) seen h r = search tidies
tidy self spare sealed o (Place.Walk t WalkAt.Head) seen h r = search tidies
tidy self spare sealed o (Place.Walk t (WalkAt.Next c)) seen h r = search tidies
tidy self spare sealed o (Place.Walk t (WalkAt.Unlink c succ)) seen h r = search tidies
tidy self spare sealed o (Place.Walk t WalkAt.Stalled) seen h r = search tidies
tidy self spare sealed o (Place.AdvanceWord t curr succ) seen h r = search tidies
tidy self spare sealed o (Place.AdvanceStore t) seen h r = search tidies
tidy self spare sealed o (Place.Pop q PopAt.Head) seen h r = search tidies
tidy self spare sealed o (Place.Pop q (PopAt.Next head)) seen h r = search tidies
tidy self spare sealed o (Place.Pop q (PopAt.Exchange head next)) seen h r = search tidies
tidy self spare sealed o (Place.Pop q (PopAt.Tail head next)) seen h r = search tidies
tidy self spare sealed o (Place.Pop q (PopAt.TailMove head next)) seen h r = search tidies
tidy self spare sealed o (Place.Push f PushAt.Epoch) seen h r = seal_tidy true o.share spare f seen.value o refl refl h
tidy self spare sealed o (Place.Push f (PushAt.Tail new)) seen h r = search tidies
tidy self spare sealed o (Place.Push f (PushAt.Next new onto)) seen h r = search tidies
tidy self spare sealed o (Place.Push f (PushAt.Help new onto next)) seen h r = search tidies
tidy self spare sealed o (Place.Push f (PushAt.Link new onto)) seen h r = search tidies
tidy self spare sealed o (Place.Push f (PushAt.Move new onto)) seen h r = search tidies
tidy self spare sealed o Place.FinalWord seen h r = on_tidy _ _ Place.FinalTag _ (recounted o.share o.counts.guards 0 o.counts.pins o h h.counts.0 (omega arith)) tt
tidy self spare sealed o Place.FinalTag seen h r = search tidies

-- after each call, whose share is what it set aside
call_tidy : (s : ℕ) (c : Call) (o : Participant) → Neat s o → count_full c o ≡ false → Tidy false s (begins c o)
unfolding begins count_full RestShare
call_tidy s Call.Acquire o h e = done_tidy _ _ 0 _ (recounted s o.counts.guards (o.counts.handles + 1) o.counts.pins o h h.counts.0 (omega (arith, leb-false max_count o.counts.handles e)))
call_tidy s Call.Release o h e = pick_tidy _ _ _ _ _ (finalize_tidy _ _ o h)
    (done_tidy _ _ 0 _ (recounted s o.counts.guards (o.counts.handles - 1) o.counts.pins o h h.counts.0 (let k = h.counts.1 in omega arith)))
call_tidy s Call.Pin o h e =
    let n = recounted s (o.counts.guards + 1) o.counts.handles o.counts.pins o h (omega (arith, leb-false max_count o.counts.guards e)) h.counts.1 in
    pick_tidy _ _ _ _ _ (on_tidy _ _ (Place.PinEpoch Owner.Pin) _ n tt) (done_tidy _ _ 0 _ n)
call_tidy s Call.Unpin o h e =
    let n = recounted s (o.counts.guards - 1) o.counts.handles o.counts.pins o h (let k = h.counts.0 in omega arith) h.counts.1 in
    pick_tidy _ _ _ _ _ (on_tidy _ _ Place.UnpinWord _ n tt) (done_tidy _ _ 0 _ n)
call_tidy s Call.Repin o h e = search tidies
call_tidy s (Call.Defer token) o h e = search tidies
call_tidy s Call.Flush o h e = search tidies

-- the work of a call: none, or a token put into the bag
pub data Light (a : After) : Type 0 where
  nothing : a.work ≡ Work.Nothing → Light a
  puts : (i : Item) → a.work ≡ Work.Put i → Light a

-- one law for each function that a call ends with
on_light : (pl : Place) (o : Participant) → Light (on pl o)
unfolding on
on_light pl o = Light.nothing refl

done_light : (v : ℕ) (o : Participant) → Light (done v o)
unfolding done
done_light v o = Light.nothing refl

pick_light : (b : Bool) (x y : After) → Light x → Light y → Light (branch b x y)
pick_light b x y h k = branch_ind Light b (λ _. h) (λ _. k)

finalize_light : (o : Participant) → Light (finalize o)
unfolding finalize
finalize_light o = on_light _ _

token_light : (token : ℕ) (o : Participant) → Light (defer (Deferring.Token token) o)
unfolding defer placed also
token_light token o = pick_light _ _ _ (Light.puts _ refl) (on_light _ o)

-- each call
pub call_light : (c : Call) (o : Participant) → Light (begins c o)
unfolding begins
call_light Call.Acquire o = done_light 0 _
call_light Call.Release o = pick_light _ _ _ (finalize_light o) (done_light 0 _)
call_light Call.Pin o = pick_light _ _ _ (on_light _ _) (done_light 0 _)
call_light Call.Unpin o = pick_light _ _ _ (on_light _ _) (done_light 0 _)
call_light Call.Repin o = pick_light _ _ _ (on_light _ o) (done_light 0 o)
call_light (Call.Defer token) o = token_light token o
call_light Call.Flush o = pick_light _ _ _ (on_light _ o) (on_light _ o)

-- the limits of a call do not depend on what is set aside for it
full_same : (c : Call) (s : ℕ) (o : Participant) → count_full c (sharing s o) ≡ count_full c o
unfolding count_full
full_same Call.Acquire s o = refl
full_same Call.Release s o = refl
full_same Call.Pin s o = refl
full_same Call.Unpin s o = refl
full_same Call.Repin s o = refl
full_same (Call.Defer token) s o = refl
full_same Call.Flush s o = refl

-- with the nodes set aside
pub opens_tidy : (N : ℕ) (c : Call) (o : Participant) → Counted o → o.held ≤ max_objects → count_full c o ≡ false → Tidy false (needs N c o) (opens N c o)
unfolding opens
opens_tidy N c o h k e = call_tidy (needs N c o) c (sharing (needs N c o) o) (record { counts = h; held = k; share = omega arith }) (full_same c (needs N c o) o ∙ e)

-- with the nodes set aside
pub opens_light : (N : ℕ) (c : Call) (o : Participant) → Light (opens N c o)
unfolding opens
opens_light N c o = call_light c _
