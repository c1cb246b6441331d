-- C for the participant that steps: its new record is what its new place asks for. Guards are counted before a word is pinned and after it is
-- cleared, a push begins with a full bag where an item waits and leaves it empty, and a finalize ends with an empty one. Assumes nothing.
use mathlib.Core.Path.{◌≡◌, refl, sym, ◌∙◌}
use mathlib.Core.Logic.{◌≢◌}
use mathlib.Core.Bool.{Bool, true, false}
use mathlib.Core.List.{List, [], ◌∷◌, ◌++◌}
use Prim.Native.Nat.{ℕ, ◌-◌, ◌≤◌}
use native.Mathlib.Omega.{arith}
use lib.Dec.{eqb, ltb, leb}
use lib.ListN.{length}
use borrow.Author.Tests.{ltb-false, le-leb}
use Rattle.epoch.specs.Epoch.{starting, is_pinned, pinned}
use Rattle.epoch.proofs.Laws.{is_pinned-starting, is_pinned-pinned}
use Rattle.definition.specs.Base.{branch}
use Rattle.definition.specs.Bags.{max_objects}
use Rattle.definition.specs.Flow.{collect_steps, on, done, also, finalize, collected, pops, advanced, walk, placed, defer, pushed}
use Rattle.definition.specs.Tables.{Shared, read, write}
use Rattle.definition.specs.Links.{pointer}
use Rattle.definition.specs.List.{delete, iterate, pred_word}
use Rattle.definition.specs.Queue.{seal_bag, push, pop}
use Rattle.definition.specs.Internal.{pin_epoch, pin_word, pin_counted, unpin_word, repin, advance_epoch, advance_word, advance_store, final_word, rule}
use Rattle.definition.proofs.Base.{branch_ind, put_same}
use Rattle.theorems.proofs.Leads.{Leads}
use Rattle.theorems.proofs.Invariant.{FullFor, Busy, Live, RepinPins}
use Rattle.theorems.proofs.Types.{Epoch, Node, Ptr, Pred, Owner, Try, Deferring, Then, RepinAt, WalkAt, PopAt, PushAt, Place, Participant, Item, Work, After}

-- the bag after the work
unfoldable pub bag_after : Work → List Item → List Item
bag_after Work.Nothing b = b
bag_after (Work.Put i) b = b ++ i ∷ []
bag_after (Work.PutThenFree i n) b = b ++ i ∷ []
bag_after (Work.Seal n e) b = []

unfoldable pub LiveAfter : Bool → List Item → After → Type 0
LiveAfter v b a = Live a.participant.place v a.participant.counts.guards a.participant.share (bag_after a.work b)

module _ (v : Bool) (b : List Item) where
  -- the operation stands before an access, or is over
  on_live : (pl : Place) (o : Participant) → Live pl v o.counts.guards o.share b → LiveAfter v b (on pl o)
  unfolding LiveAfter bag_after on
  on_live pl o h = h

  done_live : (w : ℕ) (o : Participant) → v ≡ leb 1 o.counts.guards → LiveAfter v b (done w o)
  unfolding LiveAfter bag_after done Live
  done_live w o h = (refl, h)

  pick_live : (c : Bool) (x y : After) → LiveAfter v b x → LiveAfter v b y → LiveAfter v b (branch c x y)
  pick_live c x y h k = branch_ind (LiveAfter v b) c (λ _. h) (λ _. k)

-- pinned and guarded: a collect goes on, whatever the bag holds
busy_rests : (v : Bool) (guards : ℕ) → Busy v guards → v ≡ leb 1 guards
busy_rests v g h = h.0 ∙ sym (le-leb 1 g h.1)

module _ (v : Bool) (b : List Item) where
  collected_live : (k : Owner) (o : Participant) → Busy v o.counts.guards → LiveAfter v b (collected k o)
  unfolding collected Live FullFor
  collected_live Owner.Pin o h = done_live v b 0 o (busy_rests v o.counts.guards h)
  collected_live Owner.Flush o h = done_live v b 0 o (busy_rests v o.counts.guards h)
  collected_live Owner.Finalize o h = on_live v b (Place.Push Then.Finalize PushAt.Epoch) o (h, tt)

  finalize_live : (o : Participant) → v ≡ false → LiveAfter v b (finalize o)
  unfolding finalize Live
  finalize_live o h = on_live v b (Place.PinEpoch Owner.Finalize) _ (h, omega arith)

  pops_live : (k : Owner) (e : Epoch) (left : ℕ) (o : Participant) → Busy v o.counts.guards → LiveAfter v b (pops k e left o)
  unfolding pops Live
  pops_live k e left o h = pick_live v b _ _ _ (collected_live k o h) (on_live v b (Place.Pop (record { owner = k; epoch = e; left = left }) PopAt.Head) o h)

  advanced_live : (k : Owner) (e : Epoch) (o : Participant) → Busy v o.counts.guards → LiveAfter v b (advanced k e o)
  unfolding advanced
  advanced_live k e o h = pops_live k e collect_steps o h

  walk_live : (t : Try) (pred : Pred) (q : Ptr) (o : Participant) → Busy v o.counts.guards → LiveAfter v b (walk t pred q o)
  unfolding walk Live
  walk_live t pred Ptr.Null o h = on_live v b (Place.AdvanceStore t) o h
  walk_live t pred (Ptr.At s) o h = on_live v b (Place.Walk t (WalkAt.Next (record { pred = pred; curr = s }))) o h

module _ (v : Bool) (b : List Item) where
  also_live : (w : Work) (a : After) → a.work ≡ Work.Nothing → LiveAfter v (bag_after w b) a → LiveAfter v b (also w a)
  unfolding LiveAfter also bag_after
  also_live w a q h = rw q at h

  -- no work in these
  quiet_walk : (t : Try) (pred : Pred) (q : Ptr) (o : Participant) → (walk t pred q o).work ≡ Work.Nothing
  unfolding walk on
  quiet_walk t pred Ptr.Null o = refl
  quiet_walk t pred (Ptr.At s) o = refl

  quiet_collected : (k : Owner) (o : Participant) → (collected k o).work ≡ Work.Nothing
  unfolding collected done on
  quiet_collected Owner.Pin o = refl
  quiet_collected Owner.Flush o = refl
  quiet_collected Owner.Finalize o = refl

  quiet_on : (pl : Place) (o : Participant) → (on pl o).work ≡ Work.Nothing
  unfolding on
  quiet_on pl o = refl

  quiet_pops : (k : Owner) (e : Epoch) (left : ℕ) (o : Participant) → (pops k e left o).work ≡ Work.Nothing
  unfolding pops
  quiet_pops k e left o = branch_ind (λ (a : After). a.work ≡ Work.Nothing) (eqb left 0) (λ _. quiet_collected k o)
      (λ _. quiet_on (Place.Pop (record { owner = k; epoch = e; left = left }) PopAt.Head) o)

  quiet_done : (w : ℕ) (o : Participant) → (done w o).work ≡ Work.Nothing
  unfolding done
  quiet_done w o = refl

  placed_live : (d : Deferring) (o : Participant) → Busy v o.counts.guards → LiveAfter v b (placed d o)
  unfolding placed
  placed_live (Deferring.Token token) o h = also_live _ (done _ o) (quiet_done _ o) (done_live v _ _ o (busy_rests v o.counts.guards h))
  placed_live (Deferring.Slot t c succ) o h = also_live _ (walk t c.pred succ o) (quiet_walk t c.pred succ o) (walk_live v _ t c.pred succ o h)
  placed_live (Deferring.Node p head next) o h =
      also_live _ (pops p.owner p.epoch (p.left - 1) o) (quiet_pops p.owner p.epoch (p.left - 1) o) (pops_live v _ p.owner p.epoch (p.left - 1) o h)

  defer_live : (d : Deferring) (o : Participant) → length b ≡ o.held → o.held ≤ max_objects → Busy v o.counts.guards → LiveAfter v b (defer d o)
  unfolding defer Live FullFor
  defer_live d o len le h = branch_ind (LiveAfter v b) (ltb o.held max_objects) (λ _. placed_live d _ h)
      (λ z. on_live v b (Place.Push (Then.Defer d) PushAt.Epoch) o (h, omega (arith, ltb-false o.held max_objects z)))

  pushed_live : (f : Then) (o : Participant) → length b ≡ o.held → o.held ≤ max_objects → b ≡ [] → Busy v o.counts.guards → LiveAfter v b (pushed f o)
  unfolding pushed Live
  pushed_live (Then.Defer d) o len le e h = defer_live d o len le h
  pushed_live Then.Flush o len le e h = on_live v b (Place.AdvanceEpoch Owner.Flush) o h
  pushed_live Then.Finalize o len le e h = on_live v b Place.FinalWord _ (h.0, e)

  seal_live : (spare : Node) (f : Then) (w : ℕ) (o : Participant) → Busy v o.counts.guards → LiveAfter v b (seal_bag spare f w o)
  unfolding seal_bag LiveAfter also on bag_after Live
  seal_live spare f w o h = (h, refl)

-- an unlinking stores into a link and into no word
pub unlinked_word : (q : Pred) (w : ℕ) (s : Shared) → (write (pred_word q) w s).word ≡ s.word
unfolding write pred_word
unlinked_word Pred.Head w s = refl
unlinked_word (Pred.Entry x) w s = refl

ruleset lively = (on_live, done_live, pick_live, collected_live, finalize_live, pops_live, advanced_live, walk_live, defer_live, pushed_live, seal_live, busy_rests)

-- the participant that steps, its word as the step leaves it
abbrev pub LiveQ : ℕ → List Item → Bool → Shared → After → Type 0
LiveQ p b won s a = LiveAfter (is_pinned (s.word p)) b a

module _ (p : ℕ) (spare : Node) (sealed : Node → ℕ) (o : Participant) (s : Shared) (b : List Item) (len : length b ≡ o.held) (le : o.held ≤ max_objects) where
  pub live_step : (pl : Place) → Live pl (is_pinned (s.word p)) o.counts.guards o.share b → RepinPins pl → pl ≢ Place.FinalTag
      → Leads (LiveQ p b) s (rule (record { 0 = p }) spare sealed o pl)
  unfolding Leads rule delete iterate push pop pin_epoch pin_word pin_counted unpin_word repin advance_epoch advance_word advance_store final_word read write Live RepinPins
  live_step Place.Rest h r ne = on_live _ b Place.Rest o h
  live_step (Place.Register a) h r ne = absurd h
  live_step (Place.PinEpoch k) h r ne = search lively
  live_step (Place.PinWord k e) h r ne = rw (put_same s.word p (pinned e.0), is_pinned-pinned e.0)
      (pick_live true b _ _ _ (on_live true b (Place.AdvanceEpoch k) _ (refl, h.1)) (collected_live true b k _ (refl, h.1)))
  live_step (Place.Repin RepinAt.Word) h r ne = search lively
  live_step (Place.Repin (RepinAt.Epoch e)) h r ne = search lively
  live_step (Place.Repin (RepinAt.Store e)) h r ne = rw (put_same s.word p e.0, r) (done_live true b 0 o (busy_rests true o.counts.guards (refl, h.1)))
  live_step Place.UnpinWord h r ne = rw (put_same s.word p starting, is_pinned-starting)
      (pick_live false b _ _ _ (finalize_live false b o refl) (done_live false b 0 o (rw h.1)))
  live_step (Place.AdvanceEpoch k) h r ne = search lively
  live_step (Place.Walk t WalkAt.Head) h r ne = search lively
  live_step (Place.Walk t (WalkAt.Next c)) h r ne = search lively
  live_step (Place.Walk t (WalkAt.Unlink c succ)) h r ne =
      (λ _. rw (unlinked_word c.pred (pointer succ) s) (defer_live _ b (Deferring.Slot t c succ) o len le h), search lively)
  live_step (Place.Walk t WalkAt.Stalled) h r ne = search lively
  live_step (Place.AdvanceWord t curr succ) h r ne = search lively
  live_step (Place.AdvanceStore t) h r ne = search lively
  live_step (Place.Pop q PopAt.Head) h r ne = search lively
  live_step (Place.Pop q (PopAt.Next head)) h r ne = search lively
  live_step (Place.Pop q (PopAt.Exchange head next)) h r ne = search lively
  live_step (Place.Pop q (PopAt.Tail head next)) h r ne = search lively
  live_step (Place.Pop q (PopAt.TailMove head next)) h r ne = search lively
  live_step (Place.Push f PushAt.Epoch) h r ne = search lively
  live_step (Place.Push f (PushAt.Tail new)) h r ne = search lively
  live_step (Place.Push f (PushAt.Next new onto)) h r ne = search lively
  live_step (Place.Push f (PushAt.Help new onto next)) h r ne = search lively
  live_step (Place.Push f (PushAt.Link new onto)) h r ne = search lively
  live_step (Place.Push f (PushAt.Move new onto)) h r ne = search lively
  live_step Place.FinalWord h r ne = rw (put_same s.word p starting, is_pinned-starting) (on_live false b Place.FinalTag _ (refl, h.1))
  live_step Place.FinalTag h r ne = absurd (ne refl)
