-- The epochs that places carry, for any property of them: where a step's new place has them from. A walk's epoch is the one that it loaded; a
-- collect's pops have the walk's, or the successor that was stored; a word about to be stored has the epoch just loaded. Assumes nothing.
use mathlib.Core.Path.{◌≡◌, refl}
use mathlib.Core.Bool.{Bool}
use Prim.Native.Nat.{ℕ, ◌-◌}
use Rattle.epoch.specs.Epoch.{pinned, successor}
use Rattle.definition.specs.Base.{branch}
use Rattle.definition.specs.Flow.{collect_steps, on, done, also, finalize, collected, pops, advanced, walk, placed, defer, pushed}
use Rattle.definition.specs.Tables.{Shared, read}
use Rattle.definition.specs.List.{insert, delete, iterate}
use Rattle.definition.specs.Queue.{seal_bag, push, pop}
use Rattle.definition.specs.Internal.{pin_epoch, pin_word, pin_counted, unpin_word, repin, advance_epoch, advance_word, advance_store, final_word, rule}
use Rattle.definition.proofs.Base.{branch_ind}
use Rattle.theorems.proofs.Leads.{Leads}
use Rattle.theorems.proofs.Invariant.{Of, walk_epoch, pop_epoch, store_epoch}
use Rattle.theorems.proofs.Types.{Epoch, Node, Ptr, Pred, Cursor, Owner, Try, Pops, Deferring, Then, RegisterAt, RepinAt, WalkAt, PopAt, PushAt, Place, Participant, Work, After}

-- where the epochs come from, for a property P of a walk's, Q of a pop's and R of a stored one
pub record Sources (P Q R : ℕ → Type 0) (pl : Place) (s : Shared) : Type 0 where
  pub pins : (k : Owner) → pl ≡ Place.PinEpoch k → R s.global_epoch
  pub repins : (e : Epoch) → pl ≡ Place.Repin (RepinAt.Epoch e) → R (pinned s.global_epoch)
  pub tries : (k : Owner) → pl ≡ Place.AdvanceEpoch k → P s.global_epoch
  pub ends : (e : ℕ) → P e → Q e
  pub stores : (t : Try) → pl ≡ Place.AdvanceStore t → Q (successor t.epoch.0)

-- all three epochs of a place
pub record Carried (P Q R : ℕ → Type 0) (pl : Place) : Type 0 where
  pub walks : Of P (walk_epoch pl)
  pub pops : Of Q (pop_epoch pl)
  pub stores : Of R (store_epoch pl)

module _ (P Q R : ℕ → Type 0) where
  unfoldable pub CarriedAfter : After → Type 0
  CarriedAfter a = Carried P Q R a.participant.place

  on_carries : (pl : Place) (o : Participant) → Carried P Q R pl → CarriedAfter (on pl o)
  unfolding CarriedAfter on
  on_carries pl o h = h

  done_carries : (v : ℕ) (o : Participant) → CarriedAfter (done v o)
  unfolding CarriedAfter done Of walk_epoch pop_epoch store_epoch
  done_carries v o = record { walks = tt; pops = tt; stores = tt }

  also_carries : (w : Work) (a : After) → CarriedAfter a → CarriedAfter (also w a)
  unfolding CarriedAfter also
  also_carries w a h = h

  pick_carries : (b : Bool) (x y : After) → CarriedAfter x → CarriedAfter y → CarriedAfter (branch b x y)
  pick_carries b x y h k = branch_ind CarriedAfter b (λ _. h) (λ _. k)

  collected_carries : (k : Owner) (o : Participant) → CarriedAfter (collected k o)
  unfolding collected Of walk_epoch pop_epoch store_epoch
  collected_carries Owner.Pin o = done_carries 0 o
  collected_carries Owner.Flush o = done_carries 0 o
  collected_carries Owner.Finalize o = on_carries (Place.Push Then.Finalize PushAt.Epoch) o (record { walks = tt; pops = tt; stores = tt })

  finalize_carries : (o : Participant) → CarriedAfter (finalize o)
  unfolding finalize Of walk_epoch pop_epoch store_epoch
  finalize_carries o = on_carries (Place.PinEpoch Owner.Finalize) _ (record { walks = tt; pops = tt; stores = tt })

  pops_carries : (k : Owner) (e : Epoch) (left : ℕ) (o : Participant) → Q e.0 → CarriedAfter (pops k e left o)
  unfolding pops Of walk_epoch pop_epoch store_epoch
  pops_carries k e left o h = pick_carries _ _ _ (collected_carries k o)
      (on_carries (Place.Pop (record { owner = k; epoch = e; left = left }) PopAt.Head) o (record { walks = tt; pops = h; stores = tt }))

  advanced_carries : (k : Owner) (e : Epoch) (o : Participant) → Q e.0 → CarriedAfter (advanced k e o)
  unfolding advanced
  advanced_carries k e o h = pops_carries k e collect_steps o h

  walk_carries : (t : Try) (pred : Pred) (q : Ptr) (o : Participant) → P t.epoch.0 → CarriedAfter (walk t pred q o)
  unfolding walk Of walk_epoch pop_epoch store_epoch
  walk_carries t pred Ptr.Null o h = on_carries (Place.AdvanceStore t) o (record { walks = h; pops = tt; stores = tt })
  walk_carries t pred (Ptr.At s) o h = on_carries (Place.Walk t (WalkAt.Next (record { pred = pred; curr = s }))) o (record { walks = h; pops = tt; stores = tt })

  -- a push carries the epoch of what it belongs to, wherever it stands
  moves_on : (f : Then) (x y : PushAt) → Carried P Q R (Place.Push f x) → Carried P Q R (Place.Push f y)
  unfolding walk_epoch pop_epoch store_epoch
  moves_on (Then.Defer (Deferring.Token token)) x y h = record { walks = h.walks; pops = h.pops; stores = h.stores }
  moves_on (Then.Defer (Deferring.Slot t c succ)) x y h = record { walks = h.walks; pops = h.pops; stores = h.stores }
  moves_on (Then.Defer (Deferring.Node p head next)) x y h = record { walks = h.walks; pops = h.pops; stores = h.stores }
  moves_on Then.Flush x y h = record { walks = h.walks; pops = h.pops; stores = h.stores }
  moves_on Then.Finalize x y h = record { walks = h.walks; pops = h.pops; stores = h.stores }

  placed_carries : (d : Deferring) (o : Participant) → Carried P Q R (Place.Push (Then.Defer d) PushAt.Epoch) → CarriedAfter (placed d o)
  unfolding placed Of walk_epoch pop_epoch
  placed_carries (Deferring.Token token) o h = also_carries _ _ (done_carries _ o)
  placed_carries (Deferring.Slot t c succ) o h = also_carries _ _ (walk_carries t c.pred succ o h.walks)
  placed_carries (Deferring.Node p head next) o h = also_carries _ _ (pops_carries p.owner p.epoch (p.left - 1) o h.pops)

  defer_carries : (d : Deferring) (o : Participant) → Carried P Q R (Place.Push (Then.Defer d) PushAt.Epoch) → CarriedAfter (defer d o)
  unfolding defer
  defer_carries d o h = pick_carries _ _ _ (placed_carries d _ h) (on_carries (Place.Push (Then.Defer d) PushAt.Epoch) o h)

  pushed_carries : (f : Then) (x : PushAt) (o : Participant) → Carried P Q R (Place.Push f x) → CarriedAfter (pushed f o)
  unfolding pushed Of walk_epoch pop_epoch store_epoch
  pushed_carries (Then.Defer d) x o h = defer_carries d o (moves_on (Then.Defer d) x PushAt.Epoch h)
  pushed_carries Then.Flush x o h = on_carries (Place.AdvanceEpoch Owner.Flush) o (record { walks = tt; pops = tt; stores = tt })
  pushed_carries Then.Finalize x o h = on_carries Place.FinalWord _ (record { walks = tt; pops = tt; stores = tt })

  -- a walk or a pop that goes on carries its epoch on; so does what it retires
  walk_on : (t : Try) (x : WalkAt) (o : Participant) → P t.epoch.0 → CarriedAfter (on (Place.Walk t x) o)
  unfolding Of walk_epoch pop_epoch store_epoch
  walk_on t x o h = on_carries (Place.Walk t x) o (record { walks = h; pops = tt; stores = tt })

  pop_on : (q : Pops) (x : PopAt) (o : Participant) → Q q.epoch.0 → CarriedAfter (on (Place.Pop q x) o)
  unfolding Of walk_epoch pop_epoch store_epoch
  pop_on q x o h = on_carries (Place.Pop q x) o (record { walks = tt; pops = h; stores = tt })

  slot_carries : (t : Try) (c : Cursor) (succ : Ptr) (o : Participant) → P t.epoch.0 → CarriedAfter (defer (Deferring.Slot t c succ) o)
  unfolding Of walk_epoch pop_epoch store_epoch
  slot_carries t c succ o h = defer_carries (Deferring.Slot t c succ) o (record { walks = h; pops = tt; stores = tt })

  node_carries : (q : Pops) (head next : Node) (o : Participant) → Q q.epoch.0 → CarriedAfter (defer (Deferring.Node q head next) o)
  unfolding Of walk_epoch pop_epoch store_epoch
  node_carries q head next o h = defer_carries (Deferring.Node q head next) o (record { walks = tt; pops = h; stores = tt })

  abbrev CarriesQ : Bool → Shared → After → Type 0
  CarriesQ won s a = CarriedAfter a

  pub carries : (p : ℕ) (spare : Node) (sealed : Node → ℕ) (o : Participant) (s : Shared) (pl : Place) → Sources P Q R pl s → Carried P Q R pl
      → Leads CarriesQ s (rule (record { 0 = p }) spare sealed o pl)
  unfolding Leads rule insert delete iterate push pop pin_epoch pin_word pin_counted unpin_word repin advance_epoch advance_word advance_store final_word seal_bag read Of walk_epoch pop_epoch store_epoch
  carries p spare sealed o s Place.Rest src h = on_carries Place.Rest o (record { walks = tt; pops = tt; stores = tt })
  carries p spare sealed o s (Place.Register RegisterAt.Head) src h = on_carries _ o (record { walks = tt; pops = tt; stores = tt })
  carries p spare sealed o s (Place.Register (RegisterAt.Next next)) src h = on_carries (Place.Register (RegisterAt.Link next)) o (record { walks = tt; pops = tt; stores = tt })
  carries p spare sealed o s (Place.Register (RegisterAt.Link next)) src h = (λ _. done_carries p o, λ _. on_carries _ o (record { walks = tt; pops = tt; stores = tt }))
  carries p spare sealed o s (Place.PinEpoch k) src h = on_carries _ o (record { walks = tt; pops = tt; stores = src.pins k refl })
  carries p spare sealed o s (Place.PinWord k e) src h = pick_carries _ _ _ (on_carries (Place.AdvanceEpoch k) _ (record { walks = tt; pops = tt; stores = tt })) (collected_carries k _)
  carries p spare sealed o s (Place.Repin RepinAt.Word) src h = on_carries _ o (record { walks = tt; pops = tt; stores = tt })
  carries p spare sealed o s (Place.Repin (RepinAt.Epoch e)) src h = pick_carries _ _ _ (done_carries 0 o) (on_carries _ o (record { walks = tt; pops = tt; stores = src.repins e refl }))
  carries p spare sealed o s (Place.Repin (RepinAt.Store e)) src h = done_carries 0 o
  carries p spare sealed o s Place.UnpinWord src h = pick_carries _ _ _ (finalize_carries o) (done_carries 0 o)
  carries p spare sealed o s (Place.AdvanceEpoch k) src h = on_carries _ o (record { walks = src.tries k refl; pops = tt; stores = tt })
  carries p spare sealed o s (Place.Walk t WalkAt.Head) src h = walk_carries t Pred.Head _ o h.walks
  carries p spare sealed o s (Place.Walk t (WalkAt.Next c)) src h =
      pick_carries _ _ _ (walk_on t _ o h.walks) (on_carries _ o (record { walks = h.walks; pops = tt; stores = tt }))
  carries p spare sealed o s (Place.Walk t (WalkAt.Unlink c succ)) src h =
      (λ _. slot_carries t c succ o h.walks, λ _. pick_carries _ _ _ (walk_on t _ o h.walks) (walk_carries t c.pred _ o h.walks))
  carries p spare sealed o s (Place.Walk t WalkAt.Stalled) src h = advanced_carries t.owner t.epoch o (src.ends _ h.walks)
  carries p spare sealed o s (Place.AdvanceWord t curr succ) src h = pick_carries _ _ _ (advanced_carries t.owner t.epoch o (src.ends _ h.walks)) (walk_carries t (Pred.Entry curr) succ o h.walks)
  carries p spare sealed o s (Place.AdvanceStore t) src h = advanced_carries t.owner _ o (src.stores t refl)
  carries p spare sealed o s (Place.Pop q PopAt.Head) src h = pop_on q _ o h.pops
  carries p spare sealed o s (Place.Pop q (PopAt.Next head)) src h =
      pick_carries _ _ _ (collected_carries q.owner o) (pick_carries _ _ _ (pop_on q _ o h.pops) (collected_carries q.owner o))
  carries p spare sealed o s (Place.Pop q (PopAt.Exchange head next)) src h = (λ _. pop_on q _ o h.pops, λ _. pop_on q _ o h.pops)
  carries p spare sealed o s (Place.Pop q (PopAt.Tail head next)) src h = pick_carries _ _ _ (pop_on q _ o h.pops) (node_carries q head next o h.pops)
  carries p spare sealed o s (Place.Pop q (PopAt.TailMove head next)) src h = (λ _. node_carries q head next o h.pops, λ _. node_carries q head next o h.pops)
  carries p spare sealed o s (Place.Push f PushAt.Epoch) src h = also_carries _ _ (on_carries (Place.Push f (PushAt.Tail spare)) _ (moves_on f PushAt.Epoch (PushAt.Tail spare) h))
  carries p spare sealed o s (Place.Push f (PushAt.Tail new)) src h = on_carries _ o (moves_on f (PushAt.Tail new) _ h)
  carries p spare sealed o s (Place.Push f (PushAt.Next new onto)) src h = pick_carries _ _ _ (on_carries _ o (moves_on f (PushAt.Next new onto) _ h)) (on_carries _ o (moves_on f (PushAt.Next new onto) _ h))
  carries p spare sealed o s (Place.Push f (PushAt.Help new onto next)) src h = (λ _. on_carries _ o (moves_on f (PushAt.Help new onto next) _ h), λ _. on_carries _ o (moves_on f (PushAt.Help new onto next) _ h))
  carries p spare sealed o s (Place.Push f (PushAt.Link new onto)) src h = (λ _. on_carries _ o (moves_on f (PushAt.Link new onto) _ h), λ _. on_carries _ o (moves_on f (PushAt.Link new onto) _ h))
  carries p spare sealed o s (Place.Push f (PushAt.Move new onto)) src h = (λ _. pushed_carries f (PushAt.Move new onto) o h, λ _. pushed_carries f (PushAt.Move new onto) o h)
  carries p spare sealed o s Place.FinalWord src h = on_carries Place.FinalTag _ (record { walks = tt; pops = tt; stores = tt })
  carries p spare sealed o s Place.FinalTag src h = done_carries 0 o
