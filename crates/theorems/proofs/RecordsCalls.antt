-- C, records, kept by every call and every registering. A call is made at rest by a participant that is in the list and not deleted, so its
-- record says: nothing set aside, and pinned exactly if it has guards. What the call begins fits that: a pin counts its guard before the word
-- is pinned, an unpin before it is cleared, and whoever defers or flushes has a guard. A call stores no shared word and frees nothing.
-- Registering takes a slot that was free, so quiet: nothing is lost by its fresh record. Leans on `Live` (what a live record is), `Length` (how
-- long the bag is afterwards) and `Repins`. Assumes nothing.
use mathlib.Core.Path.{◌≡◌, refl, sym, ◌∙◌}
use mathlib.Core.Logic.{◌≢◌}
use mathlib.Core.Bool.{Bool, true, false, ◌&&◌, true≢false}
use mathlib.Core.List.{List, []}
use Prim.Native.Nat.{ℕ, ◌+◌, ◌-◌, ◌%◌, ◌≤◌, ◌<◌}
use native.Mathlib.Omega.{arith}
use lib.Dec.{eqb, ltb, leb}
use lib.ListN.{length}
use borrow.Author.Tests.{eqb-true, eqb-false, eq-eqb, ne_eqb, ltb-false, le-leb, lt-leb}
use Rattle.epoch.specs.Epoch.{starting, is_pinned}
use Rattle.epoch.proofs.Laws.{is_pinned-starting}
use Rattle.definition.specs.Base.{branch, Tab}
use Rattle.definition.specs.Bags.{max_objects}
use Rattle.definition.specs.Links.{null, is_tagged}
use Rattle.definition.specs.Flow.{on, done, also, finalize, placed, defer, sharing}
use Rattle.definition.specs.Tables.{write}
use Rattle.definition.specs.Calls.{lacks, finalizes, needs, begins, opens}
use Rattle.definition.specs.Public.{new_participant}
use Rattle.definition.proofs.Base.{both, branch_ind, branch-true, same?, put_ind, put_same, put_other}
use Rattle.theorems.proofs.Machine.{Machine, Fits, works, followed}
use Rattle.theorems.proofs.Length.{Fitting, begins-fits}
use Rattle.theorems.proofs.Ghost.{Use, Ghost, use_turned, use_worked, moved}
use Rattle.theorems.proofs.Invariant.{FullFor, Busy, Live, Registers, InList, Fine, is_unused, RepinPins, Records}
use Rattle.theorems.proofs.Inv.{Inv, goes, called, called_ghost, Calls, registered, registered_ghost}
use Rattle.theorems.proofs.Inv as I
use Rattle.theorems.proofs.Live.{bag_after, LiveAfter}
use Rattle.theorems.proofs.Frames.{own_goes, entry_next-goes, word-goes, held-goes, length-bag}
use Rattle.theorems.proofs.Repins.{RepinAfter, begins_repins}
use Rattle.theorems.proofs.Types.{Item, Owner, Deferring, Then, RepinAt, PushAt, Place, Participant, Work, After, Call}

-- ---- the work of a call: none, or an item put into the bag

pub data Light (a : After) : Type 0 where
  nothing : a.work ≡ Work.Nothing → Light a
  puts : (i : Item) → a.work ≡ Work.Put i → Light a

-- by the functions of specs/Flow
on_light : (pl : Place) (o : Participant) → Light (on pl o)
unfolding on
on_light pl o = nothing refl

done_light : (v : ℕ) (o : Participant) → Light (done v o)
unfolding done
done_light v o = nothing refl

pick_light : (b : Bool) (x y : After) → Light x → Light y → Light (branch b x y)
pick_light b x y h k = branch_ind Light b (λ _. h) (λ _. k)

token_light : (token : ℕ) (o : Participant) → Light (placed (Deferring.Token token) o)
unfolding placed also
token_light token o = puts _ refl

-- so it is for each call
pub begins_light : (c : Call) (o : Participant) → Light (begins c o)
unfolding begins finalize defer
begins_light Call.Acquire o = done_light 0 _
begins_light Call.Release o = pick_light _ _ _ (on_light _ _) (done_light 0 _)
begins_light Call.Pin o = pick_light _ _ _ (on_light _ _) (done_light 0 _)
begins_light Call.Unpin o = pick_light _ _ _ (on_light _ _) (done_light 0 _)
begins_light Call.Repin o = pick_light _ _ _ (on_light _ _) (done_light 0 _)
begins_light (Call.Defer token) o = pick_light _ _ _ (token_light token _) (on_light _ _)
begins_light Call.Flush o = pick_light _ _ _ (on_light _ _) (on_light _ _)

-- such work frees nothing
pub light_uses : (m : Machine) (a : After) (u : Tab Use) → Light a → use_worked a.work m u ≡ u
unfolding use_worked
light_uses m a u (Light.nothing e) = rw e
light_uses m a u (Light.puts i e) = rw e

-- nor changes it a free bit
light_bits : (p : ℕ) (m : Machine) (a : After) → Light a → (followed p a m).slot_free ≡ m.slot_free
unfolding followed works
light_bits p m a (Light.nothing e) = rw e
light_bits p m a (Light.puts i e) = rw e

-- ---- the participant that calls

module _ (v : Bool) (b : List Item) where
  -- the operation stands before an access, or is over
  on_fits_live : (pl : Place) (o : Participant) → Live pl v o.counts.guards o.share b → LiveAfter v b (on pl o)
  unfolding LiveAfter bag_after on
  on_fits_live pl o h = h

  done-fits_live : (w : ℕ) (o : Participant) → v ≡ leb 1 o.counts.guards → LiveAfter v b (done w o)
  unfolding LiveAfter bag_after done Live
  done-fits_live w o h = (refl, h)

  -- a token: into the bag, and the call is over; or, the bag full, it waits for a push
  token_fits_live : (token : ℕ) (o : Participant) → length b ≡ o.held → o.held ≤ max_objects → Busy v o.counts.guards → v ≡ leb 1 o.counts.guards
      → LiveAfter v b (defer (Deferring.Token token) o)
  unfolding defer
  token_fits_live token o len le h rest = branch_ind (LiveAfter v b) (ltb o.held max_objects)
      (λ _. unfold LiveAfter placed also bag_after done Live in (refl, rest))
      (λ z. on_fits_live _ o (unfold Live FullFor in (h, omega (arith, ltb-false o.held max_objects z))))

-- who has a guard is pinned, who has none is not
guarded : (v : Bool) (n : ℕ) → v ≡ leb 1 n → n ≢ 0 → Busy v n
guarded v n h ne = (h ∙ le-leb 1 n (omega arith), omega arith)

unguarded : (v : Bool) (n : ℕ) → v ≡ leb 1 n → n ≡ 0 → v ≡ false
unguarded v n h e = h ∙ lt-leb 1 n (omega arith)

-- the count that the call needs is there
refused : (n k : ℕ) → k ≢ 0 → branch (eqb n 0) k 0 ≡ 0 → n ≢ 0
refused n k ne h e = ne (sym (branch-true k 0 (eq-eqb n 0 e)) ∙ h)

-- the record after each call
pub begins_live : (v : Bool) (b : List Item) (c : Call) (o : Participant) → length b ≡ o.held → o.held ≤ max_objects → v ≡ leb 1 o.counts.guards → lacks c o ≡ 0
    → LiveAfter v b (begins c o)
unfolding begins lacks finalize finalizes Live FullFor
begins_live v b Call.Acquire o len le h able = done-fits_live v b 0 _ h
begins_live v b Call.Release o len le h able = branch_ind (LiveAfter v b) (eqb o.counts.handles 1 && eqb o.counts.guards 0)
    (λ e. on_fits_live v b (Place.PinEpoch Owner.Finalize) _
    (unguarded v o.counts.guards h (eqb-true o.counts.guards 0 (both (eqb o.counts.handles 1) (eqb o.counts.guards 0) e).1), omega arith))
    (λ _. done-fits_live v b 0 _ h)
begins_live v b Call.Pin o len le h able = branch_ind (LiveAfter v b) (eqb o.counts.guards 0)
    (λ e. on_fits_live v b (Place.PinEpoch Owner.Pin) _ (unguarded v o.counts.guards h (eqb-true o.counts.guards 0 e), omega arith))
    (λ e. done-fits_live v b 0 _ ((guarded v o.counts.guards h (eqb-false o.counts.guards 0 e)).0 ∙ sym (le-leb 1 (o.counts.guards + 1) (omega arith))))
begins_live v b Call.Unpin o len le h able = branch_ind (LiveAfter v b) (eqb o.counts.guards 1)
    (λ e. let one = eqb-true o.counts.guards 1 e in
    on_fits_live v b Place.UnpinWord _ ((guarded v o.counts.guards h (λ z. omega arith)).0, omega arith))
    (λ e.
    let more = eqb-false o.counts.guards 1 e in
    let some = refused o.counts.guards 6 (λ z. omega arith) able in
    done-fits_live v b 0 _ ((guarded v o.counts.guards h some).0 ∙ sym (le-leb 1 (o.counts.guards - 1) (omega arith))))
begins_live v b Call.Repin o len le h able = branch_ind (LiveAfter v b) (eqb o.counts.guards 1)
    (λ e. on_fits_live v b (Place.Repin RepinAt.Word) o (guarded v o.counts.guards h (refused o.counts.guards 6 (λ z. omega arith) able)))
    (λ _. done-fits_live v b 0 o h)
begins_live v b (Call.Defer token) o len le h able =
    token_fits_live v b token o len le (guarded v o.counts.guards h (refused o.counts.guards 6 (λ z. omega arith) able)) h
begins_live v b Call.Flush o len le h able =
    let busy = guarded v o.counts.guards h (refused o.counts.guards 6 (λ z. omega arith) able) in
    branch_ind (LiveAfter v b) (leb 1 o.held)
    (λ _. on_fits_live v b (Place.Push Then.Flush PushAt.Epoch) o (busy, tt))
    (λ _. on_fits_live v b (Place.AdvanceEpoch Owner.Flush) o busy)

-- what a call needs is asked of the counts alone
lacks-shared : (c : Call) (n : ℕ) (o : Participant) → lacks c (sharing n o) ≡ lacks c o
unfolding lacks
lacks-shared Call.Acquire n o = refl
lacks-shared Call.Release n o = refl
lacks-shared Call.Pin n o = refl
lacks-shared Call.Unpin n o = refl
lacks-shared Call.Repin n o = refl
lacks-shared (Call.Defer token) n o = refl
lacks-shared Call.Flush n o = refl

-- at rest, pinned exactly if it has guards
live_rests : (pl : Place) (pin : Bool) (guards share : ℕ) (b : List Item) → pl ≡ Place.Rest → Live pl pin guards share b → pin ≡ leb 1 guards
unfolding Live
live_rests pl pin guards share b e h = (rw e at h).1

-- who is at rest, registered and not deleted is in the list
rests_live : (u : Use) (tag pin : Bool) (o : Participant) (b : List Item) → Fine u tag pin o b → is_unused u ≡ false → tag ≡ false → o.place ≡ Place.Rest
    → (u ≡ Use.linked) × (pin ≡ leb 1 o.counts.guards)
unfolding Fine InList is_unused Live Registers
rests_live Use.unused tag pin o b h there plain rest = absurd (true≢false there)
rests_live Use.registering tag pin o b h there plain rest = absurd (rw rest at h.0)
rests_live Use.linked true pin o b h there plain rest = absurd (true≢false plain)
rests_live Use.linked false pin o b h there plain rest = (refl, live_rests o.place pin o.counts.guards o.share b rest h)
rests_live Use.out tag pin o b h there plain rest = absurd (true≢false (sym h.1 ∙ plain))

-- a next without its lowest bit is not tagged
untagged : (w : ℕ) → w % 2 ≡ 0 → is_tagged w ≡ false
unfolding is_tagged
untagged w e = ne_eqb (w % 2) 1 (λ (z : w % 2 ≡ 1). omega arith)

-- ---- the call

module _ (N M p : ℕ) (c : Call) (m : Machine) (g : Ghost) (inv : Inv N M m g) (ca : Calls N M p c m) where
  abbrev a : After
  a = opens N c (m.own p)

  abbrev m' : Machine
  m' = goes p m m.shared a

  -- the caller: its work, its use and its word before, its record, its bag and its place after
  opens_light : Light a
  unfolding opens
  opens_light = begins_light c _

  plain : is_tagged (m.shared.entry_next p) ≡ false
  plain = untagged (m.shared.entry_next p) ca.untagged

  mine : (g.slot_use p ≡ Use.linked) × (is_pinned (m.shared.word p) ≡ leb 1 (m.own p).counts.guards)
  mine = rests_live (g.slot_use p) (is_tagged (m.shared.entry_next p)) (is_pinned (m.shared.word p)) (m.own p) (m.held p) (inv.records.fine p ca.here)
      (sym (inv.records.bits p ca.here) ∙ ca.present) plain ca.resting

  opens_live : LiveAfter (is_pinned (m.shared.word p)) (m.held p) a
  unfolding opens
  opens_live = begins_live (is_pinned (m.shared.word p)) (m.held p) c _ (inv.records.lengths p) (inv.ranged.held p ca.here).0 mine.1
      (lacks-shared c (needs N c (m.own p)) (m.own p) ∙ ca.able)

  opens_fine : Fine (g.slot_use p) (is_tagged (m.shared.entry_next p)) (is_pinned (m.shared.word p)) a.participant (bag_after a.work (m.held p))
  unfolding Fine InList LiveAfter
  opens_fine = rw (mine.0, plain) opens_live

  opens-fits : Fits (m.own p).held a.participant.held a.work
  unfolding opens Fitting
  opens-fits = begins-fits (m.own p).held c _ refl

  -- everybody
  fine_called : (q : ℕ) → q < N → Fine (g.slot_use q) (is_tagged (m'.shared.entry_next q)) (is_pinned (m'.shared.word q)) (m'.own q) (m'.held q)
  fine_called q hq = rw (entry_next-goes p m m.shared a, word-goes p m m.shared a, own_goes p m m.shared a q, held-goes p m m.shared a q)
      (same? p q
      (λ e. rw (← e, put_same m.own p a.participant, put_same m.held p (bag_after a.work (m.held p))) opens_fine)
      (λ ne. rw (put_other m.own p q a.participant ne, put_other m.held p q (bag_after a.work (m.held p)) ne) (inv.records.fine q hq)))

  lengths-called : (q : ℕ) → length (m'.held q) ≡ (m'.own q).held
  lengths-called q = rw (own_goes p m m.shared a q, held-goes p m m.shared a q)
      (same? p q
      (λ e. rw (← e, put_same m.own p a.participant, put_same m.held p (bag_after a.work (m.held p)))
      (length-bag a.work (m.held p) (m.own p).held a.participant.held (inv.records.lengths p) opens-fits))
      (λ ne. rw (put_other m.own p q a.participant ne, put_other m.held p q (bag_after a.work (m.held p)) ne) (inv.records.lengths q)))

  opens_repins : RepinPins a.participant.place
  unfolding opens RepinAfter
  opens_repins = begins_repins c _

  repins_called : (q : ℕ) → q < N → RepinPins (m'.own q).place
  repins_called q hq = rw (own_goes p m m.shared a q)
      (put_ind (λ (o : Participant). RepinPins o.place) m.own p q a.participant (λ _. opens_repins) (λ _. inv.records.repins q hq))

  -- the records after a call
  pub records_call : Records N (called N p c m) (called_ghost N p c m g)
  unfolding called called_ghost moved use_turned goes
  records_call = record {
    repins = repins_called;
    fine = λ q hq. rw (light_uses m a g.slot_use opens_light) (fine_called q hq);
    bits = λ q hq. rw (light_uses m a g.slot_use opens_light, light_bits p m a opens_light) (inv.records.bits q hq);
    lengths = lengths-called;
  }

-- ---- registering

-- a fresh record is one of registering
new_fine : (u : Use) → u ≡ Use.registering → Fine u (is_tagged null) (is_pinned starting) new_participant []
unfolding Fine Registers new_participant null
new_fine u e = rw (e, is_pinned-starting, untagged null refl) (tt, (refl, (refl, (refl, (refl, refl)))))

-- the records after a registering
pub records_register : (N M p : ℕ) (m : Machine) (g : Ghost) → Inv N M m g → I.Registers N p m → Records N (registered p m) (registered_ghost p g)
unfolding registered registered_ghost write
records_register N M p m g inv re = record {
  repins = λ q hq. put_ind (λ (o : Participant). RepinPins o.place) m.own p q new_participant (λ _. unfold RepinPins new_participant in tt) (λ _. inv.records.repins q hq);
  fine = λ q hq. same? p q
      (λ e. rw (← e, put_same g.slot_use p Use.registering, put_same m.shared.entry_next p null, put_same m.shared.word p starting, put_same m.own p new_participant, put_same m.held p [])
      (new_fine Use.registering refl))
      (λ ne. rw (put_other g.slot_use p q Use.registering ne, put_other m.shared.entry_next p q null ne, put_other m.shared.word p q starting ne, put_other m.own p q new_participant ne, put_other m.held p q [] ne)
      (inv.records.fine q hq));
  bits = λ q hq. same? p q
      (λ e. rw (← e, put_same m.slot_free p false, put_same g.slot_use p Use.registering) (unfold is_unused in refl))
      (λ ne. rw (put_other m.slot_free p q false ne, put_other g.slot_use p q Use.registering ne) (inv.records.bits q hq));
  lengths = λ q. same? p q
      (λ e. rw (← e, put_same m.held p [], put_same m.own p new_participant) (unfold new_participant in refl))
      (λ ne. rw (put_other m.held p q [] ne, put_other m.own p q new_participant ne) (inv.records.lengths q));
}
