-- Nothing stands beyond the ends of the tables, at any point of a run from a fresh start (`clean_run`): a fresh start has zeros there, and every
-- access, work and registering names slots, nodes and places of bags within the tables. Leans on Ranged (what places carry) and Runs.
-- Assumes nothing.
use mathlib.Core.Path.{◌≡◌, refl, sym, ◌∙◌}
use mathlib.Core.Bool.{Bool, true, false, true≢false}
use mathlib.Core.List.{List, [], ◌∷◌}
use Prim.Native.Nat.{ℕ, ◌+◌, ◌^◌, ◌≤◌, ◌<◌}
use native.Mathlib.Omega.{arith}
use lib.Dec.{ltb, leb}
use borrow.Author.Tests.{ltb-true}
use Rattle.epoch.specs.Epoch.{starting}
use Rattle.definition.specs.Base.{Tab, put, least}
use Rattle.definition.specs.Links.{null, tagged}
use Rattle.definition.specs.Bags.{max_objects, SealedBag, item_word, items, moved}
use Rattle.definition.specs.Tables.{Shared, Tables, read, write}
use Rattle.definition.specs.Tables as T
use Rattle.definition.specs.Layout.{record_at}
use Rattle.definition.specs.Codec.{code_of, record_of, participant_of}
use Rattle.definition.specs.Rule.{asks, follows, sees, leaves, agrees}
use Rattle.definition.specs.Internal.{rule}
use Rattle.definition.specs.Calls.{opens}
use Rattle.definition.specs.Ranges.{fresh}
use Rattle.definition.specs.Step.{Out, put_item, seal_into, in_bag, free_bag, settle, follow, rule_at, take_step}
use Rattle.definition.specs.Public.{the, new_participant, enrolled}
use Rattle.definition.specs.Marks.{back}
use Rattle.definition.proofs.Base.{branch_ind, put_ind, put_same, put_other, both}
use Rattle.definition.proofs.Opens.{opens_in}
use Rattle.definition.proofs.Within.{ItemIn, WordIn, AskIn, WorkIn, AfterIn, asks_in}
use Rattle.theorems.specs.OnTables.{Event, does, after, advances}
use Rattle.theorems.proofs.Machine.{view, Fits}
use Rattle.theorems.proofs.Length.{Fitting, follows-fits, begins-fits}
use Rattle.theorems.proofs.Ghost.{Ghost, G}
use Rattle.theorems.proofs.Invariant.{Each}
use Rattle.theorems.proofs.Inv.{Inv, Steps, Calls}
use Rattle.theorems.proofs.Stored.{free_slots_in, free-nodes_in, step_work}
use Rattle.theorems.proofs.Runs.{Happens, happens, Sound, sound-does, epoch-does, sound-fresh, fresh-epoch}
use Rattle.theorems.proofs.Back.{blank, CleanShared, Clean}
use Rattle.theorems.proofs.Types.{Ptr, Record, Word, Ask, Work, After, Call}

-- a change within the table leaves what stands beyond it
beyond : {A : Type 0} (n : ℕ) (t : Tab A) (i j : ℕ) (v : A) → i < n → n ≤ j → put t i v j ≡ t j
beyond n t i j v h k = put_other t i j v (λ e. omega arith)

-- ---- shared words

module _ (N M : ℕ) (s : Shared) (clean : CleanShared N M s) where
  -- a word within the tables is written
  write_clean : (w : Word) (v : ℕ) → WordIn N M w → CleanShared N M (write w v s)
  unfolding write WordIn
  write_clean Word.GlobalEpoch v h = record { word = clean.word; entry_next = clean.entry_next; node_next = clean.node_next }
  write_clean Word.ListHead v h = record { word = clean.word; entry_next = clean.entry_next; node_next = clean.node_next }
  write_clean (Word.EntryNext i) v h = record
      { word = clean.word; entry_next = λ j k. beyond N s.entry_next i.0 j v h k ∙ clean.entry_next j k; node_next = clean.node_next }
  write_clean (Word.ParticipantWord i) v h = record
      { word = λ j k. beyond N s.word i.0 j v h k ∙ clean.word j k; entry_next = clean.entry_next; node_next = clean.node_next }
  write_clean Word.QueueHead v h = record { word = clean.word; entry_next = clean.entry_next; node_next = clean.node_next }
  write_clean Word.QueueTail v h = record { word = clean.word; entry_next = clean.entry_next; node_next = clean.node_next }
  write_clean (Word.NodeNext n) v h = record
      { word = clean.word; entry_next = clean.entry_next; node_next = λ j k. beyond M s.node_next n.0 j v h k ∙ clean.node_next j k }

  -- an access
  leaves_clean : (a : Ask) → AskIn N M a → CleanShared N M (leaves a s)
  unfolding leaves AskIn
  leaves_clean (Ask.Load w) h = clean
  leaves_clean (Ask.Store w v) h = write_clean w v h
  leaves_clean (Ask.Exchange w e v) h = branch_ind (CleanShared N M) (agrees w e s) (λ _. write_clean w v h) (λ _. clean)
  leaves_clean (Ask.ExchangeWeak w e v) h = branch_ind (CleanShared N M) (agrees w e s) (λ _. write_clean w v h) (λ _. clean)
  leaves_clean (Ask.FetchOr w) h = write_clean w (tagged (read w s)) h

-- ---- work

module _ (N M p : ℕ) (r : Record) (t : Tables) (clean : Clean N M t) (hp : p < N)
    (bags : (n : ℕ) → n < M → Each (ItemIn N M) (items (t.bag n).len (t.bag n).deferreds)) where
  own_clean : (i : ℕ) → N ≤ i → put t.own p r i ≡ blank
  own_clean i h = beyond N t.own p i r hp h ∙ clean.own i h

  -- a bag with a word more
  module _ (v : ℕ) (room : (t.own p).held < max_objects) where
    abbrev more : Tab (Tab ℕ)
    more = put t.held p (put (t.held p) (t.own p).held v)

    more_clean : (i c : ℕ) → N ≤ i → more i c ≡ 0
    more_clean i c h = rw (beyond N t.held p i (put (t.held p) (t.own p).held v) hp h) (clean.held i c h)

    more_end : (i c : ℕ) → max_objects ≤ c → more i c ≡ 0
    more_end i c h = put_ind (λ (d : Tab ℕ). d c ≡ 0) t.held p i (put (t.held p) (t.own p).held v)
        (λ _. put_other (t.held p) (t.own p).held c v (λ e. omega arith) ∙ clean.held_end p c h) (λ _. clean.held_end i c h)

  -- a node with another bag
  module _ (n : ℕ) (b : SealedBag) (hn : n < M) where
    seals_clean : (k : ℕ) → M ≤ k → ((put t.bag n b k).epoch ≡ 0) × ((put t.bag n b k).len ≡ 0)
    seals_clean k h = rw (beyond M t.bag n k b hn h) (clean.seals k h)

    queued_clean : (k c : ℕ) → M ≤ k → (put t.bag n b k).deferreds c ≡ 0
    queued_clean k c h = rw (beyond M t.bag n k b hn h) (clean.queued k c h)

    queued_end_lem : ((c : ℕ) → max_objects ≤ c → b.deferreds c ≡ 0) → (k c : ℕ) → max_objects ≤ c → (put t.bag n b k).deferreds c ≡ 0
    queued_end_lem e k c h = put_ind (λ (x : SealedBag). x.deferreds c ≡ 0) t.bag n k b (λ _. e c h) (λ _. clean.queued_end k c h)

  -- by the work: where a word is put, there is room for it
  work_clean : (w : Work) (x k : ℕ) → Fits (t.own p).held k w → k ≤ max_objects → (t.own p).held ≤ max_objects → WorkIn N M w
      → Clean N M (T.with_aside x (T.with_own p r (settle p w t)))
  unfolding settle put_item seal_into free_bag in_bag Fits WorkIn
  work_clean Work.Nothing x k f le was i = record {
    shared = clean.shared;
    own = own_clean;
    held = clean.held;
    held_end = clean.held_end;
    seals = clean.seals;
    queued = clean.queued;
    queued_end = clean.queued_end;
    slot_free = clean.slot_free;
    node_free = clean.node_free;
  }
  work_clean (Work.Put y) x k f le was i = record {
    shared = clean.shared;
    own = own_clean;
    held = more_clean (item_word y) (omega arith);
    held_end = more_end (item_word y) (omega arith);
    seals = clean.seals;
    queued = clean.queued;
    queued_end = clean.queued_end;
    slot_free = clean.slot_free;
    node_free = clean.node_free;
  }
  work_clean (Work.PutThenFree y n) x k f le was i = record {
    shared = clean.shared;
    own = own_clean;
    held = more_clean (item_word y) (omega arith);
    held_end = more_end (item_word y) (omega arith);
    seals = seals_clean n.0 _ i.1;
    queued = queued_clean n.0 _ i.1;
    queued_end = queued_end_lem n.0 _ i.1 (λ c h. clean.queued_end n.0 c h);
    slot_free = λ j. free_slots_in N M (items (t.bag n.0).len (t.bag n.0).deferreds) t.slot_free j (bags n.0 i.1) (clean.slot_free j);
    node_free = λ j. free-nodes_in N M (items (t.bag n.0).len (t.bag n.0).deferreds) t.node_free j (bags n.0 i.1) (clean.node_free j);
  }
  work_clean (Work.Seal n e) x k f le was i = record {
    shared = write_clean N M t.shared clean.shared (Word.NodeNext n) null (unfold WordIn in i);
    own = own_clean;
    held = clean.held;
    held_end = clean.held_end;
    seals = seals_clean n.0 _ i;
    queued = queued_clean n.0 _ i;
    queued_end = queued_end_lem n.0 _ i (λ c h. unfold moved in (branch_ind (λ (v : ℕ). v ≡ 0) (ltb c (t.own p).held) (λ _. clean.held_end p c h) (λ _. clean.queued_end n.0 c h)));
    slot_free = clean.slot_free;
    node_free = λ j. put_ind (λ (b : Bool). b ≡ true → j < M) t.node_free n.0 j false (λ _ z. absurd (true≢false (sym z))) (λ _. clean.node_free j);
  }

-- ---- what follows

-- the length of the bag afterwards is that of the record
held-after : (p : ℕ) (a : After) (t : Tables) → ((follow p a t).tables.own p).held ≡ a.participant.held
unfolding follow record_of
held-after p a t = rw (put_same (settle p a.work t).own p (record_of a.participant)) refl

follow_clean : (N M p : ℕ) (a : After) (t : Tables) → Clean N M t → p < N → (t.own p).held ≤ max_objects → ((follow p a t).tables.own p).held ≤ max_objects
    → ((n : ℕ) → n < M → Each (ItemIn N M) (items (t.bag n).len (t.bag n).deferreds)) → Fits (t.own p).held a.participant.held a.work → AfterIn N M a
    → Clean N M (follow p a t).tables
unfolding follow AfterIn
follow_clean N M p a t clean hp was le bags f i =
    work_clean N M p (record_of a.participant) t clean hp bags a.work _ a.participant.held f (rw (← held-after p a t) le) was i

-- other shared words
shared_clean : (N M : ℕ) (s : Shared) (t : Tables) → CleanShared N M s → Clean N M t → Clean N M (T.with_shared s t)
shared_clean N M s t h clean = record {
  shared = h;
  own = clean.own;
  held = clean.held;
  held_end = clean.held_end;
  seals = clean.seals;
  queued = clean.queued;
  queued_end = clean.queued_end;
  slot_free = clean.slot_free;
  node_free = clean.node_free;
}

-- ---- events

module _ (N M : ℕ) (t : Tables) (g : Ghost) (inv : Inv N M (view t) g) (clean : Clean N M t) where
  -- a step
  step_clean : (p : ℕ) → Steps N M p (view t) → ((take_step M p t).tables.own p).held ≤ max_objects → Clean N M (take_step M p t).tables
  unfolding take_step rule_at participant_of Fitting
  step_clean p steps le =
      let r = rule (record { 0 = p }) (record { 0 = least M t.node_free }) (λ n. (t.bag n.0).epoch) (the p t) (the p t).place in
      let asked = asks_in N M p (record { 0 = least M t.node_free }) (λ n. (t.bag n.0).epoch) (the p t) (the p t).place steps.here (inv.ranged.places p steps.here) in
      follow_clean N M p (follows r (sees (asks r) t.shared)) (T.with_shared (leaves (asks r) t.shared) t)
      (shared_clean N M _ t (leaves_clean N M t.shared clean.shared (asks r) asked) clean) steps.here (inv.ranged.held p steps.here).0 le inv.ranged.bags
      (follows-fits (t.own p).held (record { 0 = p }) (record { 0 = least M t.node_free }) (λ n. (t.bag n.0).epoch) (the p t) (the p t).place (sees (asks r) t.shared) refl)
      (step_work N M p t g inv steps)

  -- a call
  call_clean : (p : ℕ) (c : Call) → Calls N M p c (view t) → ((follow p (opens N c (the p t)) t).tables.own p).held ≤ max_objects
      → Clean N M (follow p (opens N c (the p t)) t).tables
  unfolding opens participant_of Fitting
  call_clean p c calls le = follow_clean N M p (opens N c (the p t)) t clean calls.here (inv.ranged.held p calls.here).0 le inv.ranged.bags
      (begins-fits (t.own p).held c _ refl) (opens_in N M c (the p t) calls.token).1

  -- a marked step that fails
  back_clean : (p : ℕ) (next : Ptr) → p < N → Clean N M (back p next t).tables
  back_clean p next hp = record {
    shared = clean.shared;
    own = λ i h. beyond N t.own p i _ hp h ∙ clean.own i h;
    held = clean.held;
    held_end = clean.held_end;
    seals = clean.seals;
    queued = clean.queued;
    queued_end = clean.queued_end;
    slot_free = clean.slot_free;
    node_free = clean.node_free;
  }

  -- a registering
  register_clean : (p : ℕ) → p < N → Clean N M (enrolled p t).tables
  unfolding enrolled
  register_clean p hp = record {
    shared = write_clean N M _ (write_clean N M t.shared clean.shared (Word.EntryNext (record { 0 = p })) null (unfold WordIn in hp))
        (Word.ParticipantWord (record { 0 = p })) starting (unfold WordIn in hp);
    own = λ i h. beyond N t.own p i (record_of new_participant) hp h ∙ clean.own i h;
    held = clean.held;
    held_end = clean.held_end;
    seals = clean.seals;
    queued = clean.queued;
    queued_end = clean.queued_end;
    slot_free = λ j. put_ind (λ (b : Bool). b ≡ true → j < N) t.slot_free p j false (λ _ z. absurd (true≢false (sym z))) (λ _. clean.slot_free j);
    node_free = clean.node_free;
  }

  -- any event: its own bag is within bounds afterwards
  happens_clean : {v : Event} {o : Out} → Happens N M t v o → ((p : ℕ) → p < N → (o.tables.own p).held ≤ max_objects) → Clean N M o.tables
  happens_clean (Happens.refuses r h) le = clean
  happens_clean (Happens.goes {p = p} s) le = step_clean p s (le p s.here)
  happens_clean (Happens.misses {p = p} {next = next} s) le = back_clean p next s.here
  happens_clean (Happens.calls {p = p} {c = c} ca) le = call_clean p c ca (le p ca.here)
  happens_clean (Happens.enrols {p = p} re) le = register_clean p re.here

-- ---- a run

-- a fresh start
pub fresh_clean : (N M : ℕ) → Clean N M (fresh N M)
unfolding fresh blank record_at code_of starting null
fresh_clean N M = record {
  shared = record { word = λ i _. refl; entry_next = λ i _. refl; node_next = λ n _. refl };
  own = λ i _. refl;
  held = λ i c _. refl;
  held_end = λ i c _. refl;
  seals = λ n _. (refl, refl);
  queued = λ n c _. refl;
  queued_end = λ n c _. refl;
  slot_free = λ i e. ltb-true i N e;
  node_free = λ n e. ltb-true n M (both (leb 1 n) (ltb n M) e).1;
}

module _ (N M : ℕ) where
  -- one event
  pub does_clean : (t : Tables) → Sound N M t → Clean N M t → G (view t) < 2 ^ 62 → (v : Event) → Clean N M (does N M v t).tables
  does_clean t s clean small v =
      let after = sound-does N M t s small v in
      happens_clean N M t s.ghost s.inv clean (happens N M t s.ghost s.inv s.stored small v) (λ p hp. unfold participant_of in (after.inv.ranged.held p hp).0)

  -- many
  after_clean : (l : List Event) (t : Tables) → Sound N M t → Clean N M t → G (view t) + advances N M l t < 2 ^ 62 → Clean N M (after N M l t)
  unfolding after advances
  after_clean [] t s clean lt = clean
  after_clean (v ∷ l) t s clean lt =
      let u = epoch-does N M t s (omega arith) v in
      after_clean l (does N M v t).tables (sound-does N M t s (omega arith) v) (does_clean t s clean (omega arith) v) (omega arith)

-- from a fresh start
pub clean_run : (N M : ℕ) → 1 ≤ N → 2 ≤ M → (l : List Event) → advances N M l (fresh N M) < 2 ^ 62 → Clean N M (after N M l (fresh N M))
clean_run N M h_n h_m l lt =
    let e = fresh-epoch N M in
    after_clean N M l (fresh N M) (sound-fresh N M h_n h_m) (fresh_clean N M) (omega arith)
