-- No early free. Take a point of a run at which a token was freed as often as it was retired, so that it waits nowhere, and a participant that is
-- pinned there; let r be the global epoch then. The pin is of r at most. From then on every bag that holds the token was sealed at r or later, and a bag
-- is freed two epochs after its seal: but the global epoch is at most one ahead of any pin. So if the token is freed, the participant's word has
-- changed since. Assumes nothing.
use mathlib.Core.Path.{◌≡◌, refl, ap, sym, ◌∙◌}
use mathlib.Core.Logic.{◌≢◌}
use mathlib.Core.Bool.{Bool, true, false}
use mathlib.Core.List.{List, [], ◌∷◌, ◌++◌}
use Prim.Native.Nat.{ℕ, zero, suc, ◌+◌, ◌^◌, ◌≤◌, ◌<◌}
use native.Mathlib.Omega.{arith}
use native.Mathlib.Nat.{le_refl}
use lib.Dec.{eqb}
use borrow.Author.Tests.{eqb-true}
use Rattle.epoch.specs.Epoch.{is_pinned}
use Rattle.definition.specs.Base.{branch}
use Rattle.definition.specs.Tables.{Shared, Tables, write}
use Rattle.definition.specs.Calls.{opens}
use Rattle.definition.specs.Ranges.{fresh}
use Rattle.definition.specs.Step.{Out}
use Rattle.definition.specs.Public.{enrolled}
use Rattle.definition.proofs.Base.{same?, put_same, put_other}
use Rattle.theorems.specs.OnTables.{Event, does, after, advances, retired, freed, changes}
use Rattle.theorems.specs.Waiting.{times}
use Rattle.theorems.proofs.Machine.{Machine, view, with_shared, works, followed}
use Rattle.theorems.proofs.Ghost.{Ghost, num, G}
use Rattle.theorems.proofs.Invariant.{occurs}
use Rattle.theorems.proofs.Invariant as Inv'
use Rattle.theorems.proofs.Inv.{Inv, Steps, Calls, after_of, left_of, goes, stepped, called, registered, registered_ghost, view_step, view_call}
use Rattle.theorems.proofs.Safety.{popped_here, popped_in, in_bag-occurs}
use Rattle.theorems.proofs.Nodes.{Sound, step-sound, call-sound, kind_of, call_of, none_of}
use Rattle.theorems.proofs.Balance.{freed_items, tokens-times}
use Rattle.theorems.proofs.Epochs.{mono, gpin_same}
use Rattle.theorems.proofs.EpochsKept.{SealOf, kind_seal, gpin_step, word-step, gpin_call, epoch-call}
use Rattle.theorems.proofs.Checks.{view_register}
use Rattle.theorems.proofs.Runs.{Happens, happens, ghost_after, inv_happens, stored_happens, epoch-does, sound-after, sound-fresh, fresh-epoch}
use Rattle.theorems.proofs.Runs as R
use Rattle.theorems.proofs.Tokens.{step-freed, call-freed, occurring}
use Rattle.theorems.proofs.Types.{Item, Work, Call}

-- ---- bags that hold the token were sealed late

-- the number r is past or present, and no bag with the token was sealed before it
pub record Late (M x r : ℕ) (m : Machine) : Type 0 where
  pub now : r ≤ G m
  pub sealed : (n : ℕ) → n < M → Inv'.times (Item.Token x) (m.bag n).holds ≢ 0 → r ≤ num (m.bag n).epoch

-- through the work of a move
late_worked : (M p x r : ℕ) (m : Machine) (s : Shared) (w : Work) → SealOf (λ e. r ≤ num e) w → Late M x r m
    → (n : ℕ) → n < M → Inv'.times (Item.Token x) ((works p w (with_shared s m)).bag n).holds ≢ 0 → r ≤ num ((works p w (with_shared s m)).bag n).epoch
unfolding works SealOf
late_worked M p x r m s Work.Nothing k h n hn = h.sealed n hn
late_worked M p x r m s (Work.Put i) k h n hn = h.sealed n hn
late_worked M p x r m s (Work.PutThenFree i b) k h n hn = same? b.0 n
    (λ e. rw (← e, put_same m.bag b.0 (record { epoch = (m.bag b.0).epoch; holds = [] })) (λ ne. absurd (ne (unfold Inv'.times in refl))))
    (λ ne. rw (put_other m.bag b.0 n (record { epoch = (m.bag b.0).epoch; holds = [] }) ne) (h.sealed n hn))
late_worked M p x r m s (Work.Seal b e) k h n hn = same? b.0 n
    (λ i. rw (← i, put_same m.bag b.0 (record { epoch = e.0; holds = m.held p })) (λ _. k))
    (λ ne. rw (put_other m.bag b.0 n (record { epoch = e.0; holds = m.held p }) ne) (h.sealed n hn))

-- through the bags of a step and of a call
bags-step : (N M p x r : ℕ) (m : Machine) (g : Ghost) → Inv N M m g → Steps N M p m → Late M x r m
    → (n : ℕ) → n < M → Inv'.times (Item.Token x) ((stepped M p m).bag n).holds ≢ 0 → r ≤ num ((stepped M p m).bag n).epoch
unfolding stepped goes followed
bags-step N M p x r m g inv st h = late_worked M p x r m (left_of M p m) (after_of M p m).work
    (kind_seal p (λ e. r ≤ num e) _ _ _ _ _ _ _ _ (kind_of N M p m g inv st) (unfold G in h.now)) h

-- through the bags of a call
bags-call : (N M p x r : ℕ) (c : Call) (m : Machine) (g : Ghost) → Inv N M m g → Calls N M p c m → Late M x r m
    → (n : ℕ) → n < M → Inv'.times (Item.Token x) ((called N p c m).bag n).holds ≢ 0 → r ≤ num ((called N p c m).bag n).epoch
unfolding called followed
bags-call N M p x r c m g inv ca h = late_worked M p x r m m.shared (opens N c (m.own p)).work
    (kind_seal p (λ e. r ≤ num e) _ _ _ _ _ _ _ _ (call_of N M p c m g inv ca) (unfold G in h.now)) h

-- through each event
late_step : (N M p x r : ℕ) (m : Machine) (g : Ghost) → Inv N M m g → Steps N M p m → Late M x r m → Late M x r (stepped M p m)
late_step N M p x r m g inv st h =
    let up : G m ≤ G (stepped M p m) = mono N M p m g inv st in
    let was = h.now in
    record { now = omega arith; sealed = bags-step N M p x r m g inv st h }

-- through a call
late_call : (N M p x r : ℕ) (c : Call) (m : Machine) (g : Ghost) → Inv N M m g → Calls N M p c m → Late M x r m → Late M x r (called N p c m)
late_call N M p x r c m g inv ca h = record { now = rw (epoch-call N M p c m g inv ca) h.now; sealed = bags-call N M p x r c m g inv ca h }

-- through any event
late_happens : (N M x r : ℕ) (t : Tables) (g : Ghost) → Inv N M (view t) g → {v : Event} {o : Out} → Happens N M t v o → Late M x r (view t) → Late M x r (view o.tables)
late_happens N M x r t g inv (Happens.refuses n h) l = l
late_happens N M x r t g inv (Happens.goes {p = p} s) l = rw (view_step M p t) (late_step N M p x r (view t) g inv s l)
late_happens N M x r t g inv (Happens.misses s) l = record { now = unfold G in l.now; sealed = l.sealed }
late_happens N M x r t g inv (Happens.calls {p = p} {c = c} ca) l = rw (view_call N p c t) (late_call N M p x r c (view t) g inv ca l)
late_happens N M x r t g inv (Happens.enrols {p = p} re) l = rw (view_register p t) (unfold registered write G in (record { now = unfold G in l.now; sealed = l.sealed }))

-- ---- the pin of a participant whose word stands still

-- through any event that leaves the word as it was
gpin_happens : (N M d : ℕ) (t : Tables) (g : Ghost) → Inv N M (view t) g → {v : Event} {o : Out} (h : Happens N M t v o) → o.tables.shared.word d ≡ t.shared.word d
    → (ghost_after h g).gpin d ≡ g.gpin d
unfolding ghost_after
gpin_happens N M d t g inv (Happens.refuses r h) e = refl
gpin_happens N M d t g inv (Happens.goes {p = p} s) e = gpin_step N M p (view t) g inv s d
    ∙ gpin_same (G (view t)) t.shared.word (left_of M p (view t)).word g.gpin d (sym (word-step N M p (view t) g inv s d) ∙ ap (λ (m : Machine). m.shared.word d) (sym (view_step M p t)) ∙ e)
gpin_happens N M d t g inv (Happens.misses s) e = refl
gpin_happens N M d t g inv (Happens.calls {p = p} {c = c} ca) e = gpin_call N M p c (view t) g inv ca d
gpin_happens N M d t g inv (Happens.enrols {p = p} re) e = unfold registered_ghost in refl

-- ---- along a run in which it stands still

-- what is known of tables meanwhile
record Watched (N M d x r w : ℕ) (t : Tables) : Type 0 where
  sound : R.Sound N M t
  late : Late M x r (view t)
  since : sound.ghost.gpin d ≤ r
  word : t.shared.word d ≡ w

-- a word that did not change is as it was
stood : (b : Bool) → branch {A = ℕ} b 0 1 ≡ 0 → b ≡ true
unfolding branch
stood true e = refl
stood false e = absurd (omega arith)

module _ (N M d x r w : ℕ) where
  -- through one event
  watched_does : (t : Tables) → Watched N M d x r w t → G (view t) < 2 ^ 62 → (v : Event) → (does N M v t).tables.shared.word d ≡ t.shared.word d
      → Watched N M d x r w (does N M v t).tables
  watched_does t k small v e =
      let s = k.sound in
      let h = happens N M t s.ghost s.inv s.stored small v in
      record {
        sound = record { ghost = ghost_after h s.ghost; inv = inv_happens N M t s.ghost s.inv s.stored h; stored = stored_happens N M t s.ghost s.inv s.stored h };
        late = late_happens N M x r t s.ghost s.inv h k.late;
        since = rw (gpin_happens N M d t s.ghost s.inv h e) k.since;
        word = e ∙ k.word;
      }

  -- through many
  watched_after : (l : List Event) (t : Tables) → Watched N M d x r w t → G (view t) + advances N M l t < 2 ^ 62 → changes N M d l t ≡ 0 → Watched N M d x r w (after N M l t)
  unfolding after advances changes
  watched_after [] t k lt e = k
  watched_after (v ∷ l) t k lt e =
      let b : eqb ((does N M v t).tables.shared.word d) (t.shared.word d) ≡ true = stood (eqb ((does N M v t).tables.shared.word d) (t.shared.word d)) (omega arith) in
      let u = epoch-does N M t k.sound (omega arith) v in
      watched_after l (does N M v t).tables (watched_does t k (omega arith) v (eqb-true ((does N M v t).tables.shared.word d) (t.shared.word d) b)) (omega arith) (omega arith)

  -- ---- the token is not freed meanwhile

  module _ (t : Tables) (k : Watched N M d x r w t) (hd : d < N) (pin : is_pinned w ≡ true) where
    -- the pin of d is within one of the global epoch
    close : G (view t) ≤ r + 1
    close =
        let near = k.sound.inv.epochs.near d hd (ap is_pinned k.word ∙ pin) in
        let since = k.since in
        omega arith

    -- the bag that a step frees
    kept_work : (p : ℕ) → p < N → (b : Work) → Sound M p (view t) b → Inv'.times (Item.Token x) (freed_items b (view t).bag) ≡ 0
    unfolding Sound freed_items
    kept_work p hp Work.Nothing s = unfold Inv'.times in refl
    kept_work p hp (Work.Put i) s = unfold Inv'.times in refl
    kept_work p hp (Work.PutThenFree i n) s = none_of (Inv'.times (Item.Token x) ((view t).bag n.0).holds) (λ ne.
        let hn = popped_in N M (view t) k.sound.ghost k.sound.inv p hp n.0 s in
        let old = (popped_here N M (view t) k.sound.ghost k.sound.inv p hp n.0 s).1 in
        let new = k.late.sealed n.0 hn ne in
        let c = close in
        omega arith)
    kept_work p hp (Work.Seal n e) s = unfold Inv'.times in refl

    -- no event frees the token
    kept_happens : {v : Event} {o : Out} → Happens N M t v o → times x o.freed ≡ 0
    kept_happens (Happens.refuses n h) = unfold times in refl
    kept_happens (Happens.goes {p = p} s) = rw (step-freed M p t, tokens-times x (freed_items (after_of M p (view t)).work (view t).bag))
        (kept_work p s.here (after_of M p (view t)).work (step-sound N M p (view t) k.sound.ghost k.sound.inv s))
    kept_happens (Happens.misses s) = unfold times in refl
    kept_happens (Happens.calls {p = p} {c = c} ca) = rw (call-freed N p c t, tokens-times x (freed_items (opens N c ((view t).own p)).work (view t).bag))
        (kept_work p ca.here (opens N c ((view t).own p)).work (call-sound N M p c (view t) k.sound.ghost k.sound.inv ca))
    kept_happens (Happens.enrols {p = p} re) = unfold times enrolled in refl

-- ---- two runs, one after the other

module _ (N M : ℕ) where
  -- the tables after both
  pub after_more : (l k : List Event) (t : Tables) → after N M (l ++ k) t ≡ after N M k (after N M l t)
  unfolding after
  after_more [] k t = refl
  after_more (v ∷ l) k t = after_more l k (does N M v t).tables

  -- the changes of the global epoch in both
  pub advances_more : (l k : List Event) (t : Tables) → advances N M (l ++ k) t ≡ advances N M l t + advances N M k (after N M l t)
  unfolding after advances
  advances_more [] k t = omega arith
  advances_more (v ∷ l) k t = let e = advances_more l k (does N M v t).tables in omega arith

  -- a token that waits nowhere is in no bag
  none_late : (x : ℕ) (t : Tables) → occurs N M (view t) (Item.Token x) ≡ 0 → Late M x (G (view t)) (view t)
  none_late x t e = record { now = le_refl (G (view t)); sealed = λ n hn ne. absurd (in_bag-occurs N M (view t) n (Item.Token x) hn ne e) }

  -- the theorem
  module _ (h_n : 1 ≤ N) (h_m : 2 ≤ M) (before since : List Event) (v : Event) (short : advances N M (before ++ since) (fresh N M) < 2 ^ 62) (x d : ℕ) (hd : d < N)
      (new : retired N M x before (fresh N M) ≡ freed N M x before (fresh N M)) (pin : is_pinned ((after N M before (fresh N M)).shared.word d) ≡ true) where
    -- the tables at the point taken
    abbrev t₁ : Tables
    t₁ = after N M before (fresh N M)

    -- both parts of the run are short
    bound : (advances N M before (fresh N M) < 2 ^ 62) × (advances N M before (fresh N M) + advances N M since t₁ < 2 ^ 62)
    bound = let e = advances_more before since (fresh N M) in (omega arith, omega arith)

    -- the invariant holds at that point
    there : R.Sound N M t₁ × (G (view t₁) ≤ advances N M before (fresh N M))
    there =
        let e = fresh-epoch N M in
        let b = bound.0 in
        let k = sound-after N M before (fresh N M) (sound-fresh N M h_n h_m) (omega arith) in
        let u = k.1 in
        (k.0, omega arith)

    -- the token is nowhere, since it was freed as often as it was retired
    nowhere : occurs N M (view t₁) (Item.Token x) ≡ 0
    nowhere = let a = occurring N M h_n h_m before bound.0 x in omega arith

    -- the watch begins
    start : Watched N M d x (G (view t₁)) (t₁.shared.word d) t₁
    start = record { sound = there.0; late = none_late x t₁ nowhere; since = there.0.inv.epochs.pin_le d hd pin; word = refl }

    -- as long as the word stands still the token is not freed
    still : changes N M d since t₁ ≡ 0 → times x (does N M v (after N M (before ++ since) (fresh N M))).freed ≡ 0
    still e =
        let b = bound.1 in
        let c = there.1 in
        let k = watched_after N M d x (G (view t₁)) (t₁.shared.word d) since t₁ start (omega arith) e in
        let u = (sound-after N M since t₁ there.0 (omega arith)).1 in
        rw (after_more before since (fresh N M))
        (kept_happens N M d x (G (view t₁)) (t₁.shared.word d) (after N M since t₁) k hd pin
        (happens N M (after N M since t₁) k.sound.ghost k.sound.inv k.sound.stored (omega arith) v))

    -- so if it is freed, the word changed
    pub not_early_lem : 1 ≤ times x (does N M v (after N M (before ++ since) (fresh N M))).freed → 1 ≤ changes N M d since t₁
    not_early_lem some-freed = go (changes N M d since t₁) refl
      where
        go : (k : ℕ) → changes N M d since t₁ ≡ k → 1 ≤ k
        go zero e = let z = still e in absurd (omega arith)
        go (suc k) e = omega arith
