-- Demand 3: the reclaimer reclaims. The statement is specs/Statement, on lent lists (`reclaims`), from the same on tables (`reclaims_on_tables`):
-- there the balance is Tokens, no early free is Late, guards and words are Guarded, the order of bags is Leaving, refusal 1 is Checks, and that
-- the invariant holds along every run is Runs. That a run on lists is a run on tables is Lent. Assumes nothing.
use mathlib.Core.Path.{◌≡◌, refl, ap, sym, ◌∙◌}
use mathlib.Core.Logic.{◌≢◌}
use mathlib.Core.Bool.{Bool, true, false, ◌&&◌}
use mathlib.Core.List.{List, [], ◌∷◌, ◌++◌}
use Prim.Native.Nat.{ℕ, ◌+◌, ◌^◌, ◌≤◌, ◌<◌}
use native.Mathlib.Omega.{arith}
use lib.Dec.{eqb, leb}
use lib.ListN.{length}
use lib.Seq.{take-nil}
use borrow.Author.Tests.{leb-true, eq-eqb}
use Rattle.epoch.specs.Epoch.{is_pinned}
use Rattle.definition.specs.Base.{branch, listed}
use Rattle.definition.specs.Links.{is_tagged}
use Rattle.definition.specs.Tables.{Tables}
use Rattle.definition.specs.Ranges.{within_limits, fresh}
use Rattle.definition.specs.Layout.{Lent, sized, tables_of, lent_of}
use Rattle.definition.specs.Step.{answer_of}
use Rattle.definition.specs.Public.{Outcome, lending, given, kept, start_lent, damaged, running}
use Rattle.definition.specs.Survey.{report_of, Surveyed, survey_lent}
use Rattle.definition.proofs.Base.{both, branch-true}
use Rattle.definition.proofs.Refusals.{answers, refused_is}
use Rattle.theorems.specs.Waiting.{times, waiting}
use Rattle.theorems.specs.Events.{Event, frees, number, words, Pinned, Changed, Frees, InOrder}
use Rattle.theorems.specs.Events as S
use Rattle.theorems.specs.Statement.{started, Short, reached, Reclaims, Demand}
use Rattle.theorems.specs.OnTables.{ReclaimsOnTables}
use Rattle.theorems.specs.OnTables as On
use Rattle.theorems.proofs.Machine.{view}
use Rattle.theorems.proofs.Ghost.{G}
use Rattle.theorems.proofs.Stored.{never_damaged_lem}
use Rattle.theorems.proofs.Runs.{Sound, sound-run, sound-fresh, sound-after, fresh-epoch, never_1}
use Rattle.theorems.proofs.Tokens.{balanced}
use Rattle.theorems.proofs.Late.{not_early_lem}
use Rattle.theorems.proofs.Guarded as G'
use Rattle.theorems.proofs.Leaving.{in_order}
use Rattle.theorems.proofs.Back.{Clean, tables_back}
use Rattle.theorems.proofs.Clean.{fresh_clean, clean_run}
use Rattle.theorems.proofs.Lent.{tabled, tabled_more, advances_more, carries_step, carries_register, carries_call, Same, same, words_back, words-kept}
use Rattle.theorems.proofs.Types.{End, Call, Answer, Report}

-- for any number of participants from 1 on, and any number of nodes from 2 on
pub reclaims_on_tables : (N M : ℕ) → 1 ≤ N → 2 ≤ M → ReclaimsOnTables N M
reclaims_on_tables N M h_n h_m = record {
  balance = λ l short x. balanced N M h_n h_m l short x;
  once = λ l short x e. let b = balanced N M h_n h_m l short x in omega arith;
  not_early = λ before since v short x d hd new pin frees. not_early_lem N M h_n h_m before since v short x d hd new pin frees;
  guarded = λ l short d hd. G'.guarded N M h_n h_m l short d hd;
  never_damaged = λ l short v. let s = (sound-run N M h_n h_m l short).0 in never_1 N M _ s.ghost s.inv s.stored v;
  order = λ l short. in_order N M h_n h_m l short;
}

-- ---- on lent lists

-- a start that was not refused was within the limits and filled the lists
pub record Starts (N M : ℕ) (l : Lent) : Type 0 where
  pub limits : within_limits N M ≡ true
  pub lent : started N M l ≡ lent_of N M (fresh N M)

started_is : (N M : ℕ) (l : Lent) → (start_lent N M l).answer ≡ Answer.Done 0 0 → Starts N M l
unfolding start_lent lending given branch answer_of
started_is N M l e =
    let k = fits (within_limits N M && sized N M l) e in
    record { limits = (both (within_limits N M) (sized N M l) k).0; lent = ap (λ (b : Bool). (branch {A = Outcome} b filled (kept N M l [] 2)).lent) k }
  where
    filled : Outcome
    filled = record { answer = Answer.Done 0 0; lent = lent_of N M (fresh N M); freed = [] }

    fits : (b : Bool) → (branch {A = Outcome} b filled (kept N M l [] 2)).answer ≡ Answer.Done 0 0 → b ≡ true
    fits true e = refl
    fits false e = absurd (answers (End.EndsWith 0) 0 2 (sym e))

-- a survey of tables that are not damaged
survey_never : (N M : ℕ) (t : Tables) → Clean N M t → damaged N M t ≡ false → (reports : List Report) → (S.does N M (Event.surveys reports) (lent_of N M t)).answer ≢ Answer.Refused 1
unfolding S.does survey_lent branch answer_of
survey_never N M t clean h reports = rw (tables_back N M t clean, h) (go (within_limits N M && sized N M (lent_of N M t) && eqb (length reports) N))
  where
    go : (b : Bool) → (branch {A = Surveyed} b (record { answer = Answer.Done 0 0; reports = listed N (report_of t) }) (record { answer = Answer.Refused 2; reports = reports })).answer ≢ Answer.Refused 1
    go true e = answers (End.EndsWith 0) 0 1 e
    go false e = let k = refused_is 2 1 e in omega arith

-- it frees nothing
survey-frees : (N M : ℕ) (l : Lent) (reports : List Report) (x : ℕ) → times x (frees (S.does N M (Event.surveys reports) l)) ≡ 0
unfolding S.does frees times
survey-frees N M l reports x = rw (take-nil {A = ℕ} (number (survey_lent N M l reports).answer)) refl

-- a word changed, though not at first
stood_first : (a : Bool) (k : ℕ) → a ≡ true → 1 ≤ branch {A = ℕ} a 0 1 + k → 1 ≤ k
stood_first a k h le = let z : branch {A = ℕ} a 0 1 ≡ 0 = branch-true 0 1 h in omega arith

-- the limits hold at least one participant and two nodes
pub limits-say : (N M : ℕ) → within_limits N M ≡ true → (1 ≤ N) × (2 ≤ M)
unfolding within_limits
limits-say N M h =
    let a = both _ _ h in
    let b = both _ _ a.0 in
    let c = both _ _ b.0 in
    (leb-true 1 N c.0, leb-true 2 M b.1)

module _ (N M : ℕ) (l : Lent) (ok : (start_lent N M l).answer ≡ Answer.Done 0 0) where
  pub start : Starts N M l
  start = started_is N M l ok

  h_n : 1 ≤ N
  h_n = (limits-say N M start.limits).0

  h_m : 2 ≤ M
  h_m = (limits-say N M start.limits).1

  -- the run on tables, its tables, and what is known of them
  on : ReclaimsOnTables N M
  on = reclaims_on_tables N M h_n h_m

  abbrev pub at : List Event → Tables
  at run = On.after N M (tabled run) (fresh N M)

  pub run_same : (run : List Event) → Short N M l run → Same N M run (fresh N M)
  run_same run short =
      let e = fresh-epoch N M in
      let k : S.advances N M run (lent_of N M (fresh N M)) < 2 ^ 62 = rw (← start.lent) short in
      same N M start.limits run (fresh N M) (sound-fresh N M h_n h_m) (fresh_clean N M) (omega arith)

  pub few : (run : List Event) → Short N M l run → On.advances N M (tabled run) (fresh N M) < 2 ^ 62
  few run short = rw (← (run_same run short).advances, ← start.lent) short

  pub clean : (run : List Event) → Short N M l run → Clean N M (at run)
  clean run short = clean_run N M h_n h_m (tabled run) (few run short)

  pub sound : (run : List Event) → Short N M l run → Sound N M (at run) × (G (view (at run)) < 2 ^ 62)
  sound run short = sound-run N M h_n h_m (tabled run) (few run short)

  -- the lists that are reached hold the tables that are reached
  pub reaches : (run : List Event) → Short N M l run → reached N M l run ≡ lent_of N M (at run)
  reaches run short = rw start.lent (run_same run short).after

  -- the balance
  balance : (run : List Event) → Short N M l run → (x : ℕ)
      → S.retired N M x run (started N M l) ≡ S.freed N M x run (started N M l) + waiting N M x (tables_of N M (reached N M l run))
  balance run short x =
      let k = run_same run short in
      rw (reaches run short, tables_back N M (at run) (clean run short), start.lent, k.retired x, k.freed x) (on.balance (tabled run) (few run short) x)

  -- the order
  order : (run : List Event) → Short N M l run → InOrder N M run (started N M l)
  order run short =
      let k = run_same run short in
      let o = on.order (tabled run) (few run short) in
      record {
        rest = o.rest;
        splits = rw (reaches run short, tables_back N M (at run) (clean run short), start.lent, k.links, k.leaves) o.splits;
        hangs = rw (reaches run short, words_back N M (at run) (clean run short)) o.hangs;
      }

  -- guards and words
  guarded : (run : List Event) → Short N M l run → (d : ℕ) → d < N → let t = tables_of N M (reached N M l run) in
      t.slot_free d ≡ false → is_tagged (t.shared.entry_next d) ≡ false → running d t ≡ false → is_pinned (t.shared.word d) ≡ leb 1 (t.own d).counts.guards
  guarded run short d hd = rw (reaches run short, tables_back N M (at run) (clean run short)) (on.guarded (tabled run) (few run short) d hd)

  -- refusal 1
  never_1_on : (run : List Event) → Short N M l run → (v : Event) → (S.does N M v (reached N M l run)).answer ≢ Answer.Refused 1
  never_1_on run short v = rw (reaches run short) (by v)
    where
      t : Tables
      t = at run

      s : Sound N M t
      s = (sound run short).0

      small : G (view t) < 2 ^ 62
      small = (sound run short).1

      c : Clean N M t
      c = clean run short

      by : (v : Event) → (S.does N M v (lent_of N M t)).answer ≢ Answer.Refused 1
      by (Event.steps p marked places) = rw (carries_step N M start.limits t s c small p marked places).answer (on.never_damaged (tabled run) (few run short) (On.Event.steps marked (length places) p))
      by Event.registers = rw (carries_register N M start.limits t s c small).answer (on.never_damaged (tabled run) (few run short) On.Event.registers)
      by (Event.calls p q) = rw (carries_call N M start.limits t s c small p q).answer (on.never_damaged (tabled run) (few run short) (On.Event.calls p q))
      by (Event.surveys reports) = survey_never N M t c (never_damaged_lem N M t s.ghost s.inv s.stored) reports

  -- no early free
  module _ (before since : List Event) (short : Short N M l (before ++ since)) where
    short_before : Short N M l before
    short_before = let e = advances_more N M before since (started N M l) in omega arith

    -- from the point before the retirement on
    pub since_same : Same N M since (at before)
    since_same =
        let e = advances_more N M before since (started N M l) in
        let k : S.advances N M since (reached N M l before) ≡ S.advances N M since (lent_of N M (at before)) = rw (reaches before short_before) refl in
        let f = fresh-epoch N M in
        let b = (run_same before short_before).advances in
        let b' : S.advances N M before (started N M l) ≡ On.advances N M (tabled before) (fresh N M) = rw start.lent b in
        let u = (sound-after N M (tabled before) (fresh N M) (sound-fresh N M h_n h_m) (omega arith)).1 in
        same N M start.limits since (at before) (sound before short_before).0 (clean before short_before) (omega arith)

    early : (x d : ℕ) → d < N → S.retired N M x before (started N M l) ≡ S.freed N M x before (started N M l) → Pinned N M d (reached N M l before)
        → (v : On.Event) → 1 ≤ times x (On.does N M v (at (before ++ since))).freed → Changed N M d since (reached N M l before)
    early x d hd new pin v some-freed =
        let again : S.retired N M x before (lent_of N M (fresh N M)) ≡ S.freed N M x before (lent_of N M (fresh N M)) = rw (← start.lent) new in
        rw (reaches before short_before, since_same.changes d)
        (on.not_early (tabled before) (tabled since) v (rw (← tabled_more before since) (few (before ++ since) short)) x d hd
        (sym ((run_same before short_before).retired x) ∙ again ∙ (run_same before short_before).freed x)
        (rw (← words_back N M (at before) (clean before short_before), ← reaches before short_before) pin)
        (rw (← tabled_more before since) some-freed))

    late : (v : Event) (x d : ℕ) → d < N → S.retired N M x before (started N M l) ≡ S.freed N M x before (started N M l) → Pinned N M d (reached N M l before)
        → Frees N M v x (reached N M l (before ++ since)) → Changed N M d since (reached N M l before)
    late v x d hd new pin some-freed = by v (rw (← reaches (before ++ since) short) some-freed)
      where
        t : Tables
        t = at (before ++ since)

        s : Sound N M t
        s = (sound (before ++ since) short).0

        small : G (view t) < 2 ^ 62
        small = (sound (before ++ since) short).1

        c : Clean N M t
        c = clean (before ++ since) short

        by : (v : Event) → Frees N M v x (lent_of N M t) → Changed N M d since (reached N M l before)
        by (Event.steps p marked places) f = early x d hd new pin (On.Event.steps marked (length places) p) (rw (← (carries_step N M start.limits t s c small p marked places).tokens) f)
        by Event.registers f = early x d hd new pin On.Event.registers (rw (← (carries_register N M start.limits t s c small).tokens) f)
        by (Event.calls p q) f = early x d hd new pin (On.Event.calls p q) (rw (← (carries_call N M start.limits t s c small p q).tokens) f)
        by (Event.surveys reports) f = let z = survey-frees N M (lent_of N M t) reports x in absurd (omega arith)

  -- the retirement changes no word, so the change came later
  not_early_then : (before since : List Event) (p x : ℕ) (v : Event) → let retirement = Event.calls p (Call.Defer x) in let run = before ++ retirement ∷ since in
      Short N M l run → S.retired N M x before (started N M l) ≡ S.freed N M x before (started N M l) → (d : ℕ) → d < N → Pinned N M d (reached N M l before)
      → Frees N M v x (reached N M l run) → Changed N M d since (S.does N M retirement (reached N M l before)).lent
  not_early_then before since p x v short new d hd pin some-freed =
      let b = short_before before (Event.calls p (Call.Defer x) ∷ since) short in
      let still : (words N M (S.does N M (Event.calls p (Call.Defer x)) (reached N M l before)).lent).word d ≡ (words N M (reached N M l before)).word d
      = rw (reaches before b) (words-kept N M start.limits (at before) (sound before b).0 (clean before b) (sound before b).1 p d (Call.Defer x)) in
      stood_first _ _ (eq-eqb _ _ still) (unfold S.changes in (late before (Event.calls p (Call.Defer x) ∷ since) short v x d hd new pin some-freed))

  all : Reclaims N M l
  all = record {
    balance = balance;
    once = λ run short x e. let b = balance run short x in omega arith;
    not_early = not_early_then;
    guarded = guarded;
    never_damaged = never_1_on;
    order = order;
  }

-- the theorem
pub reclaims : Demand
reclaims N M l ok = all N M l ok
