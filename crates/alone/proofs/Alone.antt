-- Who runs, and steps alone, is done, on tables: each of its steps passes every check (`passes`), answers `done` or goes on with fewer left (Stepped), so there are no
-- more than were left at first (`ends`). From a fresh start that is at most 2N + 62 + 8((N + 71) / 64) (Most, Shares): `ends-run`. Assumes nothing.
use mathlib.Core.Path.{◌≡◌, refl, sym, ◌∙◌}
use mathlib.Core.Bool.{Bool, true, false, not, and-false}
use mathlib.Core.List.{List, [], ◌∷◌, ◌++◌}
use Prim.Native.Nat.{ℕ, zero, suc, ◌+◌, ◌^◌, ◌≤◌, ◌<◌}
use native.Mathlib.Omega.{arith}
use lib.ListN.{length}
use borrow.Author.Tests.{lt-leb, le-ltb}
use Rattle.definition.specs.Base.{branch, listed}
use Rattle.definition.specs.Links.{is_tagged}
use Rattle.definition.specs.Bags.{max_objects}
use Rattle.definition.specs.Tables.{Tables}
use Rattle.definition.specs.Ranges.{is_rest, fresh}
use Rattle.definition.specs.Rule.{fails}
use Rattle.definition.specs.Step.{Out, answer_of, follow, rule_at, take_step, take_marked}
use Rattle.definition.specs.Public.{refusal, unless, the, running, absent, step_checks, step}
use Rattle.definition.proofs.Base.{same?}
use Rattle.theorems.specs.OnTables.{Event, does, after, advances}
use Rattle.theorems.proofs.Machine.{Machine, view}
use Rattle.theorems.proofs.Ghost.{Use, Ghost, G}
use Rattle.theorems.proofs.Invariant.{Fine}
use Rattle.theorems.proofs.Inv.{Inv, Steps, after_of, rule_of, stepped, stepped_ghost, view_step}
use Rattle.theorems.proofs.Linked.{free_unused}
use Rattle.theorems.proofs.Stored.{stored_step, never_damaged_lem, never_missing}
use Rattle.theorems.proofs.Checks.{passes-step}
use Rattle.theorems.proofs.Whole.{inv_step}
use Rattle.theorems.proofs.Runs.{Sound, sound-after, sound-fresh, fresh-epoch}
use Rattle.theorems.proofs.Late.{after_more, advances_more}
use Rattle.theorems.proofs.Ahead.{list_few, ahead_few, in_list, ahead}
use Rattle.theorems.proofs.Types.{Item, Participant, End, Answer}
use Rattle.alone.specs.Alone.{is_more, is_done, Ends, enough}
use Rattle.alone.proofs.Laws.{listed_grows}
use Rattle.alone.proofs.Stepped.{left_by, falls-step, still_runs}
use Rattle.alone.proofs.Most.{left_most}
use Rattle.alone.proofs.Shares.{shares-run}

-- ---- a step of who runs passes every check

-- a slot that is not in use is at rest
at_rest : (u : Use) (tag pinned : Bool) (o : Participant) (b : List Item) → u ≡ Use.unused → Fine u tag pinned o b → is_rest o.place ≡ true
unfolding Fine is_rest
at_rest Use.unused tag pinned o b e h = rw h.0 refl
at_rest Use.registering tag pinned o b e h = let z : ◌≡◌ {A = ℕ} 0 1 = cc in absurd (omega arith)
at_rest Use.linked tag pinned o b e h = let z : ◌≡◌ {A = ℕ} 0 1 = cc in absurd (omega arith)
at_rest Use.out tag pinned o b e h = let z : ◌≡◌ {A = ℕ} 0 1 = cc in absurd (omega arith)

-- so who runs has a slot that is not free
present : (N M p : ℕ) (t : Tables) (g : Ghost) → Inv N M (view t) g → p < N → running p t ≡ true → t.slot_free p ≡ false
unfolding running
present N M p t g inv hp run = by (t.slot_free p) refl
  where
    by : (b : Bool) → t.slot_free p ≡ b → b ≡ false
    by false e = refl
    by true e =
        let rest = at_rest (g.slot_use p) _ _ (the p t) _ (free_unused N (view t) g inv.records p hp e) (inv.records.fine p hp) in
        let z : false ≡ true = rw rest at run in
        sym z

passes : (N M places p : ℕ) (t : Tables) → Sound N M t → p < N → max_objects ≤ places → running p t ≡ true → refusal (step_checks N M places p t) ≡ 0
unfolding step_checks absent
passes N M places p t s hp long run = rw (
  never_damaged_lem N M t s.ghost s.inv s.stored,
  le-ltb places max_objects long,
  lt-leb N p hp,
  present N M p t s.ghost s.inv hp run,
  run,
  never_missing N M p t s.ghost s.inv hp,
  and-false (is_tagged (t.shared.entry_next p)),
) (unfold refusal branch in refl)

-- ---- one step

-- p runs, with the invariant, and has at most n steps left
pub record Has (N M p n : ℕ) (t : Tables) : Type 0 where
  pub sound : Sound N M t
  pub run : running p t ≡ true
  pub few : left_by N sound.ghost.slot_use sound.ghost.birth t.shared (the p t) ≤ n

-- what comes of a step: p is done, or goes on with at most n left
pub data Comes (N M p n : ℕ) (o : Out) : Type 0 where
  over : is_done o.answer ≡ true → Comes N M p n o
  onward : is_more o.answer ≡ true → Has N M p n o.tables → Comes N M p n o

done_is : (v n : ℕ) → is_done (answer_of (End.EndsWith v) n) ≡ true
unfolding is_done answer_of
done_is v n = refl

more_is : (n : ℕ) → is_more (answer_of End.GoesOn n) ≡ true
unfolding is_more answer_of
more_is n = refl

module _ (N M places p n : ℕ) (hp : p < N) (long : max_objects ≤ places) (t : Tables) (small : G (view t) < 2 ^ 62) (h : Has N M p n t) where
  abbrev s : Sound N M t
  s = h.sound

  -- it is the definition's, ..
  is_step : step N M false places p t ≡ take_step M p t
  unfolding step unless take_marked fails
  is_step = rw (passes N M places p t s hp long h.run) (unfold branch in refl)

  -- .. and the machine's
  moves : Steps N M p (view t)
  moves = passes-step N M places p t s.ghost s.inv small (passes N M places p t s hp long h.run)

  -- the invariant after it, with the ghost that goes along
  unfoldable next : Sound N M (take_step M p t).tables
  next = record {
    ghost = stepped_ghost M p (view t) s.ghost;
    inv = rw (view_step M p t) (inv_step N M p (view t) s.ghost s.inv moves);
    stored = stored_step N M p t s.ghost s.inv moves s.stored;
  }

  -- it leaves fewer
  abbrev leaves : Machine → ℕ
  leaves m = left_by N (stepped_ghost M p (view t) s.ghost).slot_use (stepped_ghost M p (view t) s.ghost).birth m.shared (m.own p)

  pub fewer : leaves (view (take_step M p t).tables) + 1 ≤ n
  fewer = by (view (take_step M p t).tables) (view_step M p t)
    where
      by : (m : Machine) → m ≡ stepped M p (view t) → leaves m + 1 ≤ n
      by m e = rw e (let f = falls-step N M p (view t) s.ghost s.inv moves in let k = h.few in omega arith)

  -- what goes on still runs
  still : (after_of M p (view t)).end ≡ End.GoesOn → running p (take_step M p t).tables ≡ true
  unfolding running
  still e = by (view (take_step M p t).tables) (view_step M p t)
    where
      by : (m : Machine) → m ≡ stepped M p (view t) → not (is_rest (m.own p).place) ≡ true
      by m i = rw (i, still_runs N M p (view t) s.ghost s.inv moves e) refl

  -- its answer is that of its end
  answer_is : (take_step M p t).answer ≡ answer_of (after_of M p (view t)).end (length (take_step M p t).freed)
  unfolding take_step follow after_of rule_of rule_at
  answer_is = refl

  pub one_step : (k : ℕ) → n ≡ suc k → Comes N M p k (step N M false places p t)
  unfolding next
  one_step k is = rw is_step (by (after_of M p (view t)).end refl)
    where
      by : (x : End) → (after_of M p (view t)).end ≡ x → Comes N M p k (take_step M p t)
      by (End.EndsWith v) e = Comes.over (rw (answer_is, e) (done_is v (length (take_step M p t).freed)))
      by End.GoesOn e = Comes.onward (rw (answer_is, e) (more_is (length (take_step M p t).freed))) (record { sound = next; run = still e; few = let f = fewer in omega arith })

-- ---- the steps alone

-- k steps of p, none of them marked; `places i` is the number of places that the one after i others lends for freed tokens
abbrev pub alone : (p : ℕ) (places : ℕ → ℕ) (k : ℕ) → List Event
alone p places k = listed k (λ i. Event.steps false (places i) p)

module _ (N M p : ℕ) (places : ℕ → ℕ) where
  -- the tables after k of them, and the answer of the next
  abbrev pub tables_at : Tables → ℕ → Tables
  tables_at t k = after N M (alone p places k) t

  abbrev pub answer_at : Tables → ℕ → Answer
  answer_at t k = (does N M (Event.steps false (places k) p) (tables_at t k)).answer

  -- one more
  one_more : (k : ℕ) (t : Tables) → tables_at t (suc k) ≡ (step N M false (places k) p (tables_at t k)).tables
  unfolding listed
  one_more k t = after_more N M (alone p places k) (Event.steps false (places k) p ∷ []) t ∙ (unfold after does in refl)

  -- fewer steps, no more advances
  fewer_advances : (j k : ℕ) (t : Tables) → j ≤ k → advances N M (alone p places j) t ≤ advances N M (alone p places k) t
  fewer_advances j k t le = listed_grows (λ l. advances N M l t) (λ i. Event.steps false (places i) p) (λ l v. let e = advances_more N M l (v ∷ []) t in omega arith) j k le

  module _ (hp : p < N) (long : (i : ℕ) → max_objects ≤ places i) (bound : ℕ) (t : Tables) (h : Has N M p bound t)
      (short : G (view t) + advances N M (alone p places bound) t < 2 ^ 62) where
    small : (k : ℕ) → k ≤ bound → G (view (tables_at t k)) < 2 ^ 62
    small k le =
        let a = fewer_advances k bound t le in
        let g = (sound-after N M (alone p places k) t h.sound (omega arith)).1 in
        omega arith

    -- after k steps p is done, or each of them answered more, and the bound is as much less
    data After (k : ℕ) : Type 0 where
      over : Ends (answer_at t) k → After k
      goes_on : ((i : ℕ) → i < k → is_more (answer_at t i) ≡ true) → (n : ℕ) → n + k ≡ bound → Has N M p n (tables_at t k) → After k

    -- one step more
    later : (k : ℕ) → k + 1 ≤ bound → After k → After (suc k)
    later k le (After.over e) = After.over (record { others = e.others; within = let w = e.within in omega arith; more = e.more; done = e.done })
    later k le (After.goes_on more zero is had) = absurd (omega arith)
    later k le (After.goes_on more (suc n) is had) = by (one_step N M (places k) p (suc n) hp (long k) (tables_at t k) (small k (omega arith)) had n refl)
      where
        by : Comes N M p n (step N M false (places k) p (tables_at t k)) → After (suc k)
        by (Comes.over d) = After.over (record { others = k; within = omega arith; more = more; done = unfold does in d })
        by (Comes.onward d has) = After.goes_on (λ i lt. same? i k (λ z. rw z (unfold does in d)) (λ ne. more i (omega arith))) n (omega arith) (rw (one_more k t) has)

    so_far : (k : ℕ) → k ≤ bound → After k
    so_far zero le = After.goes_on (λ i lt. absurd (omega arith)) bound (omega arith) (unfold listed after in h)
    so_far (suc k) le = later k (omega arith) (so_far k (omega arith))

    -- and after as many as the bound it is done, for none is left
    pub ends : Ends (answer_at t) bound
    ends = by (so_far bound (omega arith))
      where
        by : After bound → Ends (answer_at t) bound
        by (After.over e) = e
        by (After.goes_on more n is had) = let f = fewer N M (places bound) p n hp (long bound) (tables_at t bound) (small bound (omega arith)) had in absurd (omega arith)

-- ---- from a fresh start

pub ends-run : (N M : ℕ) → 1 ≤ N → 2 ≤ M → (l : List Event) (p : ℕ) (places : ℕ → ℕ) → p < N → ((i : ℕ) → max_objects ≤ places i)
    → advances N M (l ++ alone p places (enough N)) (fresh N M) < 2 ^ 62 → running p (after N M l (fresh N M)) ≡ true → Ends (answer_at N M p places (after N M l (fresh N M))) (enough N)
ends-run N M h_n h_m l p places hp long short run =
    let t = after N M l (fresh N M) in
    let e = advances_more N M l (alone p places (enough N)) (fresh N M) in
    let zero = fresh-epoch N M in
    let k = sound-after N M l (fresh N M) (sound-fresh N M h_n h_m) (omega arith) in
    let s = k.0 in
    let g = k.1 in
    let share = (shares-run N M h_n h_m l (omega arith)).most p hp in
    let u = s.ghost.slot_use in
    let birth = s.ghost.birth in
    let most = left_most N M (in_list N u) (ahead N u birth) (list_few N u) (ahead_few N u birth) t.shared (the p t) (s.inv.ranged.places p hp) in
    ends N M p places hp long (enough N) t (record { sound = s; run = run; few = omega arith }) (omega arith)
