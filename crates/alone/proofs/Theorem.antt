-- Request No. 11, nobody gets stuck: specs/Alone, on lent lists. The steps alone on lists are steps alone on tables (crates/theorems, proofs/Lent: a run on
-- lists is a run on tables), and there it is Alone. `sharp` is what is proved, `nobody_stuck` the bound that was asked, which is larger for every N. Assumes nothing.
use mathlib.Core.Path.{◌≡◌, refl, ap, ◌∙◌}
use mathlib.Core.Bool.{false}
use mathlib.Core.List.{List, [], ◌∷◌, ◌++◌}
use Prim.Native.Nat.{ℕ, zero, suc, ◌≤◌}
use native.Mathlib.Omega.{arith}
use lib.ListN.{length}
use Rattle.definition.specs.Base.{listed}
use Rattle.definition.specs.Tables.{Tables}
use Rattle.definition.specs.Ranges.{fresh}
use Rattle.definition.specs.Layout.{Lent}
use Rattle.definition.specs.Public.{start_lent}
use Rattle.theorems.specs.Events.{Event}
use Rattle.theorems.specs.Events as S
use Rattle.theorems.specs.Statement.{reached, started, Short}
use Rattle.theorems.specs.OnTables as On
use Rattle.theorems.proofs.Lent.{tabled, on_tables, tabled_more, advances_more, carries_step}
use Rattle.theorems.proofs.Late as Late
use Rattle.theorems.proofs.Back.{tables_back}
use Rattle.theorems.proofs.Theorem.{start, at, few, clean, sound, reaches, limits-say}
use Rattle.theorems.proofs.Types.{Answer}
use Rattle.alone.specs.Alone.{alone, answer, Ends, EndsWithin, asked, Asked, enough, Sharp}
use Rattle.alone.proofs.Laws.{listed_grows}
use Rattle.alone.proofs.Alone as T

-- the steps alone, on tables
tabled-alone : (p : ℕ) (lends : ℕ → List ℕ) (k : ℕ) → tabled (alone p lends k) ≡ T.alone p (λ i. length (lends i)) k
unfolding alone listed tabled on_tables
tabled-alone p lends zero = refl
tabled-alone p lends (suc k) = tabled_more (alone p lends k) (Event.steps p false (lends k) ∷ [])
    ∙ ap (λ (l : List On.Event). l ++ On.Event.steps false (length (lends k)) p ∷ []) (tabled-alone p lends k)

module _ (N M : ℕ) (l : Lent) (ok : (start_lent N M l).answer ≡ Answer.Done 0 0) (run : List Event) (p : ℕ) (lends : ℕ → List ℕ) where
  abbrev places : ℕ → ℕ
  places i = length (lends i)

  -- fewer steps, no more advances
  short_at : (j k : ℕ) → j ≤ k → Short N M l (run ++ alone p lends k) → Short N M l (run ++ alone p lends j)
  unfolding alone
  short_at j k le short =
      let a = advances_more N M run (alone p lends j) (started N M l) in
      let b = advances_more N M run (alone p lends k) (started N M l) in
      let g = listed_grows (λ v. S.advances N M v (reached N M l run)) (λ i. Event.steps p false (lends i))
      (λ v x. let e = advances_more N M v (x ∷ []) (reached N M l run) in omega arith) j k le in
      omega arith

  short_run : (k : ℕ) → Short N M l (run ++ alone p lends k) → Short N M l run
  short_run k short = let a = advances_more N M run (alone p lends k) (started N M l) in omega arith

  -- the run with the steps alone is, on tables, the run and then the steps alone
  both_tabled : (k : ℕ) → tabled (run ++ alone p lends k) ≡ tabled run ++ T.alone p places k
  both_tabled k = tabled_more run (alone p lends k) ∙ ap (λ (v : List On.Event). tabled run ++ v) (tabled-alone p lends k)

  at_after : (k : ℕ) → at N M l ok (run ++ alone p lends k) ≡ T.tables_at N M p places (at N M l ok run) k
  at_after k = rw (both_tabled k) (Late.after_more N M (tabled run) (T.alone p places k) (fresh N M))

  -- and the answers are the same
  answers_same : (i : ℕ) → Short N M l (run ++ alone p lends i) → answer N M l run p lends i ≡ T.answer_at N M p places (at N M l ok run) i
  answers_same i short =
      let s = sound N M l ok (run ++ alone p lends i) short in
      ap (λ (x : Lent). (S.does N M (Event.steps p false (lends i)) x).answer) (reaches N M l ok (run ++ alone p lends i) short)
      ∙ (carries_step N M (start N M l ok).limits (at N M l ok (run ++ alone p lends i)) s.0 (clean N M l ok (run ++ alone p lends i) short) s.1 p false (lends i)).answer
      ∙ ap (λ (t : Tables). (On.does N M (On.Event.steps false (places i) p) t).answer) (at_after i)

  on_lists : (bound : ℕ) → Short N M l (run ++ alone p lends bound) → Ends (T.answer_at N M p places (at N M l ok run)) bound → Ends (answer N M l run p lends) bound
  on_lists bound short e =
      let most = e.within in
      record {
        others = e.others;
        within = omega arith;
        more = λ i lt. rw (answers_same i (short_at i bound (omega arith) short)) (e.more i lt);
        done = rw (answers_same e.others (short_at e.others bound (omega arith) short)) e.done;
      }

-- done within 2N + 62 + 8((N + 71) / 64) steps
pub sharp : Sharp
sharp N M l ok run p hp runs lends long short =
    let first = short_run N M l ok run p lends (enough N) short in
    let limits = limits-say N M (start N M l ok).limits in
    on_lists N M l ok run p lends (enough N) short
    (T.ends-run N M limits.0 limits.1 (tabled run) p (λ i. length (lends i)) hp (λ i. omega (arith, long i))
    (rw (← both_tabled N M l ok run p lends (enough N)) (few N M l ok (run ++ alone p lends (enough N)) short))
    (rw (reaches N M l ok run first, tables_back N M (at N M l ok run) (clean N M l ok run first)) at runs))

-- a larger bound holds, too
wider : (f g : ℕ → ℕ) → ((N : ℕ) → f N ≤ g N) → EndsWithin f → EndsWithin g
wider f g le ends N M l ok run p hp runs lends long short =
    let e = ends N M l ok run p hp runs lends long (short_at N M l ok run p lends (f N) (g N) (le N) short) in
    let w = e.within in
    let b = le N in
    record { others = e.others; within = omega arith; more = e.more; done = e.done }

-- within 4N + 384: the request
pub nobody_stuck : Asked
nobody_stuck = wider enough asked (λ N. omega arith) sharp
