-- A run on lent lists is a run on tables. From a start that was not refused the lists hold, at every point of a run, just the tables that the
-- definition's run reaches, with nothing beyond their ends (Clean), so nothing is lost between two calls (Back). A survey changes nothing and
-- is left out (`tabled`). Whatever the statement counts along the one run it counts along the other (`Same`). Assumes nothing.
use mathlib.Core.Path.{◌≡◌, refl, ap, ◌∙◌}
use mathlib.Core.Bool.{Bool, true}
use mathlib.Core.List.{List, [], ◌∷◌, ◌++◌}
use Prim.Native.Nat.{ℕ, ◌+◌, ◌^◌, ◌<◌}
use native.Mathlib.Omega.{arith}
use native.Mathlib.Nat.{zero-add}
use lib.Dec.{eqb}
use lib.ListN.{length, drop, length-append}
use lib.Seq.{take-append_seam, take-nil}
use borrow.Author.Tests.{eq-eqb}
use Rattle.definition.specs.Base.{branch, Tab, listed}
use Rattle.definition.specs.Calls.{opens}
use Rattle.definition.specs.Bags.{max_objects}
use Rattle.definition.specs.Tables.{Shared, Tables}
use Rattle.definition.specs.Ranges.{bit_words, within_limits}
use Rattle.definition.specs.Layout.{Lent, sized, bits_word, global_words, participant_words, node_words, lent_of}
use Rattle.definition.specs.Step.{Out, answer_of, follow, take_step}
use Rattle.definition.specs.Public.{Outcome, call, register, step, refused, enrolled, lending, given, register_lent, call_lent, step_lent}
use Rattle.definition.specs.Survey.{survey_lent}
use Rattle.definition.proofs.Base.{and_intro}
use Rattle.theorems.specs.Waiting.{times}
use Rattle.theorems.specs.Order.{bags}
use Rattle.theorems.specs.Events.{Event, frees, number, words}
use Rattle.theorems.specs.Events as S
use Rattle.theorems.specs.OnTables as On
use Rattle.theorems.proofs.Machine.{Machine, view, followed}
use Rattle.theorems.proofs.Frames.{works-word}
use Rattle.theorems.proofs.Inv.{called, view_call}
use Rattle.theorems.proofs.Ghost.{G}
use Rattle.theorems.proofs.Runs.{Happens, happens, Sound, sound-does, epoch-does}
use Rattle.theorems.proofs.Leaving.{linked_none, left_none, turns_same}
use Rattle.theorems.proofs.Back.{Clean, tables_back, length-listed, length-rows, row, node_row, row_even, node_even}
use Rattle.theorems.proofs.Clean.{does_clean}
use Rattle.theorems.proofs.Types.{End, Call, Answer}
use Rattle.definition.specs.declared.Report.{Report}

-- ---- events

-- the same event on tables; a survey is none
unfoldable pub on_tables : Event → List On.Event
on_tables (Event.steps p marked places) = On.Event.steps marked (length places) p ∷ []
on_tables Event.registers = On.Event.registers ∷ []
on_tables (Event.calls p c) = On.Event.calls p c ∷ []
on_tables (Event.surveys reports) = []

unfoldable pub tabled : List Event → List On.Event
tabled [] = []
tabled (v ∷ run) = on_tables v ++ tabled run

pub tabled_more : (a b : List Event) → tabled (a ++ b) ≡ tabled a ++ tabled b
unfolding tabled on_tables
tabled_more [] b = refl
tabled_more (Event.steps p marked places ∷ a) b = ap (λ l. On.Event.steps marked (length places) p ∷ l) (tabled_more a b)
tabled_more (Event.registers ∷ a) b = ap (λ l. On.Event.registers ∷ l) (tabled_more a b)
tabled_more (Event.calls p c ∷ a) b = ap (λ l. On.Event.calls p c ∷ l) (tabled_more a b)
tabled_more (Event.surveys reports ∷ a) b = tabled_more a b

-- the changes of the global epoch in two runs, one after the other
pub advances_more : (N M : ℕ) (a b : List Event) (l : Lent) → S.advances N M (a ++ b) l ≡ S.advances N M a l + S.advances N M b (S.after N M a l)
unfolding S.advances S.after
advances_more N M [] b l = omega arith
advances_more N M (v ∷ a) b l = let e = advances_more N M a b (S.does N M v l).lent in omega arith

-- ---- the lists that hold tables

-- are of the right sizes
pub lent-sized : (N M : ℕ) (t : Tables) → sized N M (lent_of N M t) ≡ true
unfolding sized lent_of global_words
lent-sized N M t = and_intro _ _ (and_intro _ _ (and_intro _ _ (and_intro _ _
    (eq-eqb _ _ globals)
    (eq-eqb _ _ (length-rows participant_words (row N M t) (row_even N M t) N)))
    (eq-eqb _ _ (length-rows node_words (node_row N M t) (node_even N M t) M)))
    (eq-eqb _ _ (length-rows max_objects (λ i. listed max_objects (t.held i)) (λ i. length-listed max_objects (t.held i)) N)))
    (eq-eqb _ _ (length-rows max_objects (λ n. listed max_objects (t.bag n).deferreds) (λ n. length-listed max_objects (t.bag n).deferreds) M))
  where
    globals : length (lent_of N M t).globals ≡ 5 + bit_words N + bit_words M
    globals = rw (
      length-append (listed (bit_words N) (bits_word t.slot_free)) (listed (bit_words M) (bits_word t.node_free)),
      length-listed (bit_words N) (bits_word t.slot_free),
      length-listed (bit_words M) (bits_word t.node_free),
    ) (omega arith)

-- ---- one event

-- what is to be shown of an outcome: it is what comes of the tables, the tokens at the front of their list
pub record Carries (N M : ℕ) (o : Outcome) (out : Out) : Type 0 where
  pub lent : o.lent ≡ lent_of N M out.tables
  pub answer : o.answer ≡ out.answer
  pub tokens : frees o ≡ out.freed

-- what comes out of the tables, by its answer
module _ (N M : ℕ) (places : List ℕ) where
  carries_refused : (r : ℕ) (t : Tables) → Carries N M (given N M (lent_of N M t) places (Answer.Refused r) (refused r t)) (refused r t)
  unfolding given
  carries_refused r t = record { lent = refl; answer = refl; tokens = unfold frees number in refl }

  carries_end : (l : Lent) (e : End) (t : Tables) (fr : List ℕ) → let out : Out = record { tables = t; answer = answer_of e (length fr); freed = fr } in
      Carries N M (given N M l places out.answer out) out
  unfolding given answer_of
  carries_end l End.GoesOn t fr = record { lent = refl; answer = refl; tokens = unfold frees number in (take-append_seam fr (drop (length fr) places)) }
  carries_end l (End.EndsWith v) t fr = record { lent = refl; answer = refl; tokens = unfold frees number in (take-append_seam fr (drop (length fr) places)) }

  carries_happens : {t : Tables} {v : On.Event} {out : Out} → Happens N M t v out → Carries N M (given N M (lent_of N M t) places out.answer out) out
  carries_happens {t = t} (Happens.refuses r h) = carries_refused r t
  carries_happens {t = t} (Happens.goes s) = unfold take_step follow in (carries_end (lent_of N M t) _ _ _)
  carries_happens {t = t} (Happens.misses s) = unfold answer_of in (carries_end (lent_of N M t) End.GoesOn _ [])
  carries_happens {t = t} (Happens.calls ca) = unfold follow in (carries_end (lent_of N M t) _ _ _)
  carries_happens {t = t} (Happens.enrols re) = unfold enrolled answer_of in (carries_end (lent_of N M t) End.GoesOn _ [])

-- a call changes no participant's word: it makes no access
call_keeps : (N M p d : ℕ) (c : Call) (t : Tables) (out : Out) → Happens N M t (On.Event.calls p c) out → (view out.tables).shared.word d ≡ t.shared.word d
call_keeps N M p d c t out (Happens.refuses r h) = refl
call_keeps N M p d c t out (Happens.calls ca) = ap (λ (m : Machine). m.shared.word d) (view_call N p c t)
    ∙ (unfold called followed in (ap (λ (w : Tab ℕ). w d) (works-word p (view t) (opens N c ((view t).own p)).work)))

module _ (N M : ℕ) (limits : within_limits N M ≡ true) where
  -- lists of the right sizes are read, and what comes out goes back
  lending_is : (t : Tables) → Clean N M t → (places : List ℕ) (f : Tables → Out) → lending N M (lent_of N M t) places f ≡ given N M (lent_of N M t) places (f t).answer (f t)
  unfolding lending
  lending_is t clean places f = rw (limits, lent-sized N M t, tables_back N M t clean) (unfold branch in refl)

  -- one event and the same on tables
  module _ (t : Tables) (s : Sound N M t) (clean : Clean N M t) (small : G (view t) < 2 ^ 62) where
    abbrev l : Lent
    l = lent_of N M t

    pub carries_step : (p : ℕ) (marked : Bool) (places : List ℕ) → Carries N M (S.does N M (Event.steps p marked places) l) (On.does N M (On.Event.steps marked (length places) p) t)
    unfolding S.does step_lent
    carries_step p marked places = rw (lending_is t clean places (step N M marked (length places) p))
        (unfold On.does in (carries_happens N M places (happens N M t s.ghost s.inv s.stored small (On.Event.steps marked (length places) p))))

    pub carries_register : Carries N M (S.does N M Event.registers l) (On.does N M On.Event.registers t)
    unfolding S.does register_lent
    carries_register = rw (lending_is t clean [] (register N M))
        (unfold On.does in (carries_happens N M [] (happens N M t s.ghost s.inv s.stored small On.Event.registers)))

    pub carries_call : (p : ℕ) (c : Call) → Carries N M (S.does N M (Event.calls p c) l) (On.does N M (On.Event.calls p c) t)
    unfolding S.does call_lent
    carries_call p c = rw (lending_is t clean [] (call N M p c))
        (unfold On.does in (carries_happens N M [] (happens N M t s.ghost s.inv s.stored small (On.Event.calls p c))))

-- ---- a run

-- what the statement says of a run from the lists that hold t is what is said of the run on tables from t
pub record Same (N M : ℕ) (run : List Event) (t : Tables) : Type 0 where
  pub after : S.after N M run (lent_of N M t) ≡ lent_of N M (On.after N M (tabled run) t)
  pub advances : S.advances N M run (lent_of N M t) ≡ On.advances N M (tabled run) t
  pub retired : (x : ℕ) → S.retired N M x run (lent_of N M t) ≡ On.retired N M x (tabled run) t
  pub freed : (x : ℕ) → S.freed N M x run (lent_of N M t) ≡ On.freed N M x (tabled run) t
  pub changes : (d : ℕ) → S.changes N M d run (lent_of N M t) ≡ On.changes N M d (tabled run) t
  pub links : S.links N M run (lent_of N M t) ≡ On.links N M (tabled run) t
  pub leaves : S.leaves N M run (lent_of N M t) ≡ On.leaves N M (tabled run) t

-- the words in the lists are those of the tables
pub words_back : (N M : ℕ) (t : Tables) → Clean N M t → words N M (lent_of N M t) ≡ t.shared
words_back N M t clean = ap (λ (u : Tables). u.shared) (tables_back N M t clean)

module _ (N M : ℕ) where
  same_none : (t : Tables) → Same N M [] t
  unfolding tabled S.after S.advances S.retired S.freed S.changes S.links S.leaves On.after On.advances On.retired On.freed On.changes On.links On.leaves
  same_none t = record { after = refl; advances = refl; retired = λ x. refl; freed = λ x. refl; changes = λ d. refl; links = refl; leaves = refl }

  -- one event more
  module _ (v : Event) (v' : On.Event) (run : List Event) (t : Tables) (pair : on_tables v ≡ v' ∷ []) (counts : (x : ℕ) (a : Answer) → S.accepts x v a ≡ On.accepts x v' a)
      (one : Carries N M (S.does N M v (lent_of N M t)) (On.does N M v' t)) (clean : Clean N M t) (clean' : Clean N M (On.does N M v' t).tables) where
    abbrev t' : Tables
    t' = (On.does N M v' t).tables

    same_more : Same N M run t' → Same N M (v ∷ run) t
    unfolding tabled S.after S.advances S.retired S.freed S.changes S.links S.leaves On.after On.advances On.retired On.freed On.changes On.links On.leaves
    same_more k = record {
      after = rw (pair, one.lent) k.after;
      advances = rw (pair, one.lent, words_back N M t clean, words_back N M t' clean', k.advances) refl;
      retired = λ x. rw (pair, one.lent, one.answer, counts x (On.does N M v' t).answer, k.retired x) refl;
      freed = λ x. rw (pair, one.tokens, one.lent, k.freed x) refl;
      changes = λ d. rw (pair, one.lent, words_back N M t clean, words_back N M t' clean', k.changes d) refl;
      links = rw (pair, one.lent, words_back N M t clean, words_back N M t' clean', tables_back N M t' clean', k.links) refl;
      leaves = rw (pair, one.lent, words_back N M t clean, words_back N M t' clean', tables_back N M t' clean', k.leaves) refl;
    }

  -- a survey more
  module _ (reports : List Report) (run : List Event) (t : Tables) where
    abbrev w : Shared
    w = words N M (lent_of N M t)

    same_survey : Same N M run t → Same N M (Event.surveys reports ∷ run) t
    unfolding tabled on_tables S.does S.after S.advances S.retired S.freed S.changes S.links S.leaves S.accepts
    same_survey k = record {
      after = k.after;
      advances = rw (eq-eqb w.global_epoch w.global_epoch refl) (unfold branch in (zero-add _ ∙ k.advances));
      retired = λ x. zero-add _ ∙ k.retired x;
      freed = λ x. unfold frees in (rw (take-nil {A = ℕ} (number (survey_lent N M (lent_of N M t) reports).answer)) (unfold times in (zero-add _ ∙ k.freed x)));
      changes = λ d. rw (eq-eqb (w.word d) (w.word d) refl) (unfold branch in (zero-add _ ∙ k.changes d));
      links = rw (linked_none M w w (λ x _. turns_same w w x refl)) (unfold bags in k.links);
      leaves = rw (left_none w w refl) (unfold bags in k.leaves);
    }

module _ (N M : ℕ) (limits : within_limits N M ≡ true) where
  -- the run after a survey
  fewer : (reports : List Report) (run : List Event) (t : Tables) → G (view t) + S.advances N M (Event.surveys reports ∷ run) (lent_of N M t) < 2 ^ 62
      → G (view t) + S.advances N M run (lent_of N M t) < 2 ^ 62
  unfolding S.advances S.does
  fewer reports run t lt = omega arith

  -- an event more, with the run from there
  same_other : (v : Event) (v' : On.Event) (run : List Event) (t : Tables) → Sound N M t → Clean N M t → G (view t) + S.advances N M (v ∷ run) (lent_of N M t) < 2 ^ 62
      → on_tables v ≡ v' ∷ [] → ((x : ℕ) (a : Answer) → S.accepts x v a ≡ On.accepts x v' a) → Carries N M (S.does N M v (lent_of N M t)) (On.does N M v' t)
      → ((u : Tables) → Sound N M u → Clean N M u → G (view u) + S.advances N M run (lent_of N M u) < 2 ^ 62 → Same N M run u) → Same N M (v ∷ run) t
  same_other v v' run t s clean lt pair counts one more =
      let t' : Tables = (On.does N M v' t).tables in
      let small : G (view t) < 2 ^ 62 = omega arith in
      let clean' : Clean N M t' = does_clean N M t s clean small v' in
      let up = epoch-does N M t s small v' in
      let e : S.advances N M (v ∷ run) (lent_of N M t) ≡ branch (eqb t'.shared.global_epoch t.shared.global_epoch) 0 1 + S.advances N M run (lent_of N M t')
      = unfold S.advances in (rw (one.lent, words_back N M t clean, words_back N M t' clean') refl) in
      same_more N M v v' run t pair counts one clean clean' (more t' (sound-does N M t s small v') clean' (omega arith))

  -- any run of few advances
  pub same : (run : List Event) (t : Tables) → Sound N M t → Clean N M t → G (view t) + S.advances N M run (lent_of N M t) < 2 ^ 62 → Same N M run t
  same [] t s clean lt = same_none N M t
  same (Event.surveys reports ∷ run) t s clean lt = same_survey N M reports run t (same run t s clean (fewer reports run t lt))
  same (Event.registers ∷ run) t s clean lt = same_other Event.registers On.Event.registers run t s clean lt (unfold on_tables in refl) (λ x a. unfold S.accepts On.accepts in refl)
      (carries_register N M limits t s clean (omega arith)) (λ u su cu. same run u su cu)
  same (Event.calls p c ∷ run) t s clean lt = same_other (Event.calls p c) (On.Event.calls p c) run t s clean lt (unfold on_tables in refl) (λ x a. unfold S.accepts On.accepts in refl)
      (carries_call N M limits t s clean (omega arith) p c) (λ u su cu. same run u su cu)
  same (Event.steps p marked places ∷ run) t s clean lt = same_other (Event.steps p marked places) (On.Event.steps marked (length places) p) run t s clean lt
      (unfold on_tables in refl) (λ x a. unfold S.accepts On.accepts in refl)
      (carries_step N M limits t s clean (omega arith) p marked places) (λ u su cu. same run u su cu)

  -- a call leaves every participant's word in the lists as it was
  pub words-kept : (t : Tables) → Sound N M t → Clean N M t → G (view t) < 2 ^ 62 → (p d : ℕ) (c : Call)
      → (words N M (S.does N M (Event.calls p c) (lent_of N M t)).lent).word d ≡ (words N M (lent_of N M t)).word d
  words-kept t s clean small p d c =
      let t' : Tables = (On.does N M (On.Event.calls p c) t).tables in
      rw ((carries_call N M limits t s clean small p c).lent, words_back N M t clean, words_back N M t' (does_clean N M t s clean small (On.Event.calls p c)))
      (call_keeps N M p d c t _ (happens N M t s.ghost s.inv s.stored small (On.Event.calls p c)))
