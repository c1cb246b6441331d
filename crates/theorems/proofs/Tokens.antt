-- The balance of every token along every run: accepted retirements are frees and what waits. Balance has it for one move of the machine, with the bags
-- of all nodes; here it is carried over to the definition's events and to whole runs, and Counted says that only the bags that the statement counts
-- hold anything. Assumes nothing.
use mathlib.Core.Path.{◌≡◌, refl, ◌∙◌}
use mathlib.Core.List.{List, [], ◌∷◌}
use Prim.Native.Nat.{ℕ, ◌+◌, ◌^◌, ◌≤◌, ◌<◌}
use native.Mathlib.Omega.{arith}
use Rattle.definition.specs.Base.{branch, Tab}
use Rattle.definition.specs.Bags.{items, tokens}
use Rattle.definition.specs.Flow as Flow
use Rattle.definition.specs.Tables.{Tables}
use Rattle.definition.specs.Tables as T
use Rattle.definition.specs.Codec.{participant_of}
use Rattle.definition.specs.Calls.{opens}
use Rattle.definition.specs.Ranges.{fresh}
use Rattle.definition.specs.Rule.{asks, follows, sees, leaves}
use Rattle.definition.specs.Step.{Out, in_bag, freed_by, answer_of, follow, rule_at, take_step}
use Rattle.definition.specs.Public.{the, enrolled}
use Rattle.definition.proofs.Base.{sum_ext}
use Rattle.theorems.specs.OnTables.{Event, does, after, advances, accepts, retired, freed}
use Rattle.theorems.specs.Waiting.{times, waits_at, taken_node, popped_node, in_own, in_node, carried, waiting_with, waiting_queued, waiting, defers, if_accepted}
use Rattle.theorems.proofs.Machine.{view}
use Rattle.theorems.proofs.Ghost.{Ghost, G}
use Rattle.theorems.proofs.Invariant.{waiting_item, same_item, has, occurs, waits}
use Rattle.theorems.proofs.Invariant as Inv'
use Rattle.theorems.proofs.Inv.{Inv, after_of, rule_of, view_step, view_call, view_back}
use Rattle.theorems.proofs.Moves.{gained_by}
use Rattle.theorems.proofs.Balance.{freed_items, tokens-times, accepted_by, tokens-step, tokens-call, balance-register}
use Rattle.theorems.proofs.Start.{nothing-waits}
use Rattle.theorems.proofs.Checks.{view_register}
use Rattle.theorems.proofs.Misses.{occurs_misses}
use Rattle.theorems.proofs.Runs.{Happens, happens, Sound, sound-does, epoch-does, sound-fresh, fresh-epoch}
use Rattle.theorems.proofs.Popped.{Along, along-run}
use Rattle.theorems.proofs.Counted.{sum_plus, all_counted}
use Rattle.theorems.proofs.Types.{Item, Deferring, Then, Place, Work, End, Call, Answer}

-- ---- the words of the statement are those of the proofs

-- a token that waits
waits_same : (x : ℕ) (pl : Place) → waits_at x pl ≡ waits (Item.Token x) (waiting_item pl)
unfolding waits_at waits waiting_item Flow.waiting same_item branch
waits_same x Place.Rest = refl
waits_same x (Place.Register a) = refl
waits_same x (Place.PinEpoch k) = refl
waits_same x (Place.PinWord k e) = refl
waits_same x (Place.Repin a) = refl
waits_same x Place.UnpinWord = refl
waits_same x (Place.AdvanceEpoch k) = refl
waits_same x (Place.Walk t a) = refl
waits_same x (Place.AdvanceWord t curr succ) = refl
waits_same x (Place.AdvanceStore t) = refl
waits_same x (Place.Pop p a) = refl
waits_same x (Place.Push (Then.Defer (Deferring.Token y)) a) = refl
waits_same x (Place.Push (Then.Defer (Deferring.Slot t c succ)) a) = refl
waits_same x (Place.Push (Then.Defer (Deferring.Node p head next)) a) = refl
waits_same x (Place.Push Then.Flush a) = refl
waits_same x (Place.Push Then.Finalize a) = refl
waits_same x Place.FinalWord = refl
waits_same x Place.FinalTag = refl

-- all that waits: what the statement counts is what occurs, since every bag that holds something is counted once (Counted)
waiting_is : (N M x : ℕ) (t : Tables) → Along N M t → waiting N M x t ≡ occurs N M (view t) (Item.Token x)
unfolding waiting waiting_with waiting_queued in_own occurs has
waiting_is N M x t k =
    let pl : Tab Place = λ q. (the q t).place in
    let mine : Tab ℕ = λ q. times x (tokens (items (t.own q).held (t.held q))) + waits_at x (pl q) in
    let taken : Tab ℕ = λ q. carried (in_node x t) (taken_node (pl q)) in
    let popped : Tab ℕ = λ q. carried (in_node x t) (popped_node (pl q)) in
    let a = sum_plus N mine taken in
    let b = sum_plus N (λ q. mine q + taken q) popped in
    let c = all_counted N M (view t) k.ghost k.inv k.popped (in_node x t) (λ n e. unfold in_node in (tokens-times x (items (t.bag n).len (t.bag n).deferreds) ∙ (rw e (unfold Inv'.times in refl)))) in
    let d = sum_ext N mine (λ q. Inv'.times (Item.Token x) ((view t).held q) + waits (Item.Token x) (waiting_item ((view t).own q).place))
    (λ q _. rw (tokens-times x (items (t.own q).held (t.held q)), waits_same x (the q t).place) refl) in
    let e = sum_ext M (in_node x t) (λ n. Inv'.times (Item.Token x) ((view t).bag n).holds) (λ n _. unfold in_node in (tokens-times x (items (t.bag n).len (t.bag n).deferreds))) in
    omega arith

-- what a work frees
freed_view : (w : Work) (t : Tables) → freed_by w t ≡ tokens (freed_items w (view t).bag)
unfolding freed_by freed_items in_bag tokens
freed_view Work.Nothing t = refl
freed_view (Work.Put i) t = refl
freed_view (Work.PutThenFree i n) t = refl
freed_view (Work.Seal n e) t = refl

-- a call that is not refused is accepted
answer_accepted : (k : ℕ) (e : End) (n : ℕ) → if_accepted k (answer_of e n) ≡ k
unfolding if_accepted answer_of
answer_accepted k End.GoesOn n = refl
answer_accepted k (End.EndsWith v) n = refl

-- a call that defers the token
defers_same : (x : ℕ) (c : Call) → defers x c ≡ accepted_by x c
unfolding defers accepted_by waits gained_by same_item branch
defers_same x Call.Acquire = refl
defers_same x Call.Release = refl
defers_same x Call.Pin = refl
defers_same x Call.Unpin = refl
defers_same x Call.Repin = refl
defers_same x (Call.Defer y) = refl
defers_same x Call.Flush = refl

-- ---- one event

-- what a step frees, and what a call frees
pub step-freed : (M p : ℕ) (t : Tables) → (take_step M p t).freed ≡ tokens (freed_items (after_of M p (view t)).work (view t).bag)
unfolding take_step follow rule_at after_of rule_of participant_of
step-freed M p t = freed_view (follows (rule_at M p t) (sees (asks (rule_at M p t)) t.shared)).work (T.with_shared (leaves (asks (rule_at M p t)) t.shared) t)

-- what a call frees
pub call-freed : (N p : ℕ) (c : Call) (t : Tables) → (follow p (opens N c (the p t)) t).freed ≡ tokens (freed_items (opens N c ((view t).own p)).work (view t).bag)
unfolding follow
call-freed N p c t = freed_view (opens N c (the p t)).work t

-- what a refusal accepts, and what a call accepts
refused-accepts : (x : ℕ) (v : Event) (r : ℕ) → accepts x v (Answer.Refused r) ≡ 0
unfolding accepts if_accepted
refused-accepts x (Event.steps marked places p) r = refl
refused-accepts x Event.registers r = refl
refused-accepts x (Event.calls p c) r = refl

-- what a call accepts
call-accepts : (N x p : ℕ) (c : Call) (t : Tables) → accepts x (Event.calls p c) (follow p (opens N c (the p t)) t).answer ≡ accepted_by x c
unfolding accepts follow
call-accepts N x p c t = answer_accepted (defers x c) _ _ ∙ defers_same x c

-- what waits and what is freed is what waited and what is retired
pub balance_happens : (N M x : ℕ) (t : Tables) (g : Ghost) → Inv N M (view t) g → {v : Event} {o : Out} → Happens N M t v o
    → occurs N M (view o.tables) (Item.Token x) + times x o.freed ≡ occurs N M (view t) (Item.Token x) + accepts x v o.answer
balance_happens N M x t g inv {v = v} (Happens.refuses r h) = rw (refused-accepts x v r) (unfold times in refl)
balance_happens N M x t g inv (Happens.goes {p = p} s) =
    let k = tokens-step N M p (view t) g inv s x in
    rw (view_step M p t, step-freed M p t) (unfold accepts in (omega arith))
balance_happens N M x t g inv (Happens.misses {p = p} {next = next} s) =
    rw (view_back p next t, occurs_misses N M p next (view t) g inv s (Item.Token x)) (unfold accepts times in (omega arith))
balance_happens N M x t g inv (Happens.calls {p = p} {c = c} ca) =
    let k = tokens-call N M p c (view t) g inv ca x in
    rw (view_call N p c t, call-freed N p c t, call-accepts N x p c t) k
balance_happens N M x t g inv (Happens.enrols {p = p} re) =
    let k = balance-register N M p (view t) g inv re (Item.Token x) in
    rw (view_register p t) (unfold accepts times enrolled in (omega arith))

-- ---- a run

module _ (N M : ℕ) where
  -- from any tables that have the invariant
  balance-after : (x : ℕ) (l : List Event) (t : Tables) → Sound N M t → G (view t) + advances N M l t < 2 ^ 62
      → occurs N M (view (after N M l t)) (Item.Token x) + freed N M x l t ≡ occurs N M (view t) (Item.Token x) + retired N M x l t
  unfolding after advances freed retired
  balance-after x [] t s lt = refl
  balance-after x (v ∷ l) t s lt =
      let u = epoch-does N M t s (omega arith) v in
      let a = balance_happens N M x t s.ghost s.inv (happens N M t s.ghost s.inv s.stored (omega arith) v) in
      let b = balance-after x l (does N M v t).tables (sound-does N M t s (omega arith) v) (omega arith) in
      omega arith

  -- from a fresh start: what was retired was freed or occurs
  pub occurring : 1 ≤ N → 2 ≤ M → (l : List Event) → advances N M l (fresh N M) < 2 ^ 62 → (x : ℕ)
      → retired N M x l (fresh N M) ≡ freed N M x l (fresh N M) + occurs N M (view (after N M l (fresh N M))) (Item.Token x)
  occurring h_n h_m l lt x =
      let e = fresh-epoch N M in
      let a = balance-after x l (fresh N M) (sound-fresh N M h_n h_m) (omega arith) in
      let b = nothing-waits N M h_m (Item.Token x) in
      omega arith

  -- or waits
  pub balanced : 1 ≤ N → 2 ≤ M → (l : List Event) → advances N M l (fresh N M) < 2 ^ 62 → (x : ℕ)
      → retired N M x l (fresh N M) ≡ freed N M x l (fresh N M) + waiting N M x (after N M l (fresh N M))
  balanced h_n h_m l lt x =
      let a = occurring h_n h_m l lt x in
      let c = waiting_is N M x (after N M l (fresh N M)) (along-run N M h_n h_m l lt) in
      omega arith
