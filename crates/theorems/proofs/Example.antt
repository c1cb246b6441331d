-- The run of specs/Example goes as it says. On lists it is too long to compute, so it goes over to tables, as every run does (`run_same` and
-- `reaches` of Theorem), and there it is computed. It is short because it has fewer than 2^62 events. Assumes nothing.
use mathlib.Core.Path.{◌≡◌, refl}
use mathlib.Core.Bool.{false}
use mathlib.Core.List.{List, [], ◌∷◌, ◌++◌}
use Prim.Native.Nat.{ℕ, ◌^◌, ◌≤◌, ◌<◌}
use native.Mathlib.Omega.{arith}
use lib.Dec.{eqb}
use lib.ListN.{length, replicate}
use Rattle.epoch.specs.Epoch
use Rattle.definition.specs.Base
use Rattle.definition.specs.Links
use Rattle.definition.specs.Bags
use Rattle.definition.specs.Tables
use Rattle.definition.specs.Flow
use Rattle.definition.specs.Rule
use Rattle.definition.specs.List
use Rattle.definition.specs.Queue
use Rattle.definition.specs.Internal
use Rattle.definition.specs.Codec
use Rattle.definition.specs.Step
use Rattle.definition.specs.Calls
use Rattle.definition.specs.Ranges
use Rattle.definition.specs.Layout
use Rattle.definition.specs.Public
use Rattle.definition.specs.Base.{branch}
use Rattle.definition.specs.Layout.{Lent}
use Rattle.definition.specs.Tables.{Tables}
use Rattle.definition.specs.Ranges.{fresh}
use Rattle.definition.specs.Public.{start_lent}
use Rattle.definition.specs.declared.Answer.{Answer}
use Rattle.definition.proofs.Base.{branch_ind}
use Rattle.theorems.specs.Waiting
use Rattle.theorems.specs.Order
use Rattle.theorems.specs.OnTables
use Rattle.theorems.specs.Waiting.{times, waiting}
use Rattle.theorems.specs.Events.{Event, words, frees}
use Rattle.theorems.specs.Events as S
use Rattle.theorems.specs.Statement.{started, Short, reached}
use Rattle.theorems.specs.Example.{lists, before, retirement, since, run, step, Told, tells, Example, example, expected}
use Rattle.theorems.proofs.Back.{tables_back}
use Rattle.theorems.proofs.Lent
use Rattle.theorems.proofs.Lent.{tabled, carries_step, words_back}
use Rattle.theorems.proofs.Theorem.{start, at, run_same, clean, sound, reaches, since_same}

-- the start is not refused
ok : (start_lent 1 2 lists).answer ≡ Answer.Done 0 0
unfolding Public.start_lent Public.lending Public.given Ranges.within_limits Ranges.max_participants Ranges.max_nodes Ranges.bit_words Layout.sized Layout.global_words
    Layout.participant_words Layout.node_words Bags.max_objects Base.branch
ok = refl

-- no more changes of the global epoch than events
advances-le : (r : List Event) (l : Lent) → S.advances 1 2 r l ≤ length r
unfolding S.advances
advances-le [] l = omega arith
advances-le (v ∷ r) l =
    let k = advances-le r (S.does 1 2 v l).lent in
    let one : branch {A = ℕ} (eqb (words 1 2 (S.does 1 2 v l).lent).global_epoch (words 1 2 l).global_epoch) 0 1 ≤ 1 = branch_ind (λ (n : ℕ). n ≤ 1) _ (λ _. omega arith) (λ _. omega arith) in
    omega arith

short : (r : List Event) → length r < 2 ^ 62 → Short 1 2 lists r
short r lt = let k = advances-le r (started 1 2 lists) in omega arith

-- what is told of a run, told of the run on tables
told : Tables → List Event → Told
told t r = record {
  pinned = Epoch.is_pinned (t.shared.word 0);
  retired = OnTables.retired 1 2 7 (tabled r) (fresh 1 2);
  freed = OnTables.freed 1 2 7 (tabled r) (fresh 1 2);
  waits = waiting 1 2 7 t;
}

tells_same : (r : List Event) → length r < 2 ^ 62 → tells r ≡ told (at 1 2 lists ok r) r
unfolding told
tells_same r lt =
    let s = short r lt in
    let k = run_same 1 2 lists ok r s in
    rw (reaches 1 2 lists ok r s, words_back 1 2 (at 1 2 lists ok r) (clean 1 2 lists ok r s), tables_back 1 2 (at 1 2 lists ok r) (clean 1 2 lists ok r s), (start 1 2 lists ok).lent, k.retired 7, k.freed 7) refl

-- the whole of it, on tables
on_tables : Example
on_tables = record {
  at_retirement = told (at 1 2 lists ok before) before;
  before_free = told (at 1 2 lists ok run) run;
  frees = times 7 (OnTables.does 1 2 (OnTables.Event.steps false 64 0) (at 1 2 lists ok run)).freed;
  changes = OnTables.changes 1 2 0 (tabled since) (at 1 2 lists ok (before ++ retirement ∷ []));
  after_free = told (at 1 2 lists ok (run ++ step ∷ [])) (run ++ step ∷ []);
}

computed : on_tables ≡ expected
unfolding on_tables told Epoch.starting Epoch.is_pinned Epoch.unpinned Epoch.pinned Epoch.successor Epoch.gap Epoch.signed Epoch.halved Epoch.wrapping_sub
    Base.branch Base.put Base.sum Base.count Base.all Base.least Base.listed Base.among Links.null Links.link Links.is_null Links.index Links.is_tagged
    Links.tagged Links.pointee Links.pointer Links.node_at Bags.max_objects Bags.places_left Bags.is_expired Bags.item_word Bags.item_of Bags.items Bags.moved
    Bags.tokens Bags.free_slots Bags.free_nodes Tables.read Tables.write Flow.on Flow.done Flow.also Flow.finalize Flow.collected Flow.collect_steps
    Flow.pops Flow.advanced Flow.walk Flow.waiting Flow.placed Flow.defer Flow.pushed Rule.asks Rule.follows Rule.agrees Rule.sees Rule.leaves
    Rule.fails List.insert List.delete List.pred_word List.iterate Queue.seal_bag Queue.push Queue.pop Internal.pinnings_between_collect Internal.collects
    Internal.pin_counted Internal.pin_epoch Internal.pin_word Internal.unpin_word Internal.repin Internal.advance_epoch Internal.advance_word
    Internal.advance_store Internal.final_word Internal.rule Codec.owner_number Codec.pred_pointer Codec.then_code Codec.code_of Codec.record_of
    Codec.owner_of Codec.pred_of Codec.then_of Codec.place_of Codec.participant_of Codec.same_code Step.put_item Step.seal_into Step.in_bag Step.free_bag
    Step.settle Step.freed_by Step.answer_of Step.follow Step.rule_at Step.take_step Step.take_marked Calls.max_count Calls.max_token Calls.lacks Calls.count_full
    Calls.token_above Calls.held_already Calls.finalizes Calls.overflow Calls.pin_needs Calls.needs Calls.begins Calls.opens Ranges.max_participants Ranges.max_nodes
    Ranges.within_limits Ranges.bit_words Ranges.is_rest Ranges.slot_in Ranges.node_in Ranges.ptr_in Ranges.pred_in Ranges.cursor_in Ranges.pops_in
    Ranges.then_in Ranges.register_in Ranges.walk_in Ranges.pop_in Ranges.push_in Ranges.place_in Ranges.entry_pointer_in Ranges.head_pointer_in
    Ranges.node_pointer_in Ranges.end_pointer_in Ranges.item_in Ranges.bag_in Ranges.code_in Ranges.record_in Ranges.bits_in Ranges.shared_in
    Ranges.in_range Ranges.fresh Public.refusal Public.unless Public.takes_node Public.running Public.twice Public.new_participant Public.enrolled Public.damaged
    Public.absent Public.no_node Public.missing Public.call_checks Public.call Public.register_checks Public.register Public.step_checks Public.step
    Waiting.times Waiting.waits_at Waiting.taken_node Waiting.popped_node Waiting.in_own Waiting.in_node Waiting.carried Waiting.over
    Waiting.waiting_with Waiting.waiting_queued Waiting.waiting Waiting.defers Waiting.if_accepted Order.hanging OnTables.accepts OnTables.does
    OnTables.after OnTables.changes OnTables.retired OnTables.freed Lent.on_tables Lent.tabled
computed = refl

-- the four runs are short
few_before : length before < 2 ^ 62
few_before = let e : length before ≡ 14 = refl in omega arith

few_retired : length ((before ++ retirement ∷ []) ++ since) < 2 ^ 62
few_retired = let e : length ((before ++ retirement ∷ []) ++ since) ≡ 53 = refl in omega arith

few : length run < 2 ^ 62
few = let e : length run ≡ 53 = refl in omega arith

few_after : length (run ++ step ∷ []) < 2 ^ 62
few_after = let e : length (run ++ step ∷ []) ≡ 54 = refl in omega arith

-- the step that frees, and the words in between
free_same : times 7 (frees (S.does 1 2 step (reached 1 2 lists run))) ≡ times 7 (OnTables.does 1 2 (OnTables.Event.steps false 64 0) (at 1 2 lists ok run)).freed
free_same =
    let s = short run few in
    let k = sound 1 2 lists ok run s in
    rw (reaches 1 2 lists ok run s, (carries_step 1 2 (start 1 2 lists ok).limits (at 1 2 lists ok run) k.0 (clean 1 2 lists ok run s) k.1 0 false (replicate 64 0)).tokens) refl

changes_same : S.changes 1 2 0 since (reached 1 2 lists (before ++ retirement ∷ [])) ≡ OnTables.changes 1 2 0 (tabled since) (at 1 2 lists ok (before ++ retirement ∷ []))
changes_same =
    let s = short ((before ++ retirement ∷ []) ++ since) few_retired in
    let b = short (before ++ retirement ∷ []) (let e : length (before ++ retirement ∷ []) ≡ 15 = refl in omega arith) in
    rw (reaches 1 2 lists ok (before ++ retirement ∷ []) b, (since_same 1 2 lists ok (before ++ retirement ∷ []) since s).changes 0) refl

-- the run goes so
pub goes_so : example ≡ expected
goes_so = rw (tells_same before few_before, tells_same run few, tells_same (run ++ step ∷ []) few_after, free_same, changes_same) (unfold on_tables in computed)
