-- The public calls: what each answers and what it leaves behind, for every input. First on tables that have the right sizes, with every
-- refusal but 2 (a run is a run of these); then on lent lists, with refusal 2. The numbers and the order of the refusals are document
-- 01's, with 16 as document 02 (No. 6) has it. A refusal leaves everything as it was. Assumes nothing.
use Rattle.std.specs.Prelude.{Bool, true, false, ◌&&◌, ◌||◌, not, List, [], ◌∷◌, ◌++◌, ℕ, ◌+◌, eqb, ltb, leb, length, drop}
use Rattle.epoch.specs.Epoch.{starting}
use Rattle.definition.specs.Base.{branch, put, count, least}
use Rattle.definition.specs.Links.{null, is_tagged}
use Rattle.definition.specs.Bags.{max_objects, items}
use Rattle.definition.specs.Tables.{Tables, write, with_shared, with_own, with_free}
use Rattle.definition.specs.Codec.{record_of, participant_of}
use Rattle.definition.specs.Step.{Out, follow, take_marked}
use Rattle.definition.specs.Calls.{lacks, count_full, token_above, held_already, needs, opens}
use Rattle.definition.specs.Ranges.{within_limits, is_rest, in_range, fresh}
use Rattle.definition.specs.Layout.{Lent, lent, sized, tables_of, lent_of}
use Rattle.definition.specs.Types.{RegisterAt, PushAt, Place, Participant, Word, Call, Answer, slot}

-- a refusal: a number, with the case in which it is given
pub record Check : Type 0 where
  pub number : ℕ
  pub holds : Bool

abbrev pub check : ℕ → Bool → Check
check r b = record { number = r; holds = b }

-- the number of the first check that holds; 0 where none does
unfoldable pub refusal : List Check → ℕ
refusal [] = 0
refusal (c ∷ l) = branch c.holds c.number (refusal l)

abbrev pub refused : ℕ → Tables → Out
refused r t = record { tables = t; answer = Answer.Refused r; freed = [] }

-- what comes out where no check holds; else a refusal
unfoldable pub unless : List Check → Tables → Out → Out
unless l t out = branch (eqb (refusal l) 0) out (refused (refusal l) t)

-- whether a place must take a node: internal.rs, `push_bag`
unfoldable pub takes_node : Place → Bool
takes_node Place.Rest = false
takes_node (Place.Register a) = false
takes_node (Place.PinEpoch k) = false
takes_node (Place.PinWord k e) = false
takes_node (Place.Repin a) = false
takes_node Place.UnpinWord = false
takes_node (Place.AdvanceEpoch k) = false
takes_node (Place.Walk t a) = false
takes_node (Place.AdvanceWord t curr succ) = false
takes_node (Place.AdvanceStore t) = false
takes_node (Place.Pop p a) = false
takes_node (Place.Push then PushAt.Epoch) = true
takes_node (Place.Push then (PushAt.Tail new)) = false
takes_node (Place.Push then (PushAt.Next new onto)) = false
takes_node (Place.Push then (PushAt.Help new onto next)) = false
takes_node (Place.Push then (PushAt.Link new onto)) = false
takes_node (Place.Push then (PushAt.Move new onto)) = false
takes_node Place.FinalWord = false
takes_node Place.FinalTag = false

-- the participant p, and whether its operation runs
abbrev pub the : ℕ → Tables → Participant
the p t = participant_of (t.own p)

unfoldable pub running : ℕ → Tables → Bool
running p t = not (is_rest (the p t).place)

-- 16: the call would retire a token that is in the participant's own bag, below its length
unfoldable pub twice : ℕ → Call → Tables → Bool
twice p c t = held_already c (items (the p t).held (t.held p))

-- internal.rs, `Local::register` up to its first access: slot p, with a new entry, one handle and an empty bag
unfoldable pub new_participant : Participant
new_participant = record { counts = record { guards = 0; handles = 1; pins = 0 }; held = 0; share = 0; place = Place.Register RegisterAt.Head }

unfoldable pub enrolled : ℕ → Tables → Out
enrolled p t = record {
  tables = with_free (put t.slot_free p false) t.node_free (with_own p (record_of new_participant)
      (with_shared (write (Word.ParticipantWord (slot p)) starting (write (Word.EntryNext (slot p)) null t.shared)) t));
  answer = Answer.More 0;
  freed = [];
}

module _ (N M : ℕ) where
  -- 1: a stored number outside its range
  unfoldable pub damaged : Tables → Bool
  damaged t = not (in_range N M t)

  -- 3: an index not below N, a free slot, or one that is deleted and at rest. (A slot is deleted when its own next is tagged)
  unfoldable pub absent : ℕ → Tables → Bool
  absent p t = leb N p || t.slot_free p || (is_tagged (t.shared.entry_next p) && not (running p t))

  -- 11: free minus set aside is below the need. The paper subtracts integers, so the sums are compared: where more is set aside than is free,
  -- every call is refused, one that needs no node too
  unfoldable pub no_node : ℕ → Call → Tables → Bool
  no_node p c t = ltb (count M t.node_free) (t.aside + needs N c (the p t))

  -- 1, at last: a step that must take a node finds none free, or none of its own set aside
  unfoldable pub missing : ℕ → Tables → Bool
  missing p t = takes_node (the p t).place && (eqb (count M t.node_free) 0 || eqb (the p t).share 0)

  -- a call on participant p: 1, 3, 4, 7 or 6, 8, 9, 16, 11
  unfoldable pub call_checks : ℕ → Call → Tables → List Check
  call_checks p c t =
      check 1 (damaged t) ∷ check 3 (absent p t) ∷ check 4 (running p t) ∷ check (lacks c (the p t)) (not (eqb (lacks c (the p t)) 0))
      ∷ check 8 (count_full c (the p t)) ∷ check 9 (token_above c) ∷ check 16 (twice p c t) ∷ check 11 (no_node p c t) ∷ []

  unfoldable pub call : ℕ → Call → Tables → Out
  call p c t = unless (call_checks p c t) t (follow p (opens N c (the p t)) t)

  -- registering takes the smallest free slot: 1, 10
  unfoldable pub register_checks : Tables → List Check
  register_checks t = check 1 (damaged t) ∷ check 10 (eqb (count N t.slot_free) 0) ∷ []

  unfoldable pub register : Tables → Out
  register t = unless (register_checks t) t (enrolled (least N t.slot_free) t)

  -- a step of participant p, marked or not, with `places` places for freed tokens: 1, 12, 3, 5, then 1 for the missing node
  unfoldable pub step_checks : ℕ → ℕ → Tables → List Check
  step_checks places p t =
      check 1 (damaged t) ∷ check 12 (ltb places max_objects) ∷ check 3 (absent p t) ∷ check 5 (not (running p t)) ∷ check 1 (missing p t) ∷ []

  unfoldable pub step : (marked : Bool) → ℕ → ℕ → Tables → Out
  step marked places p t = unless (step_checks places p t) t (take_marked marked M p t)

-- on lent lists: the answer, the lists, and the list for freed tokens, afterwards
pub record Outcome : Type 0 where
  pub answer : Answer
  pub lent : Lent
  pub freed : List ℕ

abbrev pub outcome : Answer → (globals participants nodes held queued freed : List ℕ) → Outcome
outcome r g p n h q f = record { answer = r; lent = lent g p n h q; freed = f }

module _ (N M : ℕ) (l : Lent) (places : List ℕ) where
  abbrev pub kept : ℕ → Outcome
  kept r = record { answer = Answer.Refused r; lent = l; freed = places }

  -- 2: sizes. What comes out of the tables goes back into the lists, unless it is a refusal; tokens go to the front of their list, in
  -- order, the rest of which is as it was
  unfoldable pub given : Answer → Out → Outcome
  given (Answer.Refused r) out = kept r
  given (Answer.Done v k) out = record { answer = out.answer; lent = lent_of N M out.tables; freed = out.freed ++ drop (length out.freed) places }
  given (Answer.More k) out = record { answer = out.answer; lent = lent_of N M out.tables; freed = out.freed ++ drop (length out.freed) places }

  unfoldable pub lending : (Tables → Out) → Outcome
  lending f =
      let out = f (tables_of N M l) in
      branch (within_limits N M && sized N M l) (given out.answer out) (kept 2)

-- a fresh start, whatever the lists held
unfoldable pub start_lent : (N M : ℕ) → Lent → Outcome
start_lent N M l = lending N M l [] (λ t. record { tables = fresh N M; answer = Answer.Done 0 0; freed = [] })

unfoldable pub register_lent : (N M : ℕ) → Lent → Outcome
register_lent N M l = lending N M l [] (register N M)

unfoldable pub call_lent : (N M : ℕ) → Lent → ℕ → Call → Outcome
call_lent N M l p c = lending N M l [] (call N M p c)

unfoldable pub step_lent : (N M : ℕ) → Lent → ℕ → (marked : Bool) → List ℕ → Outcome
step_lent N M l p marked places = lending N M l places (step N M marked (length places) p)
