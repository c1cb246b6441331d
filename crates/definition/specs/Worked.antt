-- The cases that document 01 works by hand and marks [P], as one table: the seven distances, the runs, and the schedule program's whole
-- case, each with what it must give. The runs are with 1 participant and 2 nodes, the fewest, and those of the first pin, of the flush that
-- frees and of register, release, pin also with 32 and 128, the most. Of a run is shown what its last operation did, and where that left
-- participant 0's word and bag, the global word, and every bag in the queue, with its seal and its items. These are of unmarked steps. Then, from
-- document 01's table of refusals, 11: given where more is set aside than is free, not given where just as much is. Last, from document 02,
-- No. 2: marked steps; No. 6: a token that the bag holds already; and No. 9: the places left, with which a defer is done. proofs/Worked shows by
-- computation that the definition gives it all. Assumes nothing.
use Rattle.std.specs.Prelude.{true, false, List, [], ◌∷◌, ◌++◌, map, ℕ, zero, suc, ◌+◌, ℤ, replicate}
use Rattle.epoch.specs.Epoch.{wrapping_sub}
use Rattle.epoch.specs.Distances.{Distance, distances}
use Rattle.definition.specs.Base.{branch}
use Rattle.definition.specs.Links.{is_null, index}
use Rattle.definition.specs.Bags.{items}
use Rattle.definition.specs.Tables.{Tables, with_aside}
use Rattle.definition.specs.Step.{Out, in_bag}
use Rattle.definition.specs.Ranges.{fresh}
use Rattle.definition.specs.Runs.{Event, does, run}
use Rattle.definition.specs.Schedule.{schedule}
use Rattle.definition.specs.Types.{Item, Call, Answer, node}

-- tokens freed, and in which step of the operation
pub record Freed : Type 0 where
  pub in_step : ℕ
  pub tokens : List ℕ

-- a bag in the queue: its seal and its items
pub record Queued : Type 0 where
  pub seal : ℕ
  pub holds : List Item

-- what a run shows of its last operation: its steps, its answer, what it freed when; then participant 0's word, the global word, the
-- items that participant 0 holds, and the queue
pub record Shown : Type 0 where
  pub steps : ℕ
  pub answer : Answer
  pub freed : List Freed
  pub own : ℕ
  pub global : ℕ
  pub holds : List Item
  pub queue : List Queued

-- a question: a distance; operations of participant 0, one after another, each stepped to its end, with N participants and M nodes; the
-- output for an input of the schedule program; the answer to a last event, after operations, with another set-aside total in the tables; the
-- answers to events, each an event by itself
pub data Question : Type 0 where
  distance : (a b : ℕ) → Question
  operations : (N M : ℕ) → List Event → Question
  output : List ℕ → Question
  answer : (N M : ℕ) → List Event → (aside : ℕ) → Event → Question
  answers : (N M : ℕ) → List Event → Question

pub data Reply : Type 0 where
  is_number : ℤ → Reply
  is_shown : Shown → Reply
  is_bytes : List ℕ → Reply
  is_answer : Answer → Reply
  are_answers : List Answer → Reply

-- an operation under way: the tables, the last answer, the steps made, what was freed so far
pub record Underway : Type 0 where
  pub tables : Tables
  pub answer : Answer
  pub steps : ℕ
  pub freed : List Freed

unfoldable pub noted : ℕ → List ℕ → List Freed → List Freed
noted k [] l = l
noted k (t ∷ ts) l = l ++ record { in_step = k; tokens = t ∷ ts } ∷ []

module _ (N M : ℕ) where
  unfoldable pub begun : Event → Tables → Underway
  begun v t = let o : Out = does N M v t in record { tables = o.tables; answer = o.answer; steps = 0; freed = [] }

  -- steps of participant 0 until the answer is no longer `more`, `fuel` at most
  unfoldable pub stepped : ℕ → Underway → Underway
  stepped zero u = u
  stepped (suc fuel) u = elim u.answer [
    | Answer.More k ↦ let o : Out = does N M (Event.steps 0 false) u.tables in
        stepped fuel (record { tables = o.tables; answer = o.answer; steps = u.steps + 1; freed = noted (u.steps + 1) o.freed u.freed })
    | Answer.Done v k ↦ u
    | Answer.Refused r ↦ u
  ]

  unfoldable pub operated : List Event → Underway → Underway
  operated [] u = u
  operated (v ∷ l) u = operated l (stepped 30 (begun v u.tables))

-- the bags after the node h, along the links
unfoldable pub along : ℕ → ℕ → Tables → List Queued
along zero h t = []
along (suc fuel) h t =
    let w : ℕ = t.shared.node_next h in
    branch (is_null w) [] (record { seal = (t.bag (index w)).epoch; holds = in_bag (index w) t } ∷ along fuel (index w) t)

unfoldable pub shown : ℕ → Underway → Shown
shown M u = record {
  steps = u.steps;
  answer = u.answer;
  freed = u.freed;
  own = u.tables.shared.word 0;
  global = u.tables.shared.global_epoch;
  holds = items (u.tables.own 0).held (u.tables.held 0);
  queue = along M (index u.tables.shared.queue_head) u.tables;
}

-- operations from a fresh start
unfoldable pub from_start : (N M : ℕ) → List Event → Underway
from_start N M l = operated N M l (record { tables = fresh N M; answer = Answer.Done 0 0; steps = 0; freed = [] })

unfoldable pub reply : Question → Reply
reply (Question.distance a b) = Reply.is_number (wrapping_sub a b)
reply (Question.operations N M l) = Reply.is_shown (shown M (from_start N M l))
reply (Question.output b) = Reply.is_bytes (schedule b)
reply (Question.answer N M l aside v) = Reply.is_answer (does N M v (with_aside aside (from_start N M l).tables)).answer
reply (Question.answers N M l) = Reply.are_answers (map (λ (o : Out). o.answer) (run N M l (fresh N M)))

pub record Case : Type 0 where
  pub asks : Question
  pub gives : Reply

abbrev pub of_distance : Distance → Case
of_distance d = record { asks = Question.distance d.a d.b; gives = Reply.is_number d.distance }

-- a run and what it shows, with N participants and M nodes; with the fewest; with the most
abbrev pub plays_on : (N M : ℕ) → List Event → ℕ → Answer → List Freed → ℕ → ℕ → List Item → List Queued → Case
plays_on N M l k a f own global bag queue = record {
  asks = Question.operations N M l;
  gives = Reply.is_shown (record { steps = k; answer = a; freed = f; own = own; global = global; holds = bag; queue = queue });
}

abbrev pub plays : List Event → ℕ → Answer → List Freed → ℕ → ℕ → List Item → List Queued → Case
plays = plays_on 1 2

abbrev pub plays_wide : List Event → ℕ → Answer → List Freed → ℕ → ℕ → List Item → List Queued → Case
plays_wide = plays_on 32 128

abbrev pub pin : Event
pin = Event.calls 0 Call.Pin

abbrev pub unpin : Event
unpin = Event.calls 0 Call.Unpin

abbrev pub flush : Event
flush = Event.calls 0 Call.Flush

abbrev pub defer : ℕ → Event
defer x = Event.calls 0 (Call.Defer x)

abbrev pub done : Answer
done = Answer.Done 0 0

abbrev pub more : Answer
more = Answer.More 0

-- a defer is done, and so many places are left (document 02, No. 9)
abbrev pub left : ℕ → Answer
left k = Answer.Done k 0

-- a step of participant 0, and a marked one
abbrev pub step : Event
step = Event.steps 0 false

abbrev pub marked : Event
marked = Event.steps 0 true

-- after the first pin: defer 7, flush; then unpin, pin, flush; then repin, flush
abbrev pub flushed : List Event
flushed = Event.registers ∷ pin ∷ defer 7 ∷ flush ∷ []

abbrev pub again : List Event
again = flushed ++ unpin ∷ pin ∷ flush ∷ []

abbrev pub freeing : List Event
freeing = again ++ Event.calls 0 Call.Repin ∷ flush ∷ []

-- register, release; then pin
abbrev pub released : List Event
released = Event.registers ∷ Event.calls 0 Call.Release ∷ []

-- 7 freed in the 9th step
abbrev pub in_ninth : List Freed
in_ninth = record { in_step = 9; tokens = 7 ∷ [] } ∷ []

-- in the queue a bag with 7; an empty one
abbrev pub seven : List Queued
seven = record { seal = 2; holds = Item.Token 7 ∷ [] } ∷ []

abbrev pub empty : List Queued
empty = record { seal = 2; holds = [] } ∷ []

-- retirements of the k tokens from x on
unfoldable pub retires : (k x : ℕ) → List Event
retires zero x = []
retires (suc k) x = defer x ∷ retires k (x + 1)

-- registered and pinned, with a full bag: the tokens 0 to 63
abbrev pub full : List Event
full = Event.registers ∷ pin ∷ retires 64 0

-- the answers to k defers that fill a bag: one place fewer is left each time, at last 0
unfoldable pub filling : ℕ → List Answer
filling zero = []
filling (suc k) = left k ∷ filling k

-- the items of k defers, the tokens from x on
unfoldable pub tokens_from : (k x : ℕ) → List Item
tokens_from zero x = []
tokens_from (suc k) x = Item.Token x ∷ tokens_from k (x + 1)

-- lines of the schedule program: `more`; `done` with the digits of its value; a line k times
abbrev pub more_line : List ℕ
more_line = 109 ∷ 111 ∷ 114 ∷ 101 ∷ 10 ∷ []

abbrev pub done_line : (digits : List ℕ) → List ℕ
done_line digits = 100 ∷ 111 ∷ 110 ∷ 101 ∷ 32 ∷ digits ++ 10 ∷ []

unfoldable pub repeated : ℕ → List ℕ → List ℕ
repeated zero line = []
repeated (suc k) line = line ++ repeated k line

-- registered and pinned, both of two; 0 retires 7, and again; 1 retires 7; 0 flushes, and retires 7, and again
abbrev pub doubled : List Event
doubled = Event.registers ∷ replicate 3 step ++ Event.registers ∷ replicate 3 (Event.steps 1 false) ++ pin ∷ replicate 11 step
    ++ Event.calls 1 Call.Pin ∷ replicate 10 (Event.steps 1 false) ++ defer 7 ∷ defer 7 ∷ Event.calls 1 (Call.Defer 7) ∷ flush ∷ replicate 13 step
    ++ defer 7 ∷ defer 7 ∷ []

unfoldable pub table : List Case
table = map of_distance distances ++
    -- sole participant, first pin: 9 steps, own word 1, global word 2; unpin 1 step; second pin 2 steps, word 3
    plays (Event.registers ∷ pin ∷ []) 9 done [] 1 2 [] []
    ∷ plays (Event.registers ∷ pin ∷ unpin ∷ []) 1 done [] 0 2 [] []
    ∷ plays (Event.registers ∷ pin ∷ unpin ∷ pin ∷ []) 2 done [] 3 2 [] []
    -- defer 7, flush: 11 steps, sealed with word 2, nothing freed; unpin, pin, then flush in 7 steps, global word 4; repin: 3 steps, word 5
    ∷ plays flushed 11 done [] 1 2 [] seven
    ∷ plays again 7 done [] 3 4 [] seven
    ∷ plays (again ++ Event.calls 0 Call.Repin ∷ []) 3 done [] 5 4 [] seven
    -- flush: 11 steps, 7 freed in the 9th, node 0 now held; without that repin nothing is freed
    ∷ plays freeing 11 done in_ninth 5 6 (Item.Node (node 0) ∷ []) []
    ∷ plays (again ++ flush ∷ []) 6 done [] 3 4 [] seven
    -- register, then release in 16 steps, an empty bag queued; a pin then gives 3
    ∷ plays released 16 done [] 0 2 [] empty
    ∷ plays (released ++ pin ∷ []) 0 (Answer.Refused 3) [] 0 2 [] empty
    -- M 2: pin, defer 7, flush, defer 8, flush gives 11
    ∷ plays (flushed ++ defer 8 ∷ flush ∷ []) 0 (Answer.Refused 11) [] 1 2 (Item.Token 8 ∷ []) seven
    -- the same with 32 participants and 128 nodes: the first pin; the flush that frees 7; register, release, and a pin
    ∷ plays_wide (Event.registers ∷ pin ∷ []) 9 done [] 1 2 [] []
    ∷ plays_wide freeing 11 done in_ninth 5 6 (Item.Node (node 0) ∷ []) []
    ∷ plays_wide released 16 done [] 0 2 [] empty
    ∷ plays_wide (released ++ pin ∷ []) 0 (Answer.Refused 3) [] 0 2 [] empty
    -- the schedule program's whole case: `more`, `more`, `more`, `done 0`, `refused 5`
    ∷ record {
      asks = Question.output (1 ∷ replicate 39 0);
      gives = Reply.is_bytes (109 ∷ 111 ∷ 114 ∷ 101 ∷ 10 ∷ 109 ∷ 111 ∷ 114 ∷ 101 ∷ 10 ∷ 109 ∷ 111 ∷ 114 ∷ 101 ∷ 10
          ∷ 100 ∷ 111 ∷ 110 ∷ 101 ∷ 32 ∷ 48 ∷ 10 ∷ 114 ∷ 101 ∷ 102 ∷ 117 ∷ 115 ∷ 101 ∷ 100 ∷ 32 ∷ 53 ∷ 10 ∷ []);
    }
    -- registered, one node free, and a set-aside total that is in range: with 2 free minus set aside is below the need of 0, with 1 it is not
    ∷ record { asks = Question.answer 1 2 (Event.registers ∷ []) 2 (Event.calls 0 Call.Acquire); gives = Reply.is_answer (Answer.Refused 11) }
    ∷ record { asks = Question.answer 1 2 (Event.registers ∷ []) 2 pin; gives = Reply.is_answer (Answer.Refused 11) }
    ∷ record { asks = Question.answer 1 2 (Event.registers ∷ []) 1 (Event.calls 0 Call.Acquire); gives = Reply.is_answer done }
    -- No. 2: the link of a registering fails in a marked step, and its next is stored again; in the steps of the first pin the mark has no effect
    ∷ record {
      asks = Question.answers 1 2 (Event.registers ∷ step ∷ step ∷ marked ∷ step ∷ step ∷ pin ∷ replicate 9 marked);
      gives = Reply.are_answers (replicate 5 more ++ done ∷ replicate 9 more ++ done ∷ []);
    }
    -- the same registering by the schedule program, whose action 9 is a marked step; 10 is none: `more` five times, `done 0`, `refused 13`
    ∷ record {
      asks = Question.output (1 ∷ replicate 23 0 ++ 9 ∷ replicate 23 0 ++ 10 ∷ replicate 7 0);
      gives = Reply.is_bytes (109 ∷ 111 ∷ 114 ∷ 101 ∷ 10 ∷ 109 ∷ 111 ∷ 114 ∷ 101 ∷ 10 ∷ 109 ∷ 111 ∷ 114 ∷ 101 ∷ 10
          ∷ 109 ∷ 111 ∷ 114 ∷ 101 ∷ 10 ∷ 109 ∷ 111 ∷ 114 ∷ 101 ∷ 10 ∷ 100 ∷ 111 ∷ 110 ∷ 101 ∷ 32 ∷ 48 ∷ 10
          ∷ 114 ∷ 101 ∷ 102 ∷ 117 ∷ 115 ∷ 101 ∷ 100 ∷ 32 ∷ 49 ∷ 51 ∷ 10 ∷ []);
    }
    -- No. 6: 7 again, which the bag holds: 16, and nothing changes; once it is queued it is taken; the node 0 in the bag is no token 0
    ∷ plays (Event.registers ∷ pin ∷ defer 7 ∷ defer 7 ∷ []) 0 (Answer.Refused 16) [] 1 2 (Item.Token 7 ∷ []) []
    ∷ plays (flushed ++ defer 7 ∷ []) 0 (left 63) [] 1 2 (Item.Token 7 ∷ []) seven
    ∷ plays (freeing ++ defer 0 ∷ []) 0 (left 62) [] 5 6 (Item.Node (node 0) ∷ Item.Token 0 ∷ []) []
    -- a full bag, and no node but what is set aside: 16 for the first token in it and for the last, 11 for another
    ∷ record { asks = Question.answer 1 2 full 1 (defer 0); gives = Reply.is_answer (Answer.Refused 16) }
    ∷ record { asks = Question.answer 1 2 full 1 (defer 63); gives = Reply.is_answer (Answer.Refused 16) }
    ∷ record { asks = Question.answer 1 2 full 1 (defer 64); gives = Reply.is_answer (Answer.Refused 11) }
    -- two participants: the same token in another's bag, and in the queue, is taken
    ∷ record {
      asks = Question.answers 2 4 doubled;
      gives = Reply.are_answers (replicate 3 more ++ done ∷ replicate 3 more ++ Answer.Done 1 0 ∷ replicate 11 more ++ done ∷ replicate 10 more ++ done
          ∷ left 63 ∷ Answer.Refused 16 ∷ left 63 ∷ replicate 13 more ++ done ∷ left 63 ∷ Answer.Refused 16 ∷ []);
    }
    -- No. 9: 64 defers, done with 63 places left, 62 and so on to 0; the 65th takes 5 steps, and is done with 63: it is alone in a new bag
    ∷ record {
      asks = Question.answers 1 2 (Event.registers ∷ replicate 3 step ++ pin ∷ replicate 9 step ++ retires 65 0 ++ replicate 5 step);
      gives = Reply.are_answers (replicate 3 more ++ done ∷ replicate 9 more ++ done ∷ filling 64 ++ replicate 5 more ++ left 63 ∷ []);
    }
    ∷ plays (full ++ defer 64 ∷ []) 5 (left 63) [] 1 2 (Item.Token 64 ∷ []) (record { seal = 2; holds = tokens_from 64 0 } ∷ [])
    -- an unpin with a token in the bag is done with 0, as the flush above is with a node in it
    ∷ plays (flushed ++ defer 8 ∷ unpin ∷ []) 1 done [] 0 2 (Item.Token 8 ∷ []) seven
    -- by the schedule program: register, three steps, pin, nine steps, defer 7: the last line is `done 63`
    ∷ record {
      asks = Question.output (1 ∷ replicate 31 0 ++ 4 ∷ replicate 79 0 ++ 7 ∷ replicate 3 0 ++ 7 ∷ replicate 3 0);
      gives = Reply.is_bytes (repeated 3 more_line ++ done_line (48 ∷ []) ++ repeated 9 more_line ++ done_line (48 ∷ []) ++ done_line (54 ∷ 51 ∷ []));
    }
    ∷ []
