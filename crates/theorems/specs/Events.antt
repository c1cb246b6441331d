-- Runs of the public calls on lent lists: the words in which specs/Statement speaks. An event is a public call with its arguments, and `does` says what
-- comes of it by the very functions that the code's promises cite (crates/reclaimer), so what is said of a run is said of the code. It speaks of
-- answers, freed tokens and words in the lent lists (`tables_of` reads them). Assumes nothing.
use Rattle.std.specs.Prelude.{◌≡◌, Bool, true, List, [], ◌∷◌, ◌++◌, ℕ, ◌+◌, ◌≤◌, eqb, take}
use Rattle.epoch.specs.Epoch.{is_pinned}
use Rattle.definition.specs.Base.{branch}
use Rattle.definition.specs.Links.{index}
use Rattle.definition.specs.Tables.{Shared}
use Rattle.definition.specs.Layout.{Lent, tables_of}
use Rattle.definition.specs.Public.{Outcome, register_lent, call_lent, step_lent}
use Rattle.definition.specs.Survey.{survey_lent}
use Rattle.definition.specs.declared.Call.{Call}
use Rattle.definition.specs.declared.Answer.{Answer}
use Rattle.definition.specs.declared.Report.{Report}
use Rattle.theorems.specs.Waiting.{times, defers, if_accepted}
use Rattle.theorems.specs.Order.{linked, left, Bagged, bags, Hangs}

-- any public call but a second start: a step, marked or not, with the list that it lends for freed tokens, a registering, a call, a survey with
-- its reports
pub data Event : Type 0 where
  steps : (p : ℕ) → (marked : Bool) → (places : List ℕ) → Event
  registers : Event
  calls : (p : ℕ) → Call → Event
  surveys : List Report → Event

-- how often an event retires a token: 1 or 0
unfoldable pub accepts : ℕ → Event → Answer → ℕ
accepts x (Event.steps p marked places) a = 0
accepts x Event.registers a = 0
accepts x (Event.calls p c) a = if_accepted (defers x c) a
accepts x (Event.surveys reports) a = 0

-- the number of freed tokens that an answer gives, and these tokens: the first so many of the list for them
unfoldable pub number : Answer → ℕ
number (Answer.Done v n) = n
number (Answer.More n) = n
number (Answer.Refused r) = 0

unfoldable pub frees : Outcome → List ℕ
frees o = take (number o.answer) o.freed

module _ (N M : ℕ) where
  -- what comes of an event: the answer, the lent lists and the list for freed tokens afterwards
  unfoldable pub does : Event → Lent → Outcome
  does (Event.steps p marked places) l = step_lent N M l p marked places
  does Event.registers l = register_lent N M l
  does (Event.calls p c) l = call_lent N M l p c
  does (Event.surveys reports) l = record { answer = (survey_lent N M l reports).answer; lent = l; freed = [] }

  -- the shared words in the lent lists
  abbrev pub words : Lent → Shared
  words l = (tables_of N M l).shared

  -- the lists after a run
  unfoldable pub after : List Event → Lent → Lent
  after [] l = l
  after (v ∷ run) l = after run (does v l).lent

  -- how often the global epoch changed, and how often the word of participant d did
  unfoldable pub advances : List Event → Lent → ℕ
  advances [] l = 0
  advances (v ∷ run) l = branch (eqb (words (does v l).lent).global_epoch (words l).global_epoch) 0 1 + advances run (does v l).lent

  unfoldable pub changes : ℕ → List Event → Lent → ℕ
  changes d [] l = 0
  changes d (v ∷ run) l = branch (eqb ((words (does v l).lent).word d) ((words l).word d)) 0 1 + changes d run (does v l).lent

  -- how often a token was retired, and how often it was freed
  unfoldable pub retired : ℕ → List Event → Lent → ℕ
  retired x [] l = 0
  retired x (v ∷ run) l = accepts x v (does v l).answer + retired x run (does v l).lent

  unfoldable pub freed : ℕ → List Event → Lent → ℕ
  freed x [] l = 0
  freed x (v ∷ run) l = times x (frees (does v l)) + freed x run (does v l).lent

  -- participant d is pinned; its word changed in the course of a run; event v frees token x
  abbrev pub Pinned : ℕ → Lent → Type 0
  Pinned d l = is_pinned ((words l).word d) ≡ true

  abbrev pub Changed : ℕ → List Event → Lent → Type 0
  Changed d run l = 1 ≤ changes d run l

  abbrev pub Frees : Event → ℕ → Lent → Type 0
  Frees v x l = 1 ≤ times x (frees (does v l))

  -- the bags that were linked, and those that left the queue, in order, each as it was then
  unfoldable pub links : List Event → Lent → List Bagged
  links [] l = []
  links (v ∷ run) l = bags (tables_of N M (does v l).lent) (linked M (words l) (words (does v l).lent)) ++ links run (does v l).lent

  unfoldable pub leaves : List Event → Lent → List Bagged
  leaves [] l = []
  leaves (v ∷ run) l = bags (tables_of N M (does v l).lent) (left (words l) (words (does v l).lent)) ++ leaves run (does v l).lent

  -- first in, first out: the bags that were linked are those that left, in the same order and unchanged, and then those that still hang on the head
  pub record InOrder (run : List Event) (l : Lent) : Type 0 where
    pub rest : List ℕ
    pub splits : links run l ≡ leaves run l ++ bags (tables_of N M (after run l)) rest
    pub hangs : Hangs (words (after run l)).node_next (index (words (after run l)).queue_head) rest
