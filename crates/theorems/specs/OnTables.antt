-- The same on the definition's tables, for any number of participants from 1 on, and any number of nodes from 2 on: runs of `step`, `register` and `call`, and
-- what is true of every run from a fresh start. What specs/Statement says of lent lists is proved from this; a survey is no event here, and a step
-- has a number of places for freed tokens in place of a list. Assumes nothing.
use Rattle.std.specs.Prelude.{◌≡◌, ◌≢◌, Bool, true, false, List, [], ◌∷◌, ◌++◌, ℕ, ◌+◌, ◌^◌, ◌≤◌, ◌<◌, eqb, leb}
use Rattle.epoch.specs.Epoch.{is_pinned}
use Rattle.definition.specs.Base.{branch}
use Rattle.definition.specs.Links.{is_tagged, index}
use Rattle.definition.specs.Tables.{Tables}
use Rattle.definition.specs.Ranges.{fresh}
use Rattle.definition.specs.Step.{Out}
use Rattle.definition.specs.Public.{running, call, register, step}
use Rattle.definition.specs.declared.Call.{Call}
use Rattle.definition.specs.declared.Answer.{Answer}
use Rattle.theorems.specs.Order.{linked, left, Bagged, bags, Hangs}
use Rattle.theorems.specs.Waiting.{times, waiting, defers, if_accepted}

pub data Event : Type 0 where
  steps : (marked : Bool) → (places p : ℕ) → Event
  registers : Event
  calls : ℕ → Call → Event

-- how often an event retires the token: 1 or 0
unfoldable pub accepts : ℕ → Event → Answer → ℕ
accepts x (Event.steps marked places p) a = 0
accepts x Event.registers a = 0
accepts x (Event.calls p c) a = if_accepted (defers x c) a

module _ (N M : ℕ) where
  -- what comes of one event
  unfoldable pub does : Event → Tables → Out
  does (Event.steps marked places p) t = step N M marked places p t
  does Event.registers t = register N M t
  does (Event.calls p c) t = call N M p c t

  -- the tables after events, in order
  unfoldable pub after : List Event → Tables → Tables
  after [] t = t
  after (v ∷ l) t = after l (does v t).tables

  -- how often the global epoch changed
  unfoldable pub advances : List Event → Tables → ℕ
  advances [] t = 0
  advances (v ∷ l) t = branch (eqb (does v t).tables.shared.global_epoch t.shared.global_epoch) 0 1 + advances l (does v t).tables

  -- how often it was retired
  unfoldable pub retired : ℕ → List Event → Tables → ℕ
  retired x [] t = 0
  retired x (v ∷ l) t = accepts x v (does v t).answer + retired x l (does v t).tables

  -- how often it was freed
  unfoldable pub freed : ℕ → List Event → Tables → ℕ
  freed x [] t = 0
  freed x (v ∷ l) t = times x (does v t).freed + freed x l (does v t).tables

  -- how often the word of participant d changed
  unfoldable pub changes : ℕ → List Event → Tables → ℕ
  changes d [] t = 0
  changes d (v ∷ l) t = branch (eqb ((does v t).tables.shared.word d) (t.shared.word d)) 0 1 + changes d l (does v t).tables

  -- the bags that were linked, and those that left the queue, in order, each as it was then
  unfoldable pub links : List Event → Tables → List Bagged
  links [] t = []
  links (v ∷ l) t = bags (does v t).tables (linked M t.shared (does v t).tables.shared) ++ links l (does v t).tables

  unfoldable pub leaves : List Event → Tables → List Bagged
  leaves [] t = []
  leaves (v ∷ l) t = bags (does v t).tables (left t.shared (does v t).tables.shared) ++ leaves l (does v t).tables

  -- first in, first out: the bags that were linked are those that left, in the same order and unchanged, and then those that still hang on the head
  pub record InOrder (l : List Event) (t : Tables) : Type 0 where
    pub rest : List ℕ
    pub splits : links l t ≡ leaves l t ++ bags (after l t) rest
    pub hangs : Hangs (after l t).shared.node_next (index (after l t).shared.queue_head) rest

  -- a run of fewer than 2^62 advances
  abbrev pub Short : List Event → Type 0
  Short l = advances l (fresh N M) < 2 ^ 62

  -- the tables after a run
  abbrev pub reached : List Event → Tables
  reached l = after l (fresh N M)

  pub record ReclaimsOnTables : Type 0 where
    -- every token: accepted retirements are frees and what waits
    pub balance : (l : List Event) → Short l → (x : ℕ) → retired x l (fresh N M) ≡ freed x l (fresh N M) + waiting N M x (reached l)
    -- so a token that was retired once is freed at most once
    pub once : (l : List Event) → Short l → (x : ℕ) → retired x l (fresh N M) ≡ 1 → freed x l (fresh N M) ≤ 1
    -- no early free: after the events `before`, in which the token was freed as often as it was retired, participant d is pinned; then come the
    -- events `since`; and event v frees the token. Then d's word changed in the course of `since`
    pub not_early : (before since : List Event) (v : Event) → Short (before ++ since) → (x d : ℕ) → d < N → retired x before (fresh N M) ≡ freed x before (fresh N M)
        → is_pinned ((reached before).shared.word d) ≡ true → 1 ≤ times x (does v (reached (before ++ since))).freed → 1 ≤ changes d since (reached before)
    -- at rest a word is pinned exactly if there is a guard
    pub guarded : (l : List Event) → Short l → (d : ℕ) → d < N → let t = reached l in
        t.slot_free d ≡ false → is_tagged (t.shared.entry_next d) ≡ false → running d t ≡ false → is_pinned (t.shared.word d) ≡ leb 1 (t.own d).counts.guards
    -- refusal 1 never occurs
    pub never_damaged : (l : List Event) → Short l → (v : Event) → (does v (reached l)).answer ≢ Answer.Refused 1
    -- bags leave the queue in the order in which they were linked, as they were linked
    pub order : (l : List Event) → Short l → InOrder l (fresh N M)
