-- Demand 3, for a reader: what is true of every run of the public calls on lent lists, from a start that was not refused, in any order and with any
-- arguments, steps marked or not, as long as the global epoch changed fewer than 2^62 times (`Demand`; `reclaims` of proofs/Theorem proves it, with no
-- hypothesis left). What is said of every run is said of every point of every run. Above each clause stands, in our words, what the paper asks and the
-- clause renders. The words are in specs/Events (events, what comes of them, what was retired and freed), specs/Waiting (where a token waits) and
-- specs/Order (what was linked, what left and what hangs in the queue); specs/Example has a run told in them, in which a token is freed.
--
-- Not claimed here: that a token is ever freed. A reclaimer that frees nothing would pass every clause; that this one frees what and when the Rust
-- does is demand 2, each step being the Rust's. Nothing is said of weak memory: steps come one after another, and each reads what the last
-- one wrote. Nor of what a caller does with a block after it was handed out, or of a second start in the middle of a run. Assumes nothing.
use Rattle.std.specs.Prelude.{◌≡◌, ◌≢◌, false, List, ◌∷◌, ◌++◌, ℕ, ◌+◌, ◌^◌, ◌≤◌, ◌<◌, leb}
use Rattle.epoch.specs.Epoch.{is_pinned}
use Rattle.definition.specs.Links.{is_tagged}
use Rattle.definition.specs.Layout.{Lent, tables_of}
use Rattle.definition.specs.Public.{start_lent, running}
use Rattle.definition.specs.declared.Call.{Call}
use Rattle.definition.specs.declared.Answer.{Answer}
use Rattle.theorems.specs.Waiting.{waiting}
use Rattle.theorems.specs.Events.{Event, does, after, advances, retired, freed, Pinned, Changed, Frees, InOrder}

-- N participants, M nodes, and the lists l that were lent to `start`, whatever they held
module _ (N M : ℕ) (l : Lent) where
  -- the lists after the start, and after a run from there; a run of fewer than 2^62 changes of the global epoch
  abbrev pub started : Lent
  started = (start_lent N M l).lent

  abbrev pub reached : List Event → Lent
  reached run = after N M run started

  abbrev pub Short : List Event → Type 0
  Short run = advances N M run started < 2 ^ 62

  pub record Reclaims : Type 0 where
    -- Demand 3, its first half: every token was retired, by calls that were accepted, as often as it was freed and still waits somewhere
    pub balance : (run : List Event) → Short run → (x : ℕ) → retired N M x run started ≡ freed N M x run started + waiting N M x (tables_of N M (reached run))
    -- Demand 3, its second half: a token that was retired once is freed at most once (this follows from the balance) ..
    pub once : (run : List Event) → Short run → (x : ℕ) → retired N M x run started ≡ 1 → freed N M x run started ≤ 1
    -- .. and not before each participant whose word was pinned just before the retirement, the retirer as any other, has had its word changed since.
    -- After the events `before` participant d is pinned; then p, perhaps d itself, retires x; then come the events `since`, and then event v frees x: in
    -- the course of `since` the word of d changed. Blocks are used again, so x may have been retired before, if each of those retirements was freed;
    -- a token retired once is the first case, in which there was none
    pub not_early : (before since : List Event) (p x : ℕ) (v : Event) → let retirement = Event.calls p (Call.Defer x) in let run = before ++ retirement ∷ since in
        Short run → retired N M x before started ≡ freed N M x before started → (d : ℕ) → d < N → Pinned N M d (reached before)
        → Frees N M v x (reached run) → Changed N M d since (does N M retirement (reached before)).lent
    -- What makes demand 3 worth something to who holds a guard: a guard is a pinned word. Of each participant that is there (its slot not free, its entry
    -- not deleted) and at rest, the word is pinned exactly if the guard count is at least 1
    pub guarded : (run : List Event) → Short run → (d : ℕ) → d < N → let t = tables_of N M (reached run) in
        t.slot_free d ≡ false → is_tagged (t.shared.entry_next d) ≡ false → running d t ≡ false → is_pinned (t.shared.word d) ≡ leb 1 (t.own d).counts.guards
    -- Document 01, of refusal 1: from a fresh start nothing stored is ever found damaged, and no step misses the node that it must take
    pub never_damaged : (run : List Event) → Short run → (v : Event) → (does N M v (reached run)).answer ≢ Answer.Refused 1
    -- Demand 2, its sentence on the queue: bags leave it in the order in which they were linked, and as they were linked, node, seal and items
    pub order : (run : List Event) → Short run → InOrder N M run started

-- demand 3: whatever lists a start is lent, if it answers that it is done
abbrev pub Demand : Type 0
Demand = (N M : ℕ) (l : Lent) → (start_lent N M l).answer ≡ Answer.Done 0 0 → Reclaims N M l
