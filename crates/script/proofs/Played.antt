-- A record that is played on lent lists does to them what the definition's `played` does to the tables that they hold, and the line of
-- its answer is the definition's. Only a step frees tokens, and an answer's count is the number of them. Assumes nothing.
use mathlib.Core.Path.{◌≡◌, refl, ap, sym, ◌∙◌}
use mathlib.Core.Bool.{Bool, true, false}
use mathlib.Core.List.{List, [], ◌∷◌, ◌++◌}
use Prim.Native.Nat.{ℕ, zero, suc, ◌≤◌, ◌<◌}
use native.Mathlib.Omega.{arith}
use lib.ListN.{length, take, drop, get_or, length-append, length-drop}
use lib.Seq.{take_at}
use Rattle.definition.specs.Base.{branch}
use Rattle.definition.specs.Bags.{max_objects}
use Rattle.definition.specs.Tables.{Tables}
use Rattle.definition.specs.Step.{Out, freed_by, answer_of, follow, take_step, take_marked}
use Rattle.definition.specs.Ranges.{within_limits, max_participants, max_nodes}
use Rattle.definition.specs.Layout.{Lent, sized, tables_of}
use Rattle.definition.specs.Public.{Outcome, unless, enrolled, refused, call, register, step, given, lending, step_lent, register_lent, call_lent}
use Rattle.definition.specs.Runs.{Event, does}
use Rattle.definition.specs.Schedule.{whole, action_of, token_in, played, line}
use Rattle.definition.specs.declared.Answer.{Answer}
use Rattle.definition.specs.declared.Call.{Call}
use Rattle.definition.specs.declared.End.{End}
use Rattle.definition.specs.declared.After.{After}
use Rattle.definition.proofs.Base.{branch_ind}
use Rattle.definition.proofs.Opens.{opens_none}
use Rattle.std.specs.Prelude.{Some, None}
use Rattle.script.specs.Script.{action_for, action_in, freed_count}
use Rattle.script.specs.Played.{keeping, acts, line_from, lines_on}
use Rattle.script.proofs.Laws.{line_is}

-- the answer's count is the number of tokens freed
abbrev Counted : Out → Type 0
Counted o = freed_count o.answer ≡ length o.freed

counted_end : (e : End) (k : ℕ) → freed_count (answer_of e k) ≡ k
unfolding freed_count answer_of
counted_end End.GoesOn k = refl
counted_end (End.EndsWith v) k = refl

counted-follow : (p : ℕ) (a : After) (t : Tables) → Counted (follow p a t)
unfolding follow
counted-follow p a t = counted_end a.end (length (freed_by a.work t))

module _ (t : Tables) where
  -- only a step frees
  call_none : (p : ℕ) (c : Call) → (call 32 128 p c t).freed ≡ []
  unfolding call unless follow
  call_none p c = branch_ind (λ (x : Out). x.freed ≡ []) _ (λ _. opens_none t 32 c _) (λ _. refl)

  register_none : (register 32 128 t).freed ≡ []
  unfolding register unless enrolled
  register_none = branch_ind (λ (x : Out). x.freed ≡ []) _ (λ _. refl) (λ _. refl)

  -- every event counts right
  does-counted : (e : Event) → Counted (does 32 128 e t)
  unfolding does step register call unless enrolled take_marked take_step freed_count
  does-counted (Event.steps p marked) = branch_ind Counted _ (λ _. branch_ind Counted _ (λ _. counted-follow p _ _) (λ _. counted-follow p _ _)) (λ _. refl)
  does-counted Event.registers = branch_ind Counted _ (λ _. refl) (λ _. refl)
  does-counted (Event.calls p c) = branch_ind Counted _ (λ _. counted-follow p _ _) (λ _. refl)

  played-counted : (b : List ℕ) → Counted (played b t)
  unfolding played freed_count
  played-counted b = branch_ind Counted (whole b) (λ _. does-counted _) (λ _. refl)

-- no tokens freed: the list for them is as it was
keeping-given : (l : Lent) (places : List ℕ) (a : Answer) (o : Out) → o.freed ≡ []
    → keeping places (given 32 128 l [] a o) ≡ given 32 128 l places a o
unfolding given
keeping-given l places (Answer.Refused r) o h = refl
keeping-given l places (Answer.Done v k) o h = rw h
keeping-given l places (Answer.More k) o h = rw h

-- what comes out of the tables, given back into the lists
abbrev pub back : Lent → List ℕ → Out → Outcome
back l places o = given 32 128 l places o.answer o

module _ (l : Lent) (places : List ℕ) (fits : sized 32 128 l ≡ true) (room : length places ≡ max_objects) where
  abbrev tables : Tables
  tables = tables_of 32 128 l

  -- lists of the right sizes are never refused with 2
  lending_back : (lent : List ℕ) (f : Tables → Out) → lending 32 128 l lent f ≡ back l lent (f tables)
  unfolding lending within_limits branch max_participants max_nodes
  lending_back lent f = rw fits

  acts_event : (e : Event) → acts 32 128 l places (Some (action_for e)) ≡ back l places (does 32 128 e tables)
  unfolding acts action_for does step_lent register_lent call_lent
  acts_event (Event.steps p marked) = rw (lending_back places (step 32 128 marked (length places) p), room)
  acts_event Event.registers = rw (lending_back [] (register 32 128)) (keeping-given l places _ _ (register_none tables))
  acts_event (Event.calls p c) = rw (lending_back [] (call 32 128 p c)) (keeping-given l places _ _ (call_none tables p c))

  -- a record on the lists is the record on the tables that they hold
  pub acts-played : (b : List ℕ) → acts 32 128 l places (action_in b) ≡ back l places (played b tables)
  unfolding action_in played acts given branch
  acts-played b = go (whole b) (action_of (get_or b 0 0) (get_or b 1 0) (token_in b)) (acts_event _)
    where
      go : (w : Bool) (e : Event) → acts 32 128 l places (Some (action_for e)) ≡ back l places (does 32 128 e tables)
          → acts 32 128 l places (branch w (Some (action_for e)) None) ≡ back l places (branch w (does 32 128 e tables) (refused 13 tables))
      go true e same = same
      go false e same = refl

-- the line of what came out is that of what was given back, its tokens from the front of the list
none : (x : List ℕ) → length x ≡ 0 → x ≡ []
none [] h = refl
none (a ∷ x) h = absurd (omega arith)

module _ (l : Lent) (places : List ℕ) (o : Out) (k : Counted o) where
  line-given : (a : Answer) → o.answer ≡ a → line_from (given 32 128 l places a o) ≡ line o
  unfolding given freed_count
  line-given (Answer.Refused r) e =
      let no : length o.freed ≡ 0 = sym k ∙ ap freed_count e in
      rw (line_is o, e, none o.freed no)
  line-given (Answer.Done v n) e = rw (line_is o, take_at o.freed (drop (length o.freed) places) (freed_count o.answer) (sym k))
  line-given (Answer.More n) e = rw (line_is o, take_at o.freed (drop (length o.freed) places) (freed_count o.answer) (sym k))

  -- the list holds as many as the answer counts
  room_given : (a : Answer) → freed_count (given 32 128 l places a o).answer ≤ length (given 32 128 l places a o).freed
  unfolding given freed_count
  room_given (Answer.Refused r) = omega arith
  room_given (Answer.Done v n) = simp length-append (omega arith)
  room_given (Answer.More n) = simp length-append (omega arith)

  pub line_back : line_from (back l places o) ≡ line o
  line_back = line-given o.answer refl

-- the line that a record's answer is written as, with the freed tokens from the front of their list, is the definition's
pub line-played : (l : Lent) (places b : List ℕ) → sized 32 128 l ≡ true → length places ≡ max_objects
    → line_from (acts 32 128 l places (action_in b)) ≡ line (played b (tables_of 32 128 l))
line-played l places b fits room =
    rw (acts-played l places fits room b) (line_back l places (played b (tables_of 32 128 l)) (played-counted (tables_of 32 128 l) b))

-- and the list for freed tokens holds all that the answer counts
pub room_played : (l : Lent) (places b : List ℕ) → sized 32 128 l ≡ true → length places ≡ max_objects
    → freed_count (acts 32 128 l places (action_in b)).answer ≤ length (acts 32 128 l places (action_in b)).freed
room_played l places b fits room =
    let o = played b (tables_of 32 128 l) in
    rw (acts-played l places fits room b) (room_given l places o (played-counted (tables_of 32 128 l) b) o.answer)

-- fuel that is enough is enough
lines-enough : (m n : ℕ) (b : List ℕ) (l : Lent) (places : List ℕ) → length b ≤ m → length b ≤ n → lines_on m b l places ≡ lines_on n b l places
unfolding lines_on
lines-enough zero zero [] l places h k = refl
lines-enough zero (suc n) [] l places h k = refl
lines-enough (suc m) zero [] l places h k = refl
lines-enough (suc m) (suc n) [] l places h k = refl
lines-enough zero n (x ∷ b) l places h k = absurd (omega arith)
lines-enough (suc m) zero (x ∷ b) l places h k = absurd (omega arith)
lines-enough (suc m) (suc n) (x ∷ b) l places h k =
    let o = acts 32 128 l places (action_in (take 8 (x ∷ b))) in
    let left : length (drop 7 b) ≤ length b = simp length-drop (omega arith) in
    ap (λ (r : List ℕ). line_from o ++ r) (lines-enough m n (drop 7 b) o.lent o.freed (omega arith) (omega arith))

-- the lines of all records are that of the first, and those of the rest on what it leaves
pub lines_next : (b : List ℕ) (l : Lent) (places : List ℕ) (fuel : ℕ) → 0 < length b → length b ≤ fuel
    → lines_on fuel b l places
    ≡ line_from (acts 32 128 l places (action_in (take 8 b))) ++ lines_on fuel (drop 8 b) (acts 32 128 l places (action_in (take 8 b))).lent (acts 32 128 l places (action_in (take 8 b))).freed
unfolding lines_on
lines_next [] l places fuel h k = absurd (omega arith)
lines_next (x ∷ b) l places zero h k = absurd (omega arith)
lines_next (x ∷ b) l places (suc fuel) h k =
    let o = acts 32 128 l places (action_in (take 8 (x ∷ b))) in
    let left : length (drop 7 b) ≤ length b = simp length-drop (omega arith) in
    ap (λ (r : List ℕ). line_from o ++ r) (lines-enough fuel (suc fuel) (drop 7 b) o.lent o.freed (omega arith) (omega arith))

pub lines_end : (fuel : ℕ) (l : Lent) (places : List ℕ) → lines_on fuel [] l places ≡ []
unfolding lines_on
lines_end zero l places = refl
lines_end (suc fuel) l places = refl
