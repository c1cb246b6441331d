-- The line that the program puts for a record is the definition's. Assumes nothing.
use mathlib.Core.Path.{◌≡◌, refl, sym, ap, subst, ◌∙◌}
use mathlib.Core.Bool.{true}
use mathlib.Core.List.{List, [], ◌∷◌, ◌++◌, append_assoc, append-nil}
use Prim.Native.Nat.{ℕ, suc, min, ◌+◌, ◌*◌, ◌≤◌, ◌<◌}
use native.Mathlib.Omega.{arith}
use lib.ListN.{length, take, drop, length-append, length-take}
use lib.Seq.{take_at}
use Rattle.std.specs.Prelude.{Option, Result, Ok, Err, OnOk}
use Rattle.std.specs.Io.KnownBytes.{Appends}
use Rattle.std.proofs.KnownBytes.{Appends-nil, Appends-trans}
use Rattle.definition.specs.Bags.{max_objects}
use Rattle.definition.specs.Layout.{Lent, sized, tables_of, global_words, participant_words, node_words}
use Rattle.definition.specs.Public.{Outcome}
use Rattle.definition.specs.Ranges.{bit_words}
use Rattle.definition.specs.Schedule.{played, line}
use Rattle.script.specs.Script.{action_in, freed_count, line_of, Puts, written}
use Rattle.script.specs.declared.Action.{Action}
use Rattle.script.specs.Played.{acts, line_from, lines_on}
use Rattle.script.proofs.Played.{line-played, room_played, lines_next, lines_end}
use Rattle.player.specs.Records.{reached, reached_as}
use Rattle.player.proofs.Laws.{reached_more}
use Rattle.schedule.specs.Written.{Wrote}

-- the program's lists have the sizes of 32 participants and 128 nodes
pub fits-sized : (l : Lent) → length l.globals ≡ 8 → length l.participants ≡ 672 → length l.nodes ≡ 384 → length l.held ≡ 2048 → length l.queued ≡ 8192
    → sized 32 128 l ≡ true
unfolding sized global_words participant_words node_words max_objects bit_words
fits-sized l g p n h q = rw (g, p, n, h, q) refl

-- over plain variables: a record, its action, the outcome, and how many of the freed tokens are put
pub line-put : (l : Lent) (places b : List ℕ) (a : Option Action) (x : Outcome) (k : ℕ) → sized 32 128 l ≡ true → length places ≡ 64
    → a ≡ action_in b → x ≡ acts 32 128 l places a → k ≡ min (freed_count x.answer) (length x.freed)
    → line_of x.answer (take k x.freed) ≡ line (played b (tables_of 32 128 l))
unfolding max_objects
line-put l places b a x k fits room ea ex ek =
    let y = acts 32 128 l places (action_in b) in
    let most : min (freed_count y.answer) (length y.freed) ≡ freed_count y.answer = omega (arith, room_played l places b fits room) in
    rw (ek, ex, ea, most) (line-played l places b fits room)

-- and so it is the line of the outcome
pub line-same : (l : Lent) (places b : List ℕ) (s : List ℕ) → sized 32 128 l ≡ true → length places ≡ 64
    → s ≡ line (played b (tables_of 32 128 l)) → s ≡ line_from (acts 32 128 l places (action_in b))
unfolding max_objects
line-same l places b s fits room e = e ∙ sym (line-played l places b fits room)

-- nothing is written yet, and all of it is to be
pub none_written : (w : Option (List ℕ)) (all : List ℕ) → Wrote w w all all
none_written w all = record { text = []; appends = Appends-nil w; whole = refl }

-- some is written, of what is left
pub more_written : (a b c : Option (List ℕ)) (all x y z : List ℕ) → Wrote a b all (x ++ y) → Wrote b c x z → Wrote a c all (z ++ y)
more_written a b c all x y z first second = record {
  text = first.text ++ second.text;
  appends = Appends-trans a b c first.text second.text first.appends second.appends;
  whole = append_assoc first.text second.text (z ++ y)
      ∙ ap (λ (r : List ℕ). first.text ++ r) (sym (append_assoc second.text z y) ∙ ap (λ (r : List ℕ). r ++ y) second.whole) ∙ first.whole;
}

-- what stands before the place after a text that is put
pub written_front : (b : List ℕ) (at : ℕ) (s b' : List ℕ) (p : ℕ) → at ≤ length b → Puts b at s b' p → take p b' ≡ take at b ++ s
unfolding written
written_front b at s b' p within puts =
    let front : length (take at b ++ s) ≡ at + length s = simp (length-append, length-take) (omega arith) in
    rw (puts.0, puts.1) (take_at (take at b ++ s) (drop (at + length s) b) (at + length s) front)

-- a line more is put, and the records after it are left
pub line_more : (fuel : ℕ) (put put' rest x after : List ℕ) (l l' : Lent) (places places' : List ℕ) → 0 < length rest → length rest ≤ fuel
    → x ≡ take 8 rest → after ≡ drop 8 rest
    → put' ≡ put ++ line_from (acts 32 128 l places (action_in x))
    → l' ≡ (acts 32 128 l places (action_in x)).lent → places' ≡ (acts 32 128 l places (action_in x)).freed
    → put ++ lines_on fuel rest l places ≡ put' ++ lines_on fuel after l' places'
line_more fuel put put' rest x after l l' places places' some few ex ea puts el ep =
    let s = line_from (acts 32 128 l places (action_in x)) in
    let more = lines_on fuel after (acts 32 128 l places (action_in x)).lent (acts 32 128 l places (action_in x)).freed in
    let next : lines_on fuel rest l places ≡ s ++ more = rw (ex, ea) (lines_next rest l places fuel some few) in
    rw (el, ep, puts) (ap (λ (r : List ℕ). put ++ r) next ∙ sym (append_assoc put s more))

-- where nothing else is left, the rest is written and that is all
pub all_written : (a b c : Option (List ℕ)) (all x y : List ℕ) → Wrote a b all (x ++ y) → y ≡ [] → Appends b c x → Appends a c all
all_written a b c all x y first none h =
    let whole : first.text ++ x ≡ all = ap (λ (r : List ℕ). first.text ++ r) (sym (append-nil x) ∙ ap (λ (r : List ℕ). x ++ r) (sym none)) ∙ first.whole in
    subst (Appends a c) whole (Appends-trans a b c first.text x first.appends h)

-- no record is left, and so no line
pub no_lines : (fuel : ℕ) (rest : List ℕ) (l : Lent) (places : List ℕ) → length rest ≡ 0 → lines_on fuel rest l places ≡ []
no_lines fuel [] l places h = lines_end fuel l places
no_lines fuel (x ∷ rest) l places h = absurd (omega arith)

-- what follows from what holds at `Ok`, does at `Ok`
pub on_ok : {A E P Q : Type 0} (r : Result A E) → OnOk r P → (P → Q) → OnOk r Q
on_ok (Ok x) h f = f h
on_ok (Err e) h f = tt

pub at_ok : {A E P : Type 0} (r : Result A E) → P → OnOk r P
at_ok (Ok x) h = h
at_ok (Err e) h = tt

-- the lists after one record more
pub reached_next : (b : List ℕ) (first l l' : Lent) (f f' f'' : List ℕ) (k j : ℕ) (r x t : List ℕ)
    → r ≡ drop (8 * k) b → r ≡ x ++ t → length x ≡ min 8 (length r)
    → l' ≡ (acts 32 128 l f' (action_in x)).lent → f'' ≡ (acts 32 128 l f' (action_in x)).freed → j ≡ suc k
    → reached_as l f' ≡ reached 32 128 b first f k → reached_as l' f'' ≡ reached 32 128 b first f j
reached_next b first l l' f f' f'' k j r x t er e h el ef ej before =
    rw (el, ef) (reached_more 32 128 b first l f f' k j r x t (action_in x) (acts 32 128 l f' (action_in x)) er e h refl refl ej before)
