-- The laws of records, texts and lines: events and actions are the same but for a broken record; texts are put one after another; a
-- number's digits from its last; how long a line can be. Assumes nothing.
use mathlib.Core.Path.{◌≡◌, refl, ap, sym, ◌∙◌}
use mathlib.Core.Bool.{Bool, true, false}
use mathlib.Core.List.{List, [], ◌∷◌, ◌++◌, append_assoc, append-nil}
use Rattle.std.specs.Prelude.{None, Some, option_map}
use Prim.Native.Nat.{ℕ, zero, suc, ◌+◌, ◌*◌, ◌/◌, ◌%◌, ◌^◌, ◌≤◌, ◌<◌}
use native.Mathlib.Omega.{arith}
use native.Mathlib.Nat.{add-zero, add_assoc, pow-suc, div-lt_iff_lt-mul}
use native.Mathlib.Numerals.{add-one}
use lib.Dec.{ltb, lit<}
use lib.ListN.{length, get_or, take, drop, set, length-append, length-take, length-drop, take-append-drop}
use lib.Seq.{append_snoc, take-suc, set_split, take_at, drop_at, drop-drop}
use borrow.Rule.Slice.PartMut.{put_mid}
use borrow.Author.Tests.{lt-ltb, le-ltb, ltb-true, ltb-false}
use Rattle.definition.specs.Base.{branch}
use Rattle.definition.specs.Runs.{Event}
use Rattle.definition.specs.Schedule.{whole, action_of, token_in, digits, decimal, answer_text, freed_text, line}
use Rattle.definition.specs.Step.{Out}
use Rattle.definition.specs.declared.Answer.{Answer}
use Rattle.definition.proofs.Base.{branch_ind}
use Rattle.script.specs.Script.{action_for, event_for, action_in, written, Puts, line_of}

-- an event is the event of its action
pub event_back : (e : Event) → event_for (action_for e) ≡ e
unfolding action_for event_for
event_back (Event.steps p marked) = refl
event_back Event.registers = refl
event_back (Event.calls p c) = refl

-- what a record says, as an event: none exactly where it is not whole
pub event_in : (b : List ℕ) → option_map event_for (action_in b) ≡ branch (whole b) (Some (action_of (get_or b 0 0) (get_or b 1 0) (token_in b))) None
unfolding action_in branch
event_in b = go (whole b) (action_of (get_or b 0 0) (get_or b 1 0) (token_in b))
  where
    go : (w : Bool) (e : Event) → option_map event_for (branch w (Some (action_for e)) None) ≡ branch w (Some e) None
    go true e = ap Some (event_back e)
    go false e = refl

-- a text put into bytes that have room for it leaves as many bytes
module _ (b : List ℕ) (at : ℕ) where
  pub written_none : written b at [] ≡ b
  unfolding written
  written_none = rw (append-nil, add-zero) (take-append-drop at b)

  pub written_byte : (v : ℕ) → at < length b → set b at v ≡ written b at (v ∷ [])
  unfolding written
  written_byte v h = set_split b at v h ∙ rw add-one (sym (append_snoc (take at b) v (drop (suc at) b)))

  pub written-length : (s : List ℕ) → at + length s ≤ length b → length (written b at s) ≡ length b
  unfolding written
  written-length s h = simp (length-append, length-take, length-drop) (omega arith)

  -- two texts, the second after the first, are one text
  pub written_more : (s t : List ℕ) → at + length s ≤ length b → written (written b at s) (at + length s) t ≡ written b at (s ++ t)
  unfolding written
  written_more s t h =
      let p = take at b ++ s in
      let r = drop (at + length s) b in
      let lp : length p ≡ at + length s = simp (length-append, length-take) (omega arith) in
      let front : take (at + length s) (p ++ r) ≡ p = take_at p r (at + length s) lp in
      let back : drop (at + length s + length t) (p ++ r) ≡ drop (at + length s + length t) b =
      sym (drop-drop (length t) (at + length s) (p ++ r)) ∙ ap (drop (length t)) (drop_at p r (at + length s) lp) ∙ drop-drop (length t) (at + length s) b in
      rw (front, back, append_assoc (take at b) s t, length-append s t, ← add_assoc at (length s) (length t))

-- a part of the bytes, with the text copied over it
pub copied : (b : List ℕ) (at k : ℕ) (s t : List ℕ) → t ≡ s → k ≡ length s → put_mid at k b t ≡ written b at s
unfolding written
copied b at k s t e h =
    rw (e, h) (sym (append_assoc (take at b) s (drop (length s) (drop at b))) ∙ ap (λ (r : List ℕ). take at b ++ s ++ r) (drop-drop (length s) at b))

-- a text put after a text is put as one
pub then : (b : List ℕ) (at : ℕ) (s t : List ℕ) {b' b'' : List ℕ} {p q : ℕ}
    → Puts b at s b' p → Puts b' p t b'' q → at + length s ≤ length b → Puts b at (s ++ t) b'' q
then b at s t x y h = (rw (y.0, x.0, x.1) (written_more b at s t h), rw (length-append s t) (omega (arith, x.1, y.1)))

-- a number of one digit, and one of more, from its last
digits_short : (f n : ℕ) → n < 10 → digits (suc f) n ≡ (48 + n) ∷ []
unfolding digits branch
digits_short f n h =
    let e : n % 10 ≡ n = omega arith in
    rw (lt-ltb n 10 h, e)

digits-long : (f n : ℕ) → 10 ≤ n → digits (suc f) n ≡ digits f (n / 10) ++ (48 + n % 10) ∷ []
unfolding digits branch
digits-long f n h = rw (le-ltb n 10 h)

-- a number has at most as many digits as are asked for
digits_most : (f n : ℕ) → length (digits f n) ≤ f
unfolding digits
digits_most zero n = omega arith
digits_most (suc f) n =
    branch_ind (λ (l : List ℕ). length (l ++ (48 + n % 10) ∷ []) ≤ suc f) (ltb n 10) (λ _. omega arith)
    (λ _. simp length-append (omega (arith, digits_most f (n / 10))))

-- room for a digit more is not used where the number is short enough
digits_more : (f n : ℕ) → n < 10 ^ suc f → digits (suc f) n ≡ digits (suc (suc f)) n
digits_more zero n h = digits_short zero n h ∙ sym (digits_short (suc zero) n h)
digits_more (suc f) n h = go (ltb n 10) refl (digits_more f (n / 10) ((div-lt_iff_lt-mul (lit< tt)).1 (rw pow-suc at h)))
  where
    go : (b : Bool) → ltb n 10 ≡ b → digits (suc f) (n / 10) ≡ digits (suc (suc f)) (n / 10) → digits (suc (suc f)) n ≡ digits (suc (suc (suc f))) n
    go true e same = digits_short (suc f) n (ltb-true n 10 e) ∙ sym (digits_short (suc (suc f)) n (ltb-true n 10 e))
    go false e same = rw (digits-long (suc f) n (ltb-false n 10 e), digits-long (suc (suc f)) n (ltb-false n 10 e), same)

-- a number's digits from its last
pub decimal_short : (n : ℕ) → n < 10 → decimal n ≡ (48 + n) ∷ []
unfolding decimal
decimal_short n h = digits_short 19 n h

pub decimal-long : (n : ℕ) → n < 2 ^ 64 → 10 ≤ n → decimal n ≡ decimal (n / 10) ++ (48 + n % 10) ∷ []
unfolding decimal
decimal-long n h k = rw (← digits_more 18 (n / 10) (omega arith)) (digits-long 19 n k)

pub decimal_most : (n : ℕ) → length (decimal n) ≤ 20
unfolding decimal
decimal_most n = digits_most 20 n

pub decimal_longer : (n : ℕ) → n < 2 ^ 64 → 10 ≤ n → length (decimal (n / 10)) < 20
decimal_longer n h k =
    omega (arith, decimal_most n, ap length (decimal-long n h k) ∙ length-append (decimal (n / 10)) ((48 + n % 10) ∷ []))

-- one token more
pub freed_more : (l : List ℕ) (t : ℕ) → freed_text (l ++ t ∷ []) ≡ freed_text l ++ 32 ∷ 43 ∷ decimal t
unfolding freed_text
freed_more [] t = append-nil (32 ∷ 43 ∷ decimal t)
freed_more (x ∷ l) t = rw (freed_more l t) (sym (ap (λ (r : List ℕ). 32 ∷ 43 ∷ r) (append_assoc (decimal x) (freed_text l) (32 ∷ 43 ∷ decimal t))))

pub freed_next : (l : List ℕ) (i : ℕ) → i < length l → freed_text (take (i + 1) l) ≡ freed_text (take i l) ++ 32 ∷ 43 ∷ decimal (get_or l i 0)
freed_next l i h = rw (add-one, take-suc l i 0) (freed_more (take i l) (get_or l i 0))

-- an answer's text has at most 28 bytes, a token's 22
pub answer_most : (a : Answer) → length (answer_text a) ≤ 28
unfolding answer_text
answer_most (Answer.More k) = omega arith
answer_most (Answer.Done v k) = omega (arith, decimal_most v)
answer_most (Answer.Refused r) = omega (arith, decimal_most r)

pub freed_most : (l : List ℕ) → length (freed_text l) ≤ 22 * length l
unfolding freed_text
freed_most [] = omega arith
freed_most (t ∷ l) = simp length-append (omega (arith, decimal_most t, freed_most l))

pub line_most : (a : Answer) (l : List ℕ) → length (line_of a l) ≤ 29 + 22 * length l
unfolding line_of
line_most a l = simp length-append (omega (arith, answer_most a, freed_most l))

-- the line of what comes out of an event
pub line_is : (o : Out) → line o ≡ line_of o.answer o.freed
unfolding line line_of
line_is o = refl
