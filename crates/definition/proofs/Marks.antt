-- What a mark does: the only place that asks for a weak exchange is the link of a registering, and where its value agrees only the place of the
-- registering participant changes, back to the store of its own next. Assumes nothing.
use mathlib.Core.Path.{◌≡◌, refl, ap, sym, ◌∙◌}
use mathlib.Core.Logic.{◌≢◌}
use mathlib.Core.Bool.{Bool, true, false, ◌&&◌, false≢true}
use mathlib.Core.List.{List, []}
use Prim.Native.Nat.{ℕ, ◌+◌, ◌-◌, ◌≤◌, ◌<◌}
use native.Mathlib.Omega.{arith}
use lib.Dec.{eqb, ltb, leb}
use lib.ListN.{length}
use borrow.Author.Tests.{eqb-true, eq-eqb, ne_eqb, leb-true}
use Rattle.definition.specs.Base.{branch, all}
use Rattle.definition.specs.Links.{pointer}
use Rattle.definition.specs.Bags.{max_objects}
use Rattle.definition.specs.Tables.{Tables, read, with_own}
use Rattle.definition.specs.Flow.{on, at}
use Rattle.definition.specs.Rule.{asks, follows, agrees, sees, leaves, exchanged, made, is_weak, fails, missed, failed}
use Rattle.definition.specs.List.{insert, delete, iterate}
use Rattle.definition.specs.Queue.{push, pop}
use Rattle.definition.specs.Internal.{pin_epoch, pin_word, unpin_word, repin, advance_epoch, advance_word, advance_store, final_word, rule}
use Rattle.definition.specs.Codec.{record_of, participant_of}
use Rattle.definition.specs.Step.{Out, follow, settle, freed_by, answer_of, rule_at, take_step, take_marked, access_at}
use Rattle.definition.specs.Public.{refusal, unless, the, damaged, absent, step_checks, step, kept, given, lending, step_lent}
use Rattle.definition.specs.Ranges.{within_limits, code_in, record_in, shared_in, in_range}
use Rattle.definition.specs.Calls.{max_count}
use Rattle.definition.specs.Layout.{Lent, sized, tables_of, lent_of}
use Rattle.definition.specs.Marks.{Links, back, WouldLink, Marks}
use Rattle.definition.specs.Types.{Slot, Node, Ptr, RegisterAt, RepinAt, WalkAt, PopAt, PushAt, Place, Participant, Record, Word, Kind, Answer}
use Rattle.definition.proofs.Base.{branch-true, branch-false, same?, both, all_at}
use Rattle.definition.proofs.Codec.{pointee-pointer}
use Rattle.definition.proofs.Refusals.{passes, here, not_false}

-- a place that asks for a weak exchange is the link of a registering
data Weak : Place → Type 0 where
  links : (next : Ptr) → Weak (Place.Register (RegisterAt.Link next))

weak_links : (self : Slot) (spare : Node) (sealed : Node → ℕ) (o : Participant) (pl : Place) → is_weak (asks (rule self spare sealed o pl)) ≡ true → Weak pl
unfolding rule asks is_weak insert delete iterate push pop pin_epoch pin_word unpin_word repin advance_epoch advance_word advance_store final_word
weak_links self spare sealed o Place.Rest h = absurd (false≢true h)
weak_links self spare sealed o (Place.Register RegisterAt.Head) h = absurd (false≢true h)
weak_links self spare sealed o (Place.Register (RegisterAt.Next next)) h = absurd (false≢true h)
weak_links self spare sealed o (Place.Register (RegisterAt.Link next)) h = Weak.links next
weak_links self spare sealed o (Place.PinEpoch k) h = absurd (false≢true h)
weak_links self spare sealed o (Place.PinWord k e) h = absurd (false≢true h)
weak_links self spare sealed o (Place.Repin RepinAt.Word) h = absurd (false≢true h)
weak_links self spare sealed o (Place.Repin (RepinAt.Epoch e)) h = absurd (false≢true h)
weak_links self spare sealed o (Place.Repin (RepinAt.Store e)) h = absurd (false≢true h)
weak_links self spare sealed o Place.UnpinWord h = absurd (false≢true h)
weak_links self spare sealed o (Place.AdvanceEpoch k) h = absurd (false≢true h)
weak_links self spare sealed o (Place.Walk t WalkAt.Head) h = absurd (false≢true h)
weak_links self spare sealed o (Place.Walk t (WalkAt.Next c)) h = absurd (false≢true h)
weak_links self spare sealed o (Place.Walk t (WalkAt.Unlink c succ)) h = absurd (false≢true h)
weak_links self spare sealed o (Place.Walk t WalkAt.Stalled) h = absurd (false≢true h)
weak_links self spare sealed o (Place.AdvanceWord t curr succ) h = absurd (false≢true h)
weak_links self spare sealed o (Place.AdvanceStore t) h = absurd (false≢true h)
weak_links self spare sealed o (Place.Pop q PopAt.Head) h = absurd (false≢true h)
weak_links self spare sealed o (Place.Pop q (PopAt.Next head)) h = absurd (false≢true h)
weak_links self spare sealed o (Place.Pop q (PopAt.Exchange head next)) h = absurd (false≢true h)
weak_links self spare sealed o (Place.Pop q (PopAt.Tail head next)) h = absurd (false≢true h)
weak_links self spare sealed o (Place.Pop q (PopAt.TailMove head next)) h = absurd (false≢true h)
weak_links self spare sealed o (Place.Push then PushAt.Epoch) h = absurd (false≢true h)
weak_links self spare sealed o (Place.Push then (PushAt.Tail new)) h = absurd (false≢true h)
weak_links self spare sealed o (Place.Push then (PushAt.Next new onto)) h = absurd (false≢true h)
weak_links self spare sealed o (Place.Push then (PushAt.Help new onto next)) h = absurd (false≢true h)
weak_links self spare sealed o (Place.Push then (PushAt.Link new onto)) h = absurd (false≢true h)
weak_links self spare sealed o (Place.Push then (PushAt.Move new onto)) h = absurd (false≢true h)
weak_links self spare sealed o Place.FinalWord h = absurd (false≢true h)
weak_links self spare sealed o Place.FinalTag h = absurd (false≢true h)

module _ (M p : ℕ) (t : Tables) where
  -- once every check is passed, p stands at a link that would be done, or a marked step is the unmarked one
  data Taken : Type 0 where
    misses : (next : Ptr) → (the p t).place ≡ Place.Register (RegisterAt.Link next) → t.shared.list_head ≡ pointer next → Taken
    same : take_marked true M p t ≡ take_step M p t → Taken

  -- at a link: the value agrees, or the exchange is lost with the mark and without
  module _ (next : Ptr) (stands : (the p t).place ≡ Place.Register (RegisterAt.Link next)) where
    agreeing : t.shared.list_head ≡ pointer next → take_marked true M p t ≡ follow p (on (Place.Register (RegisterAt.Next next)) (the p t)) t
    unfolding take_marked rule_at rule insert asks follows sees fails is_weak missed read branch
    agreeing e = rw (stands, e, pointee-pointer next)

    accessing : t.shared.list_head ≡ pointer next
        → access_at true M p t ≡ record { kind = Kind.ExchangeFailed; word = Word.ListHead; read = pointer next; stored = 0 }
    unfolding access_at rule_at rule insert asks made exchanged agrees fails is_weak failed read branch
    accessing e = rw (stands, e, eq-eqb (pointer next) (pointer next) refl)

    differing : eqb t.shared.list_head (pointer next) ≡ false → take_marked true M p t ≡ take_step M p t
    unfolding take_marked take_step rule_at rule insert asks follows agrees sees leaves fails is_weak missed read branch
    differing e = rw (stands, e)

  taken : Taken
  unfolding rule_at
  taken = by (is_weak (asks (rule_at M p t))) refl
    where
      at_link : (next : Ptr) → (the p t).place ≡ Place.Register (RegisterAt.Link next) → (b : Bool) → eqb t.shared.list_head (pointer next) ≡ b → Taken
      at_link next stands true e = Taken.misses next stands (eqb-true _ _ e)
      at_link next stands false e = Taken.same (differing next stands e)

      at_weak : (pl : Place) → (the p t).place ≡ pl → Weak pl → Taken
      at_weak pl stands (Weak.links next) = at_link next stands _ refl

      by : (b : Bool) → is_weak (asks (rule_at M p t)) ≡ b → Taken
      by true e = at_weak _ refl (weak_links _ _ _ _ _ e)
      by false e = Taken.same (unfold take_marked fails in branch-false _ _ e)

-- ---- on tables

-- what is set aside stays where a share does
aside_same : (a s : ℕ) → s ≤ a → a - s + s ≡ a
aside_same a s h = omega arith

-- to go on at another place changes the place only
follow_on : (p : ℕ) (pl : Place) (t : Tables) → (t.own p).share ≤ t.aside
    → follow p (on pl (the p t)) t ≡ record { tables = with_own p (record_of (at pl (the p t))) t; answer = Answer.More 0; freed = [] }
unfolding follow on settle freed_by answer_of record_of participant_of
follow_on p pl t h = rw (aside_same t.aside (t.own p).share h)

-- in range, a share is part of what is set aside
share_record : (N M aside : ℕ) (r : Record) → record_in N M aside r ≡ true → r.share ≤ aside
unfolding record_in
share_record N M aside r h =
    let counts = leb r.counts.guards max_count && leb r.counts.handles max_count in
    let a = both (counts && leb r.share aside && code_in N M r.code) _ h in
    let b = both (counts && leb r.share aside) (code_in N M r.code) a.0 in
    leb-true r.share aside (both counts (leb r.share aside) b.0).1

share_in : (N M p : ℕ) (t : Tables) → p < N → in_range N M t ≡ true → (t.own p).share ≤ t.aside
unfolding in_range
share_in N M p t lt h =
    let a = both _ _ h in
    let b = both _ _ a.0 in
    let c = both _ _ b.0 in
    let d = both _ _ c.0 in
    let e = both (shared_in N M t.shared && leb t.aside M) (all N (λ i. record_in N M t.aside (t.own i))) d.0 in
    share_record N M t.aside (t.own p) (all_at N (λ i. record_in N M t.aside (t.own i)) p e.1 lt)

module _ (N M places p : ℕ) (t : Tables) where
  -- so is that of a step that passes its checks
  share_aside : refusal (step_checks N M places p t) ≡ 0 → (t.own p).share ≤ t.aside
  unfolding step_checks damaged
  share_aside h =
      let a = passes 1 (damaged N M t) _ (λ z. omega arith) h in
      let b = passes 12 (ltb places max_objects) _ (λ z. omega arith) a.1 in
      let c = passes 3 (absent N M p t) _ (λ z. omega arith) b.1 in
      share_in N M p t (here N M p t c.0) (not_false (in_range N M t) a.0)

  -- where a link would be done it does fail
  fails_there : (next : Ptr) → Links N M places p t next → step N M true places p t ≡ back p next t
  unfolding step unless
  fails_there next k =
      branch-true _ _ (eq-eqb _ 0 k.passes) ∙ agreeing M p t next k.stands k.agrees ∙ follow_on p _ t (share_aside k.passes)

  -- a marked step fails there, or is the unmarked one
  pub data Marked : Type 0 where
    misses : (next : Ptr) → Links N M places p t next → step N M true places p t ≡ back p next t → Marked
    same : step N M true places p t ≡ step N M false places p t → Marked

  passing : refusal (step_checks N M places p t) ≡ 0 → Taken M p t → Marked
  unfolding step take_marked fails branch
  passing e (Taken.misses next stands head) =
      let k : Links N M places p t next = record { passes = e; stands = stands; agrees = head } in
      Marked.misses next k (fails_there next k)
  passing e (Taken.same k) = Marked.same (ap (unless (step_checks N M places p t) t) k)

  refusing : refusal (step_checks N M places p t) ≢ 0 → step N M true places p t ≡ step N M false places p t
  unfolding step unless
  refusing ne = branch-false _ _ (ne_eqb _ 0 ne) ∙ sym (branch-false _ _ (ne_eqb _ 0 ne))

  pub marked : Marked
  marked = same? (refusal (step_checks N M places p t)) 0 (λ e. passing e (taken M p t)) (λ ne. Marked.same (refusing ne))

-- ---- on lists

module _ (N M : ℕ) (l : Lent) (p : ℕ) (places : List ℕ) where
  there : (next : Ptr) → WouldLink N M l p places next
      → step_lent N M l p true places ≡ record { answer = Answer.More 0; lent = lent_of N M (back p next (tables_of N M l)).tables; freed = places }
  unfolding step_lent lending given
  there next w = rw (fails_there N M (length places) p (tables_of N M l) next w.links) (branch-true _ _ w.sizes)

  -- where the sizes are wrong both are refused; where they are right and the mark has an effect, the link would be done
  elsewhere : ((next : Ptr) → WouldLink N M l p places next → ⊥) → Marked N M (length places) p (tables_of N M l) → step_lent N M l p true places ≡ step_lent N M l p false places
  unfolding step_lent lending
  elsewhere never (Marked.same e) = ap (λ (o : Out). branch (within_limits N M && sized N M l) (given N M l places o.answer o) (kept N M l places 2)) e
  elsewhere never (Marked.misses next k e) = by (within_limits N M && sized N M l) refl
    where
      by : (b : Bool) → (within_limits N M && sized N M l) ≡ b → step_lent N M l p true places ≡ step_lent N M l p false places
      by true s = absurd (never next (record { sizes = s; links = k }))
      by false s = branch-false _ _ s ∙ sym (branch-false _ _ s)

  pub marks : Marks N M l p places
  marks = record {
    there = there;
    access = λ next w. accessing M p (tables_of N M l) next w.links.stands w.links.agrees;
    elsewhere = λ never. elsewhere never (marked N M (length places) p (tables_of N M l));
  }
