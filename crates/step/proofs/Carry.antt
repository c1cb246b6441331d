-- What follows an access or a call, carried out on lent lists: `follow` may be called, and what it leaves is the definition's `follow` on the
-- tables that the lists hold. Said once, for a step and for a call. Assumes nothing.
use mathlib.Core.Path.{◌≡◌, ap, sym, subst, ◌∙◌}
use mathlib.Core.Bool.{true}
use mathlib.Core.List.{List}
use Prim.Native.Nat.{ℕ, ◌+◌, ◌-◌, ◌^◌, ◌≤◌, ◌<◌}
use native.Mathlib.Omega.{arith}
use lib.ListN.{length, get_or}
use Rattle.definition.specs.Bags.{item_word}
use Rattle.definition.specs.Calls.{max_token, begins, opens}
use Rattle.definition.specs.Flow.{on, done, also, finalize, placed, defer}
use Rattle.definition.specs.Tables.{Tables}
use Rattle.definition.specs.Layout.{Lent, cell, global_words, participant_words, record_at, bag_from, slot_bits, node_bits, tables_of, lent_of}
use Rattle.definition.specs.Ranges.{bit_words, bag_in}
use Rattle.definition.specs.Step.{follow, answer_of}
use Rattle.definition.specs.declared.Item.{Item}
use Rattle.definition.specs.declared.Participant.{Participant}
use Rattle.definition.specs.declared.Work.{Work}
use Rattle.definition.specs.declared.After.{After}
use Rattle.definition.specs.declared.Answer.{Answer}
use Rattle.definition.specs.declared.Call.{Call}
use Rattle.definition.proofs.Base.{branch_ind}
use Rattle.definition.proofs.Lists.{Sized, lists_back}
use Rattle.definition.proofs.Within.{PlaceIn, ItemIn, WorkIn}
use Rattle.bits.proofs.Laws.{bit_words-has, bits_word-bits}
use Rattle.bags.specs.Bags.{filled}
use Rattle.bags.proofs.Freeing.{bag-small, bag-has-bits}
use Rattle.settle.specs.Settle.{Settles, settled_globals, settled_tokens}
use Rattle.settle.proofs.Laws.{Fits}
use Rattle.follow.specs.Follow.{SetsAside, Follows, Followed, followed_lent}
use Rattle.follow.proofs.Laws.{settled_sized, settled_total, tokens_same, followed-sized, followed-tables}
use Rattle.step.specs.Steps.{Leaves}
use Rattle.step.proofs.Room.{RoomFor}
use Rattle.step.proofs.Written.{pointers_fit}

-- lists whose words are words are the definition's lists of the tables that they hold
pub lists_are : (N M : ℕ) (l : Lent) (t : Tables) → Sized N M l → tables_of N M l ≡ t → ((j : ℕ) → get_or l.globals j 0 < 2 ^ 64) → l ≡ lent_of N M t
unfolding slot_bits node_bits global_words
lists_are N M l t s e small =
    sym (lists_back N M l s
    (λ k lt. bits_word-bits (bit_words N) (λ j. get_or l.globals (5 + j) 0) k lt (small (5 + k)))
    (λ k lt. bits_word-bits (bit_words M) (λ j. get_or l.globals (5 + bit_words N + j) 0) k lt (small (5 + bit_words N + k))))
    ∙ ap (lent_of N M) e

-- ---- the work

-- the bag that the work frees, if any, is in range
unfoldable pub FreedIn : (N M : ℕ) → Lent → Work → Type 0
FreedIn N M l Work.Nothing = Unit {0}
FreedIn N M l (Work.Put item) = Unit {0}
FreedIn N M l (Work.PutThenFree item x) = bag_in N M (bag_from l.nodes l.queued x.0).len (bag_from l.nodes l.queued x.0).deferreds ≡ true
FreedIn N M l (Work.Seal x e) = Unit {0}

-- so where all are
pub freed_in : (N M : ℕ) (l : Lent) (w : Work) → WorkIn N M w
    → ((x : ℕ) → x < M → bag_in N M (bag_from l.nodes l.queued x).len (bag_from l.nodes l.queued x).deferreds ≡ true) → FreedIn N M l w
unfolding FreedIn WorkIn
freed_in N M l Work.Nothing i bags = tt
freed_in N M l (Work.Put item) i bags = tt
freed_in N M l (Work.PutThenFree item x) i bags = bags x.0 i.1
freed_in N M l (Work.Seal x e) i bags = tt

work_fits : (N M p k : ℕ) (l : Lent) (w : Work) → WorkIn N M w → RoomFor k w → k ≤ 64 → FreedIn N M l w → Fits N M p k w l
unfolding WorkIn RoomFor Fits FreedIn
work_fits N M p k l Work.Nothing i r small freed = tt
work_fits N M p k l (Work.Put item) i r small freed = r
work_fits N M p k l (Work.PutThenFree item x) i r small freed = (r, (i.1, freed))
work_fits N M p k l (Work.Seal x e) i r small freed = (small, i)

item_fits : (N M : ℕ) → N ≤ 4096 → M ≤ 4096 → (i : Item) → ItemIn N M i → item_word i < 2 ^ 64
unfolding ItemIn item_word max_token
item_fits N M n m (Item.Token token) h = omega arith
item_fits N M n m (Item.Node x) h = omega arith
item_fits N M n m (Item.Slot x) h = omega arith

-- places for the tokens that the work frees: none, or those of one bag
unfoldable pub PlacesFor : Work → List ℕ → Type 0
PlacesFor Work.Nothing f = Unit {0}
PlacesFor (Work.Put item) f = Unit {0}
PlacesFor (Work.PutThenFree item x) f = 64 ≤ length f
PlacesFor (Work.Seal x e) f = Unit {0}

-- so where there are those of one bag
pub places_for : (w : Work) (f : List ℕ) → 64 ≤ length f → PlacesFor w f
unfolding PlacesFor
places_for Work.Nothing f h = tt
places_for (Work.Put item) f h = tt
places_for (Work.PutThenFree item x) f h = h
places_for (Work.Seal x e) f h = tt

-- what a call begins frees no bag, so it needs no place
abbrev NoPlaces : List ℕ → After → Type 0
NoPlaces f a = PlacesFor a.work f

pub opens_places : (N : ℕ) (c : Call) (o : Participant) (f : List ℕ) → PlacesFor (opens N c o).work f
unfolding PlacesFor opens begins on done also finalize placed defer
opens_places N Call.Acquire o f = tt
opens_places N Call.Release o f = branch_ind (NoPlaces f) _ (λ _. tt) (λ _. tt)
opens_places N Call.Pin o f = branch_ind (NoPlaces f) _ (λ _. tt) (λ _. tt)
opens_places N Call.Unpin o f = branch_ind (NoPlaces f) _ (λ _. tt) (λ _. tt)
opens_places N Call.Repin o f = branch_ind (NoPlaces f) _ (λ _. tt) (λ _. tt)
opens_places N (Call.Defer token) o f = branch_ind (NoPlaces f) _ (λ _. tt) (λ _. tt)
opens_places N Call.Flush o f = branch_ind (NoPlaces f) _ (λ _. tt) (λ _. tt)

work_settles : (N M p k : ℕ) (l : Lent) (f : List ℕ) → N ≤ 4096 → M ≤ 4096 → Sized N M l → p < N → (w : Work) → PlacesFor w f → WorkIn N M w
    → Fits N M p k w l → Settles N p k w l f
unfolding PlacesFor WorkIn Fits global_words
work_settles N M p k l f n m s hp Work.Nothing places i fit = tt
work_settles N M p k l f n m s hp (Work.Put item) places i fit = (fit, (rw s.held (omega arith), item_fits N M n m item i))
work_settles N M p k l f n m s hp (Work.PutThenFree item x) places i fit =
    let room : k < 64 = fit.0 in
    let few = bag-small N M l.nodes l.queued x.0 fit.1.1 in
    let inside : x.0 < M = fit.1.0 in (
      (room, (rw s.held (omega arith), item_fits N M n m item i.0)),
      (
        (rw s.nodes (omega arith), rw s.queued (omega (arith, few))),
        (omega (arith, few), bag-has-bits N M l.nodes l.queued x.0 fit.1.1 (length l.globals) (rw s.globals (omega arith))),
      ),
    )
work_settles N M p k l f n m s hp (Work.Seal x e) places i fit =
    let small : k ≤ 64 = fit.0 in
    let inside : x.0 < M = fit.1 in
    ((rw s.held (omega arith), (rw s.nodes (omega arith), rw s.queued (omega arith))), rw s.globals (omega (arith, bit_words-has x.0 M inside)))

-- ---- all that follows

-- participant p, who is o, may go on as `a` says: the work and the new place are within the tables, there is room for an item, a bag that is
-- freed is in range, and the set-aside total covers the old share and can hold the new one. No more than what is touched
pub record Carries (N M p : ℕ) (l : Lent) (o : Participant) (a : After) : Type 0 where
  pub few : (N ≤ 4096) × (M ≤ 4096)
  pub size : Sized N M l
  pub below : p < N
  pub held_is : (record_at (cell participant_words l.participants p)).held ≡ o.held
  pub share_is : (record_at (cell participant_words l.participants p)).share ≡ o.share
  pub freed : FreedIn N M l a.work
  pub work_in : WorkIn N M a.work
  pub place_in_lem : PlaceIn N M a.participant.place
  pub room : RoomFor o.held a.work
  pub held-small : o.held ≤ 64
  pub covers : o.share ≤ get_or l.globals 4 0
  pub total : get_or l.globals 4 0 - o.share + a.participant.share < 2 ^ 64

module _ (N M p : ℕ) (l : Lent) (o : Participant) (a : After) (c : Carries N M p l o a) where
  fits : Fits N M p o.held a.work l
  fits = work_fits N M p o.held l a.work c.work_in c.room c.held-small c.freed

  -- the set-aside total can be changed
  aside : SetsAside (settled_globals N a.work l.globals l.nodes l.queued) o.share a.participant.share
  aside =
      let g = settled_globals N a.work l.globals l.nodes l.queued in
      let total : get_or g 4 0 ≡ get_or l.globals 4 0 = settled_total N M p o.held l c.size c.below c.held_is a.work fits in
      let long : length g ≡ 5 + bit_words N + bit_words M = (settled_sized N M p o.held l c.size c.below a.work fits).globals in
      record { long = omega (arith, long); covers = rw total c.covers; fits = rw total c.total }

  -- all that `follow` asks
  pub may_carry : (f : List ℕ) → PlacesFor a.work f → Follows N p o.held o.share a l f
  may_carry f places = record {
    settles = work_settles N M p o.held l f c.few.0 c.few.1 c.size c.below a.work places c.work_in fits;
    aside = aside;
    row = rw c.size.participants (let below = c.below in omega arith);
    pointers = pointers_fit N M (let n = c.few.0 in omega arith) a.participant.place c.place_in_lem;
  }

  -- the lists afterwards
  abbrev carried : Lent
  carried = followed_lent N p o.held o.share a l

  -- hold the definition's tables
  pub carried-tables : tables_of N M carried ≡ (follow p a (tables_of N M l)).tables
  carried-tables = followed-tables N M p o.held l c.size c.below o.share a fits c.held_is c.share_is

  -- and the tokens are those that it frees
  carried-tokens : settled_tokens a.work l.nodes l.queued ≡ (follow p a (tables_of N M l)).freed
  unfolding follow
  carried-tokens = tokens_same N M p o.held l c.size c.below a.work fits

  carried-sized : Sized N M carried
  carried-sized = followed-sized N M p o.held l c.size c.below o.share a fits

  carried-answer : (r : Answer) → r ≡ answer_of a.end (length (settled_tokens a.work l.nodes l.queued))
      → r ≡ (follow p a (tables_of N M l)).answer
  unfolding follow
  carried-answer r h = h ∙ ap (λ (ts : List ℕ). answer_of a.end (length ts)) carried-tokens

  -- what `follow` leaves is the definition's
  pub carried-leaves : (f : List ℕ) (r : Answer) (l' : Lent) (f' : List ℕ) → Followed N p o.held o.share a l f r l' f'
      → Leaves N M (follow p a (tables_of N M l)) f r l' f'
  carried-leaves f r l' f' w = record {
    answer = carried-answer r w.answer;
    lent = w.lent ∙ lists_are N M carried (follow p a (tables_of N M l)).tables carried-sized carried-tables
        (λ j. subst (λ (l : Lent). get_or l.globals j 0 < 2 ^ 64) w.lent (w.words j));
    freed = w.freed ∙ ap (λ (ts : List ℕ). filled ts f) carried-tokens;
  }
