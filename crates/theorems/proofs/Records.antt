-- C, records, kept by every step: what a slot's record is goes with how the slot is used. A slot that is unlinked was deleted, so it is quiet;
-- a slot that is freed was out, so it is quiet; nobody else's record changes; and the own record is `Live`'s. Leans on Held (who unlinks knows
-- that the entry is tagged) and Used (what is freed was out). Assumes nothing.
use mathlib.Core.Path.{◌≡◌, refl, ap, sym, ◌∙◌}
use mathlib.Core.Logic.{◌≢◌}
use mathlib.Core.Bool.{Bool, true, false, true≢false}
use mathlib.Core.List.{List, [], ◌∷◌}
use Prim.Native.Nat.{ℕ, zero, suc, ◌+◌, ◌-◌, ◌*◌, ◌%◌, ◌<◌}
use native.Mathlib.Omega.{arith}
use lib.Dec.{eqb}
use lib.ListN.{length}
use borrow.Author.Tests.{eqb-true, eq-eqb, ne_eqb}
use Rattle.theorems.proofs.Live.{unlinked_word, bag_after, LiveAfter, LiveQ, live_step}
use Rattle.epoch.specs.Epoch.{is_pinned}
use Rattle.definition.specs.Base.{branch, Tab, put, least}
use Rattle.definition.specs.Links.{null, link, is_tagged, tagged, pointer}
use Rattle.definition.specs.Bags.{free_slots}
use Rattle.definition.specs.Tables.{Shared, read, write}
use Rattle.definition.specs.List.{insert, delete, pred_word}
use Rattle.definition.proofs.Base.{same?, put_ind, put_same, put_other}
use Rattle.theorems.proofs.Machine.{Machine, Fits, works, followed}
use Rattle.theorems.proofs.Length.{Fitting, follows-fits}
use Rattle.theorems.proofs.Repins.{after_repins}
use Rattle.theorems.proofs.Ghost.{Use, Ghost, Turn, turn_of, use_turned, use_worked, slots_freed, moved}
use Rattle.theorems.proofs.Change.{Change, changes}
use Rattle.definition.specs.Rule.{asks, follows, sees, leaves}
use Rattle.definition.specs.Flow.{on, done}
use Rattle.definition.specs.Internal.{rule}
use Rattle.theorems.proofs.Leads.{Leads, leads}
use Rattle.theorems.proofs.Worked.{Worked, worked}
use Rattle.theorems.proofs.Frames.{own_goes, entry_next-goes, word-goes, held-goes, length-bag}
use Rattle.theorems.proofs.Safety.{use_unfreed, in_bag-occurs, popped_in}
use Rattle.theorems.proofs.Inv.{Inv, Steps, rule_of, won_of, left_of, after_of, goes, goes_ghost, stepped, stepped_ghost}
use Rattle.theorems.proofs.Invariant.{Live, InList, Records, RepinPins, Fine, Born, SafeUse, SafeSlot, HoldsWalk, HoldsAt, is_unused, Registers, times, same_item, popped_node}
use Rattle.theorems.proofs.Types.{Item, Node, Ptr, Pred, Cursor, Try, Then, RegisterAt, WalkAt, PushAt, Place, Participant, Word, Seen, After}

-- ---- tags

pub pointer_untagged : (q : Ptr) → is_tagged (pointer q) ≡ false
unfolding is_tagged pointer null link
pointer_untagged Ptr.Null = refl
pointer_untagged (Ptr.At s) = ne_eqb (2 * (s.0 + 1) % 2) 1 (λ (e : 2 * (s.0 + 1) % 2 ≡ 1). omega arith)

pub link_untagged : (i : ℕ) → is_tagged (link i) ≡ false
unfolding is_tagged link
link_untagged i = ne_eqb (2 * (i + 1) % 2) 1 (λ (e : 2 * (i + 1) % 2 ≡ 1). omega arith)

-- the predecessor's link, before and after an unlinking, has no tag
pub unlinked_tag : (q : Pred) (s : Shared) (i : ℕ) (succ : Ptr) (x : ℕ) → read (pred_word q) s ≡ link i
    → is_tagged ((write (pred_word q) (pointer succ) s).entry_next x) ≡ is_tagged (s.entry_next x)
unfolding read write pred_word
unlinked_tag Pred.Head s i succ x h = refl
unlinked_tag (Pred.Entry y) s i succ x h = put_ind (λ (w : ℕ). is_tagged w ≡ is_tagged (s.entry_next x)) s.entry_next y.0 x (pointer succ)
    (λ e. pointer_untagged succ ∙ sym (ap is_tagged (ap s.entry_next (sym e) ∙ h) ∙ link_untagged i))
    (λ _. refl)

-- only an insertion's store and a deletion change the tag of a next, each its own
pub tag_kept : (p : ℕ) (pl : Place) (s s' : Shared) (v : Turn) → Change p pl s v s' → (x : ℕ)
    → (x ≡ p → (next : Ptr) → pl ≢ Place.Register (RegisterAt.Next next)) → (x ≡ p → pl ≢ Place.FinalTag)
    → is_tagged (s'.entry_next x) ≡ is_tagged (s.entry_next x)
unfolding write
tag_kept p pl s s' v (Change.none t e) x a b = rw e
tag_kept p pl s s' v (Change.advances y h t e) x a b = rw e
tag_kept p pl s s' v (Change.pins k y h t e) x a b = rw e
tag_kept p pl s s' v (Change.repins y h t e) x a b = rw e
tag_kept p pl s s' v (Change.unpins h t e) x a b = rw e
tag_kept p pl s s' v (Change.finals h t e) x a b = rw e
tag_kept p pl s s' v (Change.aims next h t e) x a b = rw e (put_ind (λ (w : ℕ). is_tagged w ≡ is_tagged (s.entry_next x)) s.entry_next p x (pointer next) (λ i. absurd (a (sym i) next h)) (λ _. refl))
tag_kept p pl s s' v (Change.enlists next h t w e) x a b = rw e
tag_kept p pl s s' v (Change.unlinks y c succ h t w e) x a b = rw e (unlinked_tag c.pred s c.curr.0 succ x w)
tag_kept p pl s s' v (Change.tags h t e) x a b = rw e (put_ind (λ (w : ℕ). is_tagged w ≡ is_tagged (s.entry_next x)) s.entry_next p x (tagged (s.entry_next p)) (λ i. absurd (b (sym i) h)) (λ _. refl))
tag_kept p pl s s' v (Change.pops q x₁ y h t w e) x a b = rw e
tag_kept p pl s s' v (Change.tails f z h t w e) x a b = rw e
tag_kept p pl s s' v (Change.links f n o h t w e) x a b = rw e

-- only its owner stores a word
pub word-kept : (p : ℕ) (pl : Place) (s s' : Shared) (v : Turn) → Change p pl s v s' → (x : ℕ) → x ≢ p → s'.word x ≡ s.word x
unfolding write
word-kept p pl s s' v (Change.none t e) x ne = rw e
word-kept p pl s s' v (Change.advances y h t e) x ne = rw e
word-kept p pl s s' v (Change.pins k y h t e) x ne = rw e (put_other s.word p x _ (λ i. ne (sym i)))
word-kept p pl s s' v (Change.repins y h t e) x ne = rw e (put_other s.word p x _ (λ i. ne (sym i)))
word-kept p pl s s' v (Change.unpins h t e) x ne = rw e (put_other s.word p x _ (λ i. ne (sym i)))
word-kept p pl s s' v (Change.finals h t e) x ne = rw e (put_other s.word p x _ (λ i. ne (sym i)))
word-kept p pl s s' v (Change.aims next h t e) x ne = rw e
word-kept p pl s s' v (Change.enlists next h t w e) x ne = rw e
word-kept p pl s s' v (Change.unlinks y c succ h t w e) x ne = rw e (ap (λ (f : Tab ℕ). f x) (unlinked_word c.pred (pointer succ) s))
word-kept p pl s s' v (Change.tags h t e) x ne = rw e
word-kept p pl s s' v (Change.pops q x₁ y h t w e) x ne = rw e
word-kept p pl s s' v (Change.tails f z h t w e) x ne = rw e
word-kept p pl s s' v (Change.links f n o h t w e) x ne = rw e

-- ---- uses

-- freed slots are not in use
stays_unused : (l : List Item) (x : ℕ) (u : Tab Use) → u x ≡ Use.unused → slots_freed l u x ≡ Use.unused
unfolding slots_freed
stays_unused [] x u h = h
stays_unused (Item.Token t ∷ l) x u h = stays_unused l x u h
stays_unused (Item.Node n ∷ l) x u h = stays_unused l x u h
stays_unused (Item.Slot s ∷ l) x u h = stays_unused l x (put u s.0 Use.unused) (put_ind (λ (w : Use). w ≡ Use.unused) u s.0 x Use.unused (λ _. refl) (λ _. h))

pub freed_unused : (l : List Item) (x : ℕ) (u : Tab Use) → times (Item.Slot (record { 0 = x })) l ≢ 0 → slots_freed l u x ≡ Use.unused
unfolding slots_freed times same_item branch
freed_unused [] x u h = absurd (h refl)
freed_unused (Item.Token t ∷ l) x u h = freed_unused l x u (λ z. h (omega arith))
freed_unused (Item.Node n ∷ l) x u h = freed_unused l x u (λ z. h (omega arith))
freed_unused (Item.Slot s ∷ l) x u h = go (eqb x s.0) refl h (λ k. freed_unused l x (put u s.0 Use.unused) k)
  where
    go : (b : Bool) → eqb x s.0 ≡ b → branch b 1 0 + times (Item.Slot (record { 0 = x })) l ≢ 0
        → (times (Item.Slot (record { 0 = x })) l ≢ 0 → slots_freed l (put u s.0 Use.unused) x ≡ Use.unused) → slots_freed l (put u s.0 Use.unused) x ≡ Use.unused
    go true e z later = stays_unused l x (put u s.0 Use.unused) (ap (λ k. put u s.0 Use.unused k) (eqb-true x s.0 e) ∙ put_same u s.0 Use.unused)
    go false e z later = later (λ k. z (omega arith))

-- the free bits go with the uses, when slots are freed
pub bits-freed : (l : List Item) (x : ℕ) (f : Tab Bool) (u : Tab Use) → f x ≡ is_unused (u x) → free_slots l f x ≡ is_unused (slots_freed l u x)
unfolding free_slots slots_freed
bits-freed [] x f u h = h
bits-freed (Item.Token t ∷ l) x f u h = bits-freed l x f u h
bits-freed (Item.Node n ∷ l) x f u h = bits-freed l x f u h
bits-freed (Item.Slot s ∷ l) x f u h = bits-freed l x (put f s.0 true) (put u s.0 Use.unused)
    (same? s.0 x
    (λ e. rw (← e, put_same f s.0 true, put_same u s.0 Use.unused) (unfold is_unused in refl))
    (λ ne. rw (put_other f s.0 x true ne, put_other u s.0 x Use.unused ne) h))

-- a slot that is out stays out through a turn of another
pub out_turned : (v : Turn) (p x : ℕ) (u : Tab Use) → (v ≡ Turn.enlists p → x ≢ p) → ((i : ℕ) → v ≡ Turn.enlists i → i ≡ p) → u x ≡ Use.out → use_turned v u x ≡ Use.out
unfolding use_turned
out_turned Turn.quiet p x u a b h = h
out_turned (Turn.enlists i) p x u a b h = put_ind (λ (w : Use). w ≡ Use.out) u i x Use.linked (λ e. absurd (a (ap (λ (k : ℕ). Turn.enlists k) (b i refl)) (sym e ∙ b i refl))) (λ _. h)
out_turned (Turn.unlinks s) p x u a b h = put_ind (λ (w : Use). w ≡ Use.out) u s x Use.out (λ _. refl) (λ _. h)
out_turned (Turn.links n) p x u a b h = h

-- a slot that is unlinked was deleted, so it is quiet
unlinked_fine : (z : Use) (t w : Bool) (o : Participant) (b : List Item) → t ≡ true → Born z → Fine z t w o b → Fine Use.out t w o b
unfolding Fine Born InList
unlinked_fine Use.unused t w o b e i h = absurd i
unlinked_fine Use.registering t w o b e i h = absurd i
unlinked_fine Use.linked true w o b e i h = (h, refl)
unlinked_fine Use.linked false w o b e i h = absurd (true≢false (sym e))
unlinked_fine Use.out t w o b e i h = h

-- a record is fine after a turn of the list
pub fine_turned : (v : Turn) (x : ℕ) (u : Tab Use) (t w : Bool) (o : Participant) (b : List Item)
    → ((i : ℕ) → v ≡ Turn.enlists i → x ≢ i) → (v ≡ Turn.unlinks x → (t ≡ true) × Born (u x))
    → Fine (u x) t w o b → Fine (use_turned v u x) t w o b
unfolding use_turned
fine_turned Turn.quiet x u t w o b ne un h = h
fine_turned (Turn.enlists i) x u t w o b ne un h = put_ind (λ (z : Use). Fine z t w o b) u i x Use.linked (λ e. absurd (ne i refl (sym e))) (λ _. h)
fine_turned (Turn.unlinks s) x u t w o b ne un h = put_ind (λ (z : Use). Fine z t w o b) u s x Use.out
    (λ e. let k = un (ap (λ (k : ℕ). Turn.unlinks k) e) in unlinked_fine (u x) t w o b k.0 k.1 h) (λ _. h)
fine_turned (Turn.links n) x u t w o b ne un h = h

-- a slot that is freed was out, so it is quiet
fine_freed : (t w : Bool) (o : Participant) (b : List Item) → Fine Use.out t w o b → Fine Use.unused t w o b
unfolding Fine
fine_freed t w o b h = h.0

-- the four turns, each with its place
pub data Turned (p : ℕ) (pl : Place) (v : Turn) : Type 0 where
  quiet : v ≡ Turn.quiet → Turned p pl v
  enlisted : (next : Ptr) → pl ≡ Place.Register (RegisterAt.Link next) → v ≡ Turn.enlists p → Turned p pl v
  unlinked : (t : Try) (c : Cursor) (succ : Ptr) → pl ≡ Place.Walk t (WalkAt.Unlink c succ) → v ≡ Turn.unlinks c.curr.0 → Turned p pl v
  linked : (f : Then) (new onto : Node) → pl ≡ Place.Push f (PushAt.Link new onto) → v ≡ Turn.links new.0 → Turned p pl v

pub turned : (p : ℕ) (pl : Place) (s : Shared) (v : Turn) (z : Shared) → Change p pl s v z → Turned p pl v
turned p pl s v z (Change.none t e) = Turned.quiet t
turned p pl s v z (Change.advances y h t e) = Turned.quiet t
turned p pl s v z (Change.pins k y h t e) = Turned.quiet t
turned p pl s v z (Change.repins y h t e) = Turned.quiet t
turned p pl s v z (Change.unpins h t e) = Turned.quiet t
turned p pl s v z (Change.finals h t e) = Turned.quiet t
turned p pl s v z (Change.aims next h t e) = Turned.quiet t
turned p pl s v z (Change.enlists next h t q e) = Turned.enlisted next h t
turned p pl s v z (Change.unlinks y c succ h t q e) = Turned.unlinked y c succ h t
turned p pl s v z (Change.tags h t e) = Turned.quiet t
turned p pl s v z (Change.pops q x y h t r e) = Turned.quiet t
turned p pl s v z (Change.tails f y h t r e) = Turned.quiet t
turned p pl s v z (Change.links f n o h t r e) = Turned.linked f n o h t

-- turns are told apart
quiet_not_unlinks : (x : ℕ) → Turn.quiet ≡ Turn.unlinks x → ⊥
quiet_not_unlinks x e = let z : ◌≡◌ {A = ℕ} 0 1 = cc in omega arith

enlists_not_unlinks : (i x : ℕ) → Turn.enlists i ≡ Turn.unlinks x → ⊥
enlists_not_unlinks i x e = let z : ◌≡◌ {A = ℕ} 0 1 = cc in omega arith

links_not_unlinks : (i x : ℕ) → Turn.links i ≡ Turn.unlinks x → ⊥
links_not_unlinks i x e = let z : ◌≡◌ {A = ℕ} 0 1 = cc in omega arith

quiet_not_enlists : (x : ℕ) → Turn.quiet ≡ Turn.enlists x → ⊥
quiet_not_enlists x e = let z : ◌≡◌ {A = ℕ} 0 1 = cc in omega arith

links_not_enlists : (i x : ℕ) → Turn.links i ≡ Turn.enlists x → ⊥
links_not_enlists i x e = let z : ◌≡◌ {A = ℕ} 0 1 = cc in omega arith

-- a slot that is safe is in the list, or was
safe_born : (u : Use) (b r : ℕ) → SafeUse u b r → Born u
unfolding SafeUse Born
safe_born Use.unused b r h = absurd h
safe_born Use.registering b r h = absurd h
safe_born Use.linked b r h = tt
safe_born Use.out b r h = tt

-- ---- the participant that steps

-- whether a place is the last one of a finalize
is_final_tag : Place → Bool
is_final_tag Place.Rest = false
is_final_tag (Place.Register x) = false
is_final_tag (Place.PinEpoch k) = false
is_final_tag (Place.PinWord k e) = false
is_final_tag (Place.Repin x) = false
is_final_tag Place.UnpinWord = false
is_final_tag (Place.AdvanceEpoch k) = false
is_final_tag (Place.Walk t x) = false
is_final_tag (Place.AdvanceWord t curr succ) = false
is_final_tag (Place.AdvanceStore t) = false
is_final_tag (Place.Pop p x) = false
is_final_tag (Place.Push f x) = false
is_final_tag Place.FinalWord = false
is_final_tag Place.FinalTag = true

final_tag : (pl : Place) → is_final_tag pl ≡ true → pl ≡ Place.FinalTag
unfolding is_final_tag
final_tag Place.Rest h = absurd (true≢false (sym h))
final_tag (Place.Register x) h = absurd (true≢false (sym h))
final_tag (Place.PinEpoch k) h = absurd (true≢false (sym h))
final_tag (Place.PinWord k e) h = absurd (true≢false (sym h))
final_tag (Place.Repin x) h = absurd (true≢false (sym h))
final_tag Place.UnpinWord h = absurd (true≢false (sym h))
final_tag (Place.AdvanceEpoch k) h = absurd (true≢false (sym h))
final_tag (Place.Walk t x) h = absurd (true≢false (sym h))
final_tag (Place.AdvanceWord t curr succ) h = absurd (true≢false (sym h))
final_tag (Place.AdvanceStore t) h = absurd (true≢false (sym h))
final_tag (Place.Pop p x) h = absurd (true≢false (sym h))
final_tag (Place.Push f x) h = absurd (true≢false (sym h))
final_tag Place.FinalWord h = absurd (true≢false (sym h))
final_tag Place.FinalTag h = refl

pub final? : {P : Type 0} (pl : Place) → (pl ≡ Place.FinalTag → P) → (pl ≢ Place.FinalTag → P) → P
unfolding is_final_tag
final? {P = P} pl h k = go (is_final_tag pl) refl
  where
    go : (b : Bool) → is_final_tag pl ≡ b → P
    go true e = h (final_tag pl e)
    go false e = k (λ i. true≢false (sym (ap is_final_tag i) ∙ e))

-- the last step of a finalize tags the own next
pub left_tag : (p : ℕ) (spare : Node) (sealed : Node → ℕ) (o : Participant) (s : Shared) (pl : Place) → pl ≡ Place.FinalTag
    → leaves (asks (rule (record { 0 = p }) spare sealed o pl)) s ≡ write (Word.EntryNext (record { 0 = p })) (tagged (s.entry_next p)) s
unfolding leaves asks rule delete read
left_tag p spare sealed o s pl h = rw h refl

pub after_tag : (p : ℕ) (spare : Node) (sealed : Node → ℕ) (o : Participant) (s : Shared) (seen : Seen) (pl : Place) → pl ≡ Place.FinalTag
    → follows (rule (record { 0 = p }) spare sealed o pl) seen ≡ done 0 o
unfolding follows rule delete
after_tag p spare sealed o s seen pl h = rw h refl

pub tagged-tagged : (w : ℕ) → is_tagged (tagged w) ≡ true
unfolding is_tagged tagged
tagged-tagged w = eq-eqb ((w - w % 2 + 1) % 2) 1 (omega arith)

-- a registering slot: still registering, or in the list and at rest
unfoldable pub FineQ : ℕ → (Bool → Tab Use) → List Item → Bool → Shared → After → Type 0
FineQ p u b won s a = Fine (u won p) (is_tagged (s.entry_next p)) (is_pinned (s.word p)) a.participant (bag_after a.work b)

module _ (p : ℕ) (o : Participant) (s : Shared) (b : List Item) (u : Tab Use) where
  pub register_fine : (at : RegisterAt) → Fine Use.registering (is_tagged (s.entry_next p)) (is_pinned (s.word p)) o b → u p ≡ Use.registering
      → Leads (FineQ p (λ won. use_turned (turn_of p (Place.Register at) won) u) b) s (insert (record { 0 = p }) o at)
  unfolding Leads insert FineQ bag_after on done use_turned turn_of branch Fine Registers write read InList Live
  register_fine RegisterAt.Head h r = rw r (tt, h.1)
  register_fine (RegisterAt.Next next) h r = rw (r, put_same s.entry_next p (pointer next)) (tt, (h.1.0, (h.1.1.0, (h.1.1.1.0, (pointer_untagged next, h.1.1.1.1.1)))))
  register_fine (RegisterAt.Link next) h r = (
    (λ _. rw (put_same u p Use.linked, h.1.1.1.1.0) (refl, rw (h.1.1.0, h.1.0) refl)),
    (λ _. rw r (tt, h.1)),
  )

-- whoever steps is registering, or in the list and not deleted
pub data Mine (u : Use) (t w : Bool) (o : Participant) (b : List Item) : Type 0 where
  fresh : u ≡ Use.registering → Fine Use.registering t w o b → Mine u t w o b
  live : u ≡ Use.linked → t ≡ false → Live o.place w o.counts.guards o.share b → Mine u t w o b

pub mine_by : (u : Use) (t w : Bool) (o : Participant) (b : List Item) → is_unused u ≡ false → o.place ≢ Place.Rest → Fine u t w o b → Mine u t w o b
unfolding is_unused Fine InList
mine_by Use.unused t w o b n r h = absurd (true≢false n)
mine_by Use.registering t w o b n r h = fresh refl h
mine_by Use.linked true w o b n r h = absurd (r h.0)
mine_by Use.linked false w o b n r h = live refl refl h
mine_by Use.out t w o b n r h = absurd (r h.0.0)

-- a slot in the list stays there through a turn that does not unlink it
linked_turned : (v : Turn) (x : ℕ) (u : Tab Use) → u x ≡ Use.linked → v ≢ Turn.unlinks x → use_turned v u x ≡ Use.linked
unfolding use_turned
linked_turned Turn.quiet x u h ne = h
linked_turned (Turn.enlists i) x u h ne = put_ind (λ (z : Use). z ≡ Use.linked) u i x Use.linked (λ _. refl) (λ _. h)
linked_turned (Turn.unlinks i) x u h ne = put_ind (λ (z : Use). z ≡ Use.linked) u i x Use.out (λ e. absurd (ne (ap (λ (k : ℕ). Turn.unlinks k) e))) (λ _. h)
linked_turned (Turn.links n) x u h ne = h

-- a participant of the list does not register; at its last step it is not pinned and holds nothing; afterwards it is quiet
live_not_register : (pl : Place) (w : Bool) (gu sh : ℕ) (b : List Item) (at : RegisterAt) → Live pl w gu sh b → pl ≡ Place.Register at → ⊥
unfolding Live
live_not_register pl w gu sh b at l e = rw e at l

live_final : (o : Participant) (pl : Place) (w : Bool) (b : List Item) → pl ≡ Place.FinalTag → Live pl w o.counts.guards o.share b → (w ≡ false) × (b ≡ [])
unfolding Live
live_final o pl w b e l = rw e at l

tags_quiet : (p : ℕ) (o : Participant) (s : Shared) (b : List Item) → (is_pinned (s.word p) ≡ false) × (b ≡ [])
    → Fine Use.linked (is_tagged ((write (Word.EntryNext (record { 0 = p })) (tagged (s.entry_next p)) s).entry_next p))
    (is_pinned ((write (Word.EntryNext (record { 0 = p })) (tagged (s.entry_next p)) s).word p)) (done 0 o).participant (bag_after (done 0 o).work b)
unfolding write done bag_after Fine InList
tags_quiet p o s b h = rw (put_same s.entry_next p (tagged (s.entry_next p)), tagged-tagged (s.entry_next p)) (refl, (h.0, (h.1, refl)))

live_fine : (w : Bool) (b : List Item) (a : After) → LiveAfter w b a → Fine Use.linked false w a.participant (bag_after a.work b)
unfolding Fine InList LiveAfter
live_fine w b a h = h

-- a registering slot stands at a place of registering
registers? : {P : Type 0} (pl : Place) → Registers pl → ((at : RegisterAt) → pl ≡ Place.Register at → P) → P
unfolding Registers
registers? (Place.Register at) h k = k at refl
registers? Place.Rest h k = absurd h
registers? (Place.PinEpoch c) h k = absurd h
registers? (Place.PinWord c e) h k = absurd h
registers? (Place.Repin x) h k = absurd h
registers? Place.UnpinWord h k = absurd h
registers? (Place.AdvanceEpoch c) h k = absurd h
registers? (Place.Walk t x) h k = absurd h
registers? (Place.AdvanceWord t curr succ) h k = absurd h
registers? (Place.AdvanceStore t) h k = absurd h
registers? (Place.Pop p x) h k = absurd h
registers? (Place.Push f x) h k = absurd h
registers? Place.FinalWord h k = absurd h
registers? Place.FinalTag h k = absurd h

pub fine_registers : (t w : Bool) (o : Participant) (b : List Item) → Fine Use.registering t w o b → Registers o.place
unfolding Fine
fine_registers t w o b h = h.0

-- what a step of registering leaves, wherever it stands
registers_fine : (p : ℕ) (spare : Node) (sealed : Node → ℕ) (o : Participant) (s : Shared) (b : List Item) (u : Tab Use) (at : RegisterAt) (pl : Place) → pl ≡ Place.Register at
    → Fine Use.registering (is_tagged (s.entry_next p)) (is_pinned (s.word p)) o b → u p ≡ Use.registering
    → let r = rule (record { 0 = p }) spare sealed o pl in
    FineQ p (λ won. use_turned (turn_of p pl won) u) b (sees (asks r) s).won (leaves (asks r) s) (follows r (sees (asks r) s))
unfolding rule
registers_fine p spare sealed o s b u at pl e h k = rw e (leads (FineQ p (λ won. use_turned (turn_of p (Place.Register at) won) u) b) s (insert (record { 0 = p }) o at) (register_fine p o s b u at h k))

-- a number is 0 or not
zero? : {P : Type 0} (k : ℕ) → (k ≡ 0 → P) → (k ≢ 0 → P) → P
zero? {P = P} k h i = go k refl
  where
    go : (j : ℕ) → k ≡ j → P
    go zero e = h e
    go (suc j) e = i (λ z. omega arith)

-- the length of the own bag, and a repin's word, after a step
after-fits : (M p : ℕ) (m : Machine) → Fits (m.own p).held (after_of M p m).participant.held (after_of M p m).work
unfolding after_of rule_of Fitting
after-fits M p m = follows-fits (m.own p).held (record { 0 = p }) (record { 0 = least M m.node_free }) (λ n. (m.bag n.0).epoch) (m.own p) (m.own p).place (sees (asks (rule_of M p m)) m.shared) refl

born_used : (u : Use) → Born u → is_unused u ≡ false
unfolding Born is_unused
born_used Use.unused h = absurd h
born_used Use.registering h = refl
born_used Use.linked h = refl
born_used Use.out h = refl

-- the free bits after a turn of the list
bits_turned : (v : Turn) (x : ℕ) (u : Tab Use) (f : Bool) → f ≡ is_unused (u x) → ((i : ℕ) → v ≡ Turn.enlists i → x ≡ i → f ≡ false) → (v ≡ Turn.unlinks x → Born (u x))
    → f ≡ is_unused (use_turned v u x)
unfolding use_turned
bits_turned Turn.quiet x u f h en un = h
bits_turned (Turn.enlists i) x u f h en un = put_ind (λ (z : Use). f ≡ is_unused z) u i x Use.linked (λ e. unfold is_unused in (en i refl (sym e))) (λ _. h)
bits_turned (Turn.unlinks i) x u f h en un = put_ind (λ (z : Use). f ≡ is_unused z) u i x Use.out (λ e. unfold is_unused in (h ∙ born_used (u x) (un (ap (λ (k : ℕ). Turn.unlinks k) e)))) (λ _. h)
bits_turned (Turn.links n) x u f h en un = h

-- ---- the step

module _ (N M p : ℕ) (m : Machine) (g : Ghost) (inv : Inv N M m g) (st : Steps N M p m) where
  abbrev pl : Place
  pl = (m.own p).place

  abbrev s' : Shared
  s' = left_of M p m

  abbrev a : After
  a = after_of M p m

  abbrev v : Turn
  v = turn_of p pl (won_of M p m)

  pub chg : Change p pl m.shared v s'
  unfolding left_of won_of rule_of
  chg = changes p (record { 0 = least M m.node_free }) (λ n. (m.bag n.0).epoch) (m.own p) m.shared pl

  pub wrk : Worked (record { 0 = least M m.node_free }) (popped_node pl) a
  unfolding after_of rule_of
  wrk = worked (record { 0 = least M m.node_free }) (record { 0 = p }) (λ n. (m.bag n.0).epoch) (m.own p) pl (sees (asks (rule_of M p m)) m.shared)

  -- what is unlinked was tagged, and held by the walk
  unlink_facts : (t : Try) (c : Cursor) (succ : Ptr) → pl ≡ Place.Walk t (WalkAt.Unlink c succ) → (is_tagged (m.shared.entry_next c.curr.0) ≡ true) × Born (g.slot_use c.curr.0)
  unfolding HoldsAt HoldsWalk SafeSlot
  unlink_facts t c succ h =
      let k = rw h at (inv.held.holds p st.here) in (k.1.0, safe_born (g.slot_use c.curr.0) (g.gpin p) (g.gone c.curr.0) k.0.1.1)

  unlinks_by : Turned p pl v → (x : ℕ) → v ≡ Turn.unlinks x → (is_tagged (m.shared.entry_next x) ≡ true) × Born (g.slot_use x)
  unlinks_by (Turned.quiet t) x u = absurd (quiet_not_unlinks x (sym t ∙ u))
  unlinks_by (Turned.enlisted next h t) x u = absurd (enlists_not_unlinks p x (sym t ∙ u))
  unlinks_by (Turned.unlinked y c succ h t) x u = let i : c.curr.0 ≡ x = cc (sym t ∙ u) in rw i at (unlink_facts y c succ h)
  unlinks_by (Turned.linked f n o h t) x u = absurd (links_not_unlinks n.0 x (sym t ∙ u))

  unlinks_held : (x : ℕ) → v ≡ Turn.unlinks x → (is_tagged (m.shared.entry_next x) ≡ true) × Born (g.slot_use x)
  unlinks_held x e = unlinks_by (turned p pl m.shared v s' chg) x e

  enlists_mine : (i : ℕ) → v ≡ Turn.enlists i → i ≡ p
  enlists_mine i u = go (turned p pl m.shared v s' chg)
    where
      go : Turned p pl v → i ≡ p
      go (Turned.quiet t) = absurd (quiet_not_enlists i (sym t ∙ u))
      go (Turned.enlisted next h t) = cc (sym t ∙ u)
      go (Turned.unlinked y c succ h t) = absurd (enlists_not_unlinks i c.curr.0 (sym u ∙ t))
      go (Turned.linked f n o h t) = absurd (links_not_enlists n.0 i (sym t ∙ u))

  -- the others
  fine_other : (q : ℕ) → q < N → q ≢ p
      → Fine (use_turned v g.slot_use q) (is_tagged (s'.entry_next q)) (is_pinned (s'.word q)) (m.own q) (m.held q)
  fine_other q hq ne =
      rw (tag_kept p pl m.shared s' v chg q (λ e. absurd (ne e)) (λ e. absurd (ne e)), word-kept p pl m.shared s' v chg q ne)
      (fine_turned v q g.slot_use (is_tagged (m.shared.entry_next q)) (is_pinned (m.shared.word q)) (m.own q) (m.held q)
      (λ i e same. ne (same ∙ enlists_mine i e)) (λ e. unlinks_held q e) (inv.records.fine q hq))

  pub mine : Mine (g.slot_use p) (is_tagged (m.shared.entry_next p)) (is_pinned (m.shared.word p)) (m.own p) (m.held p)
  mine = mine_by (g.slot_use p) _ _ (m.own p) (m.held p) (sym (inv.records.bits p st.here) ∙ st.present) st.running (inv.records.fine p st.here)

  -- the slot of a live participant stays in the list
  stays-linked : g.slot_use p ≡ Use.linked → is_tagged (m.shared.entry_next p) ≡ false → use_turned v g.slot_use p ≡ Use.linked
  stays-linked u t = linked_turned v p g.slot_use u (λ e. true≢false (sym (unlinks_held p e).0 ∙ t))

  own_live : Live pl (is_pinned (m.shared.word p)) (m.own p).counts.guards (m.own p).share (m.held p) → pl ≢ Place.FinalTag
      → LiveAfter (is_pinned (s'.word p)) (m.held p) a
  unfolding left_of after_of rule_of
  own_live l nf = leads (LiveQ p (m.held p)) m.shared (rule_of M p m)
      (live_step p (record { 0 = least M m.node_free }) (λ n. (m.bag n.0).epoch) (m.own p) m.shared (m.held p)
      (inv.records.lengths p) (inv.ranged.held p st.here).0 pl l (inv.records.repins p st.here) nf)

  -- the last step of a finalize: deleted, and quiet
  own_tags : pl ≡ Place.FinalTag → Live pl (is_pinned (m.shared.word p)) (m.own p).counts.guards (m.own p).share (m.held p)
      → Fine Use.linked (is_tagged (s'.entry_next p)) (is_pinned (s'.word p)) a.participant (bag_after a.work (m.held p))
  unfolding left_of after_of rule_of
  own_tags f l =
      let spare : Node = record { 0 = least M m.node_free } in
      let sealed : Node → ℕ = λ n. (m.bag n.0).epoch in
      rw (
        left_tag p spare sealed (m.own p) m.shared pl f,
        after_tag p spare sealed (m.own p) m.shared (sees (asks (rule_of M p m)) m.shared) pl f,
      )
      (tags_quiet p (m.own p) m.shared (m.held p) (live_final (m.own p) pl (is_pinned (m.shared.word p)) (m.held p) f l))

  fine_live : g.slot_use p ≡ Use.linked → is_tagged (m.shared.entry_next p) ≡ false
      → Live pl (is_pinned (m.shared.word p)) (m.own p).counts.guards (m.own p).share (m.held p)
      → Fine (use_turned v g.slot_use p) (is_tagged (s'.entry_next p)) (is_pinned (s'.word p)) a.participant (bag_after a.work (m.held p))
  fine_live u t l = final? pl
      (λ f. rw (stays-linked u t) (own_tags f l))
      (λ nf. rw (stays-linked u t, tag_kept p pl m.shared s' v chg p (λ _ next e. live_not_register pl _ _ _ _ (RegisterAt.Next next) l e) (λ _. nf), t)
      (live_fine (is_pinned (s'.word p)) (m.held p) a (own_live l nf)))

  own_registers : g.slot_use p ≡ Use.registering → Fine Use.registering (is_tagged (m.shared.entry_next p)) (is_pinned (m.shared.word p)) (m.own p) (m.held p)
      → (at : RegisterAt) → pl ≡ Place.Register at
      → Fine (use_turned v g.slot_use p) (is_tagged (s'.entry_next p)) (is_pinned (s'.word p)) a.participant (bag_after a.work (m.held p))
  unfolding left_of after_of won_of rule_of FineQ
  own_registers u h at e =
      registers_fine p (record { 0 = least M m.node_free }) (λ n. (m.bag n.0).epoch) (m.own p) m.shared (m.held p) g.slot_use at pl e h u

  fine_own : Fine (use_turned v g.slot_use p) (is_tagged (s'.entry_next p)) (is_pinned (s'.word p)) a.participant (bag_after a.work (m.held p))
  fine_own = go mine
    where
      go : Mine (g.slot_use p) (is_tagged (m.shared.entry_next p)) (is_pinned (m.shared.word p)) (m.own p) (m.held p)
          → Fine (use_turned v g.slot_use p) (is_tagged (s'.entry_next p)) (is_pinned (s'.word p)) a.participant (bag_after a.work (m.held p))
      go (Mine.fresh u h) = registers? pl (fine_registers (is_tagged (m.shared.entry_next p)) (is_pinned (m.shared.word p)) (m.own p) (m.held p) h) (own_registers u h)
      go (Mine.live u t l) = fine_live u t l

  -- whoever steps is not out of the list
  mine_not_out : g.slot_use p ≢ Use.out
  mine_not_out e = go mine
    where
      go : Mine (g.slot_use p) (is_tagged (m.shared.entry_next p)) (is_pinned (m.shared.word p)) (m.own p) (m.held p) → ⊥
      go (Mine.fresh u h) = let z : ◌≡◌ {A = ℕ} 0 1 = cc in omega arith
      go (Mine.live u t l) = let z : ◌≡◌ {A = ℕ} 0 1 = cc in omega arith

  abbrev m' : Machine
  m' = stepped M p m

  abbrev g' : Ghost
  g' = stepped_ghost M p m g

  -- everybody, after the turn
  fine_mid : (q : ℕ) → q < N → Fine (use_turned v g.slot_use q) (is_tagged (m'.shared.entry_next q)) (is_pinned (m'.shared.word q)) (m'.own q) (m'.held q)
  unfolding stepped
  fine_mid q hq = rw (entry_next-goes p m s' a, word-goes p m s' a, own_goes p m s' a q, held-goes p m s' a q)
      (same? p q
      (λ e. rw (← e, put_same m.own p a.participant, put_same m.held p (bag_after a.work (m.held p))) fine_own)
      (λ ne. rw (put_other m.own p q a.participant ne, put_other m.held p q (bag_after a.work (m.held p)) ne) (fine_other q hq (λ e. ne (sym e)))))

  -- and after a bag is freed
  freed_by_lem : (n : ℕ) → n < M → (q : ℕ) → q < N → Fine (slots_freed (m.bag n).holds (use_turned v g.slot_use) q) (is_tagged (m'.shared.entry_next q)) (is_pinned (m'.shared.word q)) (m'.own q) (m'.held q)
  freed_by_lem n hn q hq = zero? (times (Item.Slot (record { 0 = q })) (m.bag n).holds)
      (λ z. rw (use_unfreed (m.bag n).holds q (use_turned v g.slot_use) z) (fine_mid q hq))
      (λ ne.
      let isOut = inv.used.slot_out q hq (in_bag-occurs N M m n (Item.Slot (record { 0 = q })) hn ne) in
      let stays = out_turned v p q g.slot_use (λ _ e. mine_not_out (rw e at isOut)) enlists_mine isOut in
      rw (freed_unused (m.bag n).holds q (use_turned v g.slot_use) ne) (fine_freed _ _ (m'.own q) (m'.held q) (rw stays at (fine_mid q hq))))

  -- the free bits, after the turn
  bits_mid : (q : ℕ) → q < N → m.slot_free q ≡ is_unused (use_turned v g.slot_use q)
  bits_mid q hq = bits_turned v q g.slot_use (m.slot_free q) (inv.records.bits q hq)
      (λ i e. (λ same. ap m.slot_free (same ∙ enlists_mine i e) ∙ st.present)) (λ e. (unlinks_held q e).1)

  -- all of it, by the work
  fine_after : Worked (record { 0 = least M m.node_free }) (popped_node pl) a → (q : ℕ) → q < N
      → Fine (use_worked a.work m (use_turned v g.slot_use) q) (is_tagged (m'.shared.entry_next q)) (is_pinned (m'.shared.word q)) (m'.own q) (m'.held q)
  unfolding use_worked
  fine_after (Worked.nothing e) q hq = rw e (fine_mid q hq)
  fine_after (Worked.puts i e) q hq = rw e (fine_mid q hq)
  fine_after (Worked.frees i n e w x) q hq = rw e (freed_by_lem n.0 (popped_in N M m g inv p st.here n.0 w) q hq)
  fine_after (Worked.seals y e) q hq = rw e (fine_mid q hq)

  bits-after : Worked (record { 0 = least M m.node_free }) (popped_node pl) a → (q : ℕ) → q < N → m'.slot_free q ≡ is_unused (use_worked a.work m (use_turned v g.slot_use) q)
  unfolding use_worked stepped goes followed works
  bits-after (Worked.nothing e) q hq = rw e (bits_mid q hq)
  bits-after (Worked.puts i e) q hq = rw e (bits_mid q hq)
  bits-after (Worked.frees i n e w x) q hq = rw e (bits-freed (m.bag n.0).holds q m.slot_free (use_turned v g.slot_use) (bits_mid q hq))
  bits-after (Worked.seals y e) q hq = rw e (bits_mid q hq)

  lengths-after : (q : ℕ) → length (m'.held q) ≡ (m'.own q).held
  unfolding stepped
  lengths-after q = rw (own_goes p m s' a q, held-goes p m s' a q)
      (same? p q
      (λ e. rw (← e, put_same m.own p a.participant, put_same m.held p (bag_after a.work (m.held p)))
      (length-bag a.work (m.held p) (m.own p).held a.participant.held (inv.records.lengths p) fits))
      (λ ne. rw (put_other m.own p q a.participant ne, put_other m.held p q (bag_after a.work (m.held p)) ne) (inv.records.lengths q)))
    where
      fits : Fits (m.own p).held a.participant.held a.work
      fits = after-fits M p m

  repins_after : (q : ℕ) → q < N → RepinPins (m'.own q).place
  unfolding stepped
  repins_after q hq = rw (own_goes p m s' a q) (put_ind (λ (o : Participant). RepinPins o.place) m.own p q a.participant (λ _. after_repins M p m) (λ _. inv.records.repins q hq))

  pub records_step : Records N m' g'
  unfolding stepped_ghost goes_ghost moved
  records_step = record { repins = repins_after; fine = fine_after wrk; bits = bits-after wrk; lengths = lengths-after }
