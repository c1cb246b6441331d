-- E, epochs, kept by every step. The global epoch never falls, and rises by one at most: whoever stores a successor is pinned at the epoch that it
-- loaded or before, and saw that everybody who is pinned was pinned no earlier. A word stored now is of the present epoch or an earlier one.
-- Leans on the walk (E3) and on Records (who walks is pinned). The clause about walks has a module of its own. Assumes nothing.
use mathlib.Core.Path.{◌≡◌, refl, ap, sym, ◌∙◌}
use mathlib.Core.Logic.{◌≢◌}
use mathlib.Core.Bool.{Bool, true, false, ◌&&◌, not, true≢false}
use mathlib.Core.List.{List, [], ◌∷◌}
use mathlib.Core.Option.{Option, none, some}
use Prim.Native.Nat.{ℕ, ◌+◌, ◌^◌, ◌≤◌, ◌<◌}
use native.Mathlib.Omega.{arith}
use lib.Dec.{eqb, ltb}
use borrow.Author.Tests.{eq-eqb, eqb-true, ltb-true, ltb-false}
use Rattle.epoch.specs.Epoch.{starting, is_pinned, pinned, unpinned, successor}
use Rattle.epoch.proofs.Laws.{is_pinned-starting}
use Rattle.definition.specs.Base.{branch, Tab, put, least}
use Rattle.definition.specs.Rule.{asks, leaves}
use Rattle.definition.specs.Tables.{Shared, write}
use Rattle.definition.specs.Links.{pointer, is_tagged}
use Rattle.definition.specs.List.{pred_word}
use Rattle.definition.specs.Internal.{advance_store, advance_epoch, rule}
use native.Mathlib.Nat.{le_refl}
use Rattle.definition.proofs.Base.{branch-false, same?, put_ind, put_same, put_other}
use Rattle.theorems.proofs.Machine.{Machine}
use Rattle.theorems.proofs.Ghost.{Use, Ghost, Turn, turn_of, num, G, use_turned, gone_turned, use_worked, slots_freed, gpin_after, moved}
use Rattle.theorems.proofs.Change.{Change}
use Rattle.theorems.proofs.Leads.{leads}
use Rattle.theorems.proofs.Frames.{own_goes, epoch-goes, word-goes}
use Rattle.theorems.proofs.Live.{unlinked_word}
use Rattle.theorems.proofs.Carried.{Sources, Carried, CarriedAfter, carries}
use Rattle.theorems.proofs.Invariant.{Of, walk_epoch, pop_epoch, store_epoch, Unseen, Pinned, Live, Registers, Fine, InList}
use Rattle.theorems.proofs.Inv.{Inv, Steps, rule_of, won_of, left_of, after_of, goes_ghost, stepped, stepped_ghost}
use Rattle.theorems.proofs.Records.{chg, mine, Mine, word-kept, fine_registers, records_step}
use Rattle.theorems.proofs.Types.{Epoch, Node, Item, Owner, Try, Pred, Deferring, Then, RepinAt, PushAt, Place, Participant, Work, After}

-- ---- numbers of epochs

pub num-pinned : (w : ℕ) → num (pinned w) ≡ num w
unfolding num pinned unpinned
num-pinned w = omega arith

pub num-successor : (w : ℕ) → num w < 2 ^ 62 → num (successor w) ≡ num w + 1
unfolding num successor
num-successor w h = omega arith

-- a fact about what a place carries, weakened
pub of_map : {A : Type 0} (P Q : A → Type 0) → ((x : A) → P x → Q x) → (o : Option A) → Of P o → Of Q o
unfolding Of
of_map P Q f none h = tt
of_map P Q f (some x) h = f x h

pub gpin_at : (e : ℕ) (w v t : Tab ℕ) (q : ℕ) → gpin_after e w v t q ≡ branch (is_pinned (v q) && not (eqb (v q) (w q))) e (t q)
unfolding gpin_after
gpin_at e w v t q = refl

-- a word that is as it was leaves the pin as it was
pub gpin_same : (e : ℕ) (w v t : Tab ℕ) (q : ℕ) → v q ≡ w q → gpin_after e w v t q ≡ t q
unfolding gpin_after
gpin_same e w v t q h = branch-false e (t q) (rw (eq-eqb (v q) (w q) h) (and_no (is_pinned (v q))))
  where
    and_no : (b : Bool) → (b && false) ≡ false
    and_no true = refl
    and_no false = refl

pub of_unit : {A : Type 0} (o : Option A) → Of (λ (x : A). Unit {0}) o
unfolding Of
of_unit none = tt
of_unit (some x) = tt

-- what a place carries, where it is known
pub of_some : {A : Type 0} (P : A → Type 0) (o : Option A) (x : A) → o ≡ some x → Of P o → P x
unfolding Of
of_some P o x e h = rw e at h

store_walks : (t : Try) → walk_epoch (Place.AdvanceStore t) ≡ some t.epoch.0
unfolding walk_epoch
store_walks t = refl

-- nobody is left to be seen where the successor is stored
seen_all : (t : Try) (pl : Place) → pl ≡ Place.AdvanceStore t → (birth : Tab ℕ) (d b : ℕ) → (b < num t.epoch.0 → Unseen birth pl d) → num t.epoch.0 ≤ b
unfolding Unseen
seen_all t pl e birth d b h = go (ltb b (num t.epoch.0)) refl
  where
    go : (c : Bool) → ltb b (num t.epoch.0) ≡ c → num t.epoch.0 ≤ b
    go true i = absurd (rw e at (h (ltb-true b (num t.epoch.0) i)))
    go false i = ltb-false b (num t.epoch.0) i

-- whoever walks is pinned
pub walker_pinned : (pl : Place) (w : Bool) (gu sh : ℕ) (b : List Item) → Live pl w gu sh b → Of (λ (e : ℕ). w ≡ true) (walk_epoch pl)
unfolding Live Of walk_epoch
walker_pinned Place.Rest w gu sh b l = tt
walker_pinned (Place.Register x) w gu sh b l = tt
walker_pinned (Place.PinEpoch k) w gu sh b l = tt
walker_pinned (Place.PinWord k e) w gu sh b l = tt
walker_pinned (Place.Repin x) w gu sh b l = tt
walker_pinned Place.UnpinWord w gu sh b l = tt
walker_pinned (Place.AdvanceEpoch k) w gu sh b l = tt
walker_pinned (Place.Walk t x) w gu sh b l = l.0
walker_pinned (Place.AdvanceWord t curr succ) w gu sh b l = l.0
walker_pinned (Place.AdvanceStore t) w gu sh b l = l.0
walker_pinned (Place.Pop p x) w gu sh b l = tt
walker_pinned (Place.Push (Then.Defer (Deferring.Token token)) x) w gu sh b l = tt
walker_pinned (Place.Push (Then.Defer (Deferring.Slot t c succ)) PushAt.Epoch) w gu sh b l = l.0.0
walker_pinned (Place.Push (Then.Defer (Deferring.Slot t c succ)) (PushAt.Tail new)) w gu sh b l = l.0.0
walker_pinned (Place.Push (Then.Defer (Deferring.Slot t c succ)) (PushAt.Next new onto)) w gu sh b l = l.0.0
walker_pinned (Place.Push (Then.Defer (Deferring.Slot t c succ)) (PushAt.Help new onto next)) w gu sh b l = l.0.0
walker_pinned (Place.Push (Then.Defer (Deferring.Slot t c succ)) (PushAt.Link new onto)) w gu sh b l = l.0.0
walker_pinned (Place.Push (Then.Defer (Deferring.Slot t c succ)) (PushAt.Move new onto)) w gu sh b l = l.0.0
walker_pinned (Place.Push (Then.Defer (Deferring.Node p head next)) x) w gu sh b l = tt
walker_pinned (Place.Push Then.Flush x) w gu sh b l = tt
walker_pinned (Place.Push Then.Finalize x) w gu sh b l = tt
walker_pinned Place.FinalWord w gu sh b l = tt
walker_pinned Place.FinalTag w gu sh b l = tt

-- a registering slot does not walk
registers-bare : (pl : Place) → Registers pl → walk_epoch pl ≡ none
unfolding Registers walk_epoch
registers-bare (Place.Register x) h = refl
registers-bare Place.Rest h = absurd h
registers-bare (Place.PinEpoch k) h = absurd h
registers-bare (Place.PinWord k e) h = absurd h
registers-bare (Place.Repin x) h = absurd h
registers-bare Place.UnpinWord h = absurd h
registers-bare (Place.AdvanceEpoch k) h = absurd h
registers-bare (Place.Walk t x) h = absurd h
registers-bare (Place.AdvanceWord t curr succ) h = absurd h
registers-bare (Place.AdvanceStore t) h = absurd h
registers-bare (Place.Pop p x) h = absurd h
registers-bare (Place.Push f x) h = absurd h
registers-bare Place.FinalWord h = absurd h
registers-bare Place.FinalTag h = absurd h

unlinked_epoch : (q : Pred) (w : ℕ) (s : Shared) → (write (pred_word q) w s).global_epoch ≡ s.global_epoch
unfolding write pred_word
unlinked_epoch Pred.Head w s = refl
unlinked_epoch (Pred.Entry x) w s = refl

pin_stores : (k : Owner) (e : Epoch) → store_epoch (Place.PinWord k e) ≡ some e.0
unfolding store_epoch
pin_stores k e = refl

repin_stores : (e : Epoch) → store_epoch (Place.Repin (RepinAt.Store e)) ≡ some e.0
unfolding store_epoch
repin_stores e = refl

branch-yes : (x y : ℕ) → branch (true && not false) x y ≡ x
unfolding branch
branch-yes x y = refl

branch_no : (x y : ℕ) → branch (true && not true) x y ≡ y
unfolding branch
branch_no x y = refl

left-store : (p : ℕ) (spare : Node) (sealed : Node → ℕ) (o : Participant) (s : Shared) (t : Try) (pl : Place) → pl ≡ Place.AdvanceStore t
    → (leaves (asks (rule (record { 0 = p }) spare sealed o pl)) s).global_epoch ≡ successor t.epoch.0
unfolding leaves asks rule advance_store write
left-store p spare sealed o s t pl h = rw h refl

unused_not_out : Use.unused ≡ Use.out → ⊥
unused_not_out e = let z : ◌≡◌ {A = ℕ} 0 1 = cc in omega arith

linked-not_out : Use.linked ≡ Use.out → ⊥
linked-not_out e = let z : ◌≡◌ {A = ℕ} 0 1 = cc in omega arith

-- a slot that is out afterwards was out, or is unlinked now
out_before : (l : List Item) (x : ℕ) (u : Tab Use) → slots_freed l u x ≡ Use.out → u x ≡ Use.out
unfolding slots_freed
out_before [] x u h = h
out_before (Item.Token t ∷ l) x u h = out_before l x u h
out_before (Item.Node n ∷ l) x u h = out_before l x u h
out_before (Item.Slot s ∷ l) x u h = same? s.0 x
    (λ e. absurd (unused_not_out (sym (ap (λ (k : ℕ). put u s.0 Use.unused k) (sym e) ∙ put_same u s.0 Use.unused) ∙ out_before l x (put u s.0 Use.unused) h)))
    (λ ne. sym (put_other u s.0 x Use.unused ne) ∙ out_before l x (put u s.0 Use.unused) h)

worked_out : (w : Work) (m : Machine) (u : Tab Use) (x : ℕ) → use_worked w m u x ≡ Use.out → u x ≡ Use.out
unfolding use_worked
worked_out Work.Nothing m u x h = h
worked_out (Work.Put i) m u x h = h
worked_out (Work.PutThenFree i n) m u x h = out_before (m.bag n.0).holds x u h
worked_out (Work.Seal n e) m u x h = h

gone_turned_lem : (v : Turn) (x e b : ℕ) (u : Tab Use) (r : Tab ℕ) → e ≤ b → (u x ≡ Use.out → r x ≤ b) → use_turned v u x ≡ Use.out → gone_turned v e r x ≤ b
unfolding use_turned gone_turned
gone_turned_lem Turn.quiet x e b u r le h o = h o
gone_turned_lem (Turn.enlists i) x e b u r le h o = same? i x
    (λ k. absurd (linked-not_out (sym (ap (λ (j : ℕ). put u i Use.linked j) (sym k) ∙ put_same u i Use.linked) ∙ o)))
    (λ ne. h (sym (put_other u i x Use.linked ne) ∙ o))
gone_turned_lem (Turn.unlinks i) x e b u r le h o = same? i x
    (λ k. rw (← k, put_same r i e) le)
    (λ ne. rw (put_other r i x e ne) (h (sym (put_other u i x Use.out ne) ∙ o)))
gone_turned_lem (Turn.links n) x e b u r le h o = h o

pub none_not_some : (x : ℕ) → none ≡ some x → ⊥
none_not_some x e = let z : ◌≡◌ {A = ℕ} 0 1 = cc in omega arith

pub of_none : {A : Type 0} (P : A → Type 0) (o : Option A) → o ≡ none → Of P o
unfolding Of
of_none P o e = rw e tt

pub of_known : {A : Type 0} (P : A → Type 0) (o : Option A) → ((x : A) → o ≡ some x → P x) → Of P o
unfolding Of
of_known P none h = tt
of_known P (some x) h = h x refl

pub of_three : {A : Type 0} (P Q R S : A → Type 0) → ((x : A) → P x → Q x → R x → S x) → (o : Option A) → Of P o → Of Q o → Of R o → Of S o
unfolding Of
of_three P Q R S f none a b c = tt
of_three P Q R S f (some x) a b c = f x a b c

rests : (P : ℕ → Type 0) (pl : Place) → pl ≡ Place.Rest → Of P (walk_epoch pl)
unfolding Of walk_epoch
rests P pl e = rw e tt

-- whoever walks is pinned, whatever the slot's use
pub walker_fine : (u : Use) (t w : Bool) (o : Participant) (b : List Item) → Fine u t w o b → Of (λ (e : ℕ). w ≡ true) (walk_epoch o.place)
unfolding Fine InList
walker_fine Use.unused t w o b h = rests (λ (e : ℕ). w ≡ true) o.place h.0
walker_fine Use.registering t w o b h = of_none (λ (e : ℕ). w ≡ true) (walk_epoch o.place) (registers-bare o.place h.0)
walker_fine Use.linked true w o b h = rests (λ (e : ℕ). w ≡ true) o.place h.0
walker_fine Use.linked false w o b h = walker_pinned o.place w o.counts.guards o.share b h
walker_fine Use.out t w o b h = rests (λ (e : ℕ). w ≡ true) o.place h.0.0

left_try : (p : ℕ) (spare : Node) (sealed : Node → ℕ) (o : Participant) (s : Shared) (k : Owner) (pl : Place) → pl ≡ Place.AdvanceEpoch k
    → leaves (asks (rule (record { 0 = p }) spare sealed o pl)) s ≡ s
unfolding leaves asks rule advance_epoch
left_try p spare sealed o s k pl h = rw h refl

-- ---- the step

module _ (N M p : ℕ) (m : Machine) (g : Ghost) (inv : Inv N M m g) (st : Steps N M p m) where
  abbrev pl : Place
  pl = (m.own p).place

  abbrev s' : Shared
  s' = left_of M p m

  abbrev a : After
  a = after_of M p m

  abbrev c : Change p pl m.shared (turn_of p pl (won_of M p m)) s'
  c = chg N M p m g inv st

  -- whoever walks is pinned
  walks_pinned : (e : ℕ) → walk_epoch pl ≡ some e → Pinned m p
  walks_pinned e h = go (mine N M p m g inv st)
    where
      go : Mine (g.slot_use p) (is_tagged (m.shared.entry_next p)) (is_pinned (m.shared.word p)) (m.own p) (m.held p) → Pinned m p
      go (Mine.fresh u f) = let z = sym (registers-bare pl (fine_registers (is_tagged (m.shared.entry_next p)) (is_pinned (m.shared.word p)) (m.own p) (m.held p) f)) ∙ h in
          let y : ◌≡◌ {A = ℕ} 0 1 = cc in absurd (omega arith)
      go (Mine.live u t l) = of_some (λ (e : ℕ). Pinned m p) (walk_epoch pl) e h (walker_pinned pl (is_pinned (m.shared.word p)) (m.own p).counts.guards (m.own p).share (m.held p) l)

  -- the store of a successor
  stores_epoch : (t : Try) → pl ≡ Place.AdvanceStore t → s'.global_epoch ≡ successor t.epoch.0
  unfolding left_of rule_of
  stores_epoch t h = left-store p (record { 0 = least M m.node_free }) (λ n. (m.bag n.0).epoch) (m.own p) m.shared t pl h

  -- who is about to store a successor has seen everybody
  advancing : (t : Try) → pl ≡ Place.AdvanceStore t
      → (num t.epoch.0 ≤ G m) × ((G m ≤ num t.epoch.0 + 1) × ((d : ℕ) → d < N → Pinned m d → num t.epoch.0 ≤ g.gpin d))
  advancing t h =
      let w : walk_epoch pl ≡ some t.epoch.0 = ap walk_epoch h ∙ store_walks t in
      let me = walks_pinned t.epoch.0 w in
      let le = of_some (λ (e : ℕ). num e ≤ G m) (walk_epoch pl) t.epoch.0 w (inv.epochs.walk_le p st.here) in
      let tr = of_some (λ (e : ℕ). g.gpin p ≤ num e) (walk_epoch pl) t.epoch.0 w (inv.epochs.tries p st.here) in
      let nr = inv.epochs.near p st.here me in (
        le,
        (
          omega arith,
          λ d hd pd. seen_all t pl h g.birth d (g.gpin d)
              (of_some (λ (e : ℕ). g.gpin d < num e → Unseen g.birth pl d) (walk_epoch pl) t.epoch.0 w (inv.epochs.walks p d st.here hd pd)),
        ),
      )

  -- the global epoch does not fall, rises by one at most, and stays within one of every pin
  abbrev Up : ℕ → Type 0
  Up w = (G m ≤ num w) × ((num w ≤ G m + 1) × ((d : ℕ) → d < N → Pinned m d → num w ≤ g.gpin d + 1))

  kept_up : (w : ℕ) → w ≡ m.shared.global_epoch → Up w
  unfolding G
  kept_up w e = rw e (omega arith, (omega arith, λ d hd pd. inv.epochs.near d hd pd))

  stored_up : (t : Try) → pl ≡ Place.AdvanceStore t → Up (successor t.epoch.0)
  stored_up t h =
      let k = advancing t h in
      let le = k.0 in let ge = k.1.0 in
      let sm = st.small in
      let e : num (successor t.epoch.0) ≡ num t.epoch.0 + 1 = num-successor t.epoch.0 (omega arith) in
      (omega arith, (omega arith, λ d hd pd. let z = k.1.1 d hd pd in omega arith))

  up_by : (v : Turn) (z : Shared) → Change p pl m.shared v z → Up z.global_epoch
  unfolding write
  up_by v z (Change.none t e) = rw e (kept_up _ refl)
  up_by v z (Change.advances y h t e) = rw e (stored_up y h)
  up_by v z (Change.pins k y h t e) = rw e (kept_up _ refl)
  up_by v z (Change.repins y h t e) = rw e (kept_up _ refl)
  up_by v z (Change.unpins h t e) = rw e (kept_up _ refl)
  up_by v z (Change.finals h t e) = rw e (kept_up _ refl)
  up_by v z (Change.aims next h t e) = rw e (kept_up _ refl)
  up_by v z (Change.enlists next h t w e) = rw e (kept_up _ refl)
  up_by v z (Change.unlinks y c succ h t w e) = rw e (kept_up _ (unlinked_epoch c.pred (pointer succ) m.shared))
  up_by v z (Change.tags h t e) = rw e (kept_up _ refl)
  up_by v z (Change.pops q x y h t w e) = rw e (kept_up _ refl)
  up_by v z (Change.tails f y h t w e) = rw e (kept_up _ refl)
  up_by v z (Change.links f n o h t w e) = rw e (kept_up _ refl)

  abbrev m' : Machine
  m' = stepped M p m

  abbrev g' : Ghost
  g' = stepped_ghost M p m g

  pub up : Up m'.shared.global_epoch
  unfolding stepped
  up = rw (epoch-goes p m s' a) (up_by (turn_of p pl (won_of M p m)) s' c)

  pub mono : G m ≤ G m'
  unfolding G
  mono = up.0

  -- ---- pins

  -- what the own word is afterwards, if it is pinned: as it was, with its pin; or a new one, of an epoch that is at most the present
  pub data Word' : Type 0 where
    same : s'.word p ≡ m.shared.word p → Word'
    stored : (e : ℕ) → s'.word p ≡ e → num e ≤ G m → Word'
    cleared : is_pinned (s'.word p) ≡ false → Word'

  word_by : (v : Turn) (z : Shared) → Change p pl m.shared v z → z ≡ s' → Word'
  unfolding write
  word_by v z (Change.none t e) i = same (ap (λ (k : Shared). k.word p) (sym i ∙ e))
  word_by v z (Change.advances y h t e) i = same (ap (λ (k : Shared). k.word p) (sym i ∙ e))
  word_by v z (Change.pins k y h t e) i = stored (pinned y.0) (ap (λ (k : Shared). k.word p) (sym i ∙ e) ∙ put_same m.shared.word p (pinned y.0))
      (rw (num-pinned y.0) (of_some (λ (e : ℕ). num e ≤ G m) (store_epoch pl) y.0 (ap store_epoch h ∙ pin_stores k y) (inv.epochs.store_le p st.here)))
  word_by v z (Change.repins y h t e) i = stored y.0 (ap (λ (k : Shared). k.word p) (sym i ∙ e) ∙ put_same m.shared.word p y.0)
      (of_some (λ (e : ℕ). num e ≤ G m) (store_epoch pl) y.0 (ap store_epoch h ∙ repin_stores y) (inv.epochs.store_le p st.here))
  word_by v z (Change.unpins h t e) i = cleared (ap is_pinned (ap (λ (k : Shared). k.word p) (sym i ∙ e) ∙ put_same m.shared.word p starting) ∙ is_pinned-starting)
  word_by v z (Change.finals h t e) i = cleared (ap is_pinned (ap (λ (k : Shared). k.word p) (sym i ∙ e) ∙ put_same m.shared.word p starting) ∙ is_pinned-starting)
  word_by v z (Change.aims next h t e) i = same (ap (λ (k : Shared). k.word p) (sym i ∙ e))
  word_by v z (Change.enlists next h t w e) i = same (ap (λ (k : Shared). k.word p) (sym i ∙ e))
  word_by v z (Change.unlinks y c succ h t w e) i = same (ap (λ (k : Shared). k.word p) (sym i ∙ e) ∙ ap (λ (f : Tab ℕ). f p) (unlinked_word c.pred (pointer succ) m.shared))
  word_by v z (Change.tags h t e) i = same (ap (λ (k : Shared). k.word p) (sym i ∙ e))
  word_by v z (Change.pops q x y h t w e) i = same (ap (λ (k : Shared). k.word p) (sym i ∙ e))
  word_by v z (Change.tails f y h t w e) i = same (ap (λ (k : Shared). k.word p) (sym i ∙ e))
  word_by v z (Change.links f n o h t w e) i = same (ap (λ (k : Shared). k.word p) (sym i ∙ e))

  word' : Word'
  word' = word_by (turn_of p pl (won_of M p m)) s' c refl

  abbrev Pins : ℕ → (word gpin : ℕ) → Type 0
  Pins e w b = (num w ≤ b) × ((b ≤ e) × (e ≤ b + 1))

  -- a word that is as it was
  pins_same : (q : ℕ) → q < N → Pinned m q → Pins (num m'.shared.global_epoch) (m.shared.word q) (g.gpin q)
  unfolding G
  pins_same q hq pq = let lo = inv.epochs.pin_le q hq pq in let u = up.0 in (inv.epochs.own_le q hq pq, (omega arith, up.1.1 q hq pq))

  -- a word that is stored now, by whether it is another one than before
  pins_stored : (e : ℕ) → num e ≤ G m → is_pinned e ≡ true → (b : Bool) → eqb e (m.shared.word p) ≡ b
      → Pins (num m'.shared.global_epoch) e (branch (is_pinned e && not b) (G m) (g.gpin p))
  pins_stored e le pe true i =
      let w = eqb-true e (m.shared.word p) i in
      rw (pe, branch_no (G m) (g.gpin p), w) (pins_same p st.here (ap is_pinned (sym w) ∙ pe))
  pins_stored e le pe false i = rw (pe, branch-yes (G m) (g.gpin p)) (le, (up.0, up.1.0))

  pinned-left : (q : ℕ) → Pinned m' q → is_pinned (s'.word q) ≡ true
  unfolding stepped
  pinned-left q pq = ap (λ (f : Tab ℕ). is_pinned (f q)) (sym (word-goes p m s' a)) ∙ pq

  pins_own : Word' → is_pinned (s'.word p) ≡ true → Pins (num m'.shared.global_epoch) (s'.word p) (gpin_after (G m) m.shared.word s'.word g.gpin p)
  pins_own (same e) pq = rw (gpin_same (G m) m.shared.word s'.word g.gpin p e, e) (pins_same p st.here (ap is_pinned (sym e) ∙ pq))
  pins_own (stored e i le) pq = rw (gpin_at (G m) m.shared.word s'.word g.gpin p, i) (pins_stored e le (ap is_pinned (sym i) ∙ pq) (eqb e (m.shared.word p)) refl)
  pins_own (cleared e) pq = absurd (true≢false (sym pq ∙ e))

  -- everybody who is pinned afterwards
  pub pins_after : (q : ℕ) → q < N → Pinned m' q → Pins (num m'.shared.global_epoch) (s'.word q) (gpin_after (G m) m.shared.word s'.word g.gpin q)
  pins_after q hq pq = same? q p
      (λ e. rw e (pins_own word' (rw e at (pinned-left q pq))))
      (λ ne. let k = word-kept p pl m.shared s' (turn_of p pl (won_of M p m)) c q ne in
      rw (gpin_same (G m) m.shared.word s'.word g.gpin q k, k) (pins_same q hq (ap is_pinned (sym k) ∙ pinned-left q pq)))

  -- ---- what places carry

  carried_own : (P Q R : ℕ → Type 0) → Sources P Q R pl m.shared → Carried P Q R pl → Carried P Q R a.participant.place
  unfolding after_of rule_of CarriedAfter
  carried_own P Q R src h = leads (λ won s x. CarriedAfter P Q R x) m.shared (rule_of M p m)
      (carries P Q R p (record { 0 = least M m.node_free }) (λ n. (m.bag n.0).epoch) (m.own p) m.shared pl src h)

  -- all carried epochs are at most the new global epoch
  abbrev Le : ℕ → Type 0
  Le e = num e ≤ num m'.shared.global_epoch

  carried-le : (q : ℕ) → q < N → Carried Le Le Le (m.own q).place
  unfolding G
  carried-le q hq =
      let u = up.0 in
      let f : (e : ℕ) → num e ≤ G m → Le e = λ e h. omega arith in
      record {
        walks = of_map (λ (e : ℕ). num e ≤ G m) Le f (walk_epoch (m.own q).place) (inv.epochs.walk_le q hq);
        pops = of_map (λ (e : ℕ). num e ≤ G m) Le f (pop_epoch (m.own q).place) (inv.epochs.pop_le q hq);
        stores = of_map (λ (e : ℕ). num e ≤ G m) Le f (store_epoch (m.own q).place) (inv.epochs.store_le q hq);
      }

  -- the successor that is stored is the new global epoch
  stored_is : (t : Try) → pl ≡ Place.AdvanceStore t → m'.shared.global_epoch ≡ successor t.epoch.0
  unfolding stepped
  stored_is t h = epoch-goes p m s' a ∙ stores_epoch t h

  pub carried-after : (q : ℕ) → q < N → Carried Le Le Le (m'.own q).place
  unfolding stepped G
  carried-after q hq = rw (own_goes p m s' a q) (put_ind (λ (o : Participant). Carried Le Le Le o.place) m.own p q a.participant
      (λ _. carried_own Le Le Le (record {
        pins = λ _ _. up.0;
        repins = λ _ _. rw (num-pinned m.shared.global_epoch) up.0;
        tries = λ _ _. up.0;
        ends = λ _ h. h;
        stores = λ t h. rw (stored_is t h) (le_refl (num (successor t.epoch.0)));
      }) (carried-le p st.here))
      (λ _. carried-le q hq))

  -- a walk's epoch is no earlier than the pin of who walks
  gpin_other : (q : ℕ) → q ≢ p → gpin_after (G m) m.shared.word s'.word g.gpin q ≡ g.gpin q
  gpin_other q ne = gpin_same (G m) m.shared.word s'.word g.gpin q (word-kept p pl m.shared s' (turn_of p pl (won_of M p m)) c q ne)

  -- ---- slots and nodes that have left

  pub gone-after : (q : ℕ) → q < N → g'.slot_use q ≡ Use.out → g'.gone q ≤ num m'.shared.global_epoch
  unfolding stepped_ghost goes_ghost moved
  gone-after q hq e = gone_turned_lem (turn_of p pl (won_of M p m)) q (G m) (num m'.shared.global_epoch) g.slot_use g.gone up.0
      (λ o. let k = inv.epochs.gone_le q hq o in let u = up.0 in omega arith) (worked_out a.work m (use_turned (turn_of p pl (won_of M p m)) g.slot_use) q e)

  -- ---- a walk's epoch is no earlier than the pin of who walks

  -- who is pinned has been so since no later than now
  abbrev Since : ℕ → Type 0
  Since e = Pinned m p → g.gpin p ≤ num e

  tries_own : Of Since (walk_epoch a.participant.place)
  unfolding G
  tries_own = (carried_own Since (λ _. Unit {0}) (λ _. Unit {0})
      (record { pins = λ _ _. tt; repins = λ _ _. tt; tries = λ _ _ w. inv.epochs.pin_le p st.here w; ends = λ _ _. tt; stores = λ _ _. tt })
      (record { walks = of_map (λ (e : ℕ). g.gpin p ≤ num e) Since (λ _ h _. h) (walk_epoch pl) (inv.epochs.tries p st.here); pops = of_unit (pop_epoch pl); stores = of_unit (store_epoch pl) })
      ).walks

  -- a step that leads to a walk stores no word
  walking-word : (v : Turn) (z : Shared) → Change p pl m.shared v z → z ≡ s' → (e : ℕ) → walk_epoch pl ≡ some e → s'.word p ≡ m.shared.word p
  unfolding write walk_epoch
  walking-word v z (Change.none t e) i x w = ap (λ (k : Shared). k.word p) (sym i ∙ e)
  walking-word v z (Change.advances y h t e) i x w = ap (λ (k : Shared). k.word p) (sym i ∙ e)
  walking-word v z (Change.pins k y h t e) i x w = absurd (none_not_some x (sym (ap walk_epoch h) ∙ w))
  walking-word v z (Change.repins y h t e) i x w = absurd (none_not_some x (sym (ap walk_epoch h) ∙ w))
  walking-word v z (Change.unpins h t e) i x w = absurd (none_not_some x (sym (ap walk_epoch h) ∙ w))
  walking-word v z (Change.finals h t e) i x w = absurd (none_not_some x (sym (ap walk_epoch h) ∙ w))
  walking-word v z (Change.aims next h t e) i x w = ap (λ (k : Shared). k.word p) (sym i ∙ e)
  walking-word v z (Change.enlists next h t u e) i x w = ap (λ (k : Shared). k.word p) (sym i ∙ e)
  walking-word v z (Change.unlinks y c succ h t u e) i x w = ap (λ (k : Shared). k.word p) (sym i ∙ e) ∙ ap (λ (f : Tab ℕ). f p) (unlinked_word c.pred (pointer succ) m.shared)
  walking-word v z (Change.tags h t e) i x w = ap (λ (k : Shared). k.word p) (sym i ∙ e)
  walking-word v z (Change.pops q y₁ y h t u e) i x w = ap (λ (k : Shared). k.word p) (sym i ∙ e)
  walking-word v z (Change.tails f y h t u e) i x w = ap (λ (k : Shared). k.word p) (sym i ∙ e)
  walking-word v z (Change.links f n o h t u e) i x w = ap (λ (k : Shared). k.word p) (sym i ∙ e)

  -- the load that begins a try stores nothing
  try_word : (k : Owner) → pl ≡ Place.AdvanceEpoch k → s'.word p ≡ m.shared.word p
  unfolding left_of rule_of
  try_word k h = ap (λ (z : Shared). z.word p) (left_try p (record { 0 = least M m.node_free }) (λ n. (m.bag n.0).epoch) (m.own p) m.shared k pl h)

  abbrev Kept : ℕ → Type 0
  Kept e = s'.word p ≡ m.shared.word p

  word_own : Of Kept (walk_epoch a.participant.place)
  word_own = (carried_own Kept (λ _. Unit {0}) (λ _. Unit {0})
      (record { pins = λ _ _. tt; repins = λ _ _. tt; tries = λ k h. try_word k h; ends = λ _ _. tt; stores = λ _ _. tt })
      (record { walks = of_known Kept (walk_epoch pl) (λ e h. walking-word (turn_of p pl (won_of M p m)) s' c refl e h); pops = of_unit (pop_epoch pl); stores = of_unit (store_epoch pl) })
      ).walks

  -- who walks afterwards is pinned
  pinned_own : Of (λ (e : ℕ). is_pinned (s'.word p) ≡ true) (walk_epoch a.participant.place)
  unfolding stepped
  pinned_own = let f = (records_step N M p m g inv st).fine p st.here in
      rw (own_goes p m s' a p, put_same m.own p a.participant, word-goes p m s' a) at (walker_fine (g'.slot_use p) _ _ (m'.own p) (m'.held p) f)

  tries_mine : Of (λ (e : ℕ). gpin_after (G m) m.shared.word s'.word g.gpin p ≤ num e) (walk_epoch a.participant.place)
  tries_mine = of_three Kept (λ (e : ℕ). is_pinned (s'.word p) ≡ true) Since (λ (e : ℕ). gpin_after (G m) m.shared.word s'.word g.gpin p ≤ num e)
      (λ e k w h. rw (gpin_same (G m) m.shared.word s'.word g.gpin p k) (h (ap is_pinned (sym k) ∙ w))) (walk_epoch a.participant.place) word_own pinned_own tries_own

  pub tries_after : (q : ℕ) → q < N → Of (λ e. g'.gpin q ≤ num e) (walk_epoch (m'.own q).place)
  unfolding stepped stepped_ghost goes_ghost moved
  tries_after q hq = same? q p
      (λ i. rw (i, own_goes p m s' a p, put_same m.own p a.participant) tries_mine)
      (λ ne. rw (own_goes p m s' a q, put_other m.own p q a.participant (λ i. ne (sym i)), gpin_other q ne) (inv.epochs.tries q hq))
