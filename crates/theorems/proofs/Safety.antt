-- Why nobody holds what is freed, and why what is held stays: the heart of the argument, for slots, nodes and tokens alike. A bag is freed
-- two epochs after its seal, its items were retired no later than the seal, and whoever is pinned was pinned at most one epoch ago: so no
-- pinned participant was pinned when they were retired. Assumes nothing.
use mathlib.Core.Path.{◌≡◌, refl, ap, sym, ◌∙◌}
use mathlib.Core.Logic.{◌≢◌}
use mathlib.Core.Bool.{Bool, true, false, ◌&&◌, true≢false}
use mathlib.Core.List.{List, [], ◌∷◌}
use mathlib.Core.Option.{some}
use Prim.Native.Nat.{ℕ, zero, suc, ◌+◌, ◌≤◌, ◌<◌}
use native.Mathlib.Omega.{arith}
use lib.Dec.{eqb, ltb, leb}
use borrow.Author.Tests.{eqb-true, eqb-false, leb-false, lt-ltb}
use Rattle.definition.specs.Base.{branch, Tab, put, sum}
use Rattle.definition.proofs.Base.{branch_ind, same?, put_ind, put_same, put_other}
use Rattle.theorems.proofs.Machine.{Machine}
use Rattle.theorems.proofs.Ghost.{Use, NodeUse, Ghost, Turn, num, G, use_turned, gone_turned, slots_freed, nodes_freed, past_after}
use Rattle.theorems.proofs.Invariant.{Of, pop_epoch, popped_node, Pinned, SafeUse, SafeSlot, SafeNode, HoldsThen, HoldsPop, HoldsAt}
use Rattle.theorems.proofs.Invariant.{times, same_item, occurs, Retired, Each}
use Rattle.theorems.proofs.Inv.{Inv}
use Rattle.theorems.proofs.Types.{Item, Deferring, Then, PopAt, Place}

-- ---- lists of items

pub each_map : (P Q : Item → Type 0) → ((i : Item) → P i → Q i) → (l : List Item) → Each P l → Each Q l
unfolding Each
each_map P Q f [] h = tt
each_map P Q f (i ∷ l) h = (f i h.0, each_map P Q f l h.1)

-- an item that stands in a list has what each has
same_item_lem : (x i : Item) → same_item x i ≡ true → x ≡ i
unfolding same_item
same_item_lem (Item.Token a) (Item.Token b) h = ap (λ (n : ℕ). Item.Token n) (eqb-true a b h)
same_item_lem (Item.Token a) (Item.Node b) h = absurd (true≢false (sym h))
same_item_lem (Item.Token a) (Item.Slot b) h = absurd (true≢false (sym h))
same_item_lem (Item.Node a) (Item.Token b) h = absurd (true≢false (sym h))
same_item_lem (Item.Node a) (Item.Node b) h = ap (λ (n : ℕ). Item.Node (record { 0 = n })) (eqb-true a.0 b.0 h)
same_item_lem (Item.Node a) (Item.Slot b) h = absurd (true≢false (sym h))
same_item_lem (Item.Slot a) (Item.Token b) h = absurd (true≢false (sym h))
same_item_lem (Item.Slot a) (Item.Node b) h = absurd (true≢false (sym h))
same_item_lem (Item.Slot a) (Item.Slot b) h = ap (λ (n : ℕ). Item.Slot (record { 0 = n })) (eqb-true a.0 b.0 h)

pub each_at : (P : Item → Type 0) (x : Item) (l : List Item) → Each P l → times x l ≢ 0 → P x
unfolding Each times branch
each_at P x [] h ne = absurd (ne refl)
each_at P x (i ∷ l) h ne = go (same_item x i) refl (λ k. each_at P x l h.1 k) ne
  where
    go : (b : Bool) → same_item x i ≡ b → (times x l ≢ 0 → P x) → branch b 1 0 + times x l ≢ 0 → P x
    go true e later z = rw (same_item_lem x i e) h.0
    go false e later z = later (λ q. z (omega arith))

-- ---- a popped bag is two epochs old

module _ (N M : ℕ) (m : Machine) (g : Ghost) where
  -- what a pop holds of its popped node, wherever the pop stands
  popped_old : (b : ℕ) (pl : Place) → HoldsAt N M m g b pl → Of (λ e. num e ≤ G m) (pop_epoch pl)
      → Of (λ n. SafeNode M g m.shared b n × (num (m.bag n).epoch + 2 ≤ G m)) (popped_node pl)
  unfolding Of popped_node pop_epoch HoldsAt HoldsPop HoldsThen
  popped_old b Place.Rest h e = tt
  popped_old b (Place.Register a) h e = tt
  popped_old b (Place.PinEpoch k) h e = tt
  popped_old b (Place.PinWord k w) h e = tt
  popped_old b (Place.Repin a) h e = tt
  popped_old b Place.UnpinWord h e = tt
  popped_old b (Place.AdvanceEpoch k) h e = tt
  popped_old b (Place.Walk t a) h e = tt
  popped_old b (Place.AdvanceWord t curr succ) h e = tt
  popped_old b (Place.AdvanceStore t) h e = tt
  popped_old b (Place.Pop p PopAt.Head) h e = tt
  popped_old b (Place.Pop p (PopAt.Next head)) h e = tt
  popped_old b (Place.Pop p (PopAt.Exchange head next)) h e = tt
  popped_old b (Place.Pop p (PopAt.Tail head next)) h e = let k = h.1.1 in (h.1.0, omega arith)
  popped_old b (Place.Pop p (PopAt.TailMove head next)) h e = let k = h.1.1 in (h.1.0, omega arith)
  popped_old b (Place.Push (Then.Defer (Deferring.Token token)) a) h e = tt
  popped_old b (Place.Push (Then.Defer (Deferring.Slot t c succ)) a) h e = tt
  popped_old b (Place.Push (Then.Defer (Deferring.Node p head next)) a) h e = let k = h.0.1 in (h.0.0, omega arith)
  popped_old b (Place.Push Then.Flush a) h e = tt
  popped_old b (Place.Push Then.Finalize a) h e = tt
  popped_old b Place.FinalWord h e = tt
  popped_old b Place.FinalTag h e = tt

  -- an item was retired two epochs ago
  unfoldable pub Old : Item → Type 0
  Old (Item.Token t) = Unit {0}
  Old (Item.Node n) = g.past n.0 + 2 ≤ G m
  Old (Item.Slot s) = g.gone s.0 + 2 ≤ G m

  old_from : (e : ℕ) → e + 2 ≤ G m → (i : Item) → Retired g e i → Old i
  unfolding Retired Old
  old_from e k (Item.Token t) h = tt
  old_from e k (Item.Node n) h = omega arith
  old_from e k (Item.Slot s) h = omega arith

  module _ (inv : Inv N M m g) (p : ℕ) (hp : p < N) (n : ℕ) (pops : popped_node (m.own p).place ≡ some n) where
    pub popped_here : SafeNode M g m.shared (g.gpin p) n × (num (m.bag n).epoch + 2 ≤ G m)
    popped_here = unfold Of in (rw pops at (popped_old (g.gpin p) (m.own p).place (inv.held.holds p hp) (inv.epochs.pop_le p hp)))

    -- everything in the bag that is about to be freed
    pub freed_old : Each Old (m.bag n).holds
    freed_old = unfold SafeNode in
        (each_map (Retired g (num (m.bag n).epoch)) Old (old_from (num (m.bag n).epoch) popped_here.1) (m.bag n).holds (inv.bagged.sealed n popped_here.0.0))

-- an entry is at most the sum
pub sum_at : (n : ℕ) (f : Tab ℕ) (i : ℕ) → i < n → f i ≤ sum n f
unfolding sum
sum_at zero f i h = absurd (omega arith)
sum_at (suc n) f i h = same? i n (λ e. rw e (omega arith)) (λ ne. let k = sum_at n f i (omega arith) in omega arith)

-- a slot that is out and safe left the list no earlier than the pin
pub safe_out : (b r : ℕ) → SafeUse Use.out b r → b ≤ r
unfolding SafeUse
safe_out b r h = h

-- an item in a bag of a node occurs
pub in_bag-occurs : (N M : ℕ) (m : Machine) (n : ℕ) (x : Item) → n < M → times x (m.bag n).holds ≢ 0 → occurs N M m x ≢ 0
unfolding occurs
in_bag-occurs N M m n x h ne z = let k = sum_at M (λ n. times x (m.bag n).holds) n h in ne (omega arith)

module _ (N M : ℕ) (m : Machine) (g : Ghost) (inv : Inv N M m g) (p : ℕ) (hp : p < N) (n : ℕ) (pops : popped_node (m.own p).place ≡ some n) where
  pub popped_in : n < M
  popped_in = unfold SafeNode in (popped_here N M m g inv p hp n pops).0.0

  -- a slot or a node that a pinned participant d holds is not in a bag that is freed now
  pub slot_unfreed : (d x : ℕ) → d < N → Pinned m d → SafeSlot N g (g.gpin d) x → times (Item.Slot (record { 0 = x })) (m.bag n).holds ≡ 0
  unfolding SafeSlot Old
  slot_unfreed d x hd pinned safe = go (times (Item.Slot (record { 0 = x })) (m.bag n).holds) refl
    where
      go : (k : ℕ) → times (Item.Slot (record { 0 = x })) (m.bag n).holds ≡ k → k ≡ 0
      go zero e = refl
      go (suc k) e =
          let ne : times (Item.Slot (record { 0 = x })) (m.bag n).holds ≢ 0 = λ z. omega arith in
          let old : g.gone x + 2 ≤ G m = each_at (Old N M m g) (Item.Slot (record { 0 = x })) (m.bag n).holds (freed_old N M m g inv p hp n pops) ne in
          let isOut : g.slot_use x ≡ Use.out = inv.used.slot_out x safe.0 (in_bag-occurs N M m n (Item.Slot (record { 0 = x })) popped_in ne) in
          let held = safe_out (g.gpin d) (g.gone x) (rw isOut at safe.1) in
          let near = inv.epochs.near d hd pinned in
          absurd (omega arith)

  pub node_unfreed : (d x : ℕ) → d < N → Pinned m d → SafeNode M g m.shared (g.gpin d) x → times (Item.Node (record { 0 = x })) (m.bag n).holds ≡ 0
  unfolding SafeNode Old
  node_unfreed d x hd pinned safe = go (times (Item.Node (record { 0 = x })) (m.bag n).holds) refl
    where
      go : (k : ℕ) → times (Item.Node (record { 0 = x })) (m.bag n).holds ≡ k → k ≡ 0
      go zero e = refl
      go (suc k) e =
          let ne : times (Item.Node (record { 0 = x })) (m.bag n).holds ≢ 0 = λ z. omega arith in
          let old : g.past x + 2 ≤ G m = each_at (Old N M m g) (Item.Node (record { 0 = x })) (m.bag n).holds (freed_old N M m g inv p hp n pops) ne in
          let isOut = inv.used.node_out x safe.0 (in_bag-occurs N M m n (Item.Node (record { 0 = x })) popped_in ne) in
          let held : g.gpin d ≤ g.past x = safe.1.1 isOut.1 in
          let near = inv.epochs.near d hd pinned in
          absurd (omega arith)

-- ---- what is held stays held

-- through a turn of the list: a slot that leaves it now left it no earlier than any pin
pub safe_turned : (v : Turn) (e b x : ℕ) (u : Tab Use) (r : Tab ℕ) → b ≤ e → SafeUse (u x) b (r x) → SafeUse (use_turned v u x) b (gone_turned v e r x)
unfolding use_turned gone_turned
safe_turned Turn.quiet e b x u r le h = h
safe_turned (Turn.enlists p) e b x u r le h = put_ind (λ w. SafeUse w b (r x)) u p x Use.linked (λ _. unfold SafeUse in tt) (λ _. h)
safe_turned (Turn.unlinks s) e b x u r le h = same? s x
    (λ i. unfold SafeUse in (rw (← i, put_same u s Use.out, put_same r s e) le))
    (λ ne. rw (put_other u s x Use.out ne, put_other r s x e ne) h)
safe_turned (Turn.links n) e b x u r le h = h

-- through a bag freed that does not hold it
pub use_unfreed : (l : List Item) (x : ℕ) (u : Tab Use) → times (Item.Slot (record { 0 = x })) l ≡ 0 → slots_freed l u x ≡ u x
unfolding slots_freed times same_item branch
use_unfreed [] x u h = refl
use_unfreed (Item.Token t ∷ l) x u h = use_unfreed l x u (omega arith)
use_unfreed (Item.Node n ∷ l) x u h = use_unfreed l x u (omega arith)
use_unfreed (Item.Slot s ∷ l) x u h = go (eqb x s.0) refl h (λ k. use_unfreed l x (put u s.0 Use.unused) k)
  where
    go : (b : Bool) → eqb x s.0 ≡ b → branch b 1 0 + times (Item.Slot (record { 0 = x })) l ≡ 0
        → (times (Item.Slot (record { 0 = x })) l ≡ 0 → slots_freed l (put u s.0 Use.unused) x ≡ put u s.0 Use.unused x) → slots_freed l (put u s.0 Use.unused) x ≡ u x
    go true e z later = absurd (omega arith)
    go false e z later = later (omega arith) ∙ put_other u s.0 x Use.unused (λ i. eqb-false x s.0 e (sym i))

pub node_use_unfreed : (l : List Item) (x : ℕ) (u : Tab NodeUse) → times (Item.Node (record { 0 = x })) l ≡ 0 → nodes_freed l u x ≡ u x
unfolding nodes_freed times same_item branch
node_use_unfreed [] x u h = refl
node_use_unfreed (Item.Token t ∷ l) x u h = node_use_unfreed l x u (omega arith)
node_use_unfreed (Item.Slot n ∷ l) x u h = node_use_unfreed l x u (omega arith)
node_use_unfreed (Item.Node s ∷ l) x u h = go (eqb x s.0) refl h (λ k. node_use_unfreed l x (put u s.0 NodeUse.spare) k)
  where
    go : (b : Bool) → eqb x s.0 ≡ b → branch b 1 0 + times (Item.Node (record { 0 = x })) l ≡ 0
        → (times (Item.Node (record { 0 = x })) l ≡ 0 → nodes_freed l (put u s.0 NodeUse.spare) x ≡ put u s.0 NodeUse.spare x) → nodes_freed l (put u s.0 NodeUse.spare) x ≡ u x
    go true e z later = absurd (omega arith)
    go false e z later = later (omega arith) ∙ put_other u s.0 x NodeUse.spare (λ i. eqb-false x s.0 e (sym i))

-- head and tail may both leave a node now: then it is past at this epoch, which is no earlier than any pin
pub past_kept : (e b lo lo' n : ℕ) (pos r : Tab ℕ) → b ≤ e → (pos n < lo → b ≤ r n) → pos n < lo' → b ≤ past_after e lo lo' pos r n
unfolding past_after
past_kept e b lo lo' n pos r le h lt = branch_ind (λ (k : ℕ). b ≤ k) (leb lo (pos n) && ltb (pos n) lo') (λ _. le)
    (λ z. go (leb lo (pos n)) refl z)
  where
    go : (c : Bool) → leb lo (pos n) ≡ c → (c && ltb (pos n) lo') ≡ false → b ≤ r n
    go true i z = absurd (true≢false (sym (lt-ltb (pos n) lo' lt) ∙ z))
    go false i z = h (leb-false lo (pos n) i)
