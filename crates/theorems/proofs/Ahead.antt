-- The list of participants ends, within N entries, and its entries are just the slots in it: it is a chain (Chain) by births, which fall along the
-- links, and no link passes over a slot in the list (Order). For closing, which walks the list; for an audit, which looks whether it ends; and for
-- who runs alone: the slots in the list from a pointer on (`ahead`) are fewer after each link, so its walk comes to an end. Assumes nothing.
use mathlib.Core.Path.{◌≡◌, refl}
use mathlib.Core.Bool.{Bool, true, false, false≢true}
use Prim.Native.Nat.{ℕ, ◌+◌, ◌≤◌, ◌<◌}
use native.Mathlib.Omega.{arith}
use Rattle.definition.specs.Base.{Tab, count, among}
use Rattle.definition.specs.Links.{is_null, index, pointee}
use Rattle.definition.proofs.Base.{branch_ind, branch-false, count-le}
use Rattle.theorems.proofs.Ghost.{Use}
use Rattle.theorems.proofs.Invariant.{ToLinked, Falls, Reached}
use Rattle.theorems.proofs.Order.{Order, born_linked, to_slot, falls-slot}
use Rattle.theorems.proofs.Roomy.{count_mono}
use Rattle.theorems.proofs.Chain.{entries, ends, Member, Chained, up_to, up_few, up_some, up_falls, up_more, enough, walk-ends, walk_in_lem, walk_meets}
use Rattle.theorems.proofs.Types.{Ptr}

-- ---- who is in the list

unfoldable pub is_linked : Use → Bool
is_linked Use.unused = false
is_linked Use.registering = false
is_linked Use.linked = true
is_linked Use.out = false

-- the test says it, and back
pub is_linked_lem : (u : Use) → u ≡ Use.linked → is_linked u ≡ true
unfolding is_linked
is_linked_lem u e = rw e refl

pub linked_is : (u : Use) → is_linked u ≡ true → u ≡ Use.linked
unfolding is_linked
linked_is Use.unused e = absurd (false≢true e)
linked_is Use.registering e = absurd (false≢true e)
linked_is Use.linked e = refl
linked_is Use.out e = absurd (false≢true e)

-- the slots that are
abbrev pub linked_in : Tab Use → Tab Bool
linked_in u = λ x. is_linked (u x)

-- how many they are
unfoldable pub in_list : (N : ℕ) → Tab Use → ℕ
in_list N u = count N (linked_in u)

pub list_few : (N : ℕ) (u : Tab Use) → in_list N u ≤ N
unfolding in_list
list_few N u = count-le N (linked_in u)

-- ---- how many are ahead

module _ (N : ℕ) (u : Tab Use) (birth : Tab ℕ) where
  -- the slots in the list that were born no later than the one pointed to
  unfoldable pub ahead : Ptr → ℕ
  ahead Ptr.Null = 0
  ahead (Ptr.At c) = up_to N (linked_in u) birth (birth c.0)

  -- they are some of the list
  pub ahead_few : (l : Ptr) → ahead l ≤ in_list N u
  unfolding ahead in_list
  ahead_few Ptr.Null = omega arith
  ahead_few (Ptr.At c) = up_few N (linked_in u) birth (birth c.0)

  -- and fewer at what a slot in the list links to
  pub ahead-falls : (c : ℕ) (l : Ptr) → c < N → u c ≡ Use.linked → Falls birth (birth c) l → ahead l + 1 ≤ ahead (Ptr.At (record { 0 = c }))
  unfolding ahead Falls
  ahead-falls c Ptr.Null lt e older = let one = up_some N (linked_in u) birth c (lt, is_linked_lem (u c) e) in omega arith
  ahead-falls c (Ptr.At d) lt e older = up_falls N (linked_in u) birth c (birth d.0) (lt, is_linked_lem (u c) e) older

-- where slots left the list and none came
module _ (N : ℕ) (u v : Tab Use) (fewer : (x : ℕ) → x < N → is_linked (v x) ≡ true → is_linked (u x) ≡ true) where
  pub list_fewer : in_list N v ≤ in_list N u
  unfolding in_list
  list_fewer = count_mono N _ _ fewer

  pub ahead_fewer : (birth : Tab ℕ) (l : Ptr) → ahead N v birth l ≤ ahead N u birth l
  unfolding ahead
  ahead_fewer birth Ptr.Null = omega arith
  ahead_fewer birth (Ptr.At c) = up_more N (linked_in v) (linked_in u) birth (birth c.0) fewer

-- ---- the list is a chain

-- a word that is not null points to the slot that it names
at_entry : (w : ℕ) → is_null w ≡ false → pointee w ≡ Ptr.At (record { 0 = index w })
unfolding pointee
at_entry w e = branch-false Ptr.Null (Ptr.At (record { 0 = index w })) e

-- and one that leads to somebody is not null
reached_at : (birth : Tab ℕ) (w y : ℕ) → Reached birth (pointee w) y → (is_null w ≡ false) × (birth y ≤ birth (index w))
unfolding pointee Reached
reached_at birth w y = branch_ind (λ (l : Ptr). Reached birth l y → (is_null w ≡ false) × (birth y ≤ birth (index w))) (is_null w) (λ _ r. absurd r) (λ e r. (e, r))

module _ (N : ℕ) (u : Tab Use) (birth : Tab ℕ) (births : ℕ) (first : Ptr) (next : Tab ℕ) (ord : Order N u birth births first (λ q. pointee (next q))) where
  -- a slot in the list
  abbrev In : ℕ → Type 0
  In x = (x < N) × (u x ≡ Use.linked)

  -- by the test, and back
  member : (x : ℕ) → In x → Member N (linked_in u) x
  member x i = (i.0, is_linked_lem (u x) i.1)

  member_in : (x : ℕ) → Member N (linked_in u) x → In x
  member_in x i = (i.0, linked_is (u x) i.1)

  -- a word that points into the list
  into : (w : ℕ) → ToLinked N u (pointee w) → is_null w ≡ false → Member N (linked_in u) (index w)
  into w to e = member (index w) (to_slot N u (index w) (pointee w) (at_entry w e) to)

  -- births rank it
  pub list_chained : Chained N (linked_in u) birth next
  list_chained = record {
    differ = λ x y i j. ord.differ x y i.0 j.0 (born_linked (u x) (member_in x i).1) (born_linked (u y) (member_in y j).1);
    leads = λ x i e. let k = member_in x i in
        (into (next x) (ord.next x k.0 k.1) e, falls-slot birth (birth x) (index (next x)) (pointee (next x)) (at_entry (next x) e) (ord.falls x k.0 k.1));
    nearest = λ x y i j older. reached_at birth (next x) y (ord.next_reaches x y i.0 j.0 (member_in x i).1 (member_in y j).1 older);
  }

  -- from the head on
  module _ (w : ℕ) (at : pointee w ≡ first) where
    to_first : is_null w ≡ false → Member N (linked_in u) (index w)
    to_first = into w (rw at ord.head)

    pub list_ends : ends N next w ≡ true
    list_ends = walk-ends list_chained N w to_first (enough list_chained w)

    pub list_in : (x : ℕ) → among x (entries N next w) ≡ true → In x
    list_in x met = member_in x (walk_in_lem list_chained N w x to_first met)

    pub list_meets : (x : ℕ) → In x → among x (entries N next w) ≡ true
    list_meets x i = walk_meets list_chained N w x to_first (enough list_chained w) (member x i)
        (reached_at birth w x (rw at (ord.head_reaches x i.0 i.1)))
