-- The order of the list of participants, apart from the machine: insertions are numbered, the numbers fall along the links, and no link
-- passes over a slot in the list. So a slot in the list has one predecessor, and the order is kept when a slot is put before the head, when
-- the slot behind the head or behind another slot is taken out, and when slots that are not in the list change. Assumes nothing.
use mathlib.Core.Path.{◌≡◌, ap, sym, ◌∙◌}
use mathlib.Core.Logic.{◌≢◌}
use Prim.Native.Nat.{ℕ, ◌+◌, ◌≤◌, ◌<◌}
use native.Mathlib.Omega.{arith}
use Rattle.definition.specs.Base.{Tab, put}
use Rattle.definition.proofs.Base.{same?, put_ind, put_same, put_other}
use Rattle.theorems.proofs.Ghost.{Use}
use Rattle.theorems.proofs.Invariant.{Reached, ToLinked, Falls, Born}
use Rattle.theorems.proofs.Types.{Ptr}

-- the clauses of group L about links, over what the links point to
pub record Order (N : ℕ) (u : Tab Use) (birth : Tab ℕ) (births : ℕ) (first : Ptr) (to : Tab Ptr) : Type 0 where
  pub birth_le : (q : ℕ) → q < N → Born (u q) → birth q ≤ births
  pub differ : (a b : ℕ) → a < N → b < N → Born (u a) → Born (u b) → birth a ≡ birth b → a ≡ b
  pub head : ToLinked N u first
  pub next : (q : ℕ) → q < N → u q ≡ Use.linked → ToLinked N u (to q)
  pub falls : (q : ℕ) → q < N → u q ≡ Use.linked → Falls birth (birth q) (to q)
  pub head_reaches : (y : ℕ) → y < N → u y ≡ Use.linked → Reached birth first y
  pub next_reaches : (x y : ℕ) → x < N → y < N → u x ≡ Use.linked → u y ≡ Use.linked → birth y < birth x → Reached birth (to x) y

-- a slot in the list was inserted; the four uses are different
pub born_linked : (u : Use) → u ≡ Use.linked → Born u
unfolding Born
born_linked u e = rw e tt

pub out_not_linked : {P : Type 0} (u : Use) → u ≡ Use.out → u ≡ Use.linked → P
out_not_linked u a b = let z : ◌≡◌ {A = ℕ} 0 1 = cc in absurd (omega arith)

pub registering_not_linked : {P : Type 0} (u : Use) → u ≡ Use.registering → u ≡ Use.linked → P
registering_not_linked u a b = let z : ◌≡◌ {A = ℕ} 0 1 = cc in absurd (omega arith)

-- a pointer to the list, said of the slot
pub to_slot : (N : ℕ) (u : Tab Use) (c : ℕ) (l : Ptr) → l ≡ Ptr.At (record { 0 = c }) → ToLinked N u l → (c < N) × (u c ≡ Use.linked)
unfolding ToLinked
to_slot N u c l e h = rw e at h

-- the number falls to it
pub falls-slot : (birth : Tab ℕ) (b c : ℕ) (l : Ptr) → l ≡ Ptr.At (record { 0 = c }) → Falls birth b l → birth c < b
unfolding Falls
falls-slot birth b c l e h = rw e at h

-- and what it reaches is no newer
pub reached-slot : (birth : Tab ℕ) (c y : ℕ) (l : Ptr) → l ≡ Ptr.At (record { 0 = c }) → Reached birth l y → birth y ≤ birth c
unfolding Reached
reached-slot birth c y l e h = rw e at h

-- a pointer that does not point to slot c, when that leaves the list
to_others : (N : ℕ) (u : Tab Use) (c : ℕ) (l : Ptr) → l ≢ Ptr.At (record { 0 = c }) → ToLinked N u l → ToLinked N (put u c Use.out) l
unfolding ToLinked
to_others N u c Ptr.Null ne h = tt
to_others N u c (Ptr.At s) ne h = (h.0, put_other u c s.0 Use.out (λ e. ne (ap (λ (n : ℕ). Ptr.At (record { 0 = n })) (sym e))) ∙ h.1)

-- a number that falls to c and then on
falls_on : (birth : Tab ℕ) (a b : ℕ) → a < b → (l : Ptr) → Falls birth a l → Falls birth b l
unfolding Falls
falls_on birth a b lt Ptr.Null h = tt
falls_on birth a b lt (Ptr.At s) h = omega arith

-- what a pointer to the list says, carried over to other uses and other numbers
to_linked-map : (N : ℕ) (u v : Tab Use) → ((s : ℕ) → s < N → u s ≡ Use.linked → v s ≡ Use.linked) → (l : Ptr) → ToLinked N u l → ToLinked N v l
unfolding ToLinked
to_linked-map N u v f Ptr.Null h = tt
to_linked-map N u v f (Ptr.At s) h = (h.0, f s.0 h.0 h.1)

falls-map : (N : ℕ) (u : Tab Use) (t v : Tab ℕ) (b : ℕ) → ((s : ℕ) → u s ≡ Use.linked → v s ≡ t s) → (l : Ptr) → ToLinked N u l → Falls t b l → Falls v b l
unfolding ToLinked Falls
falls-map N u t v b f Ptr.Null h k = tt
falls-map N u t v b f (Ptr.At s) h k = rw (f s.0 h.1) k

reached-map : (N : ℕ) (u : Tab Use) (t v : Tab ℕ) (y : ℕ) → ((s : ℕ) → u s ≡ Use.linked → v s ≡ t s) → u y ≡ Use.linked
    → (l : Ptr) → ToLinked N u l → Reached t l y → Reached v l y
unfolding ToLinked Reached
reached-map N u t v y f e Ptr.Null h k = k
reached-map N u t v y f e (Ptr.At s) h k = rw (f s.0 h.1, f y e) k

module _ (N : ℕ) (u : Tab Use) (birth : Tab ℕ) (births : ℕ) (first : Ptr) (to : Tab Ptr) (ord : Order N u birth births first to) where
  -- links of slots that are not in the list do not matter
  pub order-links : (to' : Tab Ptr) → ((q : ℕ) → u q ≡ Use.linked → to' q ≡ to q) → Order N u birth births first to'
  order-links to' same = record {
    birth_le = ord.birth_le;
    differ = ord.differ;
    head = ord.head;
    next = λ q lt e. rw (same q e) (ord.next q lt e);
    falls = λ q lt e. rw (same q e) (ord.falls q lt e);
    head_reaches = ord.head_reaches;
    next_reaches = λ x y lx ly ex ey lt. rw (same x ex) (ord.next_reaches x y lx ly ex ey lt);
  }

  -- uses of slots that are not in the list do not matter, if none counts as inserted that was not
  pub order_uses : (v : Tab Use) → ((q : ℕ) → q < N → v q ≡ Use.linked → u q ≡ Use.linked) → ((q : ℕ) → q < N → u q ≡ Use.linked → v q ≡ Use.linked)
      → ((q : ℕ) → q < N → Born (v q) → Born (u q)) → Order N v birth births first to
  order_uses v back forth born = record {
    birth_le = λ q lt b. ord.birth_le q lt (born q lt b);
    differ = λ a b la lb ba bb. ord.differ a b la lb (born a la ba) (born b lb bb);
    head = to_linked-map N u v forth first ord.head;
    next = λ q lt e. to_linked-map N u v forth (to q) (ord.next q lt (back q lt e));
    falls = λ q lt e. ord.falls q lt (back q lt e);
    head_reaches = λ y lt e. ord.head_reaches y lt (back y lt e);
    next_reaches = λ x y lx ly ex ey. ord.next_reaches x y lx ly (back x lx ex) (back y ly ey);
  }

  module _ (p : ℕ) (hp : p < N) (new : u p ≡ Use.registering) (aims : to p ≡ first) where
    abbrev u' : Tab Use
    u' = put u p Use.linked

    abbrev birth' : Tab ℕ
    birth' = put birth p (births + 1)

    -- slots that were in the list are not p, and keep use and number
    not_new : (s : ℕ) → u s ≡ Use.linked → p ≢ s
    not_new s e i = registering_not_linked (u s) (ap u (sym i) ∙ new) e

    still : (s : ℕ) → u s ≡ Use.linked → u' s ≡ Use.linked
    still s e = put_other u p s Use.linked (not_new s e) ∙ e

    same_birth : (s : ℕ) → u s ≡ Use.linked → birth' s ≡ birth s
    same_birth s e = put_other birth p s (births + 1) (not_new s e)

    -- who is in the list now, and is not p, was before
    was : (s : ℕ) → p ≢ s → u' s ≡ Use.linked → u s ≡ Use.linked
    was s ne e = sym (put_other u p s Use.linked ne) ∙ e

    was_born : (s : ℕ) → p ≢ s → Born (u' s) → Born (u s)
    was_born s ne b = rw (put_other u p s Use.linked ne) at b

    -- everybody else is older than p
    other_le : (s : ℕ) → s < N → p ≢ s → Born (u' s) → birth' s ≤ births
    other_le s lt ne b = rw (put_other birth p s (births + 1) ne) (ord.birth_le s lt (was_born s ne b))

    own_birth : (s : ℕ) → p ≡ s → birth' s ≡ births + 1
    own_birth s e = rw (← e) (put_same birth p (births + 1))

    -- the old head is older than p
    first_falls : (l : Ptr) → ToLinked N u l → Falls birth' (births + 1) l
    unfolding ToLinked Falls
    first_falls Ptr.Null h = tt
    first_falls (Ptr.At s) h = rw (same_birth s.0 h.1) (omega (arith, ord.birth_le s.0 h.0 (born_linked (u s.0) h.1)))

    -- a new slot before the head
    pub order_enlist : Order N u' birth' (births + 1) (Ptr.At (record { 0 = p })) to
    unfolding ToLinked Reached
    order_enlist = record {
      birth_le = λ q lt b. same? p q (λ e. omega (arith, own_birth q e)) (λ ne. omega (arith, other_le q lt ne b));
      differ = λ a b la lb ba bb e. same? p a
          (λ i. same? p b (λ j. sym i ∙ j) (λ nj. absurd (omega (arith, own_birth a i, other_le b lb nj bb))))
          (λ ni. same? p b (λ j. absurd (omega (arith, own_birth b j, other_le a la ni ba)))
          (λ nj. ord.differ a b la lb (was_born a ni ba) (was_born b nj bb)
          (sym (put_other birth p a (births + 1) ni) ∙ e ∙ put_other birth p b (births + 1) nj)));
      head = (hp, put_same u p Use.linked);
      next = λ q lt e. to_linked-map N u u' (λ s _. still s) (to q) (old_next q lt e);
      falls = λ q lt e. same? p q
          (λ i. rw (← i, put_same birth p (births + 1), aims) (first_falls first ord.head))
          (λ ne. rw (put_other birth p q (births + 1) ne) (falls-map N u birth birth' (birth q) same_birth (to q) (old_next q lt e) (ord.falls q lt (was q ne e))));
      head_reaches = λ y lt e. rw (put_same birth p (births + 1)) (same? p y (λ i. omega (arith, own_birth y i))
          (λ ne. omega (arith, other_le y lt ne (born_linked (u' y) e))));
      next_reaches = λ x y lx ly ex ey lt. same? p x
          (λ i. same? p y (λ j. absurd (omega (arith, own_birth x i, own_birth y j)))
          (λ nj. rw (← i, aims) (reached-map N u birth birth' y same_birth (was y nj ey) first ord.head (ord.head_reaches y ly (was y nj ey)))))
          (λ ni. same? p y (λ j. absurd (omega (arith, own_birth y j, other_le x lx ni (born_linked (u' x) ex))))
          (λ nj. reached-map N u birth birth' y same_birth (was y nj ey) (to x) (old_next x lx ex)
          (ord.next_reaches x y lx ly (was x ni ex) (was y nj ey) (older x y ni nj lt))));
    }
      where
        old_next : (q : ℕ) → q < N → u' q ≡ Use.linked → ToLinked N u (to q)
        old_next q lt e = same? p q (λ i. rw (← i, aims) ord.head) (λ ne. ord.next q lt (was q ne e))

        older : (x y : ℕ) → p ≢ x → p ≢ y → birth' y < birth' x → birth y < birth x
        older x y ni nj lt = let a = put_other birth p x (births + 1) ni in let b = put_other birth p y (births + 1) nj in omega arith

  -- slot c, which leaves the list: it is tagged or not, all that counts is who points to it
  module _ (c : ℕ) (hc : c < N) (listed_there : u c ≡ Use.linked) where
    abbrev without : Tab Use
    without = put u c Use.out

    -- who is still in the list was before, and is not c
    stays : (s : ℕ) → without s ≡ Use.linked → (u s ≡ Use.linked) × (c ≢ s)
    stays s e = same? c s
        (λ i. out_not_linked (without s) (rw (← i) (put_same u c Use.out)) e)
        (λ ne. (sym (put_other u c s Use.out ne) ∙ e, ne))

    born_before : (s : ℕ) → Born (without s) → Born (u s)
    born_before s b = same? c s (λ i. rw (← i) (born_linked (u c) listed_there)) (λ ne. rw (put_other u c s Use.out ne) at b)

    -- what c points to is not c
    past_itself : to c ≢ Ptr.At (record { 0 = c })
    past_itself e = omega (arith, falls-slot birth (birth c) c (to c) e (ord.falls c hc listed_there))

    -- a slot that is not newer than c is c or behind it
    behind : (y : ℕ) → y < N → without y ≡ Use.linked → birth y ≤ birth c → Reached birth (to c) y
    behind y lt e le =
        let ne : birth y ≢ birth c = λ i. (stays y e).1 (sym (ord.differ y c lt hc (born_linked (u y) (stays y e).0) (born_linked (u c) listed_there) i)) in
        ord.next_reaches c y hc lt listed_there (stays y e).0 (omega arith)

    -- one predecessor: where the head points to c, no slot in the list does
    head_alone : first ≡ Ptr.At (record { 0 = c }) → (x : ℕ) → x < N → u x ≡ Use.linked → to x ≢ Ptr.At (record { 0 = c })
    head_alone e x lt ex i =
        omega (arith, reached-slot birth c x first e (ord.head_reaches x lt ex), falls-slot birth (birth x) c (to x) i (ord.falls x lt ex))

    -- the slot at the head leaves
    pub order_behead : first ≡ Ptr.At (record { 0 = c }) → Order N without birth births (to c) to
    order_behead at_head = record {
      birth_le = λ q lt b. ord.birth_le q lt (born_before q b);
      differ = λ a b la lb ba bb. ord.differ a b la lb (born_before a ba) (born_before b bb);
      head = to_others N u c (to c) past_itself (ord.next c hc listed_there);
      next = λ q lt e. to_others N u c (to q) (head_alone at_head q lt (stays q e).0) (ord.next q lt (stays q e).0);
      falls = λ q lt e. ord.falls q lt (stays q e).0;
      head_reaches = λ y lt e. behind y lt e (reached-slot birth c y first at_head (ord.head_reaches y lt (stays y e).0));
      next_reaches = λ x y lx ly ex ey. ord.next_reaches x y lx ly (stays x ex).0 (stays y ey).0;
    }

    module _ (x : ℕ) (hx : x < N) (lx : u x ≡ Use.linked) (at_x : to x ≡ Ptr.At (record { 0 = c })) where
      above : birth c < birth x
      above = falls-slot birth (birth x) c (to x) at_x (ord.falls x hx lx)

      -- one predecessor: where slot x points to c, the head does not, and no other slot in the list does
      head_other : first ≢ Ptr.At (record { 0 = c })
      head_other e = omega (arith, above, reached-slot birth c x first e (ord.head_reaches x hx lx))

      alone : (q : ℕ) → q < N → u q ≡ Use.linked → x ≢ q → to q ≢ Ptr.At (record { 0 = c })
      alone q lt e ne i =
          let other : birth x ≢ birth q = λ k. ne (ord.differ x q hx lt (born_linked (u x) lx) (born_linked (u q) e) k) in
          let down = falls-slot birth (birth q) c (to q) i (ord.falls q lt e) in
          let up = above in
          let newer : birth q < birth x → ⊥ = λ l. omega (arith, reached-slot birth c q (to x) at_x (ord.next_reaches x q hx lt lx e l)) in
          let older : birth x < birth q → ⊥ = λ l. omega (arith, reached-slot birth c x (to q) i (ord.next_reaches q x lt hx e lx l)) in
          omega arith

      -- the slot behind x leaves
      pub order_unlink : Order N without birth births first (put to x (to c))
      order_unlink = record {
        birth_le = λ q lt b. ord.birth_le q lt (born_before q b);
        differ = λ a b la lb ba bb. ord.differ a b la lb (born_before a ba) (born_before b bb);
        head = to_others N u c first head_other ord.head;
        next = λ q lt e. put_ind (ToLinked N without) to x q (to c)
            (λ _. to_others N u c (to c) past_itself (ord.next c hc listed_there))
            (λ ne. to_others N u c (to q) (alone q lt (stays q e).0 ne) (ord.next q lt (stays q e).0));
        falls = λ q lt e. put_ind (Falls birth (birth q)) to x q (to c)
            (λ i. falls_on birth (birth c) (birth q) (rw (← i) above) (to c) (ord.falls c hc listed_there))
            (λ _. ord.falls q lt (stays q e).0);
        head_reaches = λ y lt e. ord.head_reaches y lt (stays y e).0;
        next_reaches = λ q y lq ly eq ey lt. put_ind (λ l. Reached birth l y) to x q (to c)
            (λ i. behind y ly ey (reached-slot birth c y (to x) at_x (ord.next_reaches x y hx ly lx (stays y ey).0 (rw i lt))))
            (λ _. ord.next_reaches q y lq ly (stays q eq).0 (stays y ey).0 lt);
      }
