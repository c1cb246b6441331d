-- The queue over its bare tables: its head and tail, the nodes' next words, their uses and positions. Each of the five things that can happen
-- to nodes keeps its order: the head goes to its next, the tail goes to its next, a taken node is linked after the last one, nodes behind
-- head and tail are freed, a spare node is taken. Positions count the links, so "last" and "next" are arithmetic. Assumes nothing.
use mathlib.Core.Path.{◌≡◌, refl, ap, sym, ◌∙◌}
use mathlib.Core.Logic.{◌≢◌}
use mathlib.Core.Bool.{Bool, true, false, true≢false}
use mathlib.Core.List.{List, [], ◌∷◌}
use Prim.Native.Nat.{ℕ, ◌+◌, ◌/◌, ◌%◌, ◌≤◌, ◌<◌, min}
use native.Mathlib.Omega.{arith}
use lib.Dec.{eqb}
use borrow.Author.Tests.{eqb-true, eqb-false}
use Rattle.definition.specs.Base.{branch, Tab, put}
use Rattle.definition.specs.Links.{null, link, is_null, index}
use Rattle.definition.specs.Bags.{free_nodes}
use Rattle.definition.proofs.Base.{same?, put_ind, put_same, put_other}
use Rattle.definition.proofs.Codec.{link_not_null, index-link}
use Rattle.theorems.proofs.Ghost.{NodeUse, nodes_freed}
use Rattle.theorems.proofs.Invariant.{times, same_item}
use Rattle.theorems.proofs.Types.{Item}

-- group Q over tables: head h, tail t, next words, uses, positions and the last position
pub record Lined (M h t : ℕ) (next : Tab ℕ) (u : Tab NodeUse) (pos : Tab ℕ) (last : ℕ) : Type 0 where
  pub pos_le : (n : ℕ) → n < M → u n ≡ NodeUse.placed → pos n ≤ last
  pub differ : (a b : ℕ) → a < M → b < M → u a ≡ NodeUse.placed → u b ≡ NodeUse.placed → pos a ≡ pos b → a ≡ b
  pub head : u h ≡ NodeUse.placed
  pub tail : u t ≡ NodeUse.placed
  pub near : last ≤ pos t + 1
  pub ends : (n : ℕ) → n < M → u n ≡ NodeUse.placed → is_null (next n) ≡ true → pos n ≡ last
  pub goes_on : (n : ℕ) → n < M → u n ≡ NodeUse.placed → min (pos h) (pos t) ≤ pos n → is_null (next n) ≡ false
      → (u (index (next n)) ≡ NodeUse.placed) × (pos (index (next n)) ≡ pos n + 1)

-- uses that are not the same
pub spare≢placed : NodeUse.spare ≢ NodeUse.placed
spare≢placed e = let z : ◌≡◌ {A = ℕ} 0 1 = cc in omega arith

pub taken≢placed : NodeUse.taken ≢ NodeUse.placed
taken≢placed e = let z : ◌≡◌ {A = ℕ} 0 1 = cc in omega arith

pub spare≢taken : NodeUse.spare ≢ NodeUse.taken
spare≢taken e = let z : ◌≡◌ {A = ℕ} 0 1 = cc in omega arith

-- nodes of different uses are different
pub apart : {v w : NodeUse} (u : Tab NodeUse) (a b : ℕ) → v ≢ w → u a ≡ v → u b ≡ w → a ≢ b
apart u a b ne ha hb e = ne (sym ha ∙ ap u e ∙ hb)

-- an untagged pointer that is not null names what it links
pub link-index : (w : ℕ) → is_null w ≡ false → w % 2 ≡ 0 → w ≡ link (index w)
unfolding is_null link index
link-index w h even = let k = eqb-false (w / 2) 0 h in let z : (w / 2 ≡ 0) → ⊥ = k in omega arith

-- freeing the items of a list: a node among them is free and spare afterwards, any other is as it was
pub freed_ind : (R : Bool → NodeUse → Type 0) (l : List Item) (x : ℕ) (f : Tab Bool) (u : Tab NodeUse)
    → (times (Item.Node (record { 0 = x })) l ≡ 0 → R (f x) (u x)) → (times (Item.Node (record { 0 = x })) l ≢ 0 → R true NodeUse.spare)
    → R (free_nodes l f x) (nodes_freed l u x)
unfolding free_nodes nodes_freed times same_item branch
freed_ind R [] x f u h k = h refl
freed_ind R (Item.Token t ∷ l) x f u h k = freed_ind R l x f u (λ z. h (omega arith)) (λ z. k (λ w. z (omega arith)))
freed_ind R (Item.Slot s ∷ l) x f u h k = freed_ind R l x f u (λ z. h (omega arith)) (λ z. k (λ w. z (omega arith)))
freed_ind R (Item.Node n ∷ l) x f u h k = go (eqb x n.0) refl h k (freed_ind R l x (put f n.0 true) (put u n.0 NodeUse.spare))
  where
    go : (b : Bool) → eqb x n.0 ≡ b → (branch b 1 0 + times (Item.Node (record { 0 = x })) l ≡ 0 → R (f x) (u x))
        → (branch b 1 0 + times (Item.Node (record { 0 = x })) l ≢ 0 → R true NodeUse.spare)
        → ((times (Item.Node (record { 0 = x })) l ≡ 0 → R (put f n.0 true x) (put u n.0 NodeUse.spare x)) → (times (Item.Node (record { 0 = x })) l ≢ 0 → R true NodeUse.spare)
        → R (free_nodes l (put f n.0 true) x) (nodes_freed l (put u n.0 NodeUse.spare) x))
        → R (free_nodes l (put f n.0 true) x) (nodes_freed l (put u n.0 NodeUse.spare) x)
    go true e h k later = later (λ _. rw (eqb-true x n.0 e, put_same f n.0 true, put_same u n.0 NodeUse.spare) (k (λ z. omega arith))) (λ _. k (λ z. omega arith))
    go false e h k later =
        let ne : n.0 ≢ x = λ i. eqb-false x n.0 e (sym i) in
        later (λ z. rw (put_other f n.0 x true ne, put_other u n.0 x NodeUse.spare ne) (h (omega arith))) (λ z. k (λ w. z (omega arith)))

-- what is placed after a list was freed was placed before
pub freed_was : (l : List Item) (u : Tab NodeUse) (x : ℕ) → nodes_freed l u x ≡ NodeUse.placed → u x ≡ NodeUse.placed
freed_was l u x = freed_ind (λ _ w. w ≡ NodeUse.placed → u x ≡ NodeUse.placed) l x (λ _. false) u (λ _ p. p) (λ _ p. absurd (spare≢placed p))

module _ {M h t : ℕ} {next : Tab ℕ} {u : Tab NodeUse} {pos : Tab ℕ} {last : ℕ} (q : Lined M h t next u pos last) where
  -- a node in reach whose next is known
  pub goes_to : (n z : ℕ) → n < M → u n ≡ NodeUse.placed → min (pos h) (pos t) ≤ pos n → next n ≡ link z → (u z ≡ NodeUse.placed) × (pos z ≡ pos n + 1)
  goes_to n z hn placed reach to =
      let k = q.goes_on n hn placed reach (rw to (link_not_null z)) in
      (rw (to, index-link z) at k.0, rw (to, index-link z) at k.1)

  -- the head goes to its next
  pub line-pop : (z : ℕ) → h < M → next h ≡ link z → Lined M z t next u pos last
  line-pop z hh to =
      let k = goes_to h z hh q.head (omega arith) to in
      let e = k.1 in
      record {
        pos_le = q.pos_le;
        differ = q.differ;
        head = k.0;
        tail = q.tail;
        near = q.near;
        ends = q.ends;
        goes_on = λ n hn placed reach. q.goes_on n hn placed (omega arith);
      }

  -- the tail goes to its next
  pub line_tail : (z : ℕ) → t < M → next t ≡ link z → Lined M h z next u pos last
  line_tail z ht to =
      let k = goes_to t z ht q.tail (omega arith) to in
      let e = k.1 in
      let near = q.near in
      record {
        pos_le = q.pos_le;
        differ = q.differ;
        head = q.head;
        tail = k.0;
        near = omega arith;
        ends = q.ends;
        goes_on = λ n hn placed reach. q.goes_on n hn placed (omega arith);
      }

  -- a node with no next that is not ahead of the tail is the tail, and the last
  pub last_is_tail : (n : ℕ) → n < M → t < M → u n ≡ NodeUse.placed → is_null (next n) ≡ true → pos n ≤ pos t → (n ≡ t) × (pos t ≡ last)
  last_is_tail n hn ht placed ends le =
      let a = q.ends n hn placed ends in
      let b = q.pos_le t ht q.tail in
      (q.differ n t hn ht placed q.tail (omega arith), omega arith)

  -- a taken node is linked after the last one
  module _ (new onto : ℕ) (hn : new < M) (ho : onto < M) (hh : h < M) (ht : t < M) (taken : u new ≡ NodeUse.taken) (bare : is_null (next new) ≡ true)
      (placed : u onto ≡ NodeUse.placed) (free : is_null (next onto) ≡ true) (le : pos onto ≤ pos t) where
    end : (onto ≡ t) × (pos t ≡ last)
    end = last_is_tail onto ho ht placed free le

    -- the new node is none of those that were placed
    new_apart : (n : ℕ) → u n ≡ NodeUse.placed → new ≢ n
    new_apart n p = apart u new n taken≢placed taken p

    -- what was placed stands where it stood
    pub use_linked : (n : ℕ) → u n ≡ NodeUse.placed → put u new NodeUse.placed n ≡ NodeUse.placed
    use_linked n p = rw (put_other u new n NodeUse.placed (new_apart n p)) p

    pub pos-linked : (n : ℕ) → u n ≡ NodeUse.placed → put pos new (last + 1) n ≡ pos n
    pos-linked n p = put_other pos new n (last + 1) (new_apart n p)

    -- what is placed after the link, and is not the new node, was placed
    was : (n : ℕ) → new ≢ n → put u new NodeUse.placed n ≡ NodeUse.placed → u n ≡ NodeUse.placed
    was n ne p = rw (put_other u new n NodeUse.placed ne) at p

    -- the linked node has a position of its own
    new_alone : (n : ℕ) → n < M → new ≢ n → put u new NodeUse.placed n ≡ NodeUse.placed → put pos new (last + 1) n ≢ last + 1
    new_alone n hn' ne p e =
        let k = q.pos_le n hn' (was n ne p) in
        let same = put_other pos new n (last + 1) ne in
        omega arith

    -- and the queue is in order
    pub line-link : Lined M h t (put next onto (link new)) (put u new NodeUse.placed) (put pos new (last + 1)) (last + 1)
    line-link = record {
      pos_le = λ n hn' p. same? new n (λ e. rw (← e, put_same pos new (last + 1)) (omega arith))
          (λ ne. rw (put_other pos new n (last + 1) ne) (let k = q.pos_le n hn' (was n ne p) in omega arith));
      differ = λ a b ha hb pa pb e. same? new a
          (λ i. same? new b (λ j. sym i ∙ j) (λ nb. absurd (new_alone b hb nb pb (sym e ∙ ap (put pos new (last + 1)) (sym i) ∙ put_same pos new (last + 1)))))
          (λ na. same? new b (λ j. absurd (new_alone a ha na pa (e ∙ ap (put pos new (last + 1)) (sym j) ∙ put_same pos new (last + 1))))
          (λ nb. q.differ a b ha hb (was a na pa) (was b nb pb) (sym (put_other pos new a (last + 1) na) ∙ e ∙ put_other pos new b (last + 1) nb)));
      head = use_linked h q.head;
      tail = use_linked t q.tail;
      near = rw (pos-linked t q.tail) (let k = end.1 in omega arith);
      ends = λ n hn' p z. same? onto n
          (λ e. absurd (true≢false (sym z ∙ rw (← e, put_same next onto (link new)) (link_not_null new))))
          (λ ne. same? new n (λ e. rw (← e, put_same pos new (last + 1)))
          (λ nn. absurd (ne (q.differ onto n ho hn' placed (was n nn p)
          (q.ends onto ho placed free ∙ sym (q.ends n hn' (was n nn p) (rw (put_other next onto n (link new) ne) at z)))))));
      goes_on = λ n hn' p reach z. same? onto n
          (λ e. rw (← e, put_same next onto (link new), index-link new, put_same u new NodeUse.placed, put_same pos new (last + 1), pos-linked onto placed)
          (refl, rw (q.ends onto ho placed free)))
          (λ ne. same? new n
          (λ e. absurd (true≢false (sym bare ∙ rw (← e, put_other next onto new (link new) (λ i. new_apart onto placed (sym i))) at z)))
          (λ nn. other n hn' ne nn (was n nn p) (rw (pos-linked h q.head, pos-linked t q.tail, put_other pos new n (last + 1) nn) at reach)
          (rw (put_other next onto n (link new) ne) at z)));
    }
      where
        other : (n : ℕ) → n < M → onto ≢ n → new ≢ n → u n ≡ NodeUse.placed → min (pos h) (pos t) ≤ pos n → is_null (next n) ≡ false
            → (put u new NodeUse.placed (index (put next onto (link new) n)) ≡ NodeUse.placed)
            × (put pos new (last + 1) (index (put next onto (link new) n)) ≡ put pos new (last + 1) n + 1)
        other n hn' ne nn p reach z =
            let k = q.goes_on n hn' p reach z in
            rw (put_other next onto n (link new) ne, put_other pos new n (last + 1) nn) (use_linked (index (next n)) k.0, pos-linked (index (next n)) k.0 ∙ k.1)

  -- nodes that head and tail have both left are freed
  pub line-free : (l : List Item) → ((n : ℕ) → times (Item.Node (record { 0 = n })) l ≢ 0 → pos n < min (pos h) (pos t)) → Lined M h t next (nodes_freed l u) pos last
  line-free l out = record {
    pos_le = λ n hn p. q.pos_le n hn (freed_was l u n p);
    differ = λ a b ha hb pa pb e. q.differ a b ha hb (freed_was l u a pa) (freed_was l u b pb) e;
    head = kept h q.head (omega arith);
    tail = kept t q.tail (omega arith);
    near = q.near;
    ends = λ n hn p z. q.ends n hn (freed_was l u n p) z;
    goes_on = λ n hn p reach z.
        let k = q.goes_on n hn (freed_was l u n p) reach z in
        let e = k.1 in
        (kept (index (next n)) k.0 (omega arith), e);
  }
    where
      kept : (n : ℕ) → u n ≡ NodeUse.placed → min (pos h) (pos t) ≤ pos n → nodes_freed l u n ≡ NodeUse.placed
      kept n p reach = freed_ind (λ _ w. w ≡ NodeUse.placed) l n (λ _. false) u (λ _. p) (λ z. let k = out n z in absurd (omega arith))

  -- a spare node is taken, and its next word becomes null
  pub line-seal : (new : ℕ) → u new ≡ NodeUse.spare → Lined M h t (put next new null) (put u new NodeUse.taken) pos last
  line-seal new spare = record {
    pos_le = λ n hn p. q.pos_le n hn (was n p);
    differ = λ a b ha hb pa pb e. q.differ a b ha hb (was a pa) (was b pb) e;
    head = kept h q.head;
    tail = kept t q.tail;
    near = q.near;
    ends = λ n hn p z. q.ends n hn (was n p) (rw (put_other next new n null (other n (was n p))) at z);
    goes_on = λ n hn p reach z.
        let ne = other n (was n p) in
        let k = q.goes_on n hn (was n p) reach (rw (put_other next new n null ne) at z) in
        rw (put_other next new n null ne) (kept (index (next n)) k.0, k.1);
  }
    where
      was : (n : ℕ) → put u new NodeUse.taken n ≡ NodeUse.placed → u n ≡ NodeUse.placed
      was n = put_ind (λ w. w ≡ NodeUse.placed → u n ≡ NodeUse.placed) u new n NodeUse.taken (λ _ p. absurd (taken≢placed p)) (λ _ p. p)

      other : (n : ℕ) → u n ≡ NodeUse.placed → new ≢ n
      other n p = apart u new n spare≢placed spare p

      kept : (n : ℕ) → u n ≡ NodeUse.placed → put u new NodeUse.taken n ≡ NodeUse.placed
      kept n p = rw (put_other u new n NodeUse.taken (other n p)) p
