-- The queue ends, within M nodes, and its nodes are just those that are placed and that the head has not passed; the tail is the last of them or the
-- one before. It is a chain (Chain) by positions, which count the links (Queue): the nodes from one on (`behind`) are fewer after each link. For an audit, which
-- walks the queue from the head and looks whether it ends and where the tail is; and for who runs alone: once the tail is moved on, its node has no
-- next (`tail_last`), so a push helps once. Assumes nothing.
use mathlib.Core.Path.{◌≡◌, refl}
use mathlib.Core.Logic.{◌≢◌}
use mathlib.Core.Bool.{Bool, true, false, ◌&&◌, false≢true, not-eq-not}
use Prim.Native.Nat.{ℕ, ◌+◌, ◌-◌, ◌≤◌, ◌<◌}
use native.Mathlib.Omega.{arith}
use lib.Dec.{leb}
use borrow.Author.Tests.{leb-true, le-leb}
use Rattle.definition.specs.Base.{Tab, among}
use Rattle.definition.specs.Links.{is_null, index}
use Rattle.definition.proofs.Base.{both, and_intro, count-le}
use Rattle.theorems.proofs.Ghost.{NodeUse}
use Rattle.theorems.proofs.Queue.{Lined}
use Rattle.theorems.proofs.Chain.{entries, ends, Member, Chained, up_to, up_some, up_falls, enough, walk-ends, walk_in_lem, walk_meets}

-- ---- who is in the queue

unfoldable pub is_placed : NodeUse → Bool
is_placed NodeUse.spare = false
is_placed NodeUse.taken = false
is_placed NodeUse.placed = true

-- the test says it, and back
pub is_placed_lem : (u : NodeUse) → u ≡ NodeUse.placed → is_placed u ≡ true
unfolding is_placed
is_placed_lem u e = rw e refl

pub placed_is : (u : NodeUse) → is_placed u ≡ true → u ≡ NodeUse.placed
unfolding is_placed
placed_is NodeUse.spare e = absurd (false≢true e)
placed_is NodeUse.taken e = absurd (false≢true e)
placed_is NodeUse.placed e = refl

-- the placed nodes from the head h on
abbrev pub placed_from : (h : ℕ) → Tab NodeUse → Tab ℕ → Tab Bool
placed_from h u pos = λ x. is_placed (u x) && leb (pos h) (pos x)

-- how many links there are from a node to the last one. The position of a placed node is at most the last, so the subtraction loses nothing where
-- it counts: two nodes of the queue at different positions get different ranks, the one farther on the lower
abbrev pub to_last : Tab ℕ → (last : ℕ) → Tab ℕ
to_last pos last = λ x. last - pos x

-- how many nodes of the queue stand at node x or behind it
unfoldable pub behind : (M h : ℕ) → Tab NodeUse → Tab ℕ → (last : ℕ) → ℕ → ℕ
behind M h u pos last x = up_to M (placed_from h u pos) (to_last pos last) (last - pos x)

pub behind_few : (M h : ℕ) (u : Tab NodeUse) (pos : Tab ℕ) (last x : ℕ) → behind M h u pos last x ≤ M
unfolding behind up_to
behind_few M h u pos last x = count-le M _

-- ---- the queue is a chain

module _ (M h t : ℕ) (next : Tab ℕ) (u : Tab NodeUse) (pos : Tab ℕ) (last : ℕ) (q : Lined M h t next u pos last)
    (inside : (n : ℕ) → n < M → is_null (next n) ≡ false → index (next n) < M) where
  -- a node of the queue
  abbrev pub In : ℕ → Type 0
  In x = (x < M) × ((u x ≡ NodeUse.placed) × (pos h ≤ pos x))

  -- by the tests, and back
  member : (x : ℕ) → In x → Member M (placed_from h u pos) x
  member x i = (i.0, and_intro (is_placed (u x)) (leb (pos h) (pos x)) (is_placed_lem (u x) i.1.0) (le-leb (pos h) (pos x) i.1.1))

  member_in : (x : ℕ) → Member M (placed_from h u pos) x → In x
  member_in x i = let k = both (is_placed (u x)) (leb (pos h) (pos x)) i.1 in (i.0, (placed_is (u x) k.0, leb-true (pos h) (pos x) k.1))

  -- no node of the queue is beyond the last
  in_le : (x : ℕ) → In x → pos x ≤ last
  in_le x i = q.pos_le x i.0 i.1.0

  -- and no two stand at one position
  in_differ : (x y : ℕ) → In x → In y → pos x ≡ pos y → x ≡ y
  in_differ x y i j = q.differ x y i.0 j.0 i.1.0 j.1.0

  -- the next of one is one link on
  pub next_in : (x : ℕ) → In x → is_null (next x) ≡ false → In (index (next x)) × (pos (index (next x)) ≡ pos x + 1)
  next_in x i e =
      let from = i.1.1 in
      let on = q.goes_on x i.0 i.1.0 (omega arith) e in
      let one = on.1 in
      ((inside x i.0 e, (on.0, omega arith)), one)

  -- and who has one behind it has a next
  has_next : (x y : ℕ) → In x → In y → pos x < pos y → is_null (next x) ≡ false
  has_next x y i j lt = (not-eq-not {b = false}).0 (λ e. let end = q.ends x i.0 i.1.0 e in let le = in_le y j in omega arith)

  -- positions rank it
  pub queue_chained : Chained M (placed_from h u pos) (to_last pos last) next
  queue_chained = record {
    differ = λ x y i j e. let a = in_le x (member_in x i) in let b = in_le y (member_in y j) in in_differ x y (member_in x i) (member_in y j) (omega arith);
    leads = λ x i e. let k = next_in x (member_in x i) e in let le = in_le (index (next x)) k.0 in let one = k.1 in
        (member (index (next x)) k.0, omega arith);
    nearest = λ x y i j lt. let e = has_next x y (member_in x i) (member_in y j) (omega arith) in let one = (next_in x (member_in x i) e).1 in
        (e, omega arith);
  }

  -- a node of it is one of those behind it
  behind_some : (x : ℕ) → In x → 1 ≤ behind M h u pos last x
  unfolding behind
  behind_some x i = up_some M (placed_from h u pos) (to_last pos last) x (member x i)

  -- behind the next there are fewer
  pub behind-falls : (x : ℕ) → In x → is_null (next x) ≡ false → behind M h u pos last (index (next x)) + 1 ≤ behind M h u pos last x
  unfolding behind
  behind-falls x i e = up_falls M (placed_from h u pos) (to_last pos last) x (last - pos (index (next x))) (member x i) (queue_chained.leads x (member x i) e).1

  -- and where there is none but the node, it has no next
  pub behind_none : (x : ℕ) → In x → behind M h u pos last x ≤ 1 → is_null (next x) ≡ true
  behind_none x i le = (not-eq-not {b = true}).0 (λ e. let a = behind-falls x i e in let b = behind_some (index (next x)) (next_in x i e).0 in omega arith)

  -- from the head on
  module _ (hh : h < M) (th : t < M) where
    at_head : In h
    at_head = (hh, (q.head, omega arith))

    to_next : is_null (next h) ≡ false → Member M (placed_from h u pos) (index (next h))
    to_next e = member (index (next h)) (next_in h at_head e).0

    pub queue-ends : ends M next (next h) ≡ true
    queue-ends = walk-ends queue_chained M (next h) to_next (enough queue_chained (next h))

    pub queue_in : (x : ℕ) → among x (entries M next (next h)) ≡ true → In x
    queue_in x met = member_in x (walk_in_lem queue_chained M (next h) x to_next met)

    pub queue_meets : (x : ℕ) → In x → x ≢ h → among x (entries M next (next h)) ≡ true
    queue_meets x i ne = walk_meets queue_chained M (next h) x to_next (enough queue_chained (next h)) (member x i)
        (queue_chained.nearest h x (member h at_head) (member x i) further)
      where
        further : last - pos x < last - pos h
        further = let other : pos x ≢ pos h = λ e. ne (in_differ x h i at_head e) in let from = i.1.1 in let le = in_le x i in omega arith

    -- the tail is the last node, or its next is
    pub tail_near : (z : ℕ) → In z → is_null (next z) ≡ true → t ≢ z → (is_null (next t) ≡ false) × (index (next t) ≡ z)
    tail_near z i e ne = (goes, q.differ (index (next t)) z (inside t th goes) i.0 on.0 i.1.0 same)
      where
        end : pos z ≡ last
        end = q.ends z i.0 i.1.0 e

        goes : is_null (next t) ≡ false
        goes = (not-eq-not {b = false}).0 (λ d. let a = q.ends t th q.tail d in let b = end in ne (q.differ t z th i.0 q.tail i.1.0 (omega arith)))

        on : (u (index (next t)) ≡ NodeUse.placed) × (pos (index (next t)) ≡ pos t + 1)
        on = q.goes_on t th q.tail (omega arith) goes

        same : pos (index (next t)) ≡ pos z
        same = let le = q.pos_le (index (next t)) (inside t th goes) on.0 in let one = on.1 in let a = end in omega arith

    -- so the next of the tail, if it has one, has none
    pub tail_last : is_null (next t) ≡ false → is_null (next (index (next t))) ≡ true
    tail_last e = (not-eq-not {b = true}).0 (λ d.
        let on = q.goes_on t th q.tail (omega arith) e in
        let one = on.1 in
        let two = q.goes_on (index (next t)) (inside t th e) on.0 (omega arith) d in
        let further = two.1 in
        let le = q.pos_le (index (next (index (next t)))) (inside (index (next t)) (inside t th e) d) two.0 in
        let near = q.near in
        omega arith)
