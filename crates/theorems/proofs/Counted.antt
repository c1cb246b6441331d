-- Every bag that holds something is counted once where tokens wait: in the node that one participant has taken, in the node that one has popped, or in
-- a node that hangs on the queue's head. So what the statement counts (specs/Waiting) is what the balance counts, the bags of all nodes: every other
-- bag is empty. By the uses of a node: one that is spare has an empty bag; one that is taken is so by one participant; a placed one behind the head
-- hangs there, once; one that the head has reached or left is popped by one participant, or its bag was freed. And M nodes are enough to walk from the
-- head to the end. Leans on the invariant's groups Q, U and B, and on Popped. Assumes nothing.
use mathlib.Core.Path.{◌≡◌, refl, ap, sym, ◌∙◌}
use mathlib.Core.Logic.{◌≢◌}
use mathlib.Core.Bool.{Bool, true, false}
use mathlib.Core.List.{List, [], ◌∷◌}
use mathlib.Core.Option.{Option, none, some}
use Prim.Native.Nat.{ℕ, zero, suc, ◌+◌, ◌*◌, ◌%◌, ◌≤◌, ◌<◌}
use native.Mathlib.Nat.{add-mul, one-mul, zero-mul, mul-zero}
use native.Mathlib.Omega.{arith}
use lib.Dec.{eqb, leb}
use borrow.Author.Tests.{leb-true, leb-false, le-leb, lt-leb, eq-eqb, ne_eqb}
use Rattle.definition.specs.Base.{branch, Tab, sum}
use Rattle.definition.specs.Links.{is_null, index}
use Rattle.definition.proofs.Base.{branch_ind, branch-true, branch-false, same?, sum_ext}
use Rattle.definition.proofs.Within.{PlaceIn, PushIn}
use Rattle.theorems.specs.Order.{Hangs, hanging}
use Rattle.theorems.specs.Waiting.{times, carried, over}
use Rattle.theorems.proofs.Machine.{Machine}
use Rattle.theorems.proofs.Ghost.{NodeUse, Ghost, head_of, tail_of}
use Rattle.theorems.proofs.Invariant.{Of, taken_node, old_head, popped_node, is, in_queue, is_spare, poppers, SafeNode, occurs}
use Rattle.theorems.proofs.Inv.{Inv}
use Rattle.theorems.proofs.Queue.{Lined, spare≢placed, taken≢placed, link-index}
use Rattle.theorems.proofs.Epochs.{of_known}
use Rattle.theorems.proofs.Nodes.{lined, next_inside, none_of}
use Rattle.theorems.proofs.Uses.{is_same, is_other}
use Rattle.theorems.proofs.Bags.{sum_none, is_none}
use Rattle.theorems.proofs.Behind.{behind, behind_few}
use Rattle.theorems.proofs.Behind as B
use Rattle.theorems.proofs.Safety.{popped_here, popped_in}
use Rattle.theorems.proofs.Popped.{Popped, popped_le}
use Rattle.theorems.proofs.Types.{Item, PushAt, Place}

-- ---- sums in which a node's number is taken so many times

pub sum_plus : (n : ℕ) (f g : Tab ℕ) → sum n (λ i. f i + g i) ≡ sum n f + sum n g
unfolding sum
sum_plus zero f g = refl
sum_plus (suc n) f g = let h = sum_plus n f g in omega arith

module _ (M : ℕ) (b : Tab ℕ) where
  -- the sum over the first M nodes, node j taken k j times
  abbrev weighed : Tab ℕ → ℕ
  weighed k = sum M (λ j. k j * b j)

  weighed_plus : (k l : Tab ℕ) → weighed (λ j. k j + l j) ≡ weighed k + weighed l
  weighed_plus k l = sum_ext M (λ j. (k j + l j) * b j) (λ j. k j * b j + l j * b j) (λ j _. add-mul (k j) (l j) (b j)) ∙ sum_plus M (λ j. k j * b j) (λ j. l j * b j)

  -- one node, taken once
  one_beyond : (m n : ℕ) → m ≤ n → sum m (λ j. is j (some n) * b j) ≡ 0
  one_beyond m n le = sum_none m (λ j. is j (some n) * b j) (λ j lt. ap (λ (k : ℕ). k * b j) (is_other j n (λ e. omega arith)) ∙ zero-mul (b j))

  one_within : (m n : ℕ) → n < m → sum m (λ j. is j (some n) * b j) ≡ b n
  unfolding sum
  one_within zero n lt = absurd (omega arith)
  one_within (suc m) n lt = same? n m
      (λ e. let z = one_beyond m n (omega arith) in let o : is m (some n) * b m ≡ b n = ap (λ (k : ℕ). k * b m) (is_same m n (sym e)) ∙ one-mul (b m) ∙ ap b (sym e) in omega arith)
      (λ ne. let h = one_within m n (omega arith) in let z : is m (some n) * b m ≡ 0 = ap (λ (k : ℕ). k * b m) (is_other m n (λ e. ne (sym e))) ∙ zero-mul (b m) in omega arith)

  -- a node that is carried, if there is one
  weighed_carried : (o : Option ℕ) → Of (λ n. n < M) o → weighed (λ j. is j o) ≡ carried b o
  unfolding Of carried
  weighed_carried none h = sum_none M (λ j. is j none * b j) (λ j _. unfold is in (zero-mul (b j)))
  weighed_carried (some n) h = one_within M n h

  -- those that N participants carry
  weighed_all : (N : ℕ) (o : Tab (Option ℕ)) → ((q : ℕ) → q < N → Of (λ n. n < M) (o q)) → weighed (λ j. sum N (λ q. is j (o q))) ≡ sum N (λ q. carried b (o q))
  unfolding sum
  weighed_all zero o h = sum_none M (λ j. 0 * b j) (λ j _. zero-mul (b j))
  weighed_all (suc N) o h =
      weighed_plus (λ j. sum N (λ q. is j (o q))) (λ j. is j (o N))
      ∙ (let a = weighed_all N o (λ q lt. h q (omega arith)) in let c = weighed_carried (o N) (h N (omega arith)) in omega arith)

  -- those of a list
  weighed_over : (l : List ℕ) → ((n : ℕ) → times n l ≢ 0 → n < M) → weighed (λ j. times j l) ≡ over b l
  unfolding times over
  weighed_over [] h = sum_none M (λ j. 0 * b j) (λ j _. zero-mul (b j))
  weighed_over (n ∷ l) h =
      weighed_plus (λ j. branch {A = ℕ} (eqb j n) 1 0) (λ j. times j l)
      ∙ (let a : weighed (λ j. branch {A = ℕ} (eqb j n) 1 0) ≡ b n = unfold is in (one_within M n (h n first)) in
      let c = weighed_over l (λ k ne. h k (λ z. ne (omega arith))) in omega arith)
    where
      first : branch {A = ℕ} (eqb n n) 1 0 + times n l ≢ 0
      first z = let e : branch {A = ℕ} (eqb n n) 1 0 ≡ 1 = branch-true {A = ℕ} 1 0 (eq-eqb n n refl) in omega arith

-- ---- what hangs on a node of the queue: each node of a later position, once

-- a node counts as queued from position b on: where it stands there; not before; not where it is not placed
queued_late : (v : NodeUse) (p b : ℕ) → v ≡ NodeUse.placed → b ≤ p → in_queue v p b ≡ 1
unfolding in_queue
queued_late v p b e le = rw (e, branch-true {A = ℕ} 1 0 (le-leb b p le)) refl

queued_early : (v : NodeUse) (p b : ℕ) → p < b → in_queue v p b ≡ 0
unfolding in_queue
queued_early NodeUse.spare p b lt = refl
queued_early NodeUse.taken p b lt = refl
queued_early NodeUse.placed p b lt = branch-false {A = ℕ} 1 0 (lt-leb b p lt)

queued_other : (v : NodeUse) (p b : ℕ) → v ≢ NodeUse.placed → in_queue v p b ≡ 0
unfolding in_queue
queued_other NodeUse.spare p b ne = refl
queued_other NodeUse.taken p b ne = refl
queued_other NodeUse.placed p b ne = absurd (ne refl)

module _ {M h t : ℕ} {next : Tab ℕ} {u : Tab NodeUse} {pos : Tab ℕ} {last : ℕ} (q : Lined M h t next u pos last)
    (within : (x : ℕ) → x < M → is_null (next x) ≡ false → index (next x) < M) where
  -- a node of the queue
  abbrev In : ℕ → Type 0
  In x = B.In M h t next u pos last q within x

  next_in : (x : ℕ) → In x → is_null (next x) ≡ false → In (index (next x)) × (pos (index (next x)) ≡ pos x + 1)
  next_in = B.next_in M h t next u pos last q within

  none_ahead : (x y : ℕ) → In x → y < M → is_null (next x) ≡ true → 0 ≡ in_queue (u y) (pos y) (pos x + 1)
  none_ahead x y i hy e = by (u y) refl
    where
      by : (v : NodeUse) → u y ≡ v → 0 ≡ in_queue v (pos y) (pos x + 1)
      by NodeUse.spare w = sym (queued_other NodeUse.spare (pos y) (pos x + 1) spare≢placed)
      by NodeUse.taken w = sym (queued_other NodeUse.taken (pos y) (pos x + 1) taken≢placed)
      by NodeUse.placed w =
          let a = q.ends x i.0 i.1.0 e in
          let b = q.pos_le y hy w in
          sym (queued_early NodeUse.placed (pos y) (pos x + 1) (omega arith))

  -- the next of x, and then what is ahead of that, is what is ahead of x
  one_step : (x y : ℕ) → In x → y < M → (e : is_null (next x) ≡ false)
      → branch {A = ℕ} (eqb y (index (next x))) 1 0 + in_queue (u y) (pos y) (pos (index (next x)) + 1) ≡ in_queue (u y) (pos y) (pos x + 1)
  one_step x y i hy e = same? y z here (λ ne. other ne (u y) refl)
    where
      z : ℕ
      z = index (next x)

      k : In z × (pos z ≡ pos x + 1)
      k = next_in x i e

      here : y ≡ z → branch {A = ℕ} (eqb y z) 1 0 + in_queue (u y) (pos y) (pos z + 1) ≡ in_queue (u y) (pos y) (pos x + 1)
      here w =
          let at : pos y ≡ pos z = ap pos w in
          let on = k.1 in
          let a : branch {A = ℕ} (eqb y z) 1 0 ≡ 1 = branch-true {A = ℕ} 1 0 (eq-eqb y z w) in
          let b = queued_early (u y) (pos y) (pos z + 1) (omega arith) in
          let c = queued_late (u y) (pos y) (pos x + 1) (ap u w ∙ k.0.1.0) (omega arith) in
          omega arith

      other : y ≢ z → (v : NodeUse) → u y ≡ v → branch {A = ℕ} (eqb y z) 1 0 + in_queue v (pos y) (pos z + 1) ≡ in_queue v (pos y) (pos x + 1)
      other ne v w =
          let a : branch {A = ℕ} (eqb y z) 1 0 ≡ 0 = branch-false {A = ℕ} 1 0 (ne_eqb y z ne) in
          let on = k.1 in
          let same : in_queue v (pos y) (pos z + 1) ≡ in_queue v (pos y) (pos x + 1) = by v w in
          omega arith
        where
          by : (v : NodeUse) → u y ≡ v → in_queue v (pos y) (pos z + 1) ≡ in_queue v (pos y) (pos x + 1)
          by NodeUse.spare w = unfold in_queue in refl
          by NodeUse.taken w = unfold in_queue in refl
          by NodeUse.placed w = let on = k.1 in same? (pos y) (pos z)
              (λ at. absurd (ne (q.differ y z hy k.0.0 w k.0.1.0 at)))
              (λ apart. go (leb (pos z + 1) (pos y)) refl apart)
            where
              go : (c : Bool) → leb (pos z + 1) (pos y) ≡ c → pos y ≢ pos z → in_queue NodeUse.placed (pos y) (pos z + 1) ≡ in_queue NodeUse.placed (pos y) (pos x + 1)
              go true t apart = let on = k.1 in let le = leb-true (pos z + 1) (pos y) t in
                  queued_late NodeUse.placed (pos y) (pos z + 1) refl le ∙ sym (queued_late NodeUse.placed (pos y) (pos x + 1) refl (omega arith))
              go false t apart = let on = k.1 in let lt = leb-false (pos z + 1) (pos y) t in
                  queued_early NodeUse.placed (pos y) (pos z + 1) lt ∙ sym (queued_early NodeUse.placed (pos y) (pos x + 1) (omega arith))

  -- how often y hangs on x: once where it stands later, else not
  hangs_once : (k x y : ℕ) → In x → behind M h u pos last x ≤ k + 1 → y < M → times y (hanging k next x) ≡ in_queue (u y) (pos y) (pos x + 1)
  unfolding hanging times
  hangs_once zero x y i le hy = none_ahead x y i hy (B.behind_none M h t next u pos last q within x i (omega arith))
  hangs_once (suc k) x y i le hy = branch_ind (λ (l : List ℕ). times y l ≡ in_queue (u y) (pos y) (pos x + 1)) (is_null (next x))
      (λ e. none_ahead x y i hy e)
      (λ e. let f = B.behind-falls M h t next u pos last q within x i e in
      let r = hangs_once k (index (next x)) y (next_in x i e).0 (omega arith) hy in
      let s = one_step x y i hy e in omega arith)

  -- all that hangs is one of M
  hangs-within : (k x y : ℕ) → In x → times y (hanging k next x) ≢ 0 → y < M
  unfolding hanging times
  hangs-within zero x y i = λ ne. absurd (ne refl)
  hangs-within (suc k) x y i = branch_ind (λ (l : List ℕ). times y l ≢ 0 → y < M) (is_null (next x))
      (λ e ne. absurd (ne refl))
      (λ e ne. same? y (index (next x)) (λ s. rw s (next_in x i e).0.0)
      (λ ns. hangs-within k (index (next x)) y (next_in x i e).0 (λ z. ne (let a : branch {A = ℕ} (eqb y (index (next x))) 1 0 ≡ 0 = branch-false {A = ℕ} 1 0 (ne_eqb y (index (next x)) ns) in omega arith))))

  -- and it is what hangs, to the end
  hangs-whole : ((x : ℕ) → x < M → next x % 2 ≡ 0) → (k x : ℕ) → In x → behind M h u pos last x ≤ k + 1 → Hangs next x (hanging k next x)
  unfolding hanging Hangs
  hangs-whole even zero x i le = B.behind_none M h t next u pos last q within x i (omega arith)
  hangs-whole even (suc k) x i le = branch_ind (λ (l : List ℕ). Hangs next x l) (is_null (next x))
      (λ e. e)
      (λ e. let f = B.behind-falls M h t next u pos last q within x i e in
      (link-index (next x) e (even x i.0), hangs-whole even k (index (next x)) (next_in x i e).0 (omega arith)))

-- ---- a node that one participant names

-- at most one of N carries node n
at_most_one : (N : ℕ) (o : Tab (Option ℕ)) (n : ℕ) → ((a b : ℕ) → a < N → b < N → o a ≡ some n → o b ≡ some n → a ≡ b) → sum N (λ q. is n (o q)) ≤ 1
unfolding sum
at_most_one zero o n one = omega arith
at_most_one (suc N) o n one = go (at_most_one N o n (λ a b ha hb. one a b (omega arith) (omega arith))) (o N) refl
  where
    go : sum N (λ q. is n (o q)) ≤ 1 → (v : Option ℕ) → o N ≡ v → sum N (λ q. is n (o q)) + is n (o N) ≤ 1
    go before none e = let z : is n (o N) ≡ 0 = rw e (unfold is in refl) in omega arith
    go before (some y) e = same? n y
        (λ s. let z = sum_none N (λ q. is n (o q)) (λ q lt. is_none n (o q) (λ w. let i = one q N (omega arith) (omega arith) w (e ∙ ap (λ (k : ℕ). some k) (sym s)) in omega arith)) in
        let w : is n (o N) ≡ 1 = rw e (is_same n y s) in omega arith)
        (λ ne. let z : is n (o N) ≡ 0 = rw e (is_other n y ne) in omega arith)

-- a taken node is one of M
taken_in : (N M : ℕ) (pl : Place) → PlaceIn N M pl → Of (λ n. n < M) (taken_node pl)
unfolding taken_node Of PlaceIn PushIn
taken_in N M Place.Rest h = tt
taken_in N M (Place.Register a) h = tt
taken_in N M (Place.PinEpoch k) h = tt
taken_in N M (Place.PinWord k e) h = tt
taken_in N M (Place.Repin a) h = tt
taken_in N M Place.UnpinWord h = tt
taken_in N M (Place.AdvanceEpoch k) h = tt
taken_in N M (Place.Walk t a) h = tt
taken_in N M (Place.AdvanceWord t curr succ) h = tt
taken_in N M (Place.AdvanceStore t) h = tt
taken_in N M (Place.Pop p a) h = tt
taken_in N M (Place.Push f PushAt.Epoch) h = tt
taken_in N M (Place.Push f (PushAt.Tail new)) h = h.1
taken_in N M (Place.Push f (PushAt.Next new onto)) h = h.1.0
taken_in N M (Place.Push f (PushAt.Help new onto next)) h = h.1.0.0
taken_in N M (Place.Push f (PushAt.Link new onto)) h = h.1.0
taken_in N M (Place.Push f (PushAt.Move new onto)) h = tt
taken_in N M Place.FinalWord h = tt
taken_in N M Place.FinalTag h = tt

-- ---- every bag is counted once

times_one : (k v : ℕ) → k ≡ 1 → k * v ≡ v
times_one k v e = ap (λ (n : ℕ). n * v) e ∙ one-mul v

times_none : (k v : ℕ) → v ≡ 0 → k * v ≡ v
times_none k v e = ap (λ (n : ℕ). k * n) e ∙ mul-zero k ∙ sym e

module _ (N M : ℕ) (m : Machine) (g : Ghost) (inv : Inv N M m g) (b : Popped N m g) where
  line : Lined M (head_of m.shared) (tail_of m.shared) m.shared.node_next g.node_use g.pos g.last
  line = lined M m g inv.queued

  within : (x : ℕ) → x < M → is_null (m.shared.node_next x) ≡ false → index (m.shared.node_next x) < M
  within = next_inside N M m g inv

  head_here : In line within (head_of m.shared)
  unfolding index
  head_here = let h = inv.ranged.queue_head in (omega arith, (line.head, omega arith))

  -- M nodes are enough
  few : behind M (head_of m.shared) g.node_use g.pos g.last (head_of m.shared) ≤ M + 1
  few = let le = behind_few M (head_of m.shared) g.node_use g.pos g.last (head_of m.shared) in omega arith

  abbrev hung : List ℕ
  hung = hanging M m.shared.node_next (head_of m.shared)

  -- what is walked from the head is what hangs there
  pub hangs-hanging : Hangs m.shared.node_next (head_of m.shared) hung
  hangs-hanging = hangs-whole line within (λ x hx. (inv.ranged.node_next x hx).1) M (head_of m.shared) head_here few

  -- who carries a node, by its use
  taken_of : (q : ℕ) → q < N → (n : ℕ) → taken_node (m.own q).place ≡ some n → g.node_use n ≡ NodeUse.taken
  taken_of q hq n e = unfold Of in (rw e at (inv.used.taken q hq)).0

  old_of : (q : ℕ) → q < N → (n : ℕ) → old_head (m.own q).place ≡ some n → g.node_use n ≡ NodeUse.placed
  old_of q hq n e = unfold Of in (rw e at (inv.used.old q hq)).0

  popped_of : (q : ℕ) → q < N → (n : ℕ) → popped_node (m.own q).place ≡ some n → g.node_use n ≡ NodeUse.placed
  popped_of q hq n e = unfold SafeNode in (popped_here N M m g inv q hq n e).0.1.0

  -- how many have taken it, have popped it, and how often it hangs
  abbrev takers : ℕ → ℕ
  takers n = sum N (λ q. is n (taken_node (m.own q).place))

  no_takers : (n : ℕ) → g.node_use n ≢ NodeUse.taken → takers n ≡ 0
  no_takers n ne = sum_none N (λ q. is n (taken_node (m.own q).place)) (λ q hq. is_none n (taken_node (m.own q).place) (λ e. ne (taken_of q hq n e)))

  no_poppers : (n : ℕ) → ((q : ℕ) → q < N → popped_node (m.own q).place ≡ some n → ⊥) → poppers N m n ≡ 0
  unfolding poppers
  no_poppers n none_has = sum_none N (λ q. is n (popped_node (m.own q).place)) (λ q hq. is_none n (popped_node (m.own q).place) (none_has q hq))

  -- a taken node is taken by one: it is not free, not queued, no old head and no item
  one_taker : (n : ℕ) → n < M → g.node_use n ≡ NodeUse.taken → takers n ≡ 1
  one_taker n hn e =
      let all = inv.used.nodes n hn in
      let free : branch {A = ℕ} (m.node_free n) 1 0 ≡ 0 = branch-false {A = ℕ} 1 0 (inv.used.bits n hn ∙ ap is_spare e ∙ (unfold is_spare in refl)) in
      let queued = queued_other (g.node_use n) (g.pos n) (g.pos (head_of m.shared)) (λ p. taken≢placed (sym e ∙ p)) in
      let item : occurs N M m (Item.Node (record { 0 = n })) ≡ 0 = none_of _ (λ ne. taken≢placed (sym e ∙ (inv.used.node_out n hn ne).0)) in
      let olds : sum N (λ q. is n (old_head (m.own q).place)) ≡ 0 = sum_none N (λ q. is n (old_head (m.own q).place))
      (λ q hq. is_none n (old_head (m.own q).place) (λ o. taken≢placed (sym e ∙ old_of q hq n o))) in
      let split = sum_plus N (λ q. is n (taken_node (m.own q).place)) (λ q. is n (old_head (m.own q).place)) in
      omega arith

  module _ (v : Tab ℕ) (empty : (n : ℕ) → (m.bag n).holds ≡ [] → v n ≡ 0) where
    counted : (n : ℕ) → n < M → (takers n + poppers N m n + times n hung) * v n ≡ v n
    counted n hn = by (g.node_use n) refl
      where
        hangs : times n hung ≡ in_queue (g.node_use n) (g.pos n) (g.pos (head_of m.shared) + 1)
        hangs = hangs_once line within M (head_of m.shared) n head_here few hn

        by : (w : NodeUse) → g.node_use n ≡ w → (takers n + poppers N m n + times n hung) * v n ≡ v n
        by NodeUse.spare e = times_none _ (v n) (empty n (inv.bagged.spare n hn e))
        by NodeUse.taken e =
            let a = one_taker n hn e in
            let c = no_poppers n (λ q hq o. taken≢placed (sym e ∙ popped_of q hq n o)) in
            let d = queued_other (g.node_use n) (g.pos n) (g.pos (head_of m.shared) + 1) (λ p. taken≢placed (sym e ∙ p)) in
            let h = hangs in
            times_one _ (v n) (omega arith)
        by NodeUse.placed e = go (leb (g.pos n) (g.pos (head_of m.shared))) refl
          where
            a : takers n ≡ 0
            a = no_takers n (λ t. taken≢placed (sym t ∙ e))

            popped_once : poppers N m n ≤ 1
            popped_once = unfold poppers in (at_most_one N (λ q. popped_node (m.own q).place) n (λ x y hx hy. b.single x y hx hy n))

            go : (c : Bool) → leb (g.pos n) (g.pos (head_of m.shared)) ≡ c → (takers n + poppers N m n + times n hung) * v n ≡ v n
            go true t =
                let le = leb-true (g.pos n) (g.pos (head_of m.shared)) t in
                let d = queued_early (g.node_use n) (g.pos n) (g.pos (head_of m.shared) + 1) (omega arith) in
                let h = hangs in
                let k = popped_once in
                let z = a in
                same? (poppers N m n) 0
                (λ none. times_none _ (v n) (empty n (inv.bagged.freed n hn e le none)))
                (λ some_one. times_one _ (v n) (omega arith))
            go false t =
                let lt = leb-false (g.pos n) (g.pos (head_of m.shared)) t in
                let d = queued_late (g.node_use n) (g.pos n) (g.pos (head_of m.shared) + 1) e (omega arith) in
                let c = no_poppers n (λ q hq o. let k = popped_le N M m g inv b q hq n o in omega arith) in
                let h = hangs in
                let z = a in
                times_one _ (v n) (omega arith)

    -- all bags, told by who has them and what hangs
    pub all_counted : sum N (λ q. carried v (taken_node (m.own q).place)) + sum N (λ q. carried v (popped_node (m.own q).place)) + over v hung ≡ sum M v
    all_counted =
        let a = weighed_all M v N (λ q. taken_node (m.own q).place) (λ q hq. taken_in N M (m.own q).place (inv.ranged.places q hq)) in
        let c = weighed_all M v N (λ q. popped_node (m.own q).place) (λ q hq. of_known (λ n. n < M) (popped_node (m.own q).place) (λ n e. popped_in N M m g inv q hq n e)) in
        let d = weighed_over M v hung (λ n ne. hangs-within line within M (head_of m.shared) n head_here ne) in
        let e = weighed_plus M v takers (poppers N m) in
        let f = weighed_plus M v (λ n. takers n + poppers N m n) (λ n. times n hung) in
        let all = sum_ext M (λ n. (takers n + poppers N m n + times n hung) * v n) v counted in
        let p : sum M (λ n. poppers N m n * v n) ≡ sum N (λ q. carried v (popped_node (m.own q).place)) = unfold poppers in c in
        omega arith
