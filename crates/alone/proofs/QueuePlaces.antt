-- The places of the queue: at each, the step leaves fewer. A pop whose exchange is lost reads the head again, and does not lose again. A push whose link is lost,
-- or that finds a next where it looked for none, reads the tail again; if the tail's node has a next, it helps, and then the tail's node has none (`helped`:
-- the tail is the last node or the one before). What the list adds (L, a) is not looked at. Assumes nothing.
use mathlib.Core.Path.{◌≡◌, refl, ap, ◌∙◌}
use mathlib.Core.Logic.{◌≢◌}
use mathlib.Core.Bool.{true, false}
use Prim.Native.Nat.{ℕ, ◌+◌, ◌-◌, ◌*◌, ◌/◌, ◌≤◌, ◌<◌}
use native.Mathlib.Omega.{arith}
use lib.Dec.{eqb}
use borrow.Author.Tests.{ne_eqb}
use Rattle.definition.specs.Base.{branch}
use Rattle.definition.specs.Links.{null, link, is_null, index, node_at}
use Rattle.definition.specs.Tables.{Shared, read, write}
use Rattle.definition.specs.Flow.{holding, sharing}
use Rattle.definition.specs.Queue.{seal_bag, push, pop}
use Rattle.definition.specs.Ranges.{is_rest}
use Rattle.definition.proofs.Codec.{link_not_null, index-link}
use Rattle.theorems.proofs.Leads.{Leads}
use Rattle.theorems.proofs.Ghost.{Ghost, head_of, tail_of}
use Rattle.theorems.proofs.Machine.{Machine}
use Rattle.theorems.proofs.Invariant.{HoldsPush, SafeNode}
use Rattle.theorems.proofs.Inv.{Inv}
use Rattle.theorems.proofs.Uses.{link_back}
use Rattle.theorems.proofs.Nodes.{lined, next_inside}
use Rattle.theorems.proofs.Behind.{tail_last}
use Rattle.theorems.proofs.Types.{Node, Ptr, Pops, Deferring, Then, PopAt, PushAt, Place, Participant, Word}
use Rattle.alone.proofs.Left.{push_steps, final_left, lag, defer_left, then_left, pop_left, push_left, place_left}
use Rattle.alone.proofs.Laws.{at_least, when_equal, when_not, two, lag-small, then_tail, then_next}
use Rattle.alone.proofs.Follows.{Less, before, Fewer, on_less, also_less, pick_less, collected_less, defer_less, pushed_less}

-- the tail is not behind
lag_none : (s : Shared) → is_null (s.node_next (index s.queue_tail)) ≡ true → lag s ≡ 0
unfolding lag branch
lag_none s e = rw e

module _ (N M : ℕ) (m : Machine) (g : Ghost) (inv : Inv N M m g) where
  abbrev S : Shared
  S = m.shared

  -- the queue's ends, as pointers
  head_back : S.queue_head ≡ link (index S.queue_head)
  head_back = link_back S.queue_head inv.ranged.queue_head.0 inv.ranged.queue_head.1.1

  tail_back : S.queue_tail ≡ link (index S.queue_tail)
  tail_back = link_back S.queue_tail inv.ranged.queue_tail.0 inv.ranged.queue_tail.1.1

  -- a help leaves the tail at the last node: that of the one before
  helped : (onto next : Node) → S.node_next onto.0 ≡ link next.0 → S.queue_tail ≡ link onto.0 → lag (write Word.QueueTail (link next.0) S) ≡ 0
  unfolding write index
  helped onto next hn e =
      let at : tail_of S ≡ onto.0 = ap index e ∙ index-link onto.0 in
      let hm : S.node_next (tail_of S) ≡ link next.0 = ap S.node_next at ∙ hn in
      let last = tail_last M (head_of S) (tail_of S) S.node_next g.node_use g.pos g.last (lined M m g inv.queued) (next_inside N M m g inv)
      (let h = inv.ranged.queue_head in omega arith) (let t = inv.ranged.queue_tail in omega arith) (rw hm (link_not_null next.0)) in
      lag_none (write Word.QueueTail (link next.0) S) (rw (index-link next.0) (rw (hm, index-link next.0) at last))

  -- who lost a link found a next
  set_next : (n : ℕ) → n < M → S.node_next n ≢ null → is_null (S.node_next n) ≡ false
  unfolding is_null null
  set_next n hn ne = ne_eqb (S.node_next n / 2) 0 (λ q. ne (let even = (inv.ranged.node_next n hn).1 in omega arith))

  module _ (L : ℕ) (a : Ptr → ℕ) where
    -- with at least this pop left
    pub pop-falls : (sealed : Node → ℕ) (p : Pops) (o : Participant) (x : PopAt) → 1 ≤ p.left → Leads (Fewer L a S o (Place.Pop p x)) S (pop sealed p o x)
    unfolding Leads pop read write Fewer place_left pop_left is_rest
    pop-falls sealed p o PopAt.Head r = on_less L a S _ (Place.Pop p (PopAt.Next (node_at S.queue_head))) o refl
        (unfold place_left pop_left node_at in (rw (when_equal (5 * p.left - 1) (5 * p.left + 2) head_back) (omega arith)))
    pop-falls sealed p o (PopAt.Next head) r =
        let over = at_least (eqb S.queue_head (link head.0)) (5 * p.left - 1) (5 * p.left + 2) 1 (omega arith) (omega arith) in
        let k = before L a S o (Place.Pop p (PopAt.Next head)) in
        pick_less L a S k _ _ _ (collected_less L a S k p.owner o (omega arith))
        (pick_less L a S k _ _ _
        (on_less L a S k (Place.Pop p (PopAt.Exchange head (node_at (S.node_next head.0)))) o refl (unfold place_left pop_left in down))
        (collected_less L a S k p.owner o (omega arith)))
      where
        down : push_steps * o.share + (branch (eqb S.queue_head (link head.0)) (5 * p.left - 2) (5 * p.left + 1) + final_left p.owner) + 1
            ≤ push_steps * o.share + (branch (eqb S.queue_head (link head.0)) (5 * p.left - 1) (5 * p.left + 2) + final_left p.owner)
        down = two (λ (x y : ℕ). push_steps * o.share + (x + final_left p.owner) + 1 ≤ push_steps * o.share + (y + final_left p.owner)) _ _ _ _ _ (λ _. omega arith) (λ _. omega arith)
    pop-falls sealed p o (PopAt.Exchange head next) r = (
      λ e. on_less L a _ _ (Place.Pop p (PopAt.Tail head next)) o refl
          (unfold place_left pop_left in (rw (when_equal (5 * p.left - 2) (5 * p.left + 1) e) (omega arith))),
      λ ne. on_less L a S _ (Place.Pop p PopAt.Head) o refl
          (unfold place_left pop_left in (rw (when_not (5 * p.left - 2) (5 * p.left + 1) ne) (omega arith))),
    )
    pop-falls sealed p o (PopAt.Tail head next) r =
        let k = before L a S o (Place.Pop p (PopAt.Tail head next)) in
        pick_less L a S k _ _ _ (on_less L a S k (Place.Pop p (PopAt.TailMove head next)) o refl (unfold place_left pop_left in (omega arith)))
        (defer_less L a S k (Deferring.Node p head next) o (unfold defer_left in (omega arith)))
    pop-falls sealed p o (PopAt.TailMove head next) r =
        let k = before L a S o (Place.Pop p (PopAt.TailMove head next)) in (
          λ e. defer_less L a (write Word.QueueTail (link next.0) S) k (Deferring.Node p head next) o (unfold defer_left in (omega arith)),
          λ ne. defer_less L a S k (Deferring.Node p head next) o (unfold defer_left in (omega arith)),
        )

    -- with a node set aside, where one is taken
    pub push-falls : (b : ℕ) (spare : Node) (f : Then) (o : Participant) (x : PushAt) → (x ≡ PushAt.Epoch → 1 ≤ o.share) → HoldsPush M m g b x
        → Leads (Fewer L a S o (Place.Push f x)) S (push spare f o x)
    unfolding Leads push seal_bag read write Fewer place_left push_left HoldsPush SafeNode is_rest
    push-falls b spare f o PushAt.Epoch one h = also_less L a S _ _ _
        (on_less L a S (before L a S o (Place.Push f PushAt.Epoch)) (Place.Push f (PushAt.Tail spare)) (sharing (o.share - 1) (holding 0 o)) refl
        (unfold place_left push_left in (let x = one refl in let y = lag-small S in omega arith)))
    push-falls b spare f o (PushAt.Tail new) one h =
        on_less L a S (before L a S o (Place.Push f (PushAt.Tail new))) (Place.Push f (PushAt.Next new (node_at S.queue_tail))) o refl
        (unfold place_left push_left node_at lag in (rw (when_equal 6 (6 + 3 * branch (is_null (S.node_next (index S.queue_tail))) 0 1) tail_back) down))
      where
        down : push_steps * o.share + (branch (is_null (S.node_next (index S.queue_tail))) 3 6 + then_left L a S f) + 1
            ≤ push_steps * o.share + (4 + 3 * branch (is_null (S.node_next (index S.queue_tail))) 0 1 + then_left L a S f)
        down = two (λ (x y : ℕ). push_steps * o.share + (x + then_left L a S f) + 1 ≤ push_steps * o.share + (4 + 3 * y + then_left L a S f)) _ 3 6 0 1 (λ _. omega arith) (λ _. omega arith)
    push-falls b spare f o (PushAt.Next new onto) one h =
        two (λ x n. Less L a S (push_steps * o.share + (n + then_left L a S f)) x) (is_null (S.node_next onto.0)) _ _ 3 _
        (λ e. on_less L a S _ (Place.Push f (PushAt.Link new onto)) o refl (unfold place_left push_left in (rw e (unfold branch in (omega arith)))))
        (λ e. on_less L a S _ (Place.Push f (PushAt.Help new onto (node_at (S.node_next onto.0)))) o refl (unfold place_left push_left in down))
      where
        down : push_steps * o.share + (branch (eqb S.queue_tail (link onto.0)) 5 (5 + 3 * lag S) + then_left L a S f) + 1
            ≤ push_steps * o.share + (branch (eqb S.queue_tail (link onto.0)) 6 (6 + 3 * lag S) + then_left L a S f)
        down = two (λ (x y : ℕ). push_steps * o.share + (x + then_left L a S f) + 1 ≤ push_steps * o.share + (y + then_left L a S f)) _ 5 _ 6 _ (λ _. omega arith) (λ _. omega arith)
    push-falls b spare f o (PushAt.Help new onto next) one h =
        let k = before L a S o (Place.Push f (PushAt.Help new onto next)) in (
          λ e. on_less L a (write Word.QueueTail (link next.0) S) k (Place.Push f (PushAt.Tail new)) o refl
              (unfold place_left push_left in (rw (then_tail L a S (link next.0) f, helped onto next h.1 e, when_equal 5 (5 + 3 * lag S) e) (omega arith))),
          λ ne. on_less L a S k (Place.Push f (PushAt.Tail new)) o refl
              (unfold place_left push_left in (rw (when_not 5 (5 + 3 * lag S) ne) (omega arith))),
        )
    push-falls b spare f o (PushAt.Link new onto) one h =
        let k = before L a S o (Place.Push f (PushAt.Link new onto)) in (
          λ e. on_less L a (write (Word.NodeNext onto) (link new.0) S) k (Place.Push f (PushAt.Move new onto)) o refl
              (unfold place_left push_left in (rw (then_next L a S onto (link new.0) f, e) (unfold branch is_null null in (omega arith)))),
          λ ne. on_less L a S k (Place.Push f (PushAt.Tail new)) o refl
              (unfold place_left push_left in (rw (set_next onto.0 h.0.0 ne) (unfold branch in (omega arith)))),
        )
    push-falls b spare f o (PushAt.Move new onto) one h =
        let k = before L a S o (Place.Push f (PushAt.Move new onto)) in (
          λ e. pushed_less L a (write Word.QueueTail (link new.0) S) k f o (rw (then_tail L a S (link new.0) f) (omega arith)),
          λ ne. pushed_less L a S k f o (omega arith),
        )
