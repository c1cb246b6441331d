-- What is left does not grow where the list loses slots, or where a node's next becomes null: this is what the private work of a step does beside its access (a freed
-- or unlinked slot, a sealed bag). Assumes nothing.
use mathlib.Core.Path.{◌≡◌, refl, sym, ◌∙◌}
use mathlib.Core.Bool.{Bool, true, false, false≢true}
use Prim.Native.Nat.{ℕ, ◌+◌, ◌*◌, ◌≤◌}
use native.Mathlib.Omega.{arith}
use lib.Dec.{eqb}
use Rattle.definition.specs.Base.{branch}
use Rattle.definition.specs.Links.{null, link, is_null, index}
use Rattle.definition.specs.Tables.{Shared, read, write}
use Rattle.definition.specs.List.{pred_word}
use Rattle.definition.proofs.Base.{put_ind}
use Rattle.theorems.proofs.Nodes.{null_is}
use Rattle.theorems.proofs.Types.{Node, Ptr, Pred, Deferring, Then, RegisterAt, WalkAt, PopAt, PushAt, Place, Participant, Word}
use Rattle.alone.proofs.Left.{lag, going_left, defer_left, then_left, register_left, walk_left, pop_left, push_left, collect_left, place_left, left}
use Rattle.alone.proofs.Laws.{at_least, smaller}

-- no more slots in the list, nor ahead of a pointer; the words that the numbers look at, as they were, but that a next may have become null
pub record Eases (L : ℕ) (a : Ptr → ℕ) (s : Shared) (L' : ℕ) (a' : Ptr → ℕ) (s' : Shared) : Type 0 where
  pub in_list : L' ≤ L
  pub ahead : (l : Ptr) → a' l ≤ a l
  pub pred : (q : Pred) → read (pred_word q) s' ≡ read (pred_word q) s
  pub list_head : s'.list_head ≡ s.list_head
  pub queue_head : s'.queue_head ≡ s.queue_head
  pub queue_tail : s'.queue_tail ≡ s.queue_tail
  pub next : (k : ℕ) → is_null (s.node_next k) ≡ true → is_null (s'.node_next k) ≡ true

module _ (L : ℕ) (a : Ptr → ℕ) (s : Shared) (L' : ℕ) (a' : Ptr → ℕ) (s' : Shared) (e : Eases L a s L' a' s') where
  -- a number that is smaller where a next is null
  by_next : (k x y z : ℕ) → x ≤ y → x ≤ z → y ≤ z → branch (is_null (s'.node_next k)) x y ≤ branch (is_null (s.node_next k)) x z
  by_next k x y z h i j = go (is_null (s.node_next k)) refl (is_null (s'.node_next k)) refl
    where
      go : (b : Bool) → is_null (s.node_next k) ≡ b → (c : Bool) → is_null (s'.node_next k) ≡ c → branch c x y ≤ branch b x z
      go true p true q = unfold branch in (omega arith)
      go true p false q = absurd (false≢true (sym q ∙ e.next k p))
      go false p true q = unfold branch in i
      go false p false q = unfold branch in j

  lag_eases : lag s' ≤ lag s
  unfolding lag
  lag_eases = rw e.queue_tail (by_next (index s.queue_tail) 0 1 1 (omega arith) (omega arith) (omega arith))

  going_eases : (q : Pred) (l : Ptr) → going_left L' a' s' q l ≤ going_left L a s q l
  unfolding going_left
  going_eases q Ptr.Null = omega arith
  going_eases q (Ptr.At c) = rw (e.pred q) (smaller _ _ _ _ _ (let h = e.ahead (Ptr.At c) in omega arith) (let h = e.in_list in omega arith))

  then_eases : (f : Then) → then_left L' a' s' f ≤ then_left L a s f
  unfolding then_left defer_left
  then_eases (Then.Defer (Deferring.Token token)) = omega arith
  then_eases (Then.Defer (Deferring.Slot t c succ)) = let h = going_eases c.pred succ in omega arith
  then_eases (Then.Defer (Deferring.Node p head next)) = omega arith
  then_eases Then.Flush = let h = e.in_list in omega arith
  then_eases Then.Finalize = omega arith

  register_eases : (x : RegisterAt) → register_left s' x ≤ register_left s x
  unfolding register_left
  register_eases RegisterAt.Head = omega arith
  register_eases (RegisterAt.Next next) = rw e.list_head (omega arith)
  register_eases (RegisterAt.Link next) = rw e.list_head (omega arith)

  walk_eases : (x : WalkAt) → walk_left L' a' s' x ≤ walk_left L a s x
  unfolding walk_left
  walk_eases WalkAt.Head = let h = e.in_list in omega arith
  walk_eases (WalkAt.Next c) = going_eases c.pred (Ptr.At c.curr)
  walk_eases (WalkAt.Unlink c succ) = rw (e.pred c.pred) (smaller _ _ _ _ _ (let h = e.ahead succ in omega arith) (let h = e.in_list in omega arith))
  walk_eases WalkAt.Stalled = omega arith

  pop_eases : (r : ℕ) (x : PopAt) → pop_left s' r x ≤ pop_left s r x
  unfolding pop_left
  pop_eases r PopAt.Head = omega arith
  pop_eases r (PopAt.Next head) = rw e.queue_head (omega arith)
  pop_eases r (PopAt.Exchange head next) = rw e.queue_head (omega arith)
  pop_eases r (PopAt.Tail head next) = omega arith
  pop_eases r (PopAt.TailMove head next) = omega arith

  -- a number that is larger by what the tail is behind, where the tail is another
  tail_eases : (v k : ℕ) → branch (eqb s'.queue_tail v) k (k + 3 * lag s') ≤ branch (eqb s.queue_tail v) k (k + 3 * lag s)
  tail_eases v k = go (lag s') lag_eases
    where
      go : (n : ℕ) → n ≤ lag s → branch (eqb s'.queue_tail v) k (k + 3 * n) ≤ branch (eqb s.queue_tail v) k (k + 3 * lag s)
      go n h = rw e.queue_tail (smaller _ k (k + 3 * n) k (k + 3 * lag s) (omega arith) (omega arith))

  push_eases : (x : PushAt) → push_left s' x ≤ push_left s x
  unfolding push_left
  push_eases PushAt.Epoch = omega arith
  push_eases (PushAt.Tail new) = let h = lag_eases in omega arith
  push_eases (PushAt.Next new onto) = by_next onto.0 3 _ _ (over s') (over s) (tail_eases (link onto.0) 6)
    where
      over : (z : Shared) → 3 ≤ branch (eqb z.queue_tail (link onto.0)) 6 (6 + 3 * lag z)
      over z = at_least (eqb z.queue_tail (link onto.0)) 6 (6 + 3 * lag z) 3 (omega arith) (omega arith)
  push_eases (PushAt.Help new onto next) = tail_eases (link onto.0) 5
  push_eases (PushAt.Link new onto) = by_next onto.0 2 (5 + 3 * lag s') (5 + 3 * lag s) (omega arith) (omega arith) (let h = lag_eases in omega arith)
  push_eases (PushAt.Move new onto) = omega arith

  collect_eases : (pins : ℕ) → collect_left L' a' pins ≤ collect_left L a pins
  unfolding collect_left
  collect_eases pins = smaller _ _ _ _ _ (let h = e.in_list in omega arith) (omega arith)

  place_eases : (pins h : ℕ) (pl : Place) → place_left L' a' s' pins h pl ≤ place_left L a s pins h pl
  unfolding place_left
  place_eases pins h Place.Rest = omega arith
  place_eases pins h (Place.Register x) = register_eases x
  place_eases pins h (Place.PinEpoch k) = let x = collect_eases pins in omega arith
  place_eases pins h (Place.PinWord k v) = let x = collect_eases pins in omega arith
  place_eases pins h (Place.Repin x) = omega arith
  place_eases pins h Place.UnpinWord = smaller _ _ _ _ _ (let x = collect_eases pins in omega arith) (omega arith)
  place_eases pins h (Place.AdvanceEpoch k) = let x = e.in_list in omega arith
  place_eases pins h (Place.Walk t x) = let y = walk_eases x in omega arith
  place_eases pins h (Place.AdvanceWord t curr succ) = let x = going_eases (Pred.Entry curr) succ in omega arith
  place_eases pins h (Place.AdvanceStore t) = omega arith
  place_eases pins h (Place.Pop p x) = let y = pop_eases p.left x in omega arith
  place_eases pins h (Place.Push f x) = let y = push_eases x in let z = then_eases f in omega arith
  place_eases pins h Place.FinalWord = omega arith
  place_eases pins h Place.FinalTag = omega arith

  pub left_eases : (o : Participant) → left L' a' s' o ≤ left L a s o
  unfolding left
  left_eases o = let h = place_eases o.counts.pins o.counts.handles o.place in omega arith

-- the words as they were, or, where a bag was sealed, its node's next null
module _ (L : ℕ) (a : Ptr → ℕ) (s : Shared) (L' : ℕ) (a' : Ptr → ℕ) (fewer : L' ≤ L) (less : (l : Ptr) → a' l ≤ a l) where
  pub same_words : Eases L a s L' a' s
  same_words = record { in_list = fewer; ahead = less; pred = λ q. refl; list_head = refl; queue_head = refl; queue_tail = refl; next = λ k e. e }

  pub next_null : (n : Node) → Eases L a s L' a' (write (Word.NodeNext n) null s)
  unfolding write
  next_null n = record {
    in_list = fewer;
    ahead = less;
    pred = word;
    list_head = refl;
    queue_head = refl;
    queue_tail = refl;
    next = λ k e. put_ind (λ (w : ℕ). is_null w ≡ true) s.node_next n.0 k null (λ _. null_is) (λ _. e);
  }
    where
      word : (q : Pred) → read (pred_word q) (write (Word.NodeNext n) null s) ≡ read (pred_word q) s
      word Pred.Head = unfold read write pred_word in refl
      word (Pred.Entry x) = unfold read write pred_word in refl
