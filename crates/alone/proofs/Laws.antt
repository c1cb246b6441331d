-- Laws of choices between numbers, of words and pointers, and of the numbers of Left: how large they are, and of which words they are independent. Assumes
-- nothing.
use mathlib.Core.Path.{◌≡◌, refl}
use mathlib.Core.Logic.{◌≢◌}
use mathlib.Core.Bool.{Bool, true, false}
use mathlib.Core.List.{List, [], ◌∷◌, ◌++◌}
use Prim.Native.Nat.{ℕ, zero, suc, ◌+◌, ◌*◌, ◌%◌, ◌/◌, ◌≤◌}
use native.Mathlib.Omega.{arith}
use lib.Dec.{eqb}
use borrow.Author.Tests.{eqb-true, eqb-false, eq-eqb, ne_eqb}
use Rattle.definition.specs.Base.{branch, Tab, listed}
use Rattle.definition.specs.Links.{null, link, pointer, pointee, is_null, index}
use Rattle.definition.specs.Tables.{Shared, read, write}
use Rattle.definition.specs.List.{pred_word}
use Rattle.definition.proofs.Base.{branch_ind, branch-true, branch-false, same?, put_same}
use Rattle.theorems.proofs.Types.{Node, Ptr, Pred, Deferring, Then, Word}
use Rattle.alone.proofs.Left.{pops, lag, going_left, defer_left, then_left}

-- ---- choices

-- a choice of numbers is at most what both are, and at least what both are
pub at_most : (b : Bool) (x y z : ℕ) → x ≤ z → y ≤ z → branch b x y ≤ z
at_most b x y z h j = branch_ind (λ (n : ℕ). n ≤ z) b (λ _. h) (λ _. j)

pub at_least : (b : Bool) (x y z : ℕ) → z ≤ x → z ≤ y → z ≤ branch b x y
at_least b x y z h j = branch_ind (λ (n : ℕ). z ≤ n) b (λ _. h) (λ _. j)

-- a choice by whether two numbers are equal
pub when_equal : {i j : ℕ} (x y : ℕ) → i ≡ j → branch (eqb i j) x y ≡ x
when_equal {i} {j} x y e = branch-true x y (eq-eqb i j e)

pub when_not : {i j : ℕ} (x y : ℕ) → i ≢ j → branch (eqb i j) x y ≡ y
when_not {i} {j} x y ne = branch-false x y (ne_eqb i j ne)

-- two choices that go by one test
pub two : {A B : Type 0} (P : A → B → Type 0) (b : Bool) (x y : A) (m n : B) → (b ≡ true → P x m) → (b ≡ false → P y n) → P (branch b x y) (branch b m n)
unfolding branch
two P true x y m n h k = h refl
two P false x y m n h k = k refl

-- a choice between smaller numbers
pub smaller : (b : Bool) (x y x' y' : ℕ) → x ≤ x' → y ≤ y' → branch b x y ≤ branch b x' y'
smaller b x y x' y' h k = two (λ m n. m ≤ n) b x y x' y' (λ _. h) (λ _. k)

-- what grows with each entry grows with the entries of a table
pub listed_grows : {A : Type 0} (w : List A → ℕ) (f : Tab A) → ((l : List A) (x : A) → w l ≤ w (l ++ x ∷ [])) → (j k : ℕ) → j ≤ k → w (listed j f) ≤ w (listed k f)
unfolding listed
listed_grows w f more j zero le = let e : j ≡ 0 = omega arith in rw e (omega arith)
listed_grows w f more j (suc k) le = same? j (suc k) (λ e. rw e (omega arith))
    (λ ne. let h = listed_grows w f more j k (omega arith) in let g = more (listed k f) (f k) in omega arith)

-- ---- words

-- an untagged word is the pointer to what it points to
pub untagged_back : (w : ℕ) → w % 2 ≡ 0 → w ≡ pointer (pointee w)
unfolding pointee is_null
untagged_back w e = branch_ind (λ (q : Ptr). w ≡ pointer q) (eqb (w / 2) 0)
    (λ z. unfold pointer null in (let h = eqb-true (w / 2) 0 z in omega arith))
    (λ z. unfold pointer link index in (let h = eqb-false (w / 2) 0 z in omega arith))

-- a word of the list, written
pub read-pred : (q : Pred) (v : ℕ) (s : Shared) → read (pred_word q) (write (pred_word q) v s) ≡ v
unfolding read write pred_word
read-pred Pred.Head v s = refl
read-pred (Pred.Entry x) v s = put_same s.entry_next x.0 v

pub lag-small : (s : Shared) → lag s ≤ 1
unfolding lag
lag-small s = at_most _ 0 1 1 (omega arith) (omega arith)

-- ---- a walk that goes on, and what waits for a push

module _ (L : ℕ) (a : Ptr → ℕ) where
  pub going_most : ((l : Ptr) → a l ≤ L) → (s : Shared) (q : Pred) (l : Ptr) → going_left L a s q l ≤ 2 * L + pops + 3
  unfolding going_left
  going_most few s q Ptr.Null = omega arith
  going_most few s q (Ptr.At c) = at_most _ _ _ _ (let h = few (Ptr.At c) in omega arith) (omega arith)

  pub going_least : (s : Shared) (q : Pred) (l : Ptr) → pops + 1 ≤ going_left L a s q l
  unfolding going_left
  going_least s q Ptr.Null = omega arith
  going_least s q (Ptr.At c) = at_least _ _ _ _ (omega arith) (omega arith)

  -- where the word of the predecessor is the pointer itself
  pub going_at : (s : Shared) (q : Pred) (l : Ptr) → read (pred_word q) s ≡ pointer l → going_left L a s q l ≤ 2 * a l + pops + 1
  unfolding going_left pointer
  going_at s q Ptr.Null e = omega arith
  going_at s q (Ptr.At c) e = rw (when_equal (2 * a (Ptr.At c) + pops + 1) (2 * L + pops + 3) e) (omega arith)

  -- it does not look at the queue, ..
  pub going_tail : (s : Shared) (v : ℕ) (q : Pred) (l : Ptr) → going_left L a (write Word.QueueTail v s) q l ≡ going_left L a s q l
  unfolding going_left read write pred_word
  going_tail s v q Ptr.Null = refl
  going_tail s v Pred.Head (Ptr.At c) = refl
  going_tail s v (Pred.Entry x) (Ptr.At c) = refl

  pub going_next : (s : Shared) (n : Node) (v : ℕ) (q : Pred) (l : Ptr) → going_left L a (write (Word.NodeNext n) v s) q l ≡ going_left L a s q l
  unfolding going_left read write pred_word
  going_next s n v q Ptr.Null = refl
  going_next s n v Pred.Head (Ptr.At c) = refl
  going_next s n v (Pred.Entry x) (Ptr.At c) = refl

  -- .. nor does what goes on after a push
  then_by : (s s' : Shared) → ((q : Pred) (l : Ptr) → going_left L a s' q l ≡ going_left L a s q l) → (f : Then) → then_left L a s' f ≡ then_left L a s f
  unfolding then_left defer_left
  then_by s s' h (Then.Defer (Deferring.Token token)) = refl
  then_by s s' h (Then.Defer (Deferring.Slot t c succ)) = rw (h c.pred succ) refl
  then_by s s' h (Then.Defer (Deferring.Node p head next)) = refl
  then_by s s' h Then.Flush = refl
  then_by s s' h Then.Finalize = refl

  pub then_tail : (s : Shared) (v : ℕ) (f : Then) → then_left L a (write Word.QueueTail v s) f ≡ then_left L a s f
  then_tail s v f = then_by s (write Word.QueueTail v s) (going_tail s v) f

  pub then_next : (s : Shared) (n : Node) (v : ℕ) (f : Then) → then_left L a (write (Word.NodeNext n) v s) f ≡ then_left L a s f
  then_next s n v f = then_by s (write (Word.NodeNext n) v s) (going_next s n v) f
