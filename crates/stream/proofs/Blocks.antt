-- Lemmas on a block that is filled from its front, and on the blocks that a function is called at.
use Rattle.std.proofs.Common.{◌≡◌, ℕ, ◌+◌, ◌-◌, ◌≤◌, List, [], ◌∷◌, ◌++◌, length, take, drop, refl, sym, ap, ◌∙◌, subst, arith}
use Rattle.std.proofs.Common.{le_refl, drop_at, length-take-le, append-nil, length-append}
use Rattle.std.proofs.lemmas.Slice.{take-put_mid_below}
use Rattle.std.specs.Prelude.{◌^◌, Option, Result, Ok}
use Rattle.std.specs.List.{All, concat, FoldsTo}
use Rattle.std.specs.Fn.{Mut, CalledAt}
use Rattle.std.specs.Io.KnownBytes.{Consumes, IsAtEnd}
use Rattle.std.proofs.KnownBytes.{Consumes-nil, Consumes-trans}
use Rattle.std.proofs.lemmas.Fn.{FoldsTo-push}
use Rattle.std.proofs.lemmas.List.Elements.{All-nil, All-push}
use Rattle.std.proofs.lemmas.List.Folds.{concat-append}
use denote.Ref.{Bor}
use Rattle.stream.specs.Blocks.{IsGivenTo}
use borrow.Rule.Slice.PartMut.{put_mid, post_of}
use lib.Seq.{take-add, take-append-le}

-- the first `at` elements as they were, and then the first `n` of those that were put at `at`
pub front_and_more : (at k n : ℕ) (xs ys : List ℕ) → at ≤ length xs → n ≤ length ys → take at xs ++ take n ys ≡ take (at + n) (put_mid at k xs ys)
front_and_more at k n xs ys within fits =
    let rest = post_of at k xs in
    let front = take-put_mid_below at k xs ys at (le_refl at) within in
    let more = ap (take n) (drop_at (take at xs) (ys ++ rest) at (length-take-le at xs within)) ∙ take-append-le n ys rest fits in
    sym (take-add at n (put_mid at k xs ys) ∙ ap (λ l. l ++ take n (drop at (put_mid at k xs ys))) front ∙ ap (λ l. take at xs ++ l) more)

module _ {F E : Type 0} (g : Mut F (Bor (List ℕ) × Unit {0}) (Result (Unit {0}) E)) (f : F) (k : ℕ) (old : Option (List ℕ)) where
  -- so far: n blocks of k, after which f is f' and the reader has `mid` left
  pub record GivenSoFar (mid : Option (List ℕ)) (f' : F) (n : ℕ) : Type 0 where
    pub whole : List (List ℕ)
    pub sizes : All (λ b. length b ≡ k) whole
    pub calls : FoldsTo (λ p b q. CalledAt g p b (Ok tt) q) f whole f'
    pub bytes : Consumes old mid (concat whole)
    pub count : length whole ≡ n

  pub none_given : GivenSoFar old f 0
  none_given = record { whole = []; sizes = All-nil _; calls = refl; bytes = Consumes-nil old; count = refl }

  -- the bytes of one block more
  more_bytes : (mid new : Option (List ℕ)) (bs : List (List ℕ)) (b : List ℕ) → Consumes old mid (concat bs) → Consumes mid new b
      → Consumes old new (concat (bs ++ b ∷ []))
  more_bytes mid new bs b had bytes =
      subst (Consumes old new) (sym (concat-append bs (b ∷ []) ∙ ap (λ l. concat bs ++ l) (append-nil b))) (Consumes-trans old mid new _ _ had bytes)

  -- one block more
  pub given_more : (mid new : Option (List ℕ)) (f' f'' : F) (n : ℕ) (b : List ℕ) → GivenSoFar mid f' n → length b ≡ k → CalledAt g f' b (Ok tt) f''
      → Consumes mid new b → GivenSoFar new f'' (n + 1)
  given_more mid new f' f'' n b h full call bytes = record {
    whole = h.whole ++ b ∷ [];
    sizes = All-push (λ b. length b ≡ k) h.whole b h.sizes full;
    calls = FoldsTo-push _ f h.whole f' b f'' h.calls call;
    bytes = more_bytes mid new h.whole b h.bytes bytes;
    count = length-append h.whole (b ∷ []) ∙ ap (λ n. n + 1) h.count;
  }

  -- and a last one
  pub given_last : (mid new : Option (List ℕ)) (f' f'' : F) (n : ℕ) (b : List ℕ) → GivenSoFar mid f' n → CalledAt g f' b (Ok tt) f''
      → Consumes mid new b → IsAtEnd new → IsGivenTo g f k old new
  given_last mid new f' f'' n b h call bytes end = record {
    whole = h.whole;
    rest = b ∷ [];
    last = f'';
    sizes = h.sizes;
    one = omega arith;
    calls = FoldsTo-push _ f h.whole f' b f'' h.calls call;
    bytes = more_bytes mid new h.whole b h.bytes bytes;
    end = λ _. end;
  }

  -- and that is all
  pub all_given : (new : Option (List ℕ)) (f' : F) (n : ℕ) → GivenSoFar new f' n → 2 ^ 64 - 1 ≤ n → IsGivenTo g f k old new
  all_given new f' n h many = record {
    whole = h.whole;
    rest = [];
    last = f';
    sizes = h.sizes;
    one = omega arith;
    calls = rw (append-nil h.whole) h.calls;
    bytes = rw (append-nil h.whole) h.bytes;
    end = λ few. absurd (omega (arith, h.count));
  }
