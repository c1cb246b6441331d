-- What a turn of each loop does to what its function promises. Assumes nothing.
use mathlib.Core.Path.{◌≡◌, refl, sym, ap, ◌∙◌}
use mathlib.Core.Bool.{Bool, true, false, ◌||◌}
use mathlib.Core.List.{List, [], ◌∷◌, ◌++◌, append-nil}
use Prim.Native.Nat.{ℕ, zero, suc, ◌+◌, ◌≤◌, ◌<◌}
use native.Mathlib.Numerals.{add-one}
use native.Mathlib.Omega.{arith}
use lib.ListN.{length, get_or, set, take, drop, length-append}
use lib.Seq.{take-length, drop-cons, set-append_seam, append_snoc, sets}
use Rattle.std.specs.List.{list_any}
use Rattle.std.proofs.lemmas.List.Folds.{list_any_more}
use Rattle.definition.specs.Base.{branch, Tab, listed, among}
use Rattle.definition.specs.Bags.{item_of, items, tokens}
use Rattle.definition.specs.declared.Item.{Item}
use Rattle.definition.proofs.Base.{all_at}
use Rattle.definition.proofs.Held.{tokens_append, held_none, held_more}
use Rattle.bits.specs.Bits.{words_of}
use Rattle.bags.specs.Bags.{filled, free_item, free_items, has_bit, have_bits}
use Rattle.bags.proofs.Freeing.{length-free_items}
use Rattle.bags.proofs.Items.{free_items_append, tokens_few, length-filled}

-- one or the other, as a choice
or_branch : (a b : Bool) → (a || b) ≡ branch a true b
unfolding branch
or_branch true b = refl
or_branch false b = refl

-- `holds_token`: whether the token is among the first m words of a bag
held_any : (x : ℕ) (ws : List ℕ) (m : ℕ) → m ≤ length ws
    → list_any (λ w. among x (tokens (item_of w ∷ []))) (take m ws) ≡ among x (tokens (items m (words_of ws)))
held_any x ws zero l = sym (held_none x (words_of ws))
held_any x ws (suc m) l =
    let one : ℕ → Bool = λ w. among x (tokens (item_of w ∷ [])) in
    ap (λ (n : ℕ). list_any one (take n ws)) (sym (add-one m)) ∙ list_any_more one ws m 0 l
    ∙ rw (held_any x ws m (omega arith)) (or_branch (among x (tokens (items m (words_of ws)))) (one (get_or ws m 0)))
    ∙ sym (held_more x (words_of ws) m)

-- and among all of them
pub held_all : (x : ℕ) (ws : List ℕ)
    → list_any (λ w. among x (tokens (item_of w ∷ []))) ws ≡ among x (tokens (items (length ws) (words_of ws)))
held_all x ws =
    ap (list_any (λ w. among x (tokens (item_of w ∷ [])))) (sym (take-length ws)) ∙ held_any x ws (length ws) (omega arith)

-- ---- `free_items`: one more item is freed

-- one more item is one at the end
items_more : (j : ℕ) (d : Tab ℕ) → items (j + 1) d ≡ items j d ++ item_of (d j) ∷ []
unfolding items listed
items_more j d = rw add-one

-- its token goes behind those that stand at the front already
filled_more : (ts l : List ℕ) (item : Item) → length ts < length l
    → sets (filled ts l) (length ts) (tokens (item ∷ [])) ≡ filled (ts ++ tokens (item ∷ [])) l
unfolding tokens
filled_more ts l (Item.Token t) h =
    ap (λ (r : List ℕ). set (ts ++ r) (length ts) t) (drop-cons l (length ts) 0 h)
    ∙ set-append_seam ts (get_or l (length ts) 0) (drop (suc (length ts)) l) t
    ∙ sym (append_snoc ts t (drop (suc (length ts)) l))
    ∙ ap (λ (k : ℕ). (ts ++ (t ∷ [])) ++ drop k l) (sym (length-append ts (t ∷ []) ∙ add-one (length ts)))
filled_more ts l (Item.Node n) h = rw append-nil
filled_more ts l (Item.Slot s) h = rw append-nil

-- j of the items d are freed: the bits g were g₀, the list f was f₀, and t of its places are filled
pub record Freed (N : ℕ) (d : Tab ℕ) (g₀ f₀ g f : List ℕ) (t j : ℕ) : Type 0 where
  pub count : t ≡ length (tokens (items j d))
  pub bits : g ≡ free_items N (items j d) g₀
  pub front : f ≡ filled (tokens (items j d)) f₀

-- none of them
pub freed_none : (N : ℕ) (d : Tab ℕ) (g f : List ℕ) → Freed N d g f g f 0 0
unfolding items listed tokens free_items
freed_none N d g f = record { count = refl; bits = refl; front = refl }

module _ {N : ℕ} {d : Tab ℕ} {g₀ f₀ g f : List ℕ} {t j : ℕ} (h : Freed N d g₀ f₀ g f t j) where
  -- the bits stand in a list as long as it was
  pub freed-bits-length : length g ≡ length g₀
  freed-bits-length = ap length h.bits ∙ length-free_items N (items j d) g₀

  -- at most j places are filled
  pub freed_few : t ≤ j
  freed_few = omega (arith, tokens_few j d)

  -- of a list as long as it was
  pub freed_front_length : j ≤ length f₀ → length f ≡ length f₀
  freed_front_length l = ap length h.front ∙ length-filled (tokens (items j d)) f₀ (omega (arith, tokens_few j d))

  -- and one more
  pub freed_more : (item : Item) (g' f' : List ℕ) (t' : ℕ) → j < length f₀ → item ≡ item_of (d j) → g' ≡ free_item N item g
      → (t' ≡ t + length (tokens (item ∷ []))) × (f' ≡ sets f t (tokens (item ∷ []))) → Freed N d g₀ f₀ g' f' t' (j + 1)
  unfolding free_items
  freed_more item g' f' t' l e eg ef =
      let ts : List ℕ = tokens (items j d) in
      let one : List Item = item ∷ [] in
      let more : items (j + 1) d ≡ items j d ++ one = items_more j d ∙ ap (λ (i : Item). items j d ++ i ∷ []) (sym e) in
      let out : tokens (items (j + 1) d) ≡ ts ++ tokens one = ap tokens more ∙ tokens_append (items j d) one in
      record {
        count = ef.0 ∙ ap (λ (n : ℕ). n + length (tokens one)) h.count ∙ sym (ap length out ∙ length-append ts (tokens one));
        bits = eg ∙ ap (free_item N item) h.bits
            ∙ sym (ap (λ (i : List Item). free_items N i g₀) more ∙ free_items_append N (items j d) one g₀);
        front = ef.1
            ∙ rw (h.front, h.count) (filled_more ts f₀ item (omega (arith, tokens_few j d)) ∙ ap (λ (r : List ℕ). filled r f₀) (sym out));
      }

  -- its bit has a word in the list
  pub freed-has_bit : (k : ℕ) (item : Item) → have_bits N (length g₀) k d ≡ true → j < k → item ≡ item_of (d j) → has_bit N (length g) item ≡ true
  freed-has_bit k item has l e =
      let all : Tab Bool = λ j. has_bit N (length g₀) (item_of (d j)) in
      rw (freed-bits-length, e) (all_at k all j has l)

  -- as the loop does it: a token
  pub freed_token : (x : ℕ) → j < length f₀ → Item.Token x ≡ item_of (d j) → Freed N d g₀ f₀ g (set f t x) (t + 1) (j + 1)
  unfolding free_item tokens
  freed_token x l e = freed_more (Item.Token x) g (set f t x) (t + 1) l e refl (refl, refl)

  -- and an item that is none
  pub freed_index : (item : Item) (g' : List ℕ) → tokens (item ∷ []) ≡ [] → j < length f₀ → item ≡ item_of (d j) → g' ≡ free_item N item g
      → Freed N d g₀ f₀ g' f t (j + 1)
  freed_index item g' none l e eg = freed_more item g' f t l e eg (rw none (omega arith, refl))
