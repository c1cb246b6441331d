-- Each access from the read and the store that make it, over plain variables: what the functions of the crate do is what the definition says.
-- Assumes nothing.
use mathlib.Core.Path.{◌≡◌, refl, sym, ap, ◌∙◌}
use mathlib.Core.Bool.{Bool, true, false}
use Prim.Native.Nat.{ℕ}
use native.Mathlib.Omega.{arith}
use lib.Bits.{bit_or, and_mask, or_add_and}
use lib.Dec.{eqb}
use borrow.Author.Tests.{eq-eqb, ne_eqb}
use Rattle.definition.specs.Base.{branch}
use Rattle.definition.specs.Links.{tagged}
use Rattle.definition.specs.Tables.{read}
use Rattle.definition.specs.Rule.{agrees, sees, is_weak, fails, missed}
use Rattle.definition.specs.Layout.{Lent}
use Rattle.definition.specs.declared.Word.{Word}
use Rattle.definition.specs.declared.Ask.{Ask}
use Rattle.definition.specs.declared.Seen.{Seen}
use Rattle.words.specs.Words.{shared_of, word_of, write_lent, left_by, Made}

-- the mark has no effect where the access is no weak exchange
pub unmarked : (marked : Bool) (ask : Ask) (l : Lent) (r : Seen) (l' : Lent) → is_weak ask ≡ false → Made false ask l r l' → Made marked ask l r l'
unfolding fails branch
unmarked true ask l r l' plain m = record { seen = rw plain m.seen; lent = rw plain m.lent }
unmarked false ask l r l' plain m = m

-- `w | 1` sets the tag
tag_or : (w : ℕ) → bit_or w 1 ≡ tagged w
unfolding tagged
tag_or w = omega (arith, or_add_and w 1, and_mask w 1)

module _ (l : Lent) (w : Word) where
  -- a load: the word's value, and nothing is stored
  pub loaded : (found : ℕ) → found ≡ word_of w l → Made false (Ask.Load w) l (record { value = found; won = true }) l
  unfolding sees left_by fails branch
  loaded found r = record { seen = rw r; lent = refl }

  module _ (l' : Lent) where
    -- a store
    pub stored : (v : ℕ) → l' ≡ write_lent w v l → Made false (Ask.Store w v) l (record { value = 0; won = true }) l'
    unfolding sees left_by fails branch
    stored v s = record { seen = refl; lent = s }

    -- an exchange of the value found: it is stored
    pub won : (e v found : ℕ) → found ≡ word_of w l → found ≡ e → l' ≡ write_lent w v l
        → Made false (Ask.Exchange w e v) l (record { value = found; won = eqb found e }) l'
    unfolding sees agrees left_by fails branch
    won e v found r same s = record { seen = rw r; lent = rw (eq-eqb _ _ (sym r ∙ same)) s }

    -- the weak exchange that is not marked is the exchange
    pub weakly : (marked : Bool) → marked ≡ false → (e v : ℕ) {r : Seen} → Made false (Ask.Exchange w e v) l r l' → Made marked (Ask.ExchangeWeak w e v) l r l'
    unfolding sees left_by fails branch
    weakly marked off e v m = rw off (record { seen = m.seen; lent = m.lent })

    -- a `fetch_or` of the tag
    pub fetched : (found : ℕ) → found ≡ word_of w l → l' ≡ write_lent w (bit_or found 1) l
        → Made false (Ask.FetchOr w) l (record { value = found; won = true }) l'
    unfolding sees left_by fails branch
    fetched found r s =
        let t : bit_or found 1 ≡ tagged (read w (shared_of l)) = tag_or found ∙ ap tagged r in
        record { seen = rw r; lent = rw (← t) s }

  -- a weak exchange that is marked: its word's value, and nothing is stored
  pub failed : (marked : Bool) → marked ≡ true → (e v found : ℕ) → found ≡ word_of w l
      → Made marked (Ask.ExchangeWeak w e v) l (record { value = found; won = false }) l
  unfolding sees is_weak fails missed branch
  failed marked on e v found r = rw on (record { seen = rw r; lent = refl })

  -- an exchange of another value than the one found: nothing is stored
  pub lost : (e v found : ℕ) → found ≡ word_of w l → (found ≡ e → ⊥) → Made false (Ask.Exchange w e v) l (record { value = found; won = eqb found e }) l
  unfolding sees agrees left_by fails branch
  lost e v found r other = record { seen = rw r; lent = rw (ne_eqb _ _ (λ same. other (r ∙ same))) }
