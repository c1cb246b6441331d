-- The lists that a program owns, as the definition has them. Assumes nothing.
use Rattle.std.specs.Prelude.{◌≡◌, ℕ, List, replicate}
use Rattle.std.specs.Fn.{Once}
use denote.Ref.{MutBor}
use Rattle.definition.specs.Layout.{Lent}
use Rattle.lent.specs.Lists.{lent, Same}
use Rattle.lent.specs.declared.ListsMut.{ListsMut}
use Rattle.player.specs.declared.Tables.{Tables}

-- the five lists
abbrev pub owned : Tables → Lent
owned t = record { globals = t.globals; participants = t.participants; nodes = t.nodes; held = t.held; queued = t.queued }

-- nothing but zeros
abbrev pub AreZeros : Tables → Type 0
AreZeros t = (t.globals ≡ replicate 8 0) × (t.participants ≡ replicate 672 0) × (t.nodes ≡ replicate 384 0) × (t.held ≡ replicate 2048 0)
    × (t.queued ≡ replicate 8192 0) × (t.freed ≡ replicate 64 0)

-- f is a call that the lists are lent to, with the list for freed tokens
module _ {F R : Type 0} (g : Once F (MutBor ListsMut × (MutBor (List ℕ) × Unit {0})) (R × (MutBor ListsMut × (MutBor (List ℕ) × Unit {0})))) (f : F) where
  -- it leaves them lent
  abbrev pub KeepsLent : Type 0
  KeepsLent = (l l' : MutBor ListsMut) (p p' : MutBor (List ℕ)) (r : R) → g.post f (l, (p, tt)) (r, (l', (p', tt))) → Same l.now l'.now

  -- it may give r, and what it leaves in them is what the program has then
  pub record IsLentTo (t : Tables) (r : R) (t' : Tables) : Type 0 where
    pub lists : MutBor ListsMut
    pub freed : MutBor (List ℕ)
    pub left : MutBor ListsMut
    pub left_freed : MutBor (List ℕ)
    pub n : lists.now.n ≡ 32
    pub m : lists.now.m ≡ 128
    pub shows : lent lists.now ≡ owned t
    pub shows_freed : freed.now ≡ t.freed
    pub met : g.post f (lists, (freed, tt)) (r, (left, (left_freed, tt)))
    pub leaves : owned t' ≡ lent left.now
    pub leaves_freed : t'.freed ≡ left_freed.now
