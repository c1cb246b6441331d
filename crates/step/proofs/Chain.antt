-- The values that the code of a step computes, one after another, and what follows from them: `follow` may be called, and what it leaves is the
-- definition's step. Over plain variables, so that nothing of the code stands here. Assumes nothing.
use mathlib.Core.Path.{◌≡◌, ap, ◌∙◌}
use mathlib.Core.Bool.{Bool, true}
use mathlib.Core.List.{List}
use Prim.Native.Nat.{ℕ, ◌+◌, ◌*◌, ◌%◌, ◌≤◌}
use native.Mathlib.Omega.{arith}
use lib.ListN.{length}
use Rattle.definition.specs.Base.{least}
use Rattle.definition.specs.Links.{index}
use Rattle.definition.specs.Codec.{participant_of}
use Rattle.definition.specs.Layout.{Lent, cell, global_words, participant_words, record_at, node_bits, tables_of}
use Rattle.definition.specs.Ranges.{bit_words}
use Rattle.definition.specs.Rule.{asks, follows}
use Rattle.definition.specs.Internal.{rule}
use Rattle.definition.specs.Step.{take_marked}
use Rattle.definition.specs.Types.{slot, node}
use Rattle.definition.specs.declared.Node.{Node}
use Rattle.definition.specs.declared.Participant.{Participant}
use Rattle.definition.specs.declared.Ask.{Ask}
use Rattle.definition.specs.declared.Seen.{Seen}
use Rattle.definition.specs.declared.After.{After}
use Rattle.definition.specs.declared.Answer.{Answer}
use Rattle.bits.specs.Bits.{within}
use Rattle.bags.specs.Bags.{bag_seal}
use Rattle.internal.specs.Fits.{PlaceFits}
use Rattle.words.specs.Words.{named, word_in, Made}
use Rattle.words.proofs.Laws.{length-left-nodes, comes_to, comes_in, made-left}
use Rattle.follow.specs.Follow.{Follows, Followed}
use Rattle.step.specs.Steps.{Steps, Leaves}
use Rattle.step.proofs.Laws.{own, ask, after, left, size, asked_in, words_there, few_nodes, look_for, own_loaded, place_ok, ask_is, after_is, carries, step_is}
use Rattle.step.proofs.Carry.{places_for, may_carry, carried-leaves}

-- what the callees promise: the lists are l, and l₁ after the access; where they are only read they are r and r₁
pub record Chain (N M p : ℕ) (marked : Bool) (l r : Lent) (o : Participant) (free : ℕ) (x : Ask) (seen : Seen) (l₁ r₁ : Lent)
    (seal : ℕ) (a : After) : Type 0 where
  pub read : r ≡ l
  pub loaded : o ≡ participant_of (record_at (cell participant_words r.participants p))
  pub first : free ≡ least M (node_bits N M r.globals)
  pub asked : (y : Node) (z : Node → ℕ) → x ≡ asks (rule (slot p) y z o o.place)
  pub made : Made marked x l seen l₁
  pub again : r₁ ≡ l₁
  pub sealed : seal ≡ bag_seal r₁.nodes (index seen.value)
  pub then : a ≡ follows (rule (slot p) (node free) (λ n. seal) o o.place) seen

-- the calls before it may be made
module _ (N M p : ℕ) (l : Lent) (f : List ℕ) (s : Steps N M p l f) (r : Lent) (e : r ≡ l) where
  pub row_ok : p * 21 + 21 ≤ length r.participants
  row_ok = let below = s.below in rw (e, (size N M p l s.sound s.below s.present).participants) (omega arith)

  pub words_ok : global_words + bit_words N + bit_words M ≤ length r.globals
  words_ok = rw e (words_there N M p l s.sound s.below s.present)

  pub bits_ok : (M ≤ 4096) × (within (bit_words M) M (node_bits N M r.globals) ≡ true)
  bits_ok = rw e (few_nodes N M p l s.sound s.below s.present, look_for N M p l s.sound s.below s.present)

  module _ (o : Participant) (loaded : o ≡ participant_of (record_at (cell participant_words r.participants p))) where
    loaded_so : o ≡ participant_of (record_at (cell participant_words l.participants p))
    loaded_so = rw e at loaded

    pub fits_ok : PlaceFits (slot p) o.place
    fits_ok = place_ok N M p l s.sound s.below s.present o loaded_so

    module _ (x : Ask) (asked : (y : Node) (z : Node → ℕ) → x ≡ asks (rule (slot p) y z o o.place)) where
      pub perform_ok : word_in (named x) l
      perform_ok = rw (ask_is N M p l s.sound s.below s.present o loaded_so x asked) (asked_in N M p l s.sound s.below s.present)

      pub nodes_ok : (marked : Bool) (seen : Seen) (l₁ : Lent) → Made marked x l seen l₁ → (r₁ : Lent) → r₁ ≡ l₁ → length r₁.nodes % 3 ≡ 0
      nodes_ok marked seen l₁ m r₁ again =
          let nodes : length r₁.nodes ≡ M * 3 =
          ap (λ (l : Lent). length l.nodes) (again ∙ made-left marked x l seen l₁ m)
          ∙ length-left-nodes (comes_to marked x) l (comes_in marked x l perform_ok)
          ∙ (size N M p l s.sound s.below s.present).nodes in
          omega arith

module _ (N M p : ℕ) (marked : Bool) (l r : Lent) (f : List ℕ) (s : Steps N M p l f) (o : Participant) (free : ℕ) (x : Ask) (seen : Seen) (l₁ r₁ : Lent)
    (seal : ℕ) (a : After) (c : Chain N M p marked l r o free x seen l₁ r₁ seal a) where
  loaded_is : o ≡ participant_of (record_at (cell participant_words l.participants p))
  loaded_is = loaded_so N M p l f s r c.read o c.loaded

  o_is : o ≡ own N M p l s.sound s.below s.present
  o_is = own_loaded N M p l s.sound s.below s.present o loaded_is

  x_is : x ≡ ask N M p l s.sound s.below s.present
  x_is = ask_is N M p l s.sound s.below s.present o loaded_is x c.asked

  made_so : Made marked (ask N M p l s.sound s.below s.present) l seen l₁
  made_so = rw x_is at c.made

  left_is : l₁ ≡ left N M p l s.sound s.below s.present marked
  left_is = made-left marked _ l seen l₁ made_so

  a_is : a ≡ after N M p l s.sound s.below s.present marked
  a_is = after_is N M p l s.sound s.below s.present o loaded_is marked free seen seal a (rw c.read at c.first) made_so.seen
      (c.sealed ∙ ap (λ (l : Lent). bag_seal l.nodes (index seen.value)) (c.again ∙ left_is)) c.then

  -- `follow` may be called
  pub may_follow : Follows N p o.held o.share a l₁ f
  may_follow = rw (o_is, a_is, left_is) (may_carry N M p _ _ _ (carries N M p l s.sound s.below s.present marked) f (places_for _ f s.places))

  -- and what it leaves is the definition's
  pub leaves-step : (w : Answer) (l' : Lent) (f' : List ℕ) → Followed N p o.held o.share a l₁ f w l' f'
      → Leaves N M (take_marked marked M p (tables_of N M l)) f w l' f'
  leaves-step w l' f' e =
      rw (← step_is N M p l s.sound s.below s.present marked)
      (carried-leaves N M p _ _ _ (carries N M p l s.sound s.below s.present marked) f w l' f' (rw (o_is, a_is, left_is) at e))
