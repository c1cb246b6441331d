-- What follows an access, on the lent lists, is the definition's `follow` on the tables that they hold. Assumes nothing.
use mathlib.Core.Path.{◌≡◌, refl, ap, sym, ◌∙◌}
use mathlib.Core.Bool.{false}
use Prim.Native.Nat.{ℕ, ◌+◌, ◌-◌, ◌*◌, ◌≤◌, ◌<◌}
use native.Mathlib.Omega.{arith}
use lib.ListN.{length, get_or, set, drop, length-set, length-drop}
use lib.Seq.{get_or-set_same, get_or-set_other, length-paste}
use Rattle.definition.specs.Bags.{max_objects, tokens}
use Rattle.definition.specs.Codec.{record_of}
use Rattle.definition.specs.Tables.{Tables}
use Rattle.definition.specs.Tables as T
use Rattle.definition.specs.Layout.{Lent, cell, global_words, participant_words, node_words, record_at, shared_from, bag_from, slot_bits, node_bits, tables_of}
use Rattle.definition.specs.Ranges.{bit_words}
use Rattle.definition.specs.Step.{settle, put_item, seal_into, free_bag, freed_by, in_bag, follow}
use Rattle.definition.specs.declared.Work.{Work}
use Rattle.definition.specs.declared.After.{After}
use Rattle.definition.proofs.Lists.{Sized}
use Rattle.bits.proofs.Laws.{bits_same, length-marked}
use Rattle.bags.proofs.Nodes.{length-stamped}
use Rattle.bags.specs.Bags.{bag_items}
use Rattle.bags.proofs.Freeing.{length-free_items, bag-items}
use Rattle.records.specs.Stores.{stored_lent}
use Rattle.records.proofs.Laws.{stored_tables, stored_length}
use Rattle.settle.specs.Settle.{settled_globals, settled_nodes, settled_held, settled_queued, settled_tokens, settled_lent}
use Rattle.settle.proofs.Laws.{Fits, settled}
use Rattle.follow.specs.Follow.{aside_globals, followed_lent}

-- a list of `globals` with another set-aside total holds the same tables but for it
pub aside-tables : (N M : ℕ) (l : Lent) (v : ℕ) → 4 < length l.globals
    → tables_of N M (record { globals = set l.globals 4 v; participants = l.participants; nodes = l.nodes; held = l.held; queued = l.queued })
    ≡ T.with_aside v (tables_of N M l)
unfolding tables_of shared_from slot_bits node_bits global_words
aside-tables N M l v h =
    let other : (j : ℕ) → (j ≡ 4 → ⊥) → get_or (set l.globals 4 v) j 0 ≡ get_or l.globals j 0 = λ j ne. get_or-set_other l.globals 4 j v 0 ne in
    λ i. record {
      shared = record {
        global_epoch = other 0 (λ e. omega arith) i;
        list_head = other 1 (λ e. omega arith) i;
        entry_next = λ k. cell participant_words l.participants k 1;
        word = λ k. cell participant_words l.participants k 0;
        queue_head = other 2 (λ e. omega arith) i;
        queue_tail = other 3 (λ e. omega arith) i;
        node_next = λ k. cell node_words l.nodes k 0;
      };
      own = λ k. record_at (cell participant_words l.participants k);
      held = cell max_objects l.held;
      bag = bag_from l.nodes l.queued;
      slot_free = bits_same (bit_words N) (λ k. get_or (set l.globals 4 v) (5 + k) 0) (λ k. get_or l.globals (5 + k) 0)
          (λ j _. other (5 + j) (λ e. omega arith)) i;
      node_free = bits_same (bit_words M) (λ k. get_or (set l.globals 4 v) (5 + bit_words N + k) 0) (λ k. get_or l.globals (5 + bit_words N + k) 0)
          (λ j _. other (5 + bit_words N + j) (λ e. omega arith)) i;
      aside = get_or-set_same l.globals 4 v 0 h i;
    }

-- the set-aside total of tables is the fifth word of `globals`; each record is a row of `participants`
total_of : (N M : ℕ) (l : Lent) → (tables_of N M l).aside ≡ get_or l.globals 4 0
unfolding tables_of
total_of N M l = refl

own_of : (N M : ℕ) (l : Lent) (p : ℕ) → (tables_of N M l).own p ≡ record_at (cell participant_words l.participants p)
unfolding tables_of
own_of N M l p = refl

-- the private work leaves the set-aside total as it was
settle-aside : (p : ℕ) (w : Work) (t : Tables) → (settle p w t).aside ≡ t.aside
unfolding settle put_item seal_into free_bag
settle-aside p Work.Nothing t = refl
settle-aside p (Work.Put i) t = refl
settle-aside p (Work.PutThenFree i x) t = refl
settle-aside p (Work.Seal x e) t = refl

module _ (N M p k : ℕ) (l : Lent) (s : Sized N M l) (hp : p < N) where
  -- the lists that it leaves are as long as they were
  pub settled_sized : (w : Work) → Fits N M p k w l → Sized N M (settled_lent N p k w l)
  unfolding settled_globals settled_nodes settled_held settled_queued Fits
  settled_sized Work.Nothing f = record { globals = s.globals; participants = s.participants; nodes = s.nodes; held = s.held; queued = s.queued }
  settled_sized (Work.Put i) f =
      record { globals = s.globals; participants = s.participants; nodes = s.nodes; held = length-set l.held (p * 64 + k) _ ∙ s.held; queued = s.queued }
  settled_sized (Work.PutThenFree i x) f = record {
    globals = length-free_items N (bag_items l.nodes l.queued x.0) l.globals ∙ s.globals;
    participants = s.participants;
    nodes = length-set l.nodes (x.0 * 3 + 2) 0 ∙ s.nodes;
    held = length-set l.held (p * 64 + k) _ ∙ s.held;
    queued = s.queued;
  }
  settled_sized (Work.Seal x e) f = record {
    globals = length-marked l.globals (global_words + bit_words N) x.0 false ∙ s.globals;
    participants = s.participants;
    nodes = length-stamped l.nodes x.0 e.0 k (rw s.nodes (let h : x.0 < M = f.1 in omega arith)) ∙ s.nodes;
    held = s.held;
    queued = length-paste l.queued (x.0 * 64) (drop (p * 64) l.held) k
        (rw s.queued (let h : x.0 < M = f.1 in let small : k ≤ 64 = f.0 in omega arith))
        (rw (length-drop (p * 64) l.held, s.held) (let small : k ≤ 64 = f.0 in omega arith)) ∙ s.queued;
  }

  -- and the set-aside total is as it was
  pub settled_total : (record_at (cell participant_words l.participants p)).held ≡ k → (w : Work) → Fits N M p k w l
      → get_or (settled_globals N w l.globals l.nodes l.queued) 4 0 ≡ get_or l.globals 4 0
  settled_total held w f =
      sym (total_of N M (settled_lent N p k w l)) ∙ ap (λ (t : Tables). t.aside) (settled N M p k l s hp held w f)
      ∙ settle-aside p w (tables_of N M l) ∙ total_of N M l

  -- the tokens that come out are the definition's
  pub tokens_same : (w : Work) → Fits N M p k w l → settled_tokens w l.nodes l.queued ≡ freed_by w (tables_of N M l)
  unfolding settled_tokens freed_by in_bag tables_of Fits
  tokens_same Work.Nothing f = refl
  tokens_same (Work.Put i) f = refl
  tokens_same (Work.PutThenFree i x) f = ap tokens (bag-items N M l.nodes l.queued x.0 f.1.1)
  tokens_same (Work.Seal x e) f = refl

  module _ (share : ℕ) (a : After) (f : Fits N M p k a.work l) where
    -- all of what follows leaves lists of the same lengths
    pub followed-sized : Sized N M (followed_lent N p k share a l)
    unfolding aside_globals
    followed-sized =
        let w : Sized N M (settled_lent N p k a.work l) = settled_sized a.work f in
        record {
          globals = length-set (settled_globals N a.work l.globals l.nodes l.queued) 4 _ ∙ w.globals;
          participants = stored_length l.participants p (record_of a.participant) ∙ s.participants;
          nodes = w.nodes;
          held = w.held;
          queued = w.queued;
        }

    -- and they hold the definition's tables
    pub followed-tables : ((record_at (cell participant_words l.participants p)).held ≡ k)
        → ((record_at (cell participant_words l.participants p)).share ≡ share)
        → tables_of N M (followed_lent N p k share a l) ≡ (follow p a (tables_of N M l)).tables
    unfolding aside_globals follow
    followed-tables held shares =
        let done : Lent = settled_lent N p k a.work l in
        let size : Sized N M done = settled_sized a.work f in
        let same : tables_of N M done ≡ settle p a.work (tables_of N M l) = settled N M p k l s hp held a.work f in
        let total : get_or done.globals 4 0 ≡ (tables_of N M l).aside =
        sym (total_of N M done) ∙ ap (λ (t : Tables). t.aside) same ∙ settle-aside p a.work (tables_of N M l) in
        let own : ((tables_of N M l).own p).share ≡ share = rw (own_of N M l p) shares in
        let record' = record_of a.participant in
        let aside = get_or done.globals 4 0 - share + a.participant.share in
        aside-tables N M (stored_lent done p record') aside (rw size.globals (omega arith))
        ∙ ap (T.with_aside aside) (stored_tables N M done p record' (rw s.participants (omega arith)) ∙ ap (T.with_own p record') same)
        ∙ ap (λ (v : ℕ). T.with_aside v (T.with_own p record' (settle p a.work (tables_of N M l)))) (rw (total, own) refl)
