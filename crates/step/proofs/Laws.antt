-- A step on lent lists that passed the checks: the access may be made, and what follows may be carried out. And the values that the code
-- computes are the definition's. Assumes nothing.
use mathlib.Core.Path.{◌≡◌, refl, ap, sym, ◌∙◌}
use mathlib.Core.Bool.{Bool, true, false, false≢true}
use Prim.Native.Nat.{ℕ, ◌+◌, ◌≤◌, ◌<◌}
use native.Mathlib.Omega.{arith}
use native.Mathlib.Nat.{le_refl}
use lib.Dec.{eqb}
use lib.ListN.{length, get_or}
use borrow.Author.Tests.{eq-eqb}
use Rattle.definition.specs.Base.{Tab, branch, count, least}
use Rattle.definition.specs.Bags.{SealedBag}
use Rattle.definition.specs.Links.{index, node_at}
use Rattle.definition.specs.Codec.{participant_of}
use Rattle.definition.specs.Tables.{Tables, with_shared}
use Rattle.definition.specs.Layout.{Lent, cell, global_words, participant_words, record_at, bag_from, node_bits, tables_of}
use Rattle.definition.specs.Ranges.{bit_words, bag_in, place_in}
use Rattle.definition.specs.Rule.{Rule, asks, follows, sees, leaves, fails, missed}
use Rattle.definition.specs.Internal.{rule}
use Rattle.definition.specs.Public.{takes_node, missing}
use Rattle.definition.specs.Step.{follow, rule_at, take_step, take_marked}
use Rattle.definition.specs.Types.{slot, node}
use Rattle.definition.specs.declared.Node.{Node}
use Rattle.definition.specs.declared.Participant.{Participant}
use Rattle.definition.specs.declared.Record.{Record}
use Rattle.definition.specs.declared.Ask.{Ask}
use Rattle.definition.specs.declared.Seen.{Seen}
use Rattle.definition.specs.declared.After.{After}
use Rattle.definition.proofs.Base.{count_least}
use Rattle.definition.proofs.Lists.{Sized, sized_is}
use Rattle.definition.proofs.Within.{PlaceIn, place_in_lem, AskIn, asks_in, WorkIn, AfterIn, follows_in}
use Rattle.definition.proofs.Kept.{ask_word, PlacedIn, place-kept, ShareLe, share_falls}
use Rattle.bits.specs.Bits.{within}
use Rattle.bits.proofs.Laws.{bits_in_is}
use Rattle.bags.specs.Bags.{bag_seal}
use Rattle.bags.proofs.Nodes.{bag-epoch}
use Rattle.internal.specs.Fits.{PlaceFits}
use Rattle.internal.proofs.Laws.{place-fits, one_seal_at}
use Rattle.words.specs.Words.{shared_of, named, word_in, left_lent, seen_by}
use Rattle.words.proofs.Laws.{length-left-globals, length-left-participants, length-left-nodes, kept-globals, kept_records, kept-bags}
use Rattle.words.proofs.Laws.{left-tables, comes_to, comes_in}
use Rattle.ranges.specs.Sound.{Sound}
use Rattle.ranges.proofs.Laws.{limits-small}
use Rattle.ranges.proofs.Facts.{Facts, facts, record_facts, record-place, bag-len-small}
use Rattle.step.proofs.Access.{read_in, ask_in, ask-word, follows-seen}
use Rattle.step.proofs.Room.{RoomFor, Roomy, work_room, spare_unused}
use Rattle.step.proofs.Carry.{Carries, freed_in}

module _ (N M p : ℕ) (l : Lent) (s : Sound N M l) (hp : p < N) (present : missing N M p (tables_of N M l) ≡ false) where
  -- the tables, the participant, its rule and its access
  abbrev pub tables : Tables
  tables = tables_of N M l

  abbrev pub own : Participant
  own = participant_of (tables.own p)

  abbrev pub spare : Node
  spare = node (least M tables.node_free)

  abbrev pub sealed : Node → ℕ
  sealed = λ n. (tables.bag n.0).epoch

  abbrev pub the_rule : Rule
  the_rule = rule (slot p) spare sealed own own.place

  abbrev pub ask : Ask
  ask = asks the_rule

  known : Facts N M tables
  known = facts N M tables s.range

  pub size : Sized N M l
  size = sized_is N M l s.lengths

  pub small : (1 ≤ N) × ((N ≤ 4096) × ((2 ≤ M) × (M ≤ 4096)))
  small = limits-small N M s.limits

  pub place_ranged : place_in N M own.place ≡ true
  place_ranged = record-place N M tables.aside (tables.own p) (known.records p hp)

  place-fact : PlaceIn N M own.place
  place-fact = place_in_lem N M own.place place_ranged

  ask-fact : AskIn N M ask
  ask-fact = asks_in N M p spare sealed own own.place hp place-fact

  pub asked_in : word_in (named ask) l
  asked_in = ask_in N M l size ask ask-fact

  -- a node that is taken is one of M; where none is taken any node serves
  with_spare : (P : Rule → Type 0) → ((x : Node) → x.0 < M → P (rule (slot p) x sealed own own.place)) → P the_rule
  unfolding missing
  with_spare P h = go (takes_node own.place) refl
    where
      go : (b : Bool) → takes_node own.place ≡ b → P the_rule
      go true e = h spare (count_least M tables.node_free (λ z. taken e (eq-eqb _ 0 z)))
        where
          taken : takes_node own.place ≡ true → eqb (count M tables.node_free) 0 ≡ true → ⊥
          taken e z = false≢true (sym present ∙ rw (e, z) refl)
      go false e = rw (spare_unused (slot p) spare (node 0) sealed own own.place e) (h (node 0) (let m = small.1.1.0 in omega arith))

  held-small : own.held ≤ 64
  unfolding participant_of
  held-small = bag-len-small N M (tables.own p).held (tables.held p) (known.held p hp)

  bags_known : (x : ℕ) → x < M → bag_in N M (bag_from l.nodes l.queued x).len (bag_from l.nodes l.queued x).deferreds ≡ true
  unfolding tables_of
  bags_known = known.bags

  -- the set-aside total covers the participant's share
  total_known : own.share ≤ get_or l.globals 4 0
  unfolding tables_of participant_of
  total_known = (record_facts N M tables.aside (tables.own p) (known.records p hp)).share

  total_small : get_or l.globals 4 0 ≤ M
  unfolding tables_of
  total_small = known.aside

  module _ (marked : Bool) where
    -- what follows on what the access sees, marked or not; what it comes to, and the lists that it leaves
    abbrev pub after : After
    after = follows the_rule (seen_by marked ask tables.shared)

    abbrev pub effect : Ask
    effect = comes_to marked ask

    abbrev pub left : Lent
    left = left_lent effect l

    effect_in : word_in (named effect) l
    effect_in = comes_in marked ask l asked_in

    work_in : WorkIn N M after.work
    unfolding AfterIn
    work_in = with_spare (λ r. AfterIn N M (follows r (seen_by marked (asks r) tables.shared)))
        (λ x lt. follows_in N M p x sealed own own.place _ lt place-fact)

    place-after : PlaceIn N M after.participant.place
    unfolding PlacedIn
    place-after = with_spare (λ r. PlacedIn N M (follows r (seen_by marked (asks r) tables.shared))) (λ x lt.
        let r : Rule = rule (slot p) x sealed own own.place in
        rw (follows-seen marked r tables.shared)
        (place-kept N M p x sealed own own.place _ hp lt place-fact
        (read_in N M tables.shared known.shared (ask_word (asks r)) (ask-word N M (asks r) (asks_in N M p x sealed own own.place hp place-fact)))))

    room_after : RoomFor own.held after.work
    unfolding Roomy
    room_after = work_room own.held (slot p) spare sealed own own.place _ refl

    share_after : after.participant.share ≤ own.share
    unfolding ShareLe
    share_after = share_falls own.share (slot p) spare sealed own own.place _ (le_refl own.share)

    -- the lists after the access are as long as they were
    left-sized : Sized N M left
    left-sized = record {
      globals = length-left-globals effect l effect_in ∙ size.globals;
      participants = length-left-participants effect l effect_in ∙ size.participants;
      nodes = length-left-nodes effect l effect_in ∙ size.nodes;
      held = size.held;
      queued = size.queued;
    }

    -- the access leaves the participant's record as it was
    own_kept : record_at (cell participant_words left.participants p) ≡ record_at (cell participant_words l.participants p)
    own_kept = ap (λ (f : Tab Record). f p) (kept_records effect l effect_in)

    held-left : (record_at (cell participant_words left.participants p)).held ≡ own.held
    unfolding tables_of participant_of
    held-left = ap (λ (r : Record). r.held) own_kept

    share_left : (record_at (cell participant_words left.participants p)).share ≡ own.share
    unfolding tables_of participant_of
    share_left = ap (λ (r : Record). r.share) own_kept

    -- and the set-aside total
    total_left : get_or left.globals 4 0 ≡ get_or l.globals 4 0
    total_left = kept-globals effect l effect_in 4 (omega arith)

    -- what follows may be carried out
    pub carries : Carries N M p left own after
    carries = record {
      few = (small.1.0, small.1.1.1);
      size = left-sized;
      below = hp;
      held_is = held-left;
      share_is = share_left;
      freed = freed_in N M left after.work work_in (λ x lt. rw (kept-bags effect l effect_in l.queued) (bags_known x lt));
      work_in = work_in;
      place_in_lem = place-after;
      room = room_after;
      held-small = held-small;
      covers = rw total_left total_known;
      total = rw total_left (let m = small.1.1.1 in omega (arith, total_known, total_small, share_after, m));
    }

    -- the definition's step is what follows on the tables that the access left
    pub step_is : follow p after (tables_of N M left) ≡ take_marked marked M p tables
    unfolding take_marked take_step rule_at comes_to leaves branch
    step_is = ap (follow p after) (left-tables N M effect l effect_in) ∙ either (fails marked ask)
      where
        either : (b : Bool) → follow p (follows the_rule (branch b (missed (sees ask tables.shared)) (sees ask tables.shared)))
            (with_shared (leaves (branch b (Ask.Load (named ask)) ask) tables.shared) tables)
            ≡ branch b (follow p (follows the_rule (missed (sees ask tables.shared))) tables) (take_step M p tables)
        either true = refl
        either false = refl

  -- ---- the values that the code computes are these

  -- the free node is looked for in words that the list has, and that are few
  pub words_there : global_words + bit_words N + bit_words M ≤ length l.globals
  unfolding global_words
  words_there = rw size.globals (omega arith)

  pub few_nodes : M ≤ 4096
  few_nodes = small.1.1.1

  -- of which none has a bit that stands for no node
  pub look_for : within (bit_words M) M (node_bits N M l.globals) ≡ true
  unfolding tables_of
  look_for = sym (bits_in_is N M M tables.node_free) ∙ known.nodes

  module _ (o : Participant) (loaded : o ≡ participant_of (record_at (cell participant_words l.participants p))) where
    pub own_loaded : o ≡ own
    unfolding tables_of
    own_loaded = loaded

    pub place_ok : PlaceFits (slot p) o.place
    place_ok = rw own_loaded (place-fits N M (let n = small.1.0 in omega arith) (let m = small.1.1.1 in omega arith) (slot p) own.place hp place_ranged)

    pub ask_is : (x : Ask) → ((y : Node) (z : Node → ℕ) → x ≡ asks (rule (slot p) y z o o.place)) → x ≡ ask
    ask_is x h = h spare sealed ∙ rw own_loaded refl

    seal_is : (marked : Bool) (seen : Seen) (seal : ℕ) → seal ≡ bag_seal (left marked).nodes (index seen.value) → seal ≡ sealed (node_at seen.value)
    unfolding tables_of node_at
    seal_is marked seen seal el =
        el ∙ sym (bag-epoch (left marked).nodes l.queued (index seen.value))
        ∙ ap (λ (b : Tab SealedBag). (b (index seen.value)).epoch) (kept-bags (effect marked) l (effect_in marked) l.queued)

    free_is : (free : ℕ) → free ≡ least M (node_bits N M l.globals) → free ≡ least M tables.node_free
    unfolding tables_of
    free_is free ef = ef

    seen_is : (marked : Bool) (seen : Seen) → seen ≡ seen_by marked ask (shared_of l) → seen ≡ seen_by marked ask tables.shared
    unfolding tables_of
    seen_is marked seen es = es

    pub after_is : (marked : Bool) (free : ℕ) (seen : Seen) (seal : ℕ) (a : After) → free ≡ least M (node_bits N M l.globals)
        → seen ≡ seen_by marked ask (shared_of l) → seal ≡ bag_seal (left marked).nodes (index seen.value)
        → a ≡ follows (rule (slot p) (node free) (λ n. seal) o o.place) seen → a ≡ after marked
    after_is marked free seen seal a ef es el e =
        e ∙ rw (own_loaded, free_is free ef, seal_is marked seen seal el) (sym (one_seal_at (slot p) spare sealed own own.place seen))
        ∙ ap (follows the_rule) (seen_is marked seen es)
