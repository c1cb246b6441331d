-- A call on lent lists that passed the checks: what it begins may be carried out, and the lists hold the definition's tables afterwards.
-- Assumes nothing.
use mathlib.Core.Path.{◌≡◌, refl, ap, ◌∙◌}
use mathlib.Core.List.{List, []}
use Prim.Native.Nat.{ℕ, ◌+◌, ◌-◌, ◌*◌, ◌^◌, ◌≤◌, ◌<◌}
use native.Mathlib.Omega.{arith}
use lib.ListN.{length, get_or}
use borrow.Author.Tests.{not-false}
use Rattle.definition.specs.Base.{count}
use Rattle.definition.specs.Calls.{needs, opens}
use Rattle.definition.specs.Codec.{participant_of, place_of}
use Rattle.definition.specs.Tables.{Tables}
use Rattle.definition.specs.Layout.{Lent, cell, participant_words, record_at, tables_of}
use Rattle.definition.specs.Ranges.{is_rest}
use Rattle.definition.specs.Public.{the, running}
use Rattle.definition.specs.Step.{follow}
use Rattle.definition.specs.declared.Participant.{Participant}
use Rattle.definition.specs.declared.After.{After}
use Rattle.definition.specs.declared.Answer.{Answer}
use Rattle.definition.specs.declared.Call.{Call}
use Rattle.definition.proofs.Base.{count-le}
use Rattle.definition.proofs.Lists.{Sized, sized_is}
use Rattle.definition.proofs.Within.{AfterIn}
use Rattle.definition.proofs.Kept.{PlacedIn}
use Rattle.definition.proofs.Opens.{opens_in, opens_share, opens_none}
use Rattle.ranges.proofs.Laws.{limits-small}
use Rattle.ranges.proofs.Facts.{Facts, facts, RecordFacts, record_facts, bag-len-small}
use Rattle.follow.specs.Follow.{Follows, Followed}
use Rattle.step.specs.Steps.{Leaves}
use Rattle.step.proofs.Room.{Roomy, opens_room}
use Rattle.step.proofs.Carry.{Carries, freed_in, opens_places, may_carry, carried-leaves}
use Rattle.call.specs.Calls.{Calls}

module _ (N M p : ℕ) (c : Call) (l : Lent) (s : Calls N M p c l) where
  -- the tables, the participant, and what the call begins
  abbrev tables : Tables
  tables = tables_of N M l

  abbrev own : Participant
  own = the p tables

  abbrev after : After
  after = opens N c own

  known : Facts N M tables
  known = facts N M tables s.sound.range

  row_known : RecordFacts N M tables.aside (tables.own p)
  row_known = record_facts N M tables.aside (tables.own p) (known.records p s.below)

  size : Sized N M l
  size = sized_is N M l s.sound.lengths

  small : (1 ≤ N) × ((N ≤ 4096) × ((2 ≤ M) × (M ≤ 4096)))
  small = limits-small N M s.sound.limits

  held-small : own.held ≤ 64
  unfolding participant_of
  held-small = bag-len-small N M (tables.own p).held (tables.held p) (known.held p s.below)

  -- at rest nothing is set aside for the participant
  no_share : own.share ≡ 0
  unfolding running participant_of
  no_share = row_known.rests (not-false (is_rest (place_of (tables.own p).code)) s.rests)

  -- and what the call needs is free
  total_fits : get_or l.globals 4 0 - own.share + after.participant.share < 2 ^ 64
  unfolding tables_of
  total_fits =
      let a : get_or l.globals 4 0 ≤ M = known.aside in
      let b : get_or l.globals 4 0 + needs N c own ≤ count M tables.node_free = s.enough in
      omega (arith, a, b, count-le M tables.node_free, opens_share N c own, small, no_share)

  -- what the call begins may be carried out
  pub carries : Carries N M p l own after
  unfolding tables_of participant_of AfterIn PlacedIn Roomy
  carries = record {
    few = (small.1.0, small.1.1.1);
    size = size;
    below = s.below;
    held_is = refl;
    share_is = refl;
    freed = freed_in N M l after.work (opens_in N M c own s.small).1 known.bags;
    work_in = (opens_in N M c own s.small).1;
    place_in_lem = (opens_in N M c own s.small).0;
    room = opens_room own.held N c own refl;
    held-small = held-small;
    covers = row_known.share;
    total = total_fits;
  }

  -- ---- the values that the code computes, from the lists as they are read

  module _ (r : Lent) (e : r ≡ l) where
    pub row_ok : p * 21 + 21 ≤ length r.participants
    row_ok = let below = s.below in rw (e, size.participants) (omega arith)

    module _ (o : Participant) (loaded : o ≡ participant_of (record_at (cell participant_words r.participants p))) where
      o_is : o ≡ own
      unfolding tables_of
      o_is = rw e at loaded

      -- the counts and the bag of a participant in range leave room for what is added to them
      pub counts_ok : (o.counts.guards + 1 < 2 ^ 64) × (o.counts.handles + 1 < 2 ^ 64)
      unfolding participant_of
      counts_ok = rw o_is (omega (arith, row_known.guards), omega (arith, row_known.handles))

      pub held_ok : o.held + N + 8 < 2 ^ 64
      held_ok = rw o_is (omega (arith, held-small, small))

      module _ (a : After) (opened : a ≡ opens N c o) where
        a_is : a ≡ after
        a_is = opened ∙ ap (opens N c) o_is

        -- `follow` may be called, with no place for a token
        pub may_follow : (f : List ℕ) → Follows N p o.held o.share a l f
        may_follow f = rw (o_is, a_is) (may_carry N M p l own after carries f (opens_places N c own f))

        -- and what it leaves is the definition's, no token among it
        pub leaves-call : (f : List ℕ) (w : Answer) (l' : Lent) (f' : List ℕ) → Followed N p o.held o.share a l f w l' f'
            → Leaves N M (follow p after tables) [] w l' []
        unfolding follow
        leaves-call f w l' f' done =
            let done' : Followed N p own.held own.share after l f w l' f' = rw (o_is, a_is) at done in
            let out = carried-leaves N M p l own after carries f w l' f' done' in
            record { answer = out.answer; lent = out.lent; freed = rw (opens_none tables N c own) refl }
