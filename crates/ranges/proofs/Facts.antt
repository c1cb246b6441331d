-- What it says that tables are in range: of the shared words, each record, the free bits and each bag. Assumes nothing.
use mathlib.Core.Path.{◌≡◌}
use mathlib.Core.Bool.{Bool, true, false, ◌&&◌, false≢true}
use Prim.Native.Nat.{ℕ, ◌≤◌, ◌<◌}
use lib.Dec.{eqb, leb}
use borrow.Author.Tests.{leb-true, eqb-true}
use Rattle.definition.specs.Base.{Tab, branch}
use Rattle.definition.specs.Bags.{max_objects}
use Rattle.definition.specs.Calls.{max_count}
use Rattle.definition.specs.Codec.{code_of, participant_of, place_of, same_code}
use Rattle.definition.specs.Tables.{Tables}
use Rattle.definition.specs.Ranges.{is_rest, bag_in, record_in, code_in, place_in, shared_in, bits_in, in_range}
use Rattle.definition.specs.declared.Record.{Record}
use Rattle.definition.proofs.Base.{both, all_at}

pub record Facts (N M : ℕ) (t : Tables) : Type 0 where
  pub shared : shared_in N M t.shared ≡ true
  pub aside : t.aside ≤ M
  pub records : (i : ℕ) → i < N → record_in N M t.aside (t.own i) ≡ true
  pub slots : bits_in N M N t.slot_free ≡ true
  pub nodes : bits_in N M M t.node_free ≡ true
  pub held : (i : ℕ) → i < N → bag_in N M (t.own i).held (t.held i) ≡ true
  pub bags : (n : ℕ) → n < M → bag_in N M (t.bag n).len (t.bag n).deferreds ≡ true

pub facts : (N M : ℕ) (t : Tables) → in_range N M t ≡ true → Facts N M t
unfolding in_range
facts N M t h =
    let a = both _ _ h in
    let b = both _ _ a.0 in
    let c = both _ _ b.0 in
    let d = both _ _ c.0 in
    let e = both _ _ d.0 in
    let f = both _ _ e.0 in
    record {
      shared = f.0;
      aside = leb-true t.aside M f.1;
      records = λ i lt. all_at N _ i e.1 lt;
      slots = d.1;
      nodes = c.1;
      held = λ i lt. all_at N _ i b.1 lt;
      bags = λ n lt. all_at M _ n a.1 lt;
    }

-- a test asked only where another holds
where_so : (b x : Bool) → branch b x true ≡ true → b ≡ true → x ≡ true
unfolding branch
where_so true x h e = h
where_so false x h e = absurd (false≢true e)

-- a record in range: counts within their limits, a share that is part of the total, a place in range, and at rest no share
pub record RecordFacts (N M aside : ℕ) (r : Record) : Type 0 where
  pub guards : r.counts.guards ≤ 65535
  pub handles : r.counts.handles ≤ 65535
  pub share : r.share ≤ aside
  pub code : code_in N M r.code ≡ true
  pub rests : is_rest (place_of r.code) ≡ true → r.share ≡ 0

pub record_facts : (N M aside : ℕ) (r : Record) → record_in N M aside r ≡ true → RecordFacts N M aside r
unfolding record_in max_count
record_facts N M aside r h =
    let g = leb r.counts.guards 65535 && leb r.counts.handles 65535 in
    let a = both (g && leb r.share aside && code_in N M r.code) (branch (is_rest (place_of r.code)) (eqb r.share 0) true) h in
    let b = both (g && leb r.share aside) (code_in N M r.code) a.0 in
    let c = both g (leb r.share aside) b.0 in
    let d = both (leb r.counts.guards 65535) (leb r.counts.handles 65535) c.0 in
    record {
      guards = leb-true r.counts.guards 65535 d.0;
      handles = leb-true r.counts.handles 65535 d.1;
      share = leb-true r.share aside c.1;
      code = b.1;
      rests = λ rest. eqb-true r.share 0 (where_so (is_rest (place_of r.code)) (eqb r.share 0) a.1 rest);
    }

pub record-place : (N M aside : ℕ) (r : Record) → record_in N M aside r ≡ true → place_in N M (participant_of r).place ≡ true
unfolding code_in participant_of
record-place N M aside r h =
    (both (same_code (code_of (place_of r.code)) r.code) (place_in N M (place_of r.code)) (record_facts N M aside r h).code).1

-- a bag in range holds at most 64 items
pub bag-len-small : (N M k : ℕ) (d : Tab ℕ) → bag_in N M k d ≡ true → k ≤ 64
unfolding bag_in max_objects
bag-len-small N M k d h = let a = both _ _ h in leb-true k 64 a.0
