-- What follows an access, on the lent lists: what each is afterwards, and what must be there before. Assumes nothing.
use Rattle.std.specs.Prelude.{◌≡◌, List, ℕ, ◌+◌, ◌-◌, ◌*◌, ◌^◌, ◌≤◌, ◌<◌, length, get_or, set}
use Rattle.definition.specs.Codec.{code_of, record_of}
use Rattle.definition.specs.Layout.{Lent}
use Rattle.definition.specs.Step.{answer_of}
use Rattle.definition.specs.declared.After.{After}
use Rattle.definition.specs.declared.Answer.{Answer}
use Rattle.records.specs.Stores.{PointersFit, stored_record}
use Rattle.bags.specs.Bags.{filled}
use Rattle.settle.specs.Settle.{Settles, settled_globals, settled_nodes, settled_held, settled_queued, settled_tokens}

-- the set-aside total, with one share for another
unfoldable pub aside_globals : List ℕ → (before after : ℕ) → List ℕ
aside_globals g before after = set g 4 (get_or g 4 0 - before + after)

pub record SetsAside (g : List ℕ) (before after : ℕ) : Type 0 where
  pub long : 4 < length g
  pub covers : before ≤ get_or g 4 0
  pub fits : get_or g 4 0 - before + after < 2 ^ 64

-- the lists afterwards
abbrev pub followed_globals : (N : ℕ) → ℕ → After → (globals nodes queued : List ℕ) → List ℕ
followed_globals N share a g n q = aside_globals (settled_globals N a.work g n q) share a.participant.share

abbrev pub followed_lent : (N p k share : ℕ) → After → Lent → Lent
followed_lent N p k share a l = record {
  globals = followed_globals N share a l.globals l.nodes l.queued;
  participants = stored_record l.participants p (record_of a.participant);
  nodes = settled_nodes k a.work l.nodes;
  held = settled_held p k a.work l.held;
  queued = settled_queued p k a.work l.held l.queued;
}

-- what is touched is there
pub record Follows (N p k share : ℕ) (a : After) (l : Lent) (f : List ℕ) : Type 0 where
  pub settles : Settles N p k a.work l f
  pub aside : SetsAside (settled_globals N a.work l.globals l.nodes l.queued) share a.participant.share
  pub row : p * 21 + 21 ≤ length l.participants
  pub pointers : PointersFit (code_of a.participant.place)

-- it was carried out. That each of `globals` is a word is what the free bits in it are read by
pub record Followed (N p k share : ℕ) (a : After) (l : Lent) (f : List ℕ) (r : Answer) (l' : Lent) (f' : List ℕ) : Type 0 where
  pub answer : r ≡ answer_of a.end (length (settled_tokens a.work l.nodes l.queued))
  pub lent : l' ≡ followed_lent N p k share a l
  pub words : (j : ℕ) → get_or l'.globals j 0 < 2 ^ 64
  pub freed : f' ≡ filled (settled_tokens a.work l.nodes l.queued) f
