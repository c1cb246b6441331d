-- Lists that pass refusals 2 and 1, by what the checks after those use of them: sizes and lengths as numbers, no free bit at N or M or beyond,
-- and no bag that is longer than its row. It follows from `Sound` (`passed` of proofs/Laws). And a participant that is there. Assumes nothing.
use Rattle.std.specs.Prelude.{◌≡◌, true, false, ℕ, ◌+◌, ◌*◌, ◌/◌, ◌≤◌, ◌<◌, length}
use Rattle.bits.specs.Bits.{within}
use Rattle.definition.specs.Layout.{Lent, slot_bits, node_bits, tables_of}
use Rattle.definition.specs.Public.{absent, the}
use Rattle.definition.specs.Ranges.{bit_words}
use Rattle.definition.specs.Tables.{Tables}
use Rattle.definition.specs.declared.Participant.{Participant}
use Rattle.lent.specs.Lists.{read}
use Rattle.lent.specs.declared.Lists.{Lists}
use Rattle.checks.specs.Refusals.{row}

pub record Passed (N M : ℕ) (l : Lent) : Type 0 where
  pub slots : N ≤ 4096
  pub nodes : M ≤ 4096
  pub slot_words : bit_words N ≡ (N + 63) / 64
  pub node_words : bit_words M ≡ (M + 63) / 64
  pub globals : length l.globals ≡ 5 + (N + 63) / 64 + (M + 63) / 64
  pub participants : length l.participants ≡ N * 21
  pub held : length l.held ≡ N * 64
  pub slots_within : within (bit_words N) N (slot_bits N l.globals) ≡ true
  pub nodes_within : within (bit_words M) M (node_bits N M l.globals) ≡ true
  pub bags_within : (p : ℕ) → p < N → (row l.participants p).held ≤ 64

-- the tables that lent lists hold
abbrev pub tables : Lists → Tables
tables l = tables_of l.n l.m (read l)

-- refusal 3 is not given for participant p, which is o
pub record Present (N M : ℕ) (l : Lent) (p : ℕ) (o : Participant) : Type 0 where
  pub there : absent N M p (tables_of N M l) ≡ false
  pub below : p < N
  pub own : o ≡ the p (tables_of N M l)
  pub few : o.held ≤ 64
