-- The lent lists as the definition has them (specs/Layout of `definition`), and what stays of a value that lends them. Assumes nothing.
use Rattle.std.specs.Prelude.{◌≡◌}
use Rattle.definition.specs.Layout.{Lent}
use Rattle.lent.specs.declared.Lists.{Lists}
use Rattle.lent.specs.declared.ListsMut.{ListsMut}

-- the five lists, where they are lent to be read
abbrev pub read : Lists → Lent
read l = record {
  globals = l.globals.now;
  participants = l.participants.now;
  nodes = l.nodes.now;
  held = l.held.now;
  queued = l.queued.now;
}

-- and where they are lent to be changed
abbrev pub lent : ListsMut → Lent
lent l = record {
  globals = l.globals.now;
  participants = l.participants.now;
  nodes = l.nodes.now;
  held = l.held.now;
  queued = l.queued.now;
}

-- the value has the same sizes as before, and lends the same lists, whatever stands in them now
pub record Same (old new : ListsMut) : Type 0 where
  pub n : new.n ≡ old.n
  pub m : new.m ≡ old.m
  pub globals : new.globals.ghost_name ≡ old.globals.ghost_name
  pub participants : new.participants.ghost_name ≡ old.participants.ghost_name
  pub nodes : new.nodes.ghost_name ≡ old.nodes.ghost_name
  pub held : new.held.ghost_name ≡ old.held.ghost_name
  pub queued : new.queued.ghost_name ≡ old.queued.ghost_name
