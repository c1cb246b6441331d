-- The counts of a participant with one of them set, as `Cell::set` sets one: all three fields. Assumes nothing.
use Rattle.std.specs.Prelude.{ℕ}
use Rattle.definition.specs.declared.Counts.{Counts}

-- `guard_count.set(g)`
abbrev pub with_guards : ℕ → Counts → Counts
with_guards g c = record { guards = g; handles = c.handles; pins = c.pins }

-- `handle_count.set(h)`
abbrev pub with_handles : ℕ → Counts → Counts
with_handles h c = record { guards = c.guards; handles = h; pins = c.pins }

-- `pin_count.set(n)`
abbrev pub with_pins : ℕ → Counts → Counts
with_pins n c = record { guards = c.guards; handles = c.handles; pins = n }
