-- The numbers of the refusals, as document 01 has them. Assumes nothing.
use Rattle.std.specs.Prelude.{ℕ, Result, Ok, Err}
use Rattle.refusals.specs.declared.Refusal.{Refusal}

abbrev pub number : Refusal → ℕ
number Refusal.Damage = 1
number Refusal.Sizes = 2
number Refusal.Gone = 3
number Refusal.Busy = 4
number Refusal.Idle = 5
number Refusal.NoGuard = 6
number Refusal.NoHandle = 7
number Refusal.CountFull = 8
number Refusal.TokenAbove = 9
number Refusal.NoSlot = 10
number Refusal.NoNode = 11
number Refusal.ListShort = 12
number Refusal.Record = 13
number Refusal.HeldAlready = 16

-- of a check's answer: the number of the refusal, and 0 where there is none
abbrev pub refused : {A : Type 0} → Result A Refusal → ℕ
refused (Ok a) = 0
refused (Err r) = number r
