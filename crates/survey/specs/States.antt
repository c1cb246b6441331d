-- The numbers of the states, as document 01 has them. Assumes nothing.
use Rattle.std.specs.Prelude.{ℕ}
use Rattle.survey.specs.declared.State.{State}

unfoldable pub state_number : State → ℕ
state_number State.Free = 0
state_number State.Registering = 1
state_number State.Registered = 2
state_number State.Deleted = 3
