-- A run of free bits given back one after another, at the level of the list that holds them. What the bits are afterwards is said by
-- `slots_given` and `nodes-given` of proofs/Laws. Assumes nothing.
use Rattle.std.specs.Prelude.{List, ℕ, zero, suc, ◌+◌}
use Rattle.bits.specs.Bits.{given}

-- the list with k indices given back, from `from` on, where the bits stand in the words from `at` on
unfoldable pub given_from : List ℕ → (at from k : ℕ) → List ℕ
given_from l at from zero = l
given_from l at from (suc k) = given (given_from l at from k) at (from + k)
