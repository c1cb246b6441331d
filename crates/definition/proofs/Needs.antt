-- The nodes that a call sets aside, by the general formula of specs/Calls, are those of document 01's rows for up to 32 participants.
-- Assumes nothing.
use mathlib.Core.Path.{◌≡◌}
use Prim.Native.Nat.{ℕ, ◌+◌, ◌≤◌}
use native.Mathlib.Omega.{arith}
use lib.Dec.{ltb}
use borrow.Author.Tests.{ltb-true, ltb-false}
use Rattle.definition.specs.Base.{branch}
use Rattle.definition.proofs.Base.{branch_ind}
use Rattle.definition.specs.Bags.{max_objects}
use Rattle.definition.specs.Flow.{collect_steps}
use Rattle.definition.specs.Calls.{overflow}

-- an outermost pin that will collect: 1 if k + N + 8 exceeds 64
pub needs_as_01 : (N k : ℕ) → N ≤ 32 → k ≤ 64 → overflow N k ≡ branch (ltb 64 (k + N + 8)) 1 0
unfolding overflow collect_steps max_objects
needs_as_01 N k few held = branch_ind (λ (n : ℕ). overflow N k ≡ n) (ltb 64 (k + N + 8)) (λ e. omega (arith, ltb-true 64 (k + N + 8) e)) (λ e. omega (arith, ltb-false 64 (k + N + 8) e))

-- flush: no more than the node of its own push
pub flush_as_01 : (N : ℕ) → N ≤ 32 → overflow N 0 ≡ 0
unfolding overflow collect_steps max_objects
flush_as_01 N few = omega arith
