-- How small the needs are, so that their sums do not wrap: what only the proofs of this crate cite. Assumes nothing.
use Rattle.std.proofs.Common.{ℕ, ◌+◌, ◌^◌, ◌<◌, arith}
use Rattle.definition.specs.Bags.{max_objects}
use Rattle.definition.specs.Flow.{collect_steps}
use Rattle.definition.specs.Calls.{overflow, pin_needs}
use Rattle.definition.proofs.Base.{branch_ind}
use Rattle.definition.specs.declared.Participant.{Participant}

-- what a collect can fill is at most a 64th of a word
pub overflow_small : (n k : ℕ) → k + n + 8 < 2 ^ 64 → overflow n k < 2 ^ 58
unfolding overflow collect_steps max_objects
overflow_small n k h = omega arith

-- and so what a pin needs
pub pin_needs_small : (n : ℕ) (o : Participant) → o.held + n + 8 < 2 ^ 64 → pin_needs n o < 2 ^ 58
unfolding pin_needs
pin_needs_small n o h = branch_ind (λ (m : ℕ). m < 2 ^ 58) _ (λ _. overflow_small n o.held h) (λ _. omega arith)
