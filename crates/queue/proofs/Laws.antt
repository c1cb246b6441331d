-- The law by which a crate above hands `pop_follows` one seal, and not the seals of all nodes. Assumes nothing.
use mathlib.Core.Path.{◌≡◌, refl}
use Prim.Native.Nat.{ℕ}
use Rattle.definition.specs.Links.{node_at}
use Rattle.definition.specs.Rule.{follows}
use Rattle.definition.specs.Queue.{pop}
use Rattle.definition.specs.declared.Node.{Node}
use Rattle.definition.specs.declared.Participant.{Participant}
use Rattle.definition.specs.declared.PopAt.{PopAt}
use Rattle.definition.specs.declared.Pops.{Pops}
use Rattle.definition.specs.declared.Seen.{Seen}

-- of all seals, a pop looks at that of the bag in the node that the value seen names
pub one_seal : (sealed : Node → ℕ) (p : Pops) (o : Participant) (at : PopAt) (seen : Seen)
    → follows (pop sealed p o at) seen ≡ follows (pop (λ n. sealed (node_at seen.value)) p o at) seen
unfolding follows pop
one_seal sealed p o PopAt.Head seen = refl
one_seal sealed p o (PopAt.Next head) seen = refl
one_seal sealed p o (PopAt.Exchange head next) seen = refl
one_seal sealed p o (PopAt.Tail head next) seen = refl
one_seal sealed p o (PopAt.TailMove head next) seen = refl
