-- Beyond a list nothing stands. Assumes nothing.
use mathlib.Core.Path.{◌≡◌, refl}
use mathlib.Core.List.{List, [], ◌∷◌}
use Prim.Native.Nat.{ℕ, zero, suc, ◌≤◌}
use native.Mathlib.Omega.{arith}
use lib.ListN.{length, get_or}

pub get_or_beyond : (l : List ℕ) (i : ℕ) → length l ≤ i → get_or l i 0 ≡ 0
get_or_beyond [] i h = refl
get_or_beyond (x ∷ l) zero h = absurd (omega arith)
get_or_beyond (x ∷ l) (suc i) h = get_or_beyond l i (omega arith)
