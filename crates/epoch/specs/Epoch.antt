-- Epoch words and their distance, after src/epoch.rs of crossbeam-epoch 0.9.21 on a 64-bit target. A definition has the name of the
-- Rust function that it renders and is over the word `data`, a number below 2 ^ 64; where the Rust masks the lowest bit, this says
-- the remainder by 2. `wrapping_sub` stands last, after the parts of its one line. `AtomicEpoch` is not here: its word is one of the
-- lent tables. Proofs cite the laws of proofs/Laws.antt and leave the definitions shut. Assumes nothing.
use Rattle.std.specs.Prelude.{ℕ, ◌+◌, ◌-◌, ◌/◌, ◌%◌, ◌^◌, Bool, cond, ℤ, pos, negsuc, ◌==◌, nat_lt}

-- Epoch::starting: epoch 0, not pinned
unfoldable pub starting : ℕ
starting = 0

-- Epoch::is_pinned: the lowest bit is set
unfoldable pub is_pinned : ℕ → Bool
is_pinned w = w % 2 == 1

-- Epoch::unpinned: the same epoch with the lowest bit cleared, `data & !1`
unfoldable pub unpinned : ℕ → ℕ
unpinned w = w - w % 2

-- Epoch::pinned: the same epoch with the lowest bit set, `data | 1`
unfoldable pub pinned : ℕ → ℕ
pinned w = unpinned w + 1

-- Epoch::successor: the next epoch with the same lowest bit, `data.wrapping_add(2)`
unfoldable pub successor : ℕ → ℕ
successor w = (w + 2) % 2 ^ 64

-- in Epoch::wrapping_sub, how far the word a is ahead of b's epoch, `a.wrapping_sub(b & !1)`
unfoldable pub gap : ℕ → ℕ → ℕ
gap a b = (a + 2 ^ 64 - unpinned b) % 2 ^ 64

-- in Epoch::wrapping_sub, a word as two's complement reads it, `as i64`: the upper half counts down from -1, and `negsuc n` is -1 - n
unfoldable pub signed : ℕ → ℤ
signed w = cond (nat_lt w (2 ^ 63)) (pos w) (negsuc (2 ^ 64 - 1 - w))

-- in Epoch::wrapping_sub, half of a signed number, rounded towards minus infinity, `>> 1`: half of -1 is -1
unfoldable pub halved : ℤ → ℤ
halved (pos n) = pos (n / 2)
halved (negsuc n) = negsuc (n / 2)

-- Epoch::wrapping_sub: the number of epochs that a is ahead of b, `a.wrapping_sub(b & !1) as i64 >> 1`
unfoldable pub wrapping_sub : ℕ → ℕ → ℤ
wrapping_sub a b = halved (signed (gap a b))
