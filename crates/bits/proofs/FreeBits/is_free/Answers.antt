-- The bit's word is one of those that have the bits, and the shift brings the bit to its end.
use native.Mathlib.Omega.{arith}
use borrow.Author.Tests.{lt-ltb}
use Rattle.definition.specs.Layout.{bit, bits}
use Rattle.bits.proofs.Laws.{bit_words-has}
use Rattle.bits.proofs.FreeBits.is_free.Goals as goal

pub bounds-globals-self : goal.bounds-globals-self
bounds-globals-self c = omega (arith, bit_words-has c.args.i c.args.self.size (omega arith))

pub returns : goal.returns
unfolding bits bit
returns c = rw (lt-ltb _ _ (bit_words-has c.args.i c.args.self.size (omega arith)))
