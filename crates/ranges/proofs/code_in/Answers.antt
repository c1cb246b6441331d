-- The code of the place that was read is made, which is possible (`place-read`).
use native.Mathlib.Omega.{arith}
use Rattle.records.proofs.Fits.{place-read}
use Rattle.ranges.proofs.code_in.Goals as goal

pub encode-whole-requires : goal.encode-whole-requires
encode-whole-requires c = rw c.requires (place-read c.args.code (omega arith) (omega arith))
