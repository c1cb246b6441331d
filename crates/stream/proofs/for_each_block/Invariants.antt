-- `f` was called at as many blocks as there were turns, and they are what the reader gave.
use denote.Param.Always.{always_mut}
use Rattle.std.proofs.Common.{length}
use Rattle.stream.proofs.Blocks.{GivenSoFar}
use Rattle.stream.proofs.for_each_block.Given as goal

abbrev pub invariant-loop : goal.invariant-loop
invariant-loop g l = always_mut g.F.FnMut l.f
    × GivenSoFar g.F.FnMut l.initial.f (length l.initial.block) (g.R.Read.remaining l.initial.reader) (g.R.Read.remaining l.reader) l.f l.counter
