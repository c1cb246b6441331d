-- What is written are the lines of the slots so far.
use Rattle.std.proofs.Common.{take}
use Rattle.std.specs.Io.KnownBytes.{Appends}
use Rattle.report.specs.Lines.{lines_of}
use Rattle.report.proofs.say_reports.Given as goal

abbrev pub invariant-loop-p : goal.invariant-loop-p
invariant-loop-p g l = Appends (g.W.Write.contents l.initial.writer) (g.W.Write.contents l.writer) (lines_of 0 (take l.p l.fn.reports))
