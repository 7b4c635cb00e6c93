use Rattle.std.proofs.Common.{◌≤◌, max, length}
use Rattle.words.proofs.Lines.{Upto}
use Rattle.words.proofs.read.read_run.Given as goal

abbrev pub invariant-loop-i : goal.invariant-loop-i
invariant-loop-i g l = let k = g.K.Kind in record { in_range : l.i ≤ max l.at (length l.line); upto : Upto k.is k.append k.MOST l.line l.at l.value l.i }
