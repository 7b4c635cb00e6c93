use Rattle.std.proofs.Common.{length, get_or}
use Rattle.endian.proofs.Placed.{Placing}
use Rattle.endian.proofs.put_all.Given as goal

abbrev pub invariant-loop-k : goal.invariant-loop-k
invariant-loop-k g l = let n = g.T.LittleEndian in Placing (λ j. n.bytes (get_or l.xs j n.none)) l.at (length l.xs) l.initial.b l.k l.b
