use native.Mathlib.Omega.{arith}
use Rattle.drawn.proofs.weight.Goals as goal

pub returns-then-t : goal.returns-then-t
returns-then-t c = (rw c.if-t.true (omega arith), omega arith)

pub returns-else-t : goal.returns-else-t
returns-else-t c = (rw c.if-t.false (omega arith), omega arith)
