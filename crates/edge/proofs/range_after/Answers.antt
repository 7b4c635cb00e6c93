use native.Mathlib.Omega.{arith}
use Rattle.edge.specs.Walk.{range_after}
use Rattle.edge.proofs.range_after.Goals as goal

pub returns-then-down : goal.returns-then-down
unfolding range_after
returns-then-down c = (simp c.if-down.true, omega arith)

pub returns : goal.returns
unfolding range_after
returns c = (simp c.if-down.false, omega arith)
