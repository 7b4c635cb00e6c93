use native.Mathlib.Omega.{arith}
use borrow.Author.Tests.{le-ltb, lt-ltb}
use Rattle.edge.specs.Walk.{lines_at_start}
use Rattle.edge.proofs.lines_at_start.Goals as goal

pub returns-then-x-gt0 : goal.returns-then-x-gt0
unfolding lines_at_start
returns-then-x-gt0 c = (simp (lt-ltb _ _ c.if-x-gt0.true), omega arith)

pub returns-then-x-gt0-2 : goal.returns-then-x-gt0-2
unfolding lines_at_start
returns-then-x-gt0-2 c = (simp (le-ltb _ _ c.if-x-gt0.false, lt-ltb _ _ c.if-x-gt0-2.true), omega arith)

pub returns : goal.returns
unfolding lines_at_start
returns c = (simp (le-ltb _ _ c.if-x-gt0.false, le-ltb _ _ c.if-x-gt0-2.false), omega arith)
