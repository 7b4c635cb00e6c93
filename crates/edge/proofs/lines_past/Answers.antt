use native.Mathlib.Omega.{arith}
use borrow.Author.Tests.{eq-eqb, ne_eqb, le-ltb, lt-ltb}
use Rattle.edge.specs.Walk.{lines_past}
use Rattle.edge.proofs.lines_past.Goals as goal

pub returns-then-x : goal.returns-then-x
unfolding lines_past
returns-then-x c = (simp (eq-eqb _ _ c.if-c-eq0.true, lt-ltb _ _ c.if-x.true), omega arith)

pub returns-then-c-eq0 : goal.returns-then-c-eq0
unfolding lines_past
returns-then-c-eq0 c = (simp (eq-eqb _ _ c.if-c-eq0.true, le-ltb _ _ c.if-x.false), omega arith)

pub returns : goal.returns
unfolding lines_past
returns c = (simp (ne_eqb _ _ c.if-c-eq0.false), omega arith)
