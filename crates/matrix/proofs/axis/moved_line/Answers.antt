use borrow.Author.Tests.{lt-ltb, le-ltb, eq-eqb, ne_eqb}
use Rattle.matrix.proofs.axis.moved_line.Goals as goal

pub returns-then-k-p : goal.returns-then-k-p
returns-then-k-p c = simp (lt-ltb _ _ c.if-k-p.true)

pub returns-then-k-p-2 : goal.returns-then-k-p-2
returns-then-k-p-2 c = simp (le-ltb _ _ c.if-k-p.false, eq-eqb _ _ c.if-k-p-2.true)

pub returns : goal.returns
returns c = simp (le-ltb _ _ c.if-k-p.false, ne_eqb _ _ c.if-k-p-2.false)
