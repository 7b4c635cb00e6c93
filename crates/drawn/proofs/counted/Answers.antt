use borrow.Author.Tests.{eq-eqb, ne_eqb}
use Rattle.drawing.specs.Stays.{counted}
use Rattle.drawn.proofs.counted.Goals as goal

pub returns-then-a-p : goal.returns-then-a-p
unfolding counted
returns-then-a-p c = simp (eq-eqb _ _ c.if-a-p.true)

pub returns-then-a-q : goal.returns-then-a-q
unfolding counted
returns-then-a-q c = simp (ne_eqb _ _ c.if-a-p.false, eq-eqb _ _ c.if-a-q.true)

pub returns : goal.returns
unfolding counted
returns c = simp (ne_eqb _ _ c.if-a-p.false, ne_eqb _ _ c.if-a-q.false)
