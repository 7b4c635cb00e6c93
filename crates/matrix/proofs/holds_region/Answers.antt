use Rattle.matrix.specs.Holding.{holds}
use borrow.Author.Tests.{le-leb, lt-leb}
use Rattle.matrix.proofs.holds_region.Goals as goal

pub returns-then-cell-a : goal.returns-then-cell-a
unfolding holds
returns-then-cell-a c = simp (lt-leb _ _ c.if-cell-a.true)

pub returns-then-a-cell : goal.returns-then-a-cell
unfolding holds
returns-then-a-cell c = simp (le-leb _ _ c.if-cell-a.false, lt-leb _ _ c.if-a-cell.true)

pub returns-then-cell-a-2 : goal.returns-then-cell-a-2
unfolding holds
returns-then-cell-a-2 c =
    simp (le-leb _ _ c.if-cell-a.false, le-leb _ _ c.if-a-cell.false, lt-leb _ _ c.if-cell-a-2.true)

pub returns-then-a-cell-2 : goal.returns-then-a-cell-2
unfolding holds
returns-then-a-cell-2 c =
    simp (le-leb _ _ c.if-cell-a.false, le-leb _ _ c.if-a-cell.false, le-leb _ _ c.if-cell-a-2.false, lt-leb _ _ c.if-a-cell-2.true)

pub returns : goal.returns
unfolding holds
returns c =
    let row = c.range_of-row.ensures.0 in
    let column = c.range_of-column.ensures.0 in
    simp (le-leb _ _ c.if-cell-a.false, le-leb _ _ c.if-a-cell.false, le-leb _ _ c.if-cell-a-2.false, le-leb _ _ c.if-a-cell-2.false, row, column)
