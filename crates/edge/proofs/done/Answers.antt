use borrow.Author.Tests.{le-ltb, lt-ltb}
use Rattle.edge.proofs.WalkSteps.{done_x, done_y, done_all}
use Rattle.edge.proofs.done.Goals as goal

pub returns-then-p : goal.returns-then-p
returns-then-p c = let a = c.args in done_x a.x a.y a.s _ c.next_line-p.ensures (lt-ltb _ _ c.if-p.true)

pub returns-then-q : goal.returns-then-q
returns-then-q c =
    let a = c.args in
    done_y a.x a.y a.s _ c.next_line-p.ensures _ c.next_line-q.ensures
    (le-ltb _ _ c.if-p.false) (lt-ltb _ _ c.if-q.true)

pub returns : goal.returns
returns c =
    let a = c.args in
    done_all a.x a.y a.s _ c.next_line-p.ensures _ c.next_line-q.ensures
    (le-ltb _ _ c.if-p.false) (le-ltb _ _ c.if-q.false)
