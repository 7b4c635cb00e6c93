use mathlib.Core.Path.{◌≡◌, sym, ◌∙◌}
use mathlib.Core.Bool.{false}
use native.Mathlib.Omega.{arith}
use borrow.Author.Tests.{le-ltb, lt-ltb}
use Rattle.edge.specs.Moments.{sooner, MomentFits}
use Rattle.edge.proofs.Moments.{next_fits}
use Rattle.edge.proofs.WalkSteps.{step_x, step_y, step_both, step_none}
use Rattle.edge.proofs.step.Goals as goal
use Rattle.edge.proofs.step.Goals.{After-next_line-q, Else-comes_before, Else-comes_before-2}

-- the moments of the two next lines
fits_x : (c : After-next_line-q) → MomentFits c.next_line-p.result 2000000
fits_x c = let a = c.args in rw c.next_line-p.ensures (next_fits a.x a.s.upright 2000000 (omega arith) c.requires.0)

fits_y : (c : After-next_line-q) → MomentFits c.next_line-q.result 2000000
fits_y c = let a = c.args in rw c.next_line-q.ensures (next_fits a.y a.s.level 2000000 (omega arith) c.requires.1)

not_x : (c : Else-comes_before) → sooner c.next_line-p.result c.next_line-q.result ≡ false
not_x c = sym c.comes_before.ensures ∙ c.if-comes_before.false

not_y : (c : Else-comes_before-2) → sooner c.next_line-q.result c.next_line-p.result ≡ false
not_y c = sym c.comes_before-2.ensures ∙ c.if-comes_before-2.false

pub comes_before-requires : goal.comes_before-requires
comes_before-requires c = (fits_x (goal.at.comes_before-requires c).After-next_line-q, fits_y (goal.at.comes_before-requires c).After-next_line-q)

pub returns-then-comes_before : goal.returns-then-comes_before
returns-then-comes_before c =
    let a = c.args in
    c.enter.ensures
    ∙ step_x a.x a.y a.s _ _ c.next_line-p.ensures c.next_line-q.ensures _ c.lines_past.ensures.0
    (sym c.comes_before.ensures ∙ c.if-comes_before.true)

pub comes_before-requires-2 : goal.comes_before-requires-2
comes_before-requires-2 c = (fits_y (goal.at.comes_before-requires-2 c).After-next_line-q, fits_x (goal.at.comes_before-requires-2 c).After-next_line-q)

pub returns-then-comes_before-2 : goal.returns-then-comes_before-2
returns-then-comes_before-2 c =
    let a = c.args in
    c.enter-then-comes_before-2.ensures
    ∙ step_y a.x a.y a.s _ _ c.next_line-p.ensures c.next_line-q.ensures _ c.lines_past-then-comes_before-2.ensures.0
    (not_x (goal.at.returns-then-comes_before-2 c).Else-comes_before) (sym c.comes_before-2.ensures ∙ c.if-comes_before-2.true)

pub returns-then-p : goal.returns-then-p
returns-then-p c =
    let a = c.args in
    c.enter-then-p.ensures
    ∙ step_both a.x a.y a.s _ _ c.next_line-p.ensures c.next_line-q.ensures _ _ c.lines_past-c.ensures.0 c.lines_past-r.ensures.0
    (not_x (goal.at.returns-then-p c).Else-comes_before) (not_y (goal.at.returns-then-p c).Else-comes_before-2) (lt-ltb _ _ c.if-p.true)

pub returns : goal.returns
returns c =
    let a = c.args in
    step_none a.x a.y a.s _ _ c.next_line-p.ensures c.next_line-q.ensures (not_x (goal.at.returns c).Else-comes_before) (not_y (goal.at.returns c).Else-comes_before-2) (le-ltb _ _ c.if-p.false)
