use mathlib.Core.Path.{sym, ◌∙◌}
use native.Mathlib.Omega.{arith}
use Rattle.edge.proofs.Moments.{axis_fits}
use Rattle.edge.proofs.WalkSteps.{list_none, list_some}
use Rattle.edge.proofs.edge_list.Goals as goal
use Rattle.edge.proofs.edge_list.Goals.{then-g+else-g-2, else-g}

pub returns-then-g-2 : goal.returns-then-g-2
returns-then-g-2 c = let a = c.args in sym (list_none a.b a.g (c.if-g.true, c.if-g-2.true))

pub walk_axes-requires : goal.walk_axes-requires
walk_axes-requires c =
    let p = c.requires in (
      rw c.axis_of-x.ensures (axis_fits _ _ _ _ _ _ 2000000 (omega arith) p.1.ax p.1.bx),
      rw c.axis_of-y.ensures (axis_fits _ _ _ _ _ _ 2000000 (omega arith) p.1.ay p.1.by),
    )

pub returns : goal.returns
returns c =
    let a = c.args in
    c.walk_axes.ensures
    ∙ rw (c.axis_of-x.ensures, c.axis_of-y.ensures)
    (sym (list_some a.b a.g (λ q. elim c.if-g.branch [ then-g+else-g-2 w ↦ w.if-g-2.false q.1 | else-g w ↦ w.if-g.false q.0 ])))
