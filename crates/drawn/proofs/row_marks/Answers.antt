use mathlib.Core.Path.{refl}
use native.Mathlib.Omega.{arith}
use Rattle.drawn.specs.Steps.{row_set}
use Rattle.drawn.proofs.Steps.{row_none}
use Rattle.drawn.proofs.row_marks.Goals as goal

pub returns-then-up : goal.returns-then-up
returns-then-up c = let a = c.args in (row_none a.up a.west a.middle a.east c.if-up.true, omega arith)

pub returns : goal.returns
unfolding row_set
returns c = (
  rw (c.weight.ensures.0, c.weight-2.ensures.0, c.weight-3.ensures.0, c.overlaps.ensures, c.overlaps-2.ensures, c.overlaps-3.ensures) refl,
  omega (arith, c.weight.ensures.1, c.weight-2.ensures.1, c.weight-3.ensures.1),
)
