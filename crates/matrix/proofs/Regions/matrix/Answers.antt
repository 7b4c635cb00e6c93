use Rattle.plane.specs.Lists.{tab_from}
use Rattle.matrix.specs.Matrix.{matrix_of}
use Rattle.matrix.proofs.Regions.matrix.Goals as goal

pub returns : goal.returns
unfolding tab_from matrix_of
returns c = simp (c.row.ensures, c.row-2.ensures, c.row-3.ensures)
