use Rattle.plane.specs.Lists.{tab_from}
use Rattle.matrix.proofs.Regions.row.Goals as goal

pub returns : goal.returns
unfolding tab_from
returns c = simp (c.cell_value.ensures, c.cell_value-2.ensures, c.cell_value-3.ensures)
