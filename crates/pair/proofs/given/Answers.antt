use Rattle.matrix.specs.Kept.{grid_of}
use Rattle.pair.specs.Answer.{given}
use Rattle.pair.proofs.given.Goals as goal

pub returns : goal.returns
unfolding given grid_of
returns c = simp (c.directions_of.ensures, c.flat_of.ensures, c.matrix_of-m.ensures, c.grid_of-g.ensures)
