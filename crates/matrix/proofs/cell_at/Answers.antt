use mathlib.Core.Path.{refl}
use Rattle.matrix.specs.Kept.{cell_in}
use Rattle.matrix.proofs.cell_at.Goals as goal

pub returns : goal.returns
unfolding cell_in
returns c = refl
