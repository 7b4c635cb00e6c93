use mathlib.Core.Path.{refl}
use Rattle.layout.specs.Slots.{cell_in}
use Rattle.storage.proofs.table.cell_in.Goals as goal

pub returns : goal.returns
unfolding cell_in
returns c = refl
