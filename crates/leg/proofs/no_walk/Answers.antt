use mathlib.Core.Path.{refl}
use Rattle.plane.specs.Folds.{any_to, sum_to}
use Rattle.plane.specs.TileSet.{set_of}
use Rattle.edge.specs.TileList.{count_in, stands_in}
use Rattle.leg.proofs.no_walk.Goals as goal

pub returns : goal.returns
unfolding count_in stands_in set_of sum_to any_to
returns c = refl
