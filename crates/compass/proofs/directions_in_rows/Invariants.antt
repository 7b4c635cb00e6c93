use mathlib.Core.Path.{◌≡◌}
use Rattle.plane.specs.TileSet.{set_of}
use Rattle.compass.specs.Differences.{direction_at}
use Rattle.compass.proofs.DirectionSets.{among}
use Rattle.compass.proofs.directions_in_rows.Given as goal

abbrev pub invariant-loop-columns : goal.invariant-loop-columns
invariant-loop-columns l = l.directions ≡ set_of (among (direction_at l.first l.second l.rows) l.columns) 9
