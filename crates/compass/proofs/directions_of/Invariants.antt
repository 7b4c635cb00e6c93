use mathlib.Core.Path.{◌≡◌}
use Rattle.plane.specs.TileSet.{set_of}
use Rattle.compass.specs.Differences.{within_rows}
use Rattle.compass.proofs.DirectionSets.{among}
use Rattle.compass.proofs.directions_of.Given as goal

abbrev pub invariant-loop-rows : goal.invariant-loop-rows
invariant-loop-rows l = l.directions ≡ set_of (among (within_rows l.first l.second) l.rows) 9
