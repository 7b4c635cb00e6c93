-- The place of a vertex in one axis.
--   place_in_le     it is at most 2,000,000
use Prim.Native.Nat.{ℕ, zero, suc, ◌≤◌}
use Rattle.plane.specs.Points.{Point}
use Rattle.plane.specs.Placed.{PointInRange}
use Rattle.plane.proofs.Place.{place_le}
use Rattle.bands.specs.Axis.{place_in}

pub place_in_le : (axis : ℕ) (P : Point) → PointInRange P → place_in axis P ≤ 2000000
place_in_le zero P r = place_le P.x r.x
place_in_le (suc k) P r = place_le P.y r.y
