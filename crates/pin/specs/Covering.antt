-- SCOPE 4.10: the covering condition in the second part of 4.4, that the polygon's own box covers the box. A polygon that encloses all of B
-- has such a box anyway, and one that encloses only a part of B has an edge there; so with the condition dropped a region has the same tiles of a box
-- with width and height: proofs/Covering, `region_dropped`.
--   RingHasCentre L xs from n t   the clauses for one ring with the covering condition dropped
--   RegionHasCentre L R t         the same for a region
use Rattle.std.specs.Prelude.{◌≡◌, ◌⊎◌, List, ℕ, ◌<◌, length, ℤ}
use Rattle.plane.specs.Points.{Lines}
use Rattle.ring.specs.Enclosed.{Enclosed, centre}
use Rattle.region.specs.Region.{Region, start_of, size_of}
use Rattle.pin.specs.Pins.{EdgeIn}

abbrev pub RingHasCentre : Lines → List ℤ → (from n t : ℕ) → Type 0
RingHasCentre L xs from n t = EdgeIn L xs from n t ⊎ ((t ≡ 4) × Enclosed (centre L) xs from n)

abbrev pub RegionHasCentre : Lines → Region → ℕ → Type 0
RegionHasCentre L R t = (r : ℕ) × (r < length R.ends) × RingHasCentre L R.coordinates (start_of R.ends r) (size_of R.ends r) t
