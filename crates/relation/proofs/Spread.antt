-- The box of an accepted region has width and height: its first ring is clockwise, so that ring's own box has (ring/proofs/Positive), and the
-- region's box reaches at least as far on each side.
--   first_clockwise        the first ring is clockwise, by the test in places
--   wide, high             in places: west comes before east, and south before north
--   box_wide, box_high     the same of the box's lines over coordinates
use mathlib.Core.Path.{◌≡◌, refl}
use mathlib.Core.Bool.{Bool, true, false}
use Prim.Native.Nat.{ℕ, ◌-◌, ◌≤◌, ◌<◌}
use native.Mathlib.Omega.{arith}
use lib.Signed.{◌<ℤ◌}
use Rattle.plane.specs.Place.{place_of}
use Rattle.plane.specs.Points.{Lines}
use Rattle.plane.specs.Placed.{LinesInRange}
use Rattle.plane.specs.Folds.{least_to, greatest_to}
use Rattle.plane.proofs.Logic.{never}
use Rattle.plane.proofs.Folds.{least_le, least_is, greatest_ge, greatest_is}
use Rattle.plane.proofs.Place.{place_lt}
use Rattle.ring.specs.Edges.{corner}
use Rattle.ring.specs.RingBox.{stretch_box}
use Rattle.ring.specs.Turning.{clockwise}
use Rattle.ring.proofs.Turning.{clockwise_means}
use Rattle.ring.proofs.Positive.{positive}
use Rattle.region.specs.Region.{Region, size_of, last_end}
use Rattle.region.specs.Rules.{Keeps, KeepsRules}
use Rattle.region.proofs.Ends.{ring_in_last}
use Rattle.region.proofs.Keeps.{keeps_fewer, Sized, sized, in_range_lem}
use Rattle.relation.specs.Relation.{RegionBox, region_box}
use Rattle.relation.proofs.Regions.{lines_in_range, region_box_is}

-- a stretch reaches at least as far as its beginning
module _ (f : ℕ → ℕ) (m n : ℕ) (h : m ≤ n) where
  least_farther : least_to f n ≤ least_to f m
  least_farther = let x = least_is f m in omega (arith, x.2, least_le f n x.0 (omega (arith, x.1)))

  greatest_farther : greatest_to f m ≤ greatest_to f n
  greatest_farther = let x = greatest_is f m in omega (arith, x.2, greatest_ge f n x.0 (omega (arith, x.1)))

module _ {R : Region} (kept : KeepsRules R) where
  four : Keeps 4 R
  four = keeps_fewer (omega arith) kept

  sizes : Sized R
  sizes = sized (keeps_fewer (omega arith) kept)

  abbrev size : ℕ
  size = size_of R.ends 0

  within : size - 1 ≤ last_end R.ends - 1
  within = omega (arith, ring_in_last R.ends sizes.grown 0 sizes.some)

  -- rule 7 of the first ring
  pub first_clockwise : clockwise R.coordinates 0 size ≡ true
  first_clockwise = go (clockwise R.coordinates 0 size) refl
    where
      go : (t : Bool) → clockwise R.coordinates 0 size ≡ t → t ≡ true
      go true e = refl
      go false e =
          absurd (kept.keeps 7 0 (omega arith) (sizes.some, λ c. never (rw e at ((clockwise_means R.coordinates 0 size ((in_range_lem four).at 0 sizes.some)).1 c))))

  pub wide : (region_box R).west < (region_box R).east
  unfolding region_box stretch_box
  wide =
      let f : ℕ → ℕ = λ i. place_of (corner R.coordinates 0 i).x in
      omega (arith, (positive R.coordinates 0 size first_clockwise).0, least_farther f (size - 1) (last_end R.ends - 1) within, greatest_farther f (size - 1) (last_end R.ends - 1) within)

  pub high : (region_box R).south < (region_box R).north
  unfolding region_box stretch_box
  high =
      let f : ℕ → ℕ = λ i. place_of (corner R.coordinates 0 i).y in
      omega (arith, (positive R.coordinates 0 size first_clockwise).1, least_farther f (size - 1) (last_end R.ends - 1) within, greatest_farther f (size - 1) (last_end R.ends - 1) within)

  module _ (L : Lines) (is : RegionBox R L) where
    range : LinesInRange L
    range = lines_in_range four L is

    pub box_wide : L.west <ℤ L.east
    box_wide = (place_lt L.west L.east range.west range.east).1 (rw (region_box_is four L is) at wide)

    pub box_high : L.south <ℤ L.north
    box_high = (place_lt L.south L.north range.south range.north).1 (rw (region_box_is four L is) at high)
