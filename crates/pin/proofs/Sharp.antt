-- Why the promise on enclosed pins speaks of pins strictly inside a tile, of the ray to the east, and of the lower end of an edge alone. Two examples
-- with one box, 0 to 10 both ways: the square A and the pin (0, 5) on its west side; the triangle T and the pin (-5, 5), west of it at the height of
-- its point (10, 5).
--   A, T, own, pin, far     they;  A-kept, T-kept, A-box, T-box  A and T are accepted, and that is their box
--   no_west                 a region of that box whose relation to it is B alone has not W
--   pin_enclosed            A encloses the pin, by the ray to the east
--   west_missed             and does not by the ray to the west: that is another rule
--   on_rim                  the pin lies on the rim of W
--   rim_unaccounted         so of pins in a tile or on its rim the promise is false, of accepted regions too
--   far_enclosed, far_west  with upper ends counted, T encloses the far pin, which lies in W
--   upper_unaccounted       so with upper ends counted the promise is false
use mathlib.Core.Path.{◌≡◌, refl, ap}
use mathlib.Core.Logic.{◌≢◌}
use mathlib.Core.Bool.{true}
use mathlib.Core.List.{[], ◌∷◌}
use Prim.Native.Nat.{ℕ, ◌≤◌, ◌<◌}
use native.Mathlib.Omega.{arith}
use lib.ListN.{length}
use lib.IntN.{pos, negsuc, ◌*ℤ◌}
use lib.Signed.{mag, lt_z}
use Rattle.plane.specs.Place.{place_of, in_range}
use Rattle.plane.specs.Folds.{any_to, sum_to, first_of, least_to, greatest_to}
use Rattle.plane.specs.Points.{Point, Lines, along}
use Rattle.plane.specs.Placed.{LinesInRange}
use Rattle.plane.specs.Ray.{Pin}
use Rattle.plane.specs.TileSet.{bit}
use Rattle.plane.specs.Counting.{none, one_more}
use Rattle.plane.proofs.Logic.{never}
use Rattle.plane.proofs.Place.{below_means, at_most_means}
use Rattle.meet.specs.MeetTest.{straddles, overlap, ends_apart, shares, one_side, folds}
use Rattle.ring.specs.Edges.{next_of, ring_edge}
use Rattle.ring.specs.Repeated.{equal_ends, repeated}
use Rattle.ring.specs.Tangled.{tangled_pair, tangled}
use Rattle.ring.specs.Turning.{clockwise}
use Rattle.ring.specs.RingBox.{stretch_box}
use Rattle.ring.specs.Enclosed.{eastward, crosses_at, encloses_at}
use Rattle.ring.proofs.Enclosed.{encloses_at_means}
use Rattle.region.specs.Region.{Region, region_of, start_of, size_of}
use Rattle.region.specs.Rules.{Keeps, KeepsRules}
use Rattle.region.specs.Check.{short_at, outside_in, breaks_at, first_breaking, shape_of, check_of}
use Rattle.region.proofs.Check.{accepted_means}
use Rattle.region.proofs.Keeps.{keeps_fewer, in_range_lem}
use Rattle.relation.specs.Relation.{RegionBox, RegionHas, region_box, relation_of}
use Rattle.relation.proofs.Regions.{region_box_means}
use Rattle.relation.proofs.Relation.{relation_tile}
use Rattle.pin.specs.Pins.{InTile, InOrOnTile, Encloses}
use Rattle.pin.specs.West.{EnclosedWest}
use Rattle.pin.specs.BothEnds.{CrossesBothEnds, EnclosedBothEnds}
use Rattle.pin.proofs.Examples.{square, triangle, own_relation, triangle_relation}
use Rattle.pin.proofs.West.{west_beyond}

abbrev pub A : Region
A = region_of square (4 ∷ [])

abbrev pub T : Region
T = region_of triangle (3 ∷ [])

abbrev pub own : Lines
own = record { west = pos 0; south = pos 0; east = pos 10; north = pos 10 }

abbrev pub pin : Pin
pin = record { x = pos 0; y = pos 5; n = 1; some = omega arith }

abbrev pub far : Pin
far = record { x = negsuc 4; y = pos 5; n = 1; some = omega arith }

pub A-kept : KeepsRules A
unfolding place_of in_range any_to sum_to first_of straddles overlap ends_apart shares one_side folds next_of ring_edge equal_ends repeated tangled_pair tangled clockwise short_at outside_in breaks_at first_breaking shape_of check_of
A-kept = (accepted_means A).0 refl

pub T-kept : KeepsRules T
unfolding place_of in_range any_to sum_to first_of straddles overlap ends_apart shares one_side folds next_of ring_edge equal_ends repeated tangled_pair tangled clockwise short_at outside_in breaks_at first_breaking shape_of check_of
T-kept = (accepted_means T).0 refl

four : {R : Region} → KeepsRules R → Keeps 4 R
four kept = keeps_fewer (omega arith) kept

own_range : LinesInRange own
unfolding in_range
own_range = record { west = refl; south = refl; east = refl; north = refl }

pub A-box : RegionBox A own
unfolding place_of least_to greatest_to stretch_box region_box
A-box = (region_box_means (four A-kept) own own_range).0 refl

pub T-box : RegionBox T own
unfolding place_of least_to greatest_to stretch_box region_box
T-box = (region_box_means (four T-kept) own own_range).0 refl

pub no_west : (R : Region) → KeepsRules R → RegionBox R own → relation_of (region_box R) R ≡ 16 → RegionHas own R 3 → ⊥
no_west R kept is e h = never (rw e at ((relation_tile (four kept) (four kept) own is 3 (omega arith)).1 h))
  where
    never : bit 16 3 ≡ 1 → ⊥
    never q = omega (arith, q)

-- ---- a pin on a line
pub pin_enclosed : Encloses A 0 pin
unfolding sum_to place_of next_of ring_edge crosses_at eastward encloses_at
pin_enclosed = (encloses_at_means pin 1000000 1000005 (record { x = refl; y = refl }) square 0 4 ((in_range_lem (four A-kept)).at 0 (omega arith))).0 refl

pub west_missed : EnclosedWest pin square 0 4 → ⊥
west_missed e = never ((below_means (pos 0) (pos 0)).1 (west_beyond square 0 4 ((in_range_lem (four A-kept)).at 0 (omega arith)) pin e own A-box))

pub on_rim : InOrOnTile own pin 3
on_rim = ((at_most_means _ _).0 refl, ((at_most_means _ _).0 refl, (at_most_means _ _).0 refl))

pub rim_unaccounted : ((R Q : Region) → KeepsRules R → KeepsRules Q → (L : Lines) → RegionBox Q L → (P : Pin) (r t : ℕ) → r < length R.ends → t < 9
    → Encloses R r P → InOrOnTile L P t → RegionHas L R t) → ⊥
rim_unaccounted all = no_west A A-kept A-box own_relation (all A A A-kept A-kept own A-box pin 0 3 (omega arith) (omega arith) pin_enclosed on_rim)

-- ---- upper ends
pub far_enclosed : EnclosedBothEnds far triangle 0 3
unfolding next_of
far_enclosed =
    record {
      crossing = 3;
      counted =
          one_more (one_more (one_more none
          (crosses 1 2 (omega arith) (omega arith) refl refl (apart 0 10 (omega arith))))
          (crosses 1 1 (omega arith) (omega arith) refl refl (apart 10 5 (omega arith))))
          (crosses 0 1 (omega arith) (omega arith) refl refl (apart 5 0 (omega arith)));
      odd = refl;
    }
  where
    crosses : {B C : Point} → (k m : ℕ) → 0 < m → k ≤ m → pos 1 *ℤ along m k B.y C.y ≡ pos m *ℤ far.y
        → lt_z (pos m *ℤ far.x) (pos 1 *ℤ along m k B.x C.x) ≡ true → B.y ≢ C.y → CrossesBothEnds far B C
    crosses k m some closed level past ne =
        record { k = k; m = m; some = some; closed = closed; at_height = level; strictly_east = (below_means _ _).0 past; not_level = ne }

    apart : (a b : ℕ) → a ≢ b → pos a ≢ pos b
    apart a b ne e = ne (ap mag e)

pub far_west : InTile own far 3
far_west = ((below_means _ _).0 refl, ((below_means _ _).0 refl, (below_means _ _).0 refl))

pub upper_unaccounted : ((R Q : Region) → KeepsRules R → KeepsRules Q → (L : Lines) → RegionBox Q L → (P : Pin) (r t : ℕ) → r < length R.ends → t < 9
    → EnclosedBothEnds P R.coordinates (start_of R.ends r) (size_of R.ends r) → InTile L P t → RegionHas L R t) → ⊥
upper_unaccounted all = no_west T T-kept T-box triangle_relation (all T T T-kept T-kept own T-box far 0 3 (omega arith) (omega arith) far_enclosed far_west)
