-- Pins worked by hand, as docs/TEACHING.md tells them: how many edges cross the ray, and what the relation is. A pin (x/d, y/d) has the places
-- x + d·1,000,000 and y + d·1,000,000.
--   crossings            how many edges of a ring cross the ray of a pin
--   large_inside, large_east, large_west, large_low, large_high    outline 6: pins in B and in E, and three west of the square, the last two at the
--                        height of its lower and its upper corners
--   notched, notched_relation        a square with a notch, and its relation to a box that reaches into the notch
--   west_arm, in_the_notch, below, at_the_floor    four pins at the notch
--   triangle, at_the_point, triangle_relation    a triangle and its own box: a pin west of it, at the height of its point, is not enclosed
--   on_a_line, own_relation          a square and its own box: a pin on the west line is enclosed, and W is not in the relation. So a pin on a line is no
--                        pin in a tile
use mathlib.Core.Path.{◌≡◌, refl}
use mathlib.Core.List.{List, [], ◌∷◌}
use Prim.Native.Nat.{ℕ}
use lib.IntN.{ℤ, pos, negsuc}
use Rattle.plane.specs.Place.{place_of}
use Rattle.plane.specs.Folds.{any_to, sum_to, least_to, greatest_to}
use Rattle.plane.specs.TileSet.{one_if, set_of}
use Rattle.plane.specs.Points.{Lines}
use Rattle.plane.specs.Placed.{box_of}
use Rattle.edge.specs.TileList.{count_in, stands_in}
use Rattle.edge.specs.Moments.{sooner, rise_of, fall_of, axis_of}
use Rattle.edge.specs.Walk.{lines_at_start, lines_past, range_after, tile_of, enter_of, step_of, state_of, list_of}
use Rattle.edge.specs.Drawn.{has}
use Rattle.ring.specs.Edges.{next_of, ring_edge}
use Rattle.ring.specs.RingBox.{stretch_box, covers}
use Rattle.ring.specs.Enclosed.{eastward, crosses_at, encloses_at}
use Rattle.ring.specs.RingTiles.{edges_have, ring_has}
use Rattle.region.specs.Region.{region_of}
use Rattle.relation.specs.Relation.{region_box, region_has, relation_of}

abbrev pub crossings : (d px py : ℕ) → List ℤ → (n : ℕ) → ℕ
crossings d px py xs n = sum_to (λ k. one_if (crosses_at d px py (ring_edge xs 0 n k))) n

abbrev large : List ℤ
large = negsuc 9 ∷ negsuc 9 ∷ negsuc 9 ∷ pos 40 ∷ pos 40 ∷ pos 40 ∷ pos 40 ∷ negsuc 9 ∷ []

abbrev pub notched : List ℤ
notched =
    pos 0 ∷ pos 0 ∷ pos 0 ∷ pos 30 ∷ pos 10 ∷ pos 30 ∷ pos 10 ∷ pos 10
    ∷ pos 20 ∷ pos 10 ∷ pos 20 ∷ pos 30 ∷ pos 30 ∷ pos 30 ∷ pos 30 ∷ pos 0 ∷ []

abbrev pub triangle : List ℤ
triangle = pos 0 ∷ pos 0 ∷ pos 0 ∷ pos 10 ∷ pos 10 ∷ pos 5 ∷ []

abbrev pub square : List ℤ
square = pos 0 ∷ pos 0 ∷ pos 0 ∷ pos 10 ∷ pos 10 ∷ pos 10 ∷ pos 10 ∷ pos 0 ∷ []

abbrev reaching : Lines
reaching = record { west = pos 12; south = pos 15; east = pos 18; north = pos 25 }

-- ---- outline 6
pub large_inside : crossings 2 2000005 2000005 large 4 ≡ 1
unfolding sum_to place_of next_of ring_edge crosses_at eastward
large_inside = refl

pub large_east : crossings 1 1000025 1000005 large 4 ≡ 1
unfolding sum_to place_of next_of ring_edge crosses_at eastward
large_east = refl

pub large_low : crossings 1 999980 999990 large 4 ≡ 2
unfolding sum_to place_of next_of ring_edge crosses_at eastward
large_low = refl

pub large_high : crossings 1 999980 1000040 large 4 ≡ 0
unfolding sum_to place_of next_of ring_edge crosses_at eastward
large_high = refl

pub large_west : crossings 2 1999979 2000010 large 4 ≡ 2
unfolding sum_to place_of next_of ring_edge crosses_at eastward
large_west = refl

-- ---- the notch
pub west_arm : crossings 1 1000005 1000020 notched 8 ≡ 3
unfolding sum_to place_of next_of ring_edge crosses_at eastward
west_arm = refl

pub in_the_notch : crossings 1 1000015 1000020 notched 8 ≡ 2
unfolding sum_to place_of next_of ring_edge crosses_at eastward
in_the_notch = refl

pub below : crossings 1 1000015 1000005 notched 8 ≡ 1
unfolding sum_to place_of next_of ring_edge crosses_at eastward
below = refl

pub at_the_floor : crossings 1 1000005 1000010 notched 8 ≡ 3
unfolding sum_to place_of next_of ring_edge crosses_at eastward
at_the_floor = refl

-- NW, NE, W, E, SW, S and SE
pub notched_relation : relation_of (box_of reaching) (region_of notched (8 ∷ [])) ≡ 493
unfolding place_of any_to sum_to least_to greatest_to set_of sooner rise_of fall_of axis_of lines_at_start lines_past range_after tile_of enter_of step_of state_of list_of stands_in count_in has next_of ring_edge stretch_box covers eastward crosses_at encloses_at edges_have ring_has region_has relation_of
notched_relation = refl

-- ---- the point of a triangle
pub at_the_point : crossings 1 999995 1000005 triangle 3 ≡ 2
unfolding sum_to place_of next_of ring_edge crosses_at eastward
at_the_point = refl

pub triangle_relation : relation_of (region_box (region_of triangle (3 ∷ []))) (region_of triangle (3 ∷ [])) ≡ 16
unfolding place_of any_to sum_to least_to greatest_to set_of sooner rise_of fall_of axis_of lines_at_start lines_past range_after tile_of enter_of step_of state_of list_of stands_in count_in has next_of ring_edge stretch_box covers eastward crosses_at encloses_at edges_have ring_has region_box region_has relation_of
triangle_relation = refl

-- ---- a line
pub on_a_line : crossings 1 1000000 1000005 square 4 ≡ 1
unfolding sum_to place_of next_of ring_edge crosses_at eastward
on_a_line = refl

-- B alone
pub own_relation : relation_of (region_box (region_of square (4 ∷ []))) (region_of square (4 ∷ [])) ≡ 16
unfolding place_of any_to sum_to least_to greatest_to set_of sooner rise_of fall_of axis_of lines_at_start lines_past range_after tile_of enter_of step_of state_of list_of stands_in count_in has next_of ring_edge stretch_box covers eastward crosses_at encloses_at edges_have ring_has region_box region_has relation_of
own_relation = refl
