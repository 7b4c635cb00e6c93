-- Where the agreement needs rule 6. A ring run twice round the square keeps rules 1 to 5; beside A, each of its edges runs along two lines that are outer
-- lines of both boxes, against the clock. Right of travel lies outside, so by tiles it has nothing of A's box; drawn, it marks the cell inside.
--   twice_refused    the region breaks rule 6, and none before it
--   twice_by_tiles, twice_drawn    the one engine gives the only cell 2, the other 3
use mathlib.Core.Path.{◌≡◌, refl}
use mathlib.Core.List.{[], ◌∷◌}
use lib.IntN.{pos}
use Rattle.plane.specs.Place.{place_of, in_range}
use Rattle.plane.specs.Folds.{any_to, sum_to, first_of, least_to, greatest_to}
use Rattle.plane.specs.Lists.{tab_from}
use Rattle.plane.specs.TileSet.{set_of}
use Rattle.edge.specs.TileList.{stands_in}
use Rattle.edge.specs.Moments.{sooner, rise_of, fall_of, axis_of}
use Rattle.edge.specs.Walk.{lines_at_start, lines_past, range_after, tile_of, enter_of, step_of, state_of, list_of}
use Rattle.edge.specs.Drawn.{has}
use Rattle.meet.specs.MeetTest.{straddles, overlap, ends_apart, shares, one_side, folds}
use Rattle.ring.specs.Edges.{next_of, ring_edge}
use Rattle.ring.specs.RingBox.{stretch_box, covers}
use Rattle.ring.specs.Repeated.{equal_ends, repeated}
use Rattle.ring.specs.Tangled.{tangled_pair, tangled}
use Rattle.ring.specs.Turning.{clockwise}
use Rattle.ring.specs.Enclosed.{eastward, crosses_at, encloses_at}
use Rattle.ring.specs.RingTiles.{edges_have, ring_has}
use Rattle.region.specs.Region.{Region, region_of}
use Rattle.region.specs.Check.{short_at, outside_in, breaks_at, first_breaking, shape_of, check_of}
use Rattle.region.specs.Check.{Refused}
use Rattle.relation.specs.Relation.{region_box, region_has, relation_of}
use Rattle.matrix.specs.Holding.{insert, lines_of, cell_at, range_of, holds}
use Rattle.matrix.specs.Kept.{grid_of, cell_in}
use Rattle.matrix.specs.Matrix.{cell_value, matrix_of, flat_of}
use Rattle.drawing.specs.Stays.{counted, stay_of, overlaps, marks}
use Rattle.drawing.specs.Drawing.{same_box, ring_marks, region_marks, drawn_value, drawn_cells}

abbrev pub twice : Region
twice =
    region_of (pos 0 ∷ pos 0 ∷ pos 10 ∷ pos 0 ∷ pos 10 ∷ pos 10 ∷ pos 0 ∷ pos 10 ∷ pos 0 ∷ pos 0 ∷ pos 10 ∷ pos 0 ∷ pos 10 ∷ pos 10 ∷ pos 0 ∷ pos 10 ∷ []) (8 ∷ [])

abbrev pub square : Region
square = region_of (pos 0 ∷ pos 0 ∷ pos 0 ∷ pos 10 ∷ pos 10 ∷ pos 10 ∷ pos 10 ∷ pos 0 ∷ []) (4 ∷ [])

pub twice_refused : check_of twice ≡ Refused 6 0
unfolding place_of in_range any_to sum_to first_of straddles overlap ends_apart shares one_side folds next_of ring_edge equal_ends repeated tangled_pair tangled clockwise short_at outside_in breaks_at first_breaking shape_of check_of
twice_refused = refl

pub twice_by_tiles : flat_of (matrix_of (region_box twice) (region_box square) (relation_of (region_box square) twice) (relation_of (region_box twice) square))
    ≡ 2 ∷ 0 ∷ 0 ∷ 0 ∷ 0 ∷ 0 ∷ 0 ∷ 0 ∷ 0 ∷ []
unfolding place_of any_to sum_to least_to greatest_to tab_from set_of sooner rise_of fall_of axis_of lines_at_start lines_past range_after tile_of enter_of step_of state_of list_of stands_in has next_of ring_edge stretch_box covers eastward crosses_at encloses_at edges_have ring_has region_box region_has relation_of insert lines_of cell_at range_of holds cell_value matrix_of flat_of
twice_by_tiles = refl

pub twice_drawn : drawn_cells (region_box twice) (region_box square) twice square ≡ 3 ∷ 0 ∷ 0 ∷ 0 ∷ 0 ∷ 0 ∷ 0 ∷ 0 ∷ 0 ∷ []
unfolding place_of any_to sum_to least_to greatest_to tab_from next_of ring_edge equal_ends stretch_box covers eastward crosses_at encloses_at region_box insert lines_of grid_of cell_in counted stay_of overlaps marks same_box ring_marks region_marks drawn_value drawn_cells
twice_drawn = refl
