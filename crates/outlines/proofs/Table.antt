-- The definitions give the table of worked outlines, every field of every answer, computed by the checker.
--   table    the pair answers of all rows
--   words    the word "around" of each
use mathlib.Core.Path.{◌≡◌, refl}
use mathlib.Core.List.{map}
use Rattle.plane.specs.Place.{place_of, in_range}
use Rattle.plane.specs.Folds.{any_to, sum_to, first_of, least_to, greatest_to}
use Rattle.plane.specs.Lists.{tab_from}
use Rattle.plane.specs.TileSet.{set_of}
use Rattle.edge.specs.TileList.{count_in, stands_in}
use Rattle.edge.specs.Moments.{sooner, rise_of, fall_of, axis_of}
use Rattle.edge.specs.Walk.{lines_at_start, lines_past, range_after, tile_of, enter_of, step_of, state_of, list_of}
use Rattle.edge.specs.Drawn.{has, pieces}
use Rattle.meet.specs.MeetTest.{straddles, overlap, ends_apart, shares, one_side, folds}
use Rattle.ring.specs.Edges.{next_of, ring_edge}
use Rattle.ring.specs.RingBox.{stretch_box, covers}
use Rattle.ring.specs.Repeated.{equal_ends, repeated}
use Rattle.ring.specs.Tangled.{tangled_pair, tangled}
use Rattle.ring.specs.Turning.{clockwise}
use Rattle.ring.specs.Enclosed.{eastward, crosses_at, encloses_at}
use Rattle.ring.specs.RingTiles.{edges_have, ring_has, ring_pieces}
use Rattle.region.specs.Check.{short_at, outside_in, breaks_at, first_breaking, shape_of, check_of}
use Rattle.relation.specs.Relation.{region_box, region_has, relation_of, region_pieces}
use Rattle.matrix.specs.Holding.{insert, lines_of, cell_at, range_of, holds}
use Rattle.matrix.specs.Matrix.{cell_value, matrix_of, flat_of}
use Rattle.compass.specs.Directions.{side_of, holds_first, holds_second, compass_place, directed, directions_of}
use Rattle.pair.specs.Answer.{Answer}
use Rattle.pair.specs.Answer.{pair_of, answer_of, given}
use Rattle.around.specs.Around.{around_of}
use Rattle.outlines.specs.Rows.{Row, rows}

abbrev pub answer_to : Row → Answer
answer_to r = pair_of r.first r.second

pub table : map answer_to rows ≡ map (λ r. r.answer) rows
unfolding place_of in_range any_to sum_to first_of least_to greatest_to tab_from set_of sooner rise_of fall_of axis_of lines_at_start lines_past range_after tile_of enter_of step_of state_of list_of stands_in count_in has pieces straddles overlap ends_apart shares one_side folds next_of ring_edge stretch_box covers equal_ends repeated tangled_pair tangled clockwise eastward crosses_at encloses_at edges_have ring_has ring_pieces short_at outside_in breaks_at first_breaking shape_of check_of region_box region_has relation_of region_pieces insert lines_of cell_at range_of holds cell_value matrix_of flat_of side_of holds_first holds_second compass_place directed directions_of pair_of answer_of given
table = refl

pub words : map (λ r. around_of r.answer) rows ≡ map (λ r. r.around) rows
unfolding around_of
words = refl
