-- Four of the errors that a trained hand makes, shut out by the definitions.
--   border_once       an edge on a border line counts for one tile: outline 7 has no B
--   corner_once       a corner crossed by an edge cuts it once: outline 5 has 6 pieces, not 7
--   centre_looked_at  not only edges are looked at: outline 6 has B, which none of its edges has
--   gaps_kept         gap columns and rows are kept: the matrices of outlines 3 and 4 differ
-- The fifth, a column left old on replacement, is shut out by a law of the sheet's layout.
use mathlib.Core.Path.{◌≡◌, refl, ap}
use mathlib.Core.Bool.{false}
use mathlib.Core.List.{List}
use Prim.Native.Nat.{ℕ}
use native.Mathlib.Omega.{arith}
use lib.ListN.{get_or}
use Rattle.plane.specs.Place.{place_of}
use Rattle.plane.specs.Folds.{any_to, sum_to, least_to, greatest_to}
use Rattle.plane.specs.Lists.{tab_from}
use Rattle.plane.specs.TileSet.{set_of, bit}
use Rattle.edge.specs.TileList.{count_in, stands_in}
use Rattle.edge.specs.Moments.{sooner, rise_of, fall_of, axis_of}
use Rattle.edge.specs.Walk.{lines_at_start, lines_past, range_after, tile_of, enter_of, step_of, state_of, list_of}
use Rattle.edge.specs.Drawn.{has, pieces}
use Rattle.ring.specs.Edges.{next_of, ring_edge}
use Rattle.ring.specs.RingBox.{stretch_box, covers}
use Rattle.ring.specs.Enclosed.{eastward, crosses_at, encloses_at}
use Rattle.ring.specs.RingTiles.{edges_have, ring_has, ring_pieces}
use Rattle.relation.specs.Relation.{region_box, region_has, relation_of, region_pieces}
use Rattle.matrix.specs.Holding.{insert, lines_of, cell_at, range_of, holds}
use Rattle.matrix.specs.Matrix.{cell_value, matrix_of, flat_of}
use Rattle.outlines.specs.Rows.{square, corner, apart, triangle, crossed, large, ring}

pub border_once : bit (relation_of (region_box square) ring) 4 ≡ 0
unfolding place_of any_to sum_to least_to greatest_to set_of sooner rise_of fall_of axis_of lines_at_start lines_past range_after tile_of enter_of step_of state_of list_of stands_in has next_of ring_edge stretch_box covers eastward crosses_at encloses_at edges_have ring_has region_box region_has relation_of
border_once = refl

pub corner_once : region_pieces (region_box crossed) triangle ≡ 6
unfolding place_of sum_to least_to greatest_to sooner rise_of fall_of axis_of lines_at_start lines_past range_after tile_of enter_of step_of state_of list_of count_in pieces next_of ring_edge stretch_box ring_pieces region_box region_pieces
corner_once = refl

pub centre_looked_at : (edges_have (region_box square) large.coordinates 0 4 4 ≡ false) × (bit (relation_of (region_box square) large) 4 ≡ 1)
unfolding place_of any_to sum_to least_to greatest_to set_of sooner rise_of fall_of axis_of lines_at_start lines_past range_after tile_of enter_of step_of state_of list_of stands_in has next_of ring_edge stretch_box covers eastward crosses_at encloses_at edges_have ring_has region_box region_has relation_of
centre_looked_at = (refl, refl)

-- SW is bit 6 and NE bit 2, so 64 and 4
pub gaps_kept : flat_of (matrix_of (region_box square) (region_box corner) 64 4) ≡ flat_of (matrix_of (region_box square) (region_box apart) 64 4) → ⊥
unfolding place_of least_to greatest_to stretch_box region_box insert lines_of cell_at range_of holds cell_value matrix_of flat_of tab_from
gaps_kept e = differ (ap (λ (l : List ℕ). get_or l 1 0) e)
  where
    differ : ◌≡◌ {A = ℕ} 2 0 → ⊥
    differ q = omega arith
