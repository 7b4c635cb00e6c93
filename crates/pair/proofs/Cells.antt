-- Rows, columns and cells of the pair answer of two accepted regions.
--   rows_between, columns_between      there are 1 to 3 rows and 1 to 3 columns
--   cell_past            a cell past the size is 0;  cell_most  no value is above 3
-- Over the lines L and M of the two regions' boxes:
--   rows_mean, columns_mean            there are m of them exactly when the distinct lines of both boxes leave m strips
--   cell_means           row i and column j are within the size exactly when the grid has such a cell
--   cell_first           a cell's value is 1 or 3 exactly when it lies inside the first region's box and the tile of the second's box
--                        around it is in the answer's relation of the first to the second
--   cell_first_has       exactly when that tile is one that the first region has
--   cell_second, cell_second_has       and 2 or 3 exactly when this is so of the second region
use mathlib.Core.Path.{◌≡◌, ◌∙◌}
use mathlib.Core.Logic.{◌↔◌, ◌⊎◌}
use Prim.Native.Nat.{ℕ, ◌≤◌, ◌<◌}
use native.Mathlib.Omega.{arith}
use lib.IntN.{ℤ}
use Rattle.plane.specs.Points.{Lines}
use Rattle.plane.specs.Placed.{LinesInRange, Upright, box_of}
use Rattle.plane.proofs.Logic.{iff_join}
use Rattle.region.specs.Region.{Region}
use Rattle.relation.specs.Relation.{RegionBox, RegionHas, region_box}
use Rattle.relation.proofs.Regions.{lines_in_range, region_box_is, region_upright}
use Rattle.relation.proofs.Spread.{wide, high}
use Rattle.matrix.specs.Grid.{Strips, Cell}
use Rattle.matrix.specs.Holding.{HoldsWhere, Holds}
use Rattle.matrix.specs.Matrix.{cell_value}
use Rattle.matrix.proofs.Matrix.{rows_size, columns_size, value_at_lem, value_outside, value_lt}
use Rattle.matrix.proofs.Meaning.{row_count_means, column_count_means, value_first, value_second, holds_where, flat_at}
use Rattle.matrix.proofs.Meaning as matrix
use Rattle.pair.specs.Answer.{Answer}
use Rattle.pair.specs.Answer.{given, pair_of}
use Rattle.pair.specs.Meaning.{Answered, cell_from}
use Rattle.pair.proofs.Laws.{four, fields_are, tile_means, back_tile_means}

module _ (first second : Region) (a : Answered first second) where
  abbrev answer : Answer
  answer = pair_of first second

  pub rows_between : (1 ≤ answer.rows) × (answer.rows ≤ 3)
  unfolding given
  rows_between = rw (fields_are first second a) (rows_size (region_box first) (region_box second) (high a.first_kept))

  pub columns_between : (1 ≤ answer.columns) × (answer.columns ≤ 3)
  unfolding given
  columns_between = rw (fields_are first second a) (columns_size (region_box first) (region_box second) (wide a.first_kept))

  cell_is : (i j : ℕ) → i < 3 → j < 3 → cell_from answer i j ≡ cell_value (region_box first) (region_box second) answer.first answer.second i j
  unfolding given
  cell_is i j hi hj = rw (fields_are first second a) (flat_at _ i j hi hj ∙ value_at_lem (region_box first) (region_box second) _ _ i j hi hj)

  pub cell_past : (i j : ℕ) → i < 3 → j < 3 → (answer.rows ≤ i) ⊎ (answer.columns ≤ j) → cell_from answer i j ≡ 0
  unfolding given
  cell_past i j hi hj past =
      cell_is i j hi hj ∙ value_outside (region_box first) (region_box second) answer.first answer.second i j (rw (fields_are first second a) at past)

  pub cell_most : (i j : ℕ) → i < 3 → j < 3 → cell_from answer i j ≤ 3
  cell_most i j hi hj = omega (arith, cell_is i j hi hj, value_lt (region_box first) (region_box second) answer.first answer.second i j)

  module _ (L M : Lines) (one : RegionBox first L) (two : RegionBox second M) where
    -- the two boxes in places
    range : LinesInRange L × LinesInRange M
    range = (lines_in_range (four first second a).0 L one, lines_in_range (four first second a).1 M two)

    first_box : region_box first ≡ box_of L
    first_box = region_box_is (four first second a).0 L one

    second_box : region_box second ≡ box_of M
    second_box = region_box_is (four first second a).1 M two

    upright : Upright (box_of L) × Upright (box_of M)
    upright = (rw first_box at (region_upright first), rw second_box at (region_upright second))

    pub rows_mean : (m : ℕ) → (answer.rows ≡ m) ↔ Strips L.south L.north M.south M.north m
    unfolding given
    rows_mean m = rw (fields_are first second a, first_box, second_box) (row_count_means L M range.0 range.1 m)

    pub columns_mean : (m : ℕ) → (answer.columns ≡ m) ↔ Strips L.west L.east M.west M.east m
    unfolding given
    columns_mean m = rw (fields_are first second a, first_box, second_box) (column_count_means L M range.0 range.1 m)

    pub cell_means : (i j : ℕ) → ((i < answer.rows) × (j < answer.columns)) ↔ ((p : ℤ) × (q : ℤ) × (u : ℤ) × (v : ℤ) × Cell L M i j p q u v)
    unfolding given
    cell_means i j = rw (fields_are first second a, first_box, second_box) (matrix.cell_means L M range.0 range.1 i j)

    module _ (i j : ℕ) (p q u v : ℤ) (c : Cell L M i j p q u v) where
      value : cell_from answer i j ≡ cell_value (box_of L) (box_of M) answer.first answer.second i j
      value =
          let within = (cell_means i j).1 (p, q, u, v, c) in
          cell_is i j (omega (arith, within.0, rows_between.1)) (omega (arith, within.1, columns_between.1)) ∙ rw (first_box, second_box)

      pub cell_first : ((cell_from answer i j ≡ 1) ⊎ (cell_from answer i j ≡ 3)) ↔ Holds L M answer.first p q u v
      cell_first =
          rw value (value_first L M range.0 range.1 upright.0 upright.1 answer.first answer.second i j p q u v c)

      pub cell_second : ((cell_from answer i j ≡ 2) ⊎ (cell_from answer i j ≡ 3)) ↔ Holds M L answer.second p q u v
      cell_second =
          rw value (value_second L M range.0 range.1 upright.0 upright.1 answer.first answer.second i j p q u v c)

      pub cell_first_has : ((cell_from answer i j ≡ 1) ⊎ (cell_from answer i j ≡ 3)) ↔ HoldsWhere L M (RegionHas M first) p q u v
      cell_first_has = iff_join cell_first (holds_where L M answer.first (RegionHas M first) (tile_means first second a M two) p q u v)

      pub cell_second_has : ((cell_from answer i j ≡ 2) ⊎ (cell_from answer i j ≡ 3)) ↔ HoldsWhere M L (RegionHas L second) p q u v
      cell_second_has = iff_join cell_second (holds_where M L answer.second (RegionHas L second) (back_tile_means first second a L one) p q u v)
