-- SCOPE 5.6, computed: the cells that two regions mark, in places. A cell that the first marks has 1, one that the second marks has 2, one that both mark
-- their sum; cells past the size of the grid have 0.
--   same_box k b                 the cell is the box
--   ring_marks own b k xs from n  the ring, of a region with the box `own`, marks the cell k: by an edge, or by the centre clause with the other's box b
--   region_marks own b k R       some ring of the region does. Their meaning: proofs/Drawing, `region_marks_means`
--   drawn_value a b first second i j   the value in row i from the north and column j from the west, for two regions with the boxes a and b
--   drawn_cells a b first second  the nine values by row
use Rattle.std.specs.Prelude.{Bool, ◌&&◌, ◌||◌, List, ℕ, ◌+◌, ◌*◌, ◌/◌, ◌%◌, ltb, eqb, length, ℤ}
use Rattle.plane.specs.Choice.{pick}
use Rattle.plane.specs.Folds.{any_to}
use Rattle.plane.specs.Lists.{tab}
use Rattle.plane.specs.TileSet.{one_if}
use Rattle.plane.specs.declared.Box.{Box}
use Rattle.ring.specs.Edges.{ring_edge}
use Rattle.ring.specs.RingBox.{covers, stretch_box}
use Rattle.ring.specs.Enclosed.{encloses}
use Rattle.region.specs.Region.{Region, start_of, size_of}
use Rattle.matrix.specs.Holding.{column_count, row_count}
use Rattle.matrix.specs.Kept.{grid_of, cell_in}
use Rattle.drawing.specs.Stays.{marks}

unfoldable pub same_box : Box → Box → Bool
same_box k b = eqb k.west b.west && (eqb k.south b.south && (eqb k.east b.east && eqb k.north b.north))

unfoldable pub ring_marks : (own b k : Box) → List ℤ → (from n : ℕ) → Bool
ring_marks own b k xs from n =
    any_to (λ i. marks own k (ring_edge xs from n i)) n || (same_box k b && (covers (stretch_box xs from n) b && encloses b xs from n))

unfoldable pub region_marks : (own b k : Box) → Region → Bool
region_marks own b k R = any_to (λ r. ring_marks own b k R.coordinates (start_of R.ends r) (size_of R.ends r)) (length R.ends)

unfoldable pub drawn_value : (a b : Box) (first second : Region) (i j : ℕ) → ℕ
drawn_value a b first second i j =
    pick (ltb i (row_count a b) && ltb j (column_count a b))
    (one_if (region_marks a b (cell_in (grid_of a b) i j) first) + 2 * one_if (region_marks b a (cell_in (grid_of a b) i j) second)) 0

unfoldable pub drawn_cells : (a b : Box) (first second : Region) → List ℕ
drawn_cells a b first second = tab (λ c. drawn_value a b first second (c / 3) (c % 3)) 9
