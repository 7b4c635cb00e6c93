-- No rule stands here: what the functions behind the drawn matrix compute. No promise hangs on these names: proofs/ shows that the steps together
-- are the definitions of drawing/specs/Drawing.
--   row_stay g e above i   the stay of the edge e in row i of the grid;  row_set up west middle east  the three cells of a row as a set
--   near a b lo hi         an axis from a to b comes near the lines lo and hi;  near_row, near_column g e  so the edge e does, to row i, to column j
--   near_cell g e c        the edge comes near cell c by row
--   edges_mark own k R     some edge of the region marks the cell
--   ring_centre, region_centre b  the ring, some ring of the region, covers the box b and encloses its centre
--   marked_by own b g R    what the region marks in the grid g;  is_marked m k b c  so the cell k, which is cell c by row, is marked
--   value_by a b first second i j   the value of a cell for two regions that mark so
use Rattle.std.specs.Prelude.{Bool, ◌&&◌, ◌||◌, List, ℕ, ◌+◌, ◌-◌, ◌*◌, ◌/◌, ◌%◌, min, max, leb, ltb, eqb, length, get_or, ℤ}
use Rattle.plane.specs.Choice.{pick}
use Rattle.plane.specs.Folds.{any_to}
use Rattle.plane.specs.TileSet.{one_if, set_of, bit}
use Rattle.plane.specs.declared.Box.{Box}
use Rattle.plane.specs.declared.Edge.{Edge}
use Rattle.ring.specs.Edges.{ring_edge}
use Rattle.ring.specs.RingBox.{covers, stretch_box}
use Rattle.ring.specs.Enclosed.{encloses}
use Rattle.region.specs.Region.{Region, start_of, size_of}
use Rattle.matrix.specs.declared.GridLines.{GridLines}
use Rattle.matrix.specs.Holding.{column_count, row_count}
use Rattle.matrix.specs.Kept.{grid_of, cell_in}
use Rattle.drawing.specs.declared.Stay.{Stay}
use Rattle.drawing.specs.Stays.{stay_of, overlaps, marks}
use Rattle.drawing.specs.Drawing.{same_box}
use Rattle.drawn.specs.declared.Marked.{Marked}

unfoldable pub row_stay : GridLines → Edge → Bool → ℕ → Stay
row_stay g e above i = stay_of e.ay e.by (get_or g.up (g.rows - 1 - i) 0) (get_or g.up (g.rows - i) 0) above

unfoldable pub row_set : (up west middle east : Stay) → ℕ
row_set up west middle east = one_if (overlaps west up) * 1 + one_if (overlaps middle up) * 2 + one_if (overlaps east up) * 4

unfoldable pub near : (a b lo hi : ℕ) → Bool
near a b lo hi = leb (min a b) hi && leb lo (max a b)

unfoldable pub near_row : GridLines → Edge → ℕ → Bool
near_row g e i = ltb i g.rows && near e.ay e.by (get_or g.up (g.rows - 1 - i) 0) (get_or g.up (g.rows - i) 0)

unfoldable pub near_column : GridLines → Edge → ℕ → Bool
near_column g e j = near e.ax e.bx (get_or g.across j 0) (get_or g.across (j + 1) 0)

abbrev pub near_cell : GridLines → Edge → ℕ → Bool
near_cell g e c = near_row g e (c / 3) && near_column g e (c % 3)

unfoldable pub edges_mark : (own k : Box) → Region → Bool
edges_mark own k R =
    any_to (λ r. any_to (λ i. marks own k (ring_edge R.coordinates (start_of R.ends r) (size_of R.ends r) i)) (size_of R.ends r)) (length R.ends)

unfoldable pub ring_centre : Box → List ℤ → (from n : ℕ) → Bool
ring_centre b xs from n = covers (stretch_box xs from n) b && encloses b xs from n

unfoldable pub region_centre : Box → Region → Bool
region_centre b R = any_to (λ r. ring_centre b R.coordinates (start_of R.ends r) (size_of R.ends r)) (length R.ends)

abbrev pub marked_by : (own b : Box) → GridLines → Region → Marked
marked_by own b g R = record { cells = set_of (λ c. edges_mark own (cell_in g (c / 3) (c % 3)) R) 9; centre = region_centre b R }

unfoldable pub is_marked : Marked → (k b : Box) → ℕ → Bool
is_marked m k b c = eqb (bit m.cells c) 1 || (m.centre && same_box k b)

unfoldable pub value_by : (a b : Box) (first second : Marked) (i j : ℕ) → ℕ
value_by a b first second i j =
    pick (ltb i (row_count a b) && ltb j (column_count a b))
    (one_if (is_marked first (cell_in (grid_of a b) i j) b (3 * i + j)) + 2 * one_if (is_marked second (cell_in (grid_of a b) i j) a (3 * i + j))) 0
