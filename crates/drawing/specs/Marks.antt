-- SCOPE 5.6: the second way to the matrix, as it is drawn. The lines of both boxes are laid over the plane, the edges are cut by them, and each piece
-- marks the cell in which it lies. A piece that runs along a line lies between two cells: it marks the one right of travel, but on an outer line of its
-- own region's box the one inside that box. Over whole-number coordinates, without tiles and without relations. L are the lines of the region's own
-- box, M those of the other's, and K the four lines that bound the cell.
--   Between lo hi n v      v/n lies strictly between the lines lo and hi
--   InColumn, InRow K A B p    the point p of the edge from A to B lies strictly between the cell's lines in x, in y
--   ToEast, ToWest L A B   an upright edge counts for the cells east of its line, west of it: on the own box's west line for those east of it, on its
--                          east line for those west of it, and on no own line by its travel: north has its right in the east, south in the west
--   ToNorth, ToSouth L A B    the same for a level edge: on the own south line, on the own north line; travel west, travel east
--   MarksAt L K A B p      the point p, strictly between the ends, marks the cell: it lies strictly inside; or it lies strictly inside in the edge's own
--                          axis, the edge runs along a line of the cell, and it counts for that side
--   Marks L K A B          some point of the edge does
--   SameLines K M          the cell is the other's box
--   RingMarks L M K xs from n    an edge of the ring marks the cell; or the centre clause does: the cell is the other's box, which the ring's own box
--                          covers, and the ring encloses its centre
--   RegionMarks L M K R    some ring of the region marks the cell
--   DrawnAt R L M i j      the cell in row i from the north and column j from the west of the grid (matrix's Grid) is marked for the region R
-- As tests: specs/Stays and specs/Drawing. That these say the same: proofs/Marks, `marks_means`, and proofs/Drawing, `region_marks_means`.
use Rattle.std.specs.Prelude.{◌≡◌, ◌⊎◌, ◌≢◌, List, ℕ, ◌<◌, length, ℤ, pos, ◌*ℤ◌, ◌<ℤ◌}
use Rattle.plane.specs.Points.{Point, Lines, along, Fraction}
use Rattle.edge.specs.Clauses.{Apart}
use Rattle.ring.specs.Edges.{corner, after}
use Rattle.ring.specs.RingTiles.{CoversAndEncloses}
use Rattle.region.specs.Region.{Region, start_of, size_of}
use Rattle.matrix.specs.Grid.{Cell}

abbrev pub Between : (lo hi : ℤ) (n : ℕ) (v : ℤ) → Type 0
Between lo hi n v = ((pos n *ℤ lo) <ℤ v) × (v <ℤ (pos n *ℤ hi))

abbrev pub InColumn : Lines → Point → Point → Fraction → Type 0
InColumn K A B p = Between K.west K.east p.n (along p.n p.k A.x B.x)

abbrev pub InRow : Lines → Point → Point → Fraction → Type 0
InRow K A B p = Between K.south K.north p.n (along p.n p.k A.y B.y)

abbrev pub ToEast : Lines → Point → Point → Type 0
ToEast L A B = (A.x ≡ L.west) ⊎ ((A.x ≢ L.west) × (A.x ≢ L.east) × (A.y <ℤ B.y))

abbrev pub ToWest : Lines → Point → Point → Type 0
ToWest L A B = (A.x ≡ L.east) ⊎ ((A.x ≢ L.west) × (A.x ≢ L.east) × (B.y <ℤ A.y))

abbrev pub ToNorth : Lines → Point → Point → Type 0
ToNorth L A B = (A.y ≡ L.south) ⊎ ((A.y ≢ L.south) × (A.y ≢ L.north) × (B.x <ℤ A.x))

abbrev pub ToSouth : Lines → Point → Point → Type 0
ToSouth L A B = (A.y ≡ L.north) ⊎ ((A.y ≢ L.south) × (A.y ≢ L.north) × (A.x <ℤ B.x))

pub data MarksAt (L K : Lines) (A B : Point) (p : Fraction) : Type 0 where
  inside : Apart A B → InColumn K A B p → InRow K A B p → MarksAt L K A B p
  east_of_it : Apart A B → A.x ≡ B.x → A.x ≡ K.west → ToEast L A B → InRow K A B p → MarksAt L K A B p
  west_of_it : Apart A B → A.x ≡ B.x → A.x ≡ K.east → ToWest L A B → InRow K A B p → MarksAt L K A B p
  north_of_it : Apart A B → A.y ≡ B.y → A.y ≡ K.south → ToNorth L A B → InColumn K A B p → MarksAt L K A B p
  south_of_it : Apart A B → A.y ≡ B.y → A.y ≡ K.north → ToSouth L A B → InColumn K A B p → MarksAt L K A B p

abbrev pub Marks : (L K : Lines) (A B : Point) → Type 0
Marks L K A B = (p : Fraction) × MarksAt L K A B p

pub record SameLines (K M : Lines) : Type 0 where
  pub west : K.west ≡ M.west
  pub south : K.south ≡ M.south
  pub east : K.east ≡ M.east
  pub north : K.north ≡ M.north

abbrev pub RingMarks : (L M K : Lines) → List ℤ → (from n : ℕ) → Type 0
RingMarks L M K xs from n =
    ((k : ℕ) × (k < n) × Marks L K (corner xs from k) (after xs from n k)) ⊎ (SameLines K M × CoversAndEncloses M xs from n)

abbrev pub RegionMarks : (L M K : Lines) → Region → Type 0
RegionMarks L M K R = (r : ℕ) × (r < length R.ends) × RingMarks L M K R.coordinates (start_of R.ends r) (size_of R.ends r)

pub record DrawnAt (R : Region) (L M : Lines) (i j : ℕ) : Type 0 where
  pub cell : Lines
  pub is_cell : Cell L M i j cell.west cell.east cell.south cell.north
  pub marked : RegionMarks L M cell R
