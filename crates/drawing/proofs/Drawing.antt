-- The cells that a region marks, by tests and by the rule.
--   same_box_means       a cell is a box
--   ring_marks_means     a ring marks a cell exactly where the test says so
--   region_marks_means   a region that keeps rules 1 to 4 marks a cell exactly where the test says so
--   cell_lines p q u v   the lines that bound a cell;  cell_is  the kept grid's cell has them in places;  cell_in_range, cell_roomy  and they are in range
--                        and apart
--   first_drawn, second_drawn    the cell in row i and column j of the grid is marked for the first region, for the second, exactly where the tests say so
--   Roomy L              the lines of a box or a cell that has width and height
use mathlib.Core.Path.{◌≡◌, ◌∙◌, ap}
use mathlib.Core.Logic.{◌↔◌}
use mathlib.Core.Bool.{true}
use mathlib.Core.List.{List}
use Prim.Native.Nat.{ℕ, ◌<◌}
use native.Mathlib.Omega.{arith}
use lib.Dec.{eqb}
use lib.ListN.{length}
use lib.IntN.{ℤ}
use lib.Signed.{◌<ℤ◌}
use Rattle.plane.specs.Place.{place_of, in_range}
use Rattle.plane.specs.Points.{Lines}
use Rattle.plane.specs.Placed.{LinesInRange, box_of}
use Rattle.plane.specs.declared.Box.{Box}
use Rattle.plane.proofs.Logic.{iff_join, iff_turn, iff_and, iff_or, and_means, or_means, eq_means}
use Rattle.plane.proofs.Place.{place_eq}
use Rattle.plane.proofs.Folds.{some_means}
use Rattle.ring.specs.Edges.{corner, after, ring_edge, RingInRange}
use Rattle.ring.proofs.Edges.{after_in_range}
use Rattle.ring.proofs.RingTiles.{centre_means}
use Rattle.region.specs.Region.{Region, start_of, size_of}
use Rattle.region.specs.Rules.{Keeps}
use Rattle.region.proofs.Ends.{size_least}
use Rattle.region.proofs.Keeps.{keeps_fewer, sized, in_range_lem}
use Rattle.matrix.specs.Grid.{Cell}
use Rattle.matrix.specs.Holding.{Rectangle, column_count, row_count}
use Rattle.matrix.specs.Kept.{grid_of, cell_in}
use Rattle.matrix.proofs.Cells.{across_means, up_means, cell_within, cell_there, cell_places, cell_same}
use Rattle.matrix.proofs.Kept.{cell_kept}
use Rattle.drawing.specs.Marks.{Marks, SameLines, RingMarks, RegionMarks, DrawnAt}
use Rattle.drawing.specs.Stays.{marks}
use Rattle.drawing.specs.Drawing.{same_box, ring_marks, region_marks}
use Rattle.drawing.proofs.Marks.{marks_means}

-- the lines of a box or a cell that has width and height
pub record Roomy (L : Lines) : Type 0 where
  pub wide : L.west <ℤ L.east
  pub high : L.south <ℤ L.north

same_line : (a b : ℤ) → in_range a ≡ true → in_range b ≡ true → (eqb (place_of a) (place_of b) ≡ true) ↔ (a ≡ b)
same_line a b ha hb = iff_join (eq_means (place_of a) (place_of b)) (iff_turn (place_eq a b ha hb))

pub same_box_means : (K M : Lines) → LinesInRange K → LinesInRange M → (same_box (box_of K) (box_of M) ≡ true) ↔ SameLines K M
unfolding same_box
same_box_means K M k m =
    iff_join (and_means _ _) (iff_join (iff_and (same_line K.west M.west k.west m.west)
    (iff_join (and_means _ _) (iff_and (same_line K.south M.south k.south m.south)
    (iff_join (and_means _ _) (iff_and (same_line K.east M.east k.east m.east) (same_line K.north M.north k.north m.north))))))
    (λ h. record { west = h.0; south = h.1.0; east = h.1.1.0; north = h.1.1.1 }, λ h. (h.west, (h.south, (h.east, h.north)))))

module _ (L M K : Lines) (l : LinesInRange L) (m : LinesInRange M) (k : LinesInRange K) (own : Roomy L) (room : Roomy K) where
  pub ring_marks_means : (xs : List ℤ) (from n : ℕ) → RingInRange xs from n → 0 < n
      → (ring_marks (box_of L) (box_of M) (box_of K) xs from n ≡ true) ↔ RingMarks L M K xs from n
  unfolding ring_marks ring_edge
  ring_marks_means xs from n r some =
      iff_join (or_means _ _)
      (iff_or
      (some_means (λ i. marks (box_of L) (box_of K) (ring_edge xs from n i)) (λ i. Marks L K (corner xs from i) (after xs from n i)) n
      (λ i h. marks_means L K (corner xs from i) (after xs from n i) l k (r.at i h) (after_in_range xs from n i r h) own.wide own.high room.wide room.high))
      (iff_join (and_means _ _) (iff_and (same_box_means K M k m) (centre_means M m xs from n r some))))

  pub region_marks_means : {R : Region} → Keeps 4 R → (region_marks (box_of L) (box_of M) (box_of K) R ≡ true) ↔ RegionMarks L M K R
  unfolding region_marks
  region_marks_means {R} kept =
      some_means (λ r. ring_marks (box_of L) (box_of M) (box_of K) R.coordinates (start_of R.ends r) (size_of R.ends r))
      (λ r. RingMarks L M K R.coordinates (start_of R.ends r) (size_of R.ends r)) (length R.ends)
      (λ r h. ring_marks_means R.coordinates (start_of R.ends r) (size_of R.ends r) ((in_range_lem kept).at r h)
      (omega (arith, size_least R.ends (sized (keeps_fewer (omega arith) kept)).grown r h)))

-- ---- the cells of the grid
abbrev pub cell_lines : (p q u v : ℤ) → Lines
cell_lines p q u v = record { west = p; south = u; east = q; north = v }

abbrev box_from : Rectangle → Box
box_from r = record { west = r.left; south = r.bottom; east = r.right; north = r.top }

module _ (L M : Lines) (l : LinesInRange L) (m : LinesInRange M) (i j : ℕ) where
  module _ (p q u v : ℤ) (c : Cell L M i j p q u v) where
    pub cell_is : cell_in (grid_of (box_of L) (box_of M)) i j ≡ box_of (cell_lines p q u v)
    cell_is =
        let w = cell_within L M l m i j p q u v c in
        ap box_from (cell_kept (box_of L) (box_of M) i j w.0 w.1 ∙ cell_places L M l m i j p q u v c)

    pub cell_in_range : LinesInRange (cell_lines p q u v)
    cell_in_range =
        let s = (across_means L M l m j p q).0 c.column in
        let t = (up_means L M l m c.from_south u v).0 c.row in
        record { west = s.from_in; south = t.from_in; east = s.to_in; north = t.to_in }

    pub cell_roomy : Roomy (cell_lines p q u v)
    cell_roomy = record { wide = c.column.rises; high = c.row.rises }

  pub first_drawn : Roomy L → {R : Region} → Keeps 4 R → i < row_count (box_of L) (box_of M) → j < column_count (box_of L) (box_of M)
      → (region_marks (box_of L) (box_of M) (cell_in (grid_of (box_of L) (box_of M)) i j) R ≡ true) ↔ DrawnAt R L M i j
  first_drawn own {R} kept hi hj = (there, back)
    where
      at : (p q u v : ℤ) → Cell L M i j p q u v → (region_marks (box_of L) (box_of M) (cell_in (grid_of (box_of L) (box_of M)) i j) R ≡ true) ↔ RegionMarks L M (cell_lines p q u v) R
      at p q u v c = rw (cell_is p q u v c) (region_marks_means L M (cell_lines p q u v) l m (cell_in_range p q u v c) own (cell_roomy p q u v c) kept)

      there : region_marks (box_of L) (box_of M) (cell_in (grid_of (box_of L) (box_of M)) i j) R ≡ true → DrawnAt R L M i j
      there h =
          let (p, q, u, v, c) = cell_there L M l m i j hi hj in
          record { cell = cell_lines p q u v; is_cell = c; marked = (at p q u v c).0 h }

      back : DrawnAt R L M i j → region_marks (box_of L) (box_of M) (cell_in (grid_of (box_of L) (box_of M)) i j) R ≡ true
      back d = (at d.cell.west d.cell.east d.cell.south d.cell.north d.is_cell).1 d.marked

  pub second_drawn : Roomy M → {R : Region} → Keeps 4 R → i < row_count (box_of L) (box_of M) → j < column_count (box_of L) (box_of M)
      → (region_marks (box_of M) (box_of L) (cell_in (grid_of (box_of L) (box_of M)) i j) R ≡ true) ↔ DrawnAt R M L i j
  second_drawn own {R} kept hi hj = (there, back)
    where
      at : (p q u v : ℤ) → Cell L M i j p q u v → (region_marks (box_of M) (box_of L) (cell_in (grid_of (box_of L) (box_of M)) i j) R ≡ true) ↔ RegionMarks M L (cell_lines p q u v) R
      at p q u v c = rw (cell_is p q u v c) (region_marks_means M L (cell_lines p q u v) m l (cell_in_range p q u v c) own (cell_roomy p q u v c) kept)

      there : region_marks (box_of M) (box_of L) (cell_in (grid_of (box_of L) (box_of M)) i j) R ≡ true → DrawnAt R M L i j
      there h =
          let (p, q, u, v, c) = cell_there L M l m i j hi hj in
          record { cell = cell_lines p q u v; is_cell = cell_same L M l m i j p q u v c; marked = (at p q u v c).0 h }

      back : DrawnAt R M L i j → region_marks (box_of M) (box_of L) (cell_in (grid_of (box_of L) (box_of M)) i j) R ≡ true
      back d =
          (at d.cell.west d.cell.east d.cell.south d.cell.north
          (cell_same M L m l i j d.cell.west d.cell.east d.cell.south d.cell.north d.is_cell)).1 d.marked
