-- The cells of the grid, over coordinates and in places. For lines in range:
--   placed p q u v  the rectangle between four coordinates, in places
--   across_means, up_means    columns and rows are the strips of the two lists of lines
--   cell_within     a cell's row and column are of the matrix's size
--   cell_there      every row and column of that size has a cell
--   cell_places     a cell's rectangle is that of its lines' places
--   cell_turned     the two boxes exchanged give the same rectangle
--   cell_same       and the same cells
use mathlib.Core.Path.{◌≡◌, sym, ◌∙◌, ap}
use mathlib.Core.List.{List}
use mathlib.Core.Logic.{◌↔◌}
use Prim.Native.Nat.{ℕ, suc, ◌+◌, ◌-◌, ◌<◌}
use native.Mathlib.Omega.{arith}
use lib.ListN.{length, get_or}
use lib.IntN.{ℤ}
use Rattle.plane.specs.Place.{place_of}
use Rattle.plane.specs.Points.{Lines}
use Rattle.plane.specs.Placed.{LinesInRange, box_of}
use Rattle.plane.specs.declared.Box.{Box}
use Rattle.matrix.specs.Grid.{Strips, Strip, Cell}
use Rattle.matrix.specs.Holding.{across_lines, up_lines, column_count, row_count, Rectangle, cell_at}
use Rattle.matrix.proofs.Lines.{lines_turned}
use Rattle.matrix.proofs.Grid.{StripAt, strips_means, strip_means, strip_there, strips_turned, strip_turned}

abbrev pub placed : (p q u v : ℤ) → Rectangle
placed p q u v = record { left = place_of p; right = place_of q; bottom = place_of u; top = place_of v }

same_rectangle : (c d : Rectangle) → c.left ≡ d.left → c.right ≡ d.right → c.bottom ≡ d.bottom → c.top ≡ d.top → c ≡ d
same_rectangle c d l r b t = λ k. record { left = l k; right = r k; bottom = b k; top = t k }

same_line : (l : List ℕ) (m n : ℕ) → m ≡ n → get_or l m 0 ≡ get_or l n 0
same_line l m n e = ap (λ (k : ℕ). get_or l k 0) e

-- ---- the two boxes exchanged
pub cell_turned : (a b : Box) (i j : ℕ) → cell_at b a i j ≡ cell_at a b i j
unfolding cell_at
cell_turned a b i j =
    rw (lines_turned b.west b.east a.west a.east, lines_turned b.south b.north a.south a.north)

-- ---- cells
module _ (L M : Lines) (hL : LinesInRange L) (hM : LinesInRange M) where
  pub across_means : (j : ℕ) (p q : ℤ) → Strip L.west L.east M.west M.east j p q ↔ StripAt (across_lines (box_of L) (box_of M)) j p q
  across_means = strip_means L.west L.east M.west M.east hL.west hL.east hM.west hM.east

  pub up_means : (k : ℕ) (u v : ℤ) → Strip L.south L.north M.south M.north k u v ↔ StripAt (up_lines (box_of L) (box_of M)) k u v
  up_means = strip_means L.south L.north M.south M.north hL.south hL.north hM.south hM.north

  rows_mean : (m : ℕ) → (length (up_lines (box_of L) (box_of M)) ≡ suc m) ↔ Strips L.south L.north M.south M.north m
  rows_mean = strips_means L.south L.north M.south M.north hL.south hL.north hM.south hM.north

  pub cell_within : (i j : ℕ) (p q u v : ℤ) → Cell L M i j p q u v → (i < row_count (box_of L) (box_of M)) × (j < column_count (box_of L) (box_of M))
  cell_within i j p q u v c =
      let n = (rows_mean c.rows).1 c.row_count in
      let s = (across_means j p q).0 c.column in
      (omega (arith, c.from_north, n), omega (arith, s.room))

  pub cell_there : (i j : ℕ) → i < row_count (box_of L) (box_of M) → j < column_count (box_of L) (box_of M)
      → (p : ℤ) × (q : ℤ) × (u : ℤ) × (v : ℤ) × Cell L M i j p q u v
  cell_there i j hi hj =
      let k = row_count (box_of L) (box_of M) - suc i in
      let s = strip_there L.west L.east M.west M.east hL.west hL.east hM.west hM.east j (omega arith) in
      let t = strip_there L.south L.north M.south M.north hL.south hL.north hM.south hM.north k (omega arith) in (
        s.0,
        s.1,
        t.0,
        t.1,
        record {
          rows = row_count (box_of L) (box_of M);
          row_count = (rows_mean (row_count (box_of L) (box_of M))).0 (omega arith);
          from_south = k;
          from_north = omega arith;
          column = s.2;
          row = t.2;
        },
      )

  pub cell_places : (i j : ℕ) (p q u v : ℤ) → Cell L M i j p q u v → cell_at (box_of L) (box_of M) i j ≡ placed p q u v
  unfolding cell_at
  cell_places i j p q u v c =
      let s = (across_means j p q).0 c.column in
      let t = (up_means c.from_south u v).0 c.row in
      let n = (rows_mean c.rows).1 c.row_count in
      same_rectangle (cell_at (box_of L) (box_of M) i j) (placed p q u v) (sym s.from_at) (sym s.to_at)
      (same_line (up_lines (box_of L) (box_of M)) _ c.from_south (omega (arith, c.from_north, n)) ∙ sym t.from_at)
      (same_line (up_lines (box_of L) (box_of M)) _ (c.from_south + 1) (omega (arith, c.from_north, n)) ∙ sym t.to_at)

  pub cell_same : (i j : ℕ) (p q u v : ℤ) → Cell L M i j p q u v → Cell M L i j p q u v
  cell_same i j p q u v c =
      record {
        rows = c.rows;
        row_count = strips_turned L.south L.north M.south M.north hL.south hL.north hM.south hM.north c.rows c.row_count;
        from_south = c.from_south;
        from_north = c.from_north;
        column = strip_turned L.west L.east M.west M.east hL.west hL.east hM.west hM.east j p q c.column;
        row = strip_turned L.south L.north M.south M.north hL.south hL.north hM.south hM.north c.from_south u v c.row;
      }
