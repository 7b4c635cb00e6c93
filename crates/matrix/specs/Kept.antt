-- No rule stands here: the grid of specs/Holding as a struct keeps it. Each axis has at most four lines, so four places, 0 past the last line.
--   padded l         the lines l in four places
--   rising l         the same with their number;  lines_in k  the list that such a struct stands for
--   grid_of a b      the grid of two boxes: the matrix's size and the lines of both axes
--   cell_in g i j    the cell in row i and column j, a box in places;  rectangle_of c  the rectangle that it is
use Rattle.std.specs.Prelude.{List, ℕ, ◌+◌, ◌-◌, length, get_or}
use Rattle.plane.specs.Lists.{tab}
use Rattle.plane.specs.declared.Box.{Box}
use Rattle.matrix.specs.declared.Rising.{Rising}
use Rattle.matrix.specs.declared.GridLines.{GridLines}
use Rattle.matrix.specs.Holding.{across_lines, up_lines, column_count, row_count, Rectangle}

abbrev pub padded : List ℕ → List ℕ
padded l = tab (λ k. get_or l k 0) 4

abbrev pub rising : List ℕ → Rising
rising l = record { count = length l; at = padded l }

abbrev pub lines_in : Rising → List ℕ
lines_in k = tab (λ i. get_or k.at i 0) k.count

unfoldable pub grid_of : Box → Box → GridLines
grid_of a b = record { rows = row_count a b; columns = column_count a b; up = padded (up_lines a b); across = padded (across_lines a b) }

unfoldable pub cell_in : GridLines → (i j : ℕ) → Box
cell_in g i j =
    record {
      west = get_or g.across j 0;
      south = get_or g.up (g.rows - 1 - i) 0;
      east = get_or g.across (j + 1) 0;
      north = get_or g.up (g.rows - i) 0;
    }

abbrev pub rectangle_of : Box → Rectangle
rectangle_of c = record { left = c.west; right = c.east; bottom = c.south; top = c.north }
