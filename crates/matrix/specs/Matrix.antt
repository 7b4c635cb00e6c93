-- SCOPE 5.3: the matrix. A cell that holds a has 1, one that holds b has 2, one that holds both their sum; of the nine cells those past the
-- size of the grid have 0.
--   cell_value a b r s i j   the value in row i from the north and column j from the west; r is the relation of the region with
--                            box a to the other, s that of the other to it
--   matrix_of a b r s        the array, a list of three rows;  flat_of  the same nine numbers by row;  three_rows  nine numbers as three rows
--   value_at m i j            the value in row i from the north and column j from the west
--   exchanged v              1 and 2 exchanged
use Rattle.std.specs.Prelude.{◌&&◌, List, [], ℕ, ◌+◌, ◌*◌, ◌/◌, ◌%◌, ltb, eqb, get_or}
use Rattle.plane.specs.Choice.{pick}
use Rattle.plane.specs.Lists.{tab}
use Rattle.plane.specs.TileSet.{one_if}
use Rattle.plane.specs.declared.Box.{Box}
use Rattle.matrix.specs.Holding.{cell_at, column_count, row_count, holds}

unfoldable pub cell_value : Box → Box → (r s i j : ℕ) → ℕ
cell_value a b r s i j =
    pick (ltb i (row_count a b) && ltb j (column_count a b)) (one_if (holds a b r (cell_at a b i j)) + 2 * one_if (holds b a s (cell_at a b i j))) 0

unfoldable pub matrix_of : Box → Box → (r s : ℕ) → List (List ℕ)
matrix_of a b r s = tab (λ i. tab (λ j. cell_value a b r s i j) 3) 3

unfoldable pub flat_of : List (List ℕ) → List ℕ
flat_of m = tab (λ k. get_or (get_or m (k / 3) []) (k % 3) 0) 9

abbrev pub three_rows : List ℕ → List (List ℕ)
three_rows l = tab (λ i. tab (λ j. get_or l (3 * i + j) 0) 3) 3

abbrev pub value_at : List (List ℕ) → (i j : ℕ) → ℕ
value_at m i j = get_or (get_or m i []) j 0

abbrev pub exchanged : ℕ → ℕ
exchanged v = pick (eqb v 1) 2 (pick (eqb v 2) 1 v)
