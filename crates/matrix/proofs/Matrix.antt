-- The matrix: what its values say, its size, and the two regions exchanged.
--   value_is          within the size, 1 for the first region plus 2 for the second
--   value_means       and each holds its region as the document says
--   value_outside     past the size, 0
--   value_lt          below 4
--   columns_size, rows_size    1 to 3 columns and rows where a box has room between its lines
--   value_at_lem      the matrix as an array has the values
--   matrix_exchanged  the matrix of the pair exchanged is the matrix with 1 and 2 exchanged
use mathlib.Core.Path.{◌≡◌, refl, ◌∙◌, ap}
use mathlib.Core.Logic.{◌↔◌, ◌⊎◌, inl, inr}
use mathlib.Core.Bool.{Bool, true, false, ◌&&◌}
use mathlib.Core.List.{List, []}
use Prim.Native.Nat.{ℕ, ◌+◌, ◌*◌, ◌≤◌, ◌<◌}
use native.Mathlib.Omega.{arith}
use borrow.Author.Tests.{lt-ltb, le-ltb}
use lib.Dec.{ltb}
use lib.ListN.{get_or}
use lib.IntN.{ℤ}
use Rattle.plane.specs.Choice.{pick}
use Rattle.plane.specs.Points.{Lines}
use Rattle.plane.specs.Placed.{LinesInRange, box_of, Upright}
use Rattle.plane.specs.Lists.{tab}
use Rattle.plane.specs.TileSet.{one_if}
use Rattle.plane.specs.declared.Box.{Box}
use Rattle.plane.proofs.Lists.{get_d_tab}
use Rattle.plane.proofs.TileSet.{one_le}
use Rattle.matrix.specs.Grid.{Cell}
use Rattle.matrix.specs.Holding.{Holds, column_count, row_count, cell_at, holds}
use Rattle.matrix.specs.Matrix.{cell_value, matrix_of, value_at, exchanged}
use Rattle.matrix.proofs.Lines.{lines_most, lines_least, lines_turned}
use Rattle.matrix.proofs.Cells.{cell_within, cell_turned}
use Rattle.matrix.proofs.Holding.{holds_means, holds_second_means}

-- ---- values
module _ (a b : Box) (r s i j : ℕ) where
  pub value_is : i < row_count a b → j < column_count a b
      → cell_value a b r s i j ≡ one_if (holds a b r (cell_at a b i j)) + 2 * one_if (holds b a s (cell_at a b i j))
  unfolding cell_value
  value_is h k = simp (lt-ltb i (row_count a b) h, lt-ltb j (column_count a b) k)

  pub value_outside : (row_count a b ≤ i) ⊎ (column_count a b ≤ j) → cell_value a b r s i j ≡ 0
  unfolding cell_value
  value_outside (inl h) = simp (le-ltb i (row_count a b) h)
  value_outside (inr h) = no_column (ltb i (row_count a b)) (ltb j (column_count a b)) (le-ltb j (column_count a b) h)
    where
      no_column : (x y : Bool) → y ≡ false → pick (x && y) (one_if (holds a b r (cell_at a b i j)) + 2 * one_if (holds b a s (cell_at a b i j))) 0 ≡ 0
      no_column true y e = simp e
      no_column false y e = refl

  pub value_lt : cell_value a b r s i j < 4
  unfolding cell_value
  value_lt = go (ltb i (row_count a b) && ltb j (column_count a b)) (holds a b r (cell_at a b i j)) (holds b a s (cell_at a b i j))
    where
      go : (t x y : Bool) → pick t (one_if x + 2 * one_if y) 0 < 4
      go true x y = omega (arith, one_le x, one_le y)
      go false x y = omega arith

pub value_means : (L M : Lines) (r s i j : ℕ) (p q u v : ℤ) → LinesInRange L → LinesInRange M → Upright (box_of L) → Upright (box_of M) → Cell L M i j p q u v
    → (x : Bool) × (y : Bool) × (cell_value (box_of L) (box_of M) r s i j ≡ one_if x + 2 * one_if y)
    × ((x ≡ true) ↔ Holds L M r p q u v) × ((y ≡ true) ↔ Holds M L s p q u v)
value_means L M r s i j p q u v hL hM uL uM c =
    let w = cell_within L M hL hM i j p q u v c in (
      holds (box_of L) (box_of M) r (cell_at (box_of L) (box_of M) i j),
      holds (box_of M) (box_of L) s (cell_at (box_of L) (box_of M) i j),
      value_is (box_of L) (box_of M) r s i j w.0 w.1,
      holds_means L M r i j p q u v hL hM uM c,
      holds_second_means L M s i j p q u v hL hM uL c,
    )

-- ---- size
pub columns_size : (a b : Box) → a.west < a.east → (1 ≤ column_count a b) × (column_count a b ≤ 3)
columns_size a b h = omega (arith, lines_most a.west a.east b.west b.east, lines_least a.west a.east b.west b.east h)

pub rows_size : (a b : Box) → a.south < a.north → (1 ≤ row_count a b) × (row_count a b ≤ 3)
rows_size a b h = omega (arith, lines_most a.south a.north b.south b.north, lines_least a.south a.north b.south b.north h)

-- ---- the array
pub value_at_lem : (a b : Box) (r s i j : ℕ) → i < 3 → j < 3 → value_at (matrix_of a b r s) i j ≡ cell_value a b r s i j
unfolding matrix_of
value_at_lem a b r s i j hi hj =
    ap (λ (l : List ℕ). get_or l j 0) (get_d_tab (λ (i : ℕ). tab (λ (j : ℕ). cell_value a b r s i j) 3) [] 3 i hi)
    ∙ get_d_tab (λ (j : ℕ). cell_value a b r s i j) 0 3 j hj

-- ---- the pair exchanged
module _ (a b : Box) (r s : ℕ) where
  pub matrix_exchanged : (i j : ℕ) → cell_value b a s r i j ≡ exchanged (cell_value a b r s i j)
  unfolding cell_value
  matrix_exchanged i j =
      rw (cell_turned a b i j, lines_turned b.west b.east a.west a.east, lines_turned b.south b.north a.south a.north)
      (go (ltb i (row_count a b) && ltb j (column_count a b)) (holds a b r (cell_at a b i j)) (holds b a s (cell_at a b i j)))
    where
      go : (t x y : Bool) → pick t (one_if y + 2 * one_if x) 0 ≡ exchanged (pick t (one_if x + 2 * one_if y) 0)
      go true true true = refl
      go true true false = refl
      go true false true = refl
      go true false false = refl
      go false x y = refl
