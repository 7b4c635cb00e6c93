-- The rules of grid and matrix, exactly when, for two boxes whose lines are in range and in order.
--   row_count_means, column_count_means    there are m rows, m columns, exactly when the distinct lines of both boxes leave m strips
--   cell_means         row i and column j are within the size exactly when there is such a cell
--   value_first        a cell's value is 1 or 3 exactly when it holds the first region
--   value_second       and 2 or 3 exactly when it holds the second
--   holds_where        a cell holds a region exactly there, where the region's relation is the set that `Has` tells of
--   rows_at            of nine numbers as three rows, the value in row i and column j is number 3 i + j
--   flat_at            of the nine values of a matrix by row, number 3 i + j is the one in row i and column j
--   flat_rows          and their three rows are the matrix again
use mathlib.Core.Path.{◌≡◌, refl, ◌∙◌, ap}
use mathlib.Core.Logic.{◌↔◌, ◌⊎◌, inl, inr, ⊎_elim}
use mathlib.Core.Bool.{Bool, true, false}
use mathlib.Core.List.{List, []}
use Prim.Native.Nat.{ℕ, ◌+◌, ◌*◌, ◌/◌, ◌%◌, ◌<◌}
use native.Mathlib.Omega.{arith}
use lib.ListN.{get_or}
use lib.IntN.{ℤ}
use Rattle.plane.specs.Points.{Lines}
use Rattle.plane.specs.Placed.{LinesInRange, box_of, Upright}
use Rattle.plane.specs.Lists.{tab_from, tab}
use Rattle.plane.specs.TileSet.{one_if, bit}
use Rattle.plane.specs.declared.Box.{Box}
use Rattle.plane.proofs.Logic.{never, iff_join}
use Rattle.plane.proofs.Lists.{get_d_tab}
use Rattle.matrix.specs.Grid.{Strips, Cell}
use Rattle.matrix.specs.Holding.{HoldsWhere, Holds, column_count, row_count}
use Rattle.matrix.specs.Matrix.{cell_value, matrix_of, flat_of, three_rows, value_at}
use Rattle.matrix.proofs.Lines.{lines_means}
use Rattle.matrix.proofs.Grid.{strips_means}
use Rattle.matrix.proofs.Cells.{cell_within, cell_there}
use Rattle.matrix.proofs.Matrix.{value_means}

-- ---- the value of a cell, by what it holds
first_value : (x y : Bool) → ((one_if x + 2 * one_if y ≡ 1) ⊎ (one_if x + 2 * one_if y ≡ 3)) ↔ (x ≡ true)
first_value true true = (λ h. refl, λ h. inr refl)
first_value true false = (λ h. refl, λ h. inl refl)
first_value false true = (⊎_elim (λ e. absurd (omega arith)) (λ e. absurd (omega arith)), λ h. never h)
first_value false false = (⊎_elim (λ e. absurd (omega arith)) (λ e. absurd (omega arith)), λ h. never h)

second_value : (x y : Bool) → ((one_if x + 2 * one_if y ≡ 2) ⊎ (one_if x + 2 * one_if y ≡ 3)) ↔ (y ≡ true)
second_value true true = (λ h. refl, λ h. inr refl)
second_value true false = (⊎_elim (λ e. absurd (omega arith)) (λ e. absurd (omega arith)), λ h. never h)
second_value false true = (λ h. refl, λ h. inl refl)
second_value false false = (⊎_elim (λ e. absurd (omega arith)) (λ e. absurd (omega arith)), λ h. never h)

-- ---- size, cells and values
module _ (L M : Lines) (hL : LinesInRange L) (hM : LinesInRange M) where
  pub row_count_means : (m : ℕ) → (row_count (box_of L) (box_of M) ≡ m) ↔ Strips L.south L.north M.south M.north m
  row_count_means m =
      let some = ((lines_means (box_of L).south (box_of L).north (box_of M).south (box_of M).north (box_of L).south).1 (inl refl)).1 in
      iff_join (λ e. omega (arith, e, some), λ e. omega (arith, e))
      (strips_means L.south L.north M.south M.north hL.south hL.north hM.south hM.north m)

  pub column_count_means : (m : ℕ) → (column_count (box_of L) (box_of M) ≡ m) ↔ Strips L.west L.east M.west M.east m
  column_count_means m =
      let some = ((lines_means (box_of L).west (box_of L).east (box_of M).west (box_of M).east (box_of L).west).1 (inl refl)).1 in
      iff_join (λ e. omega (arith, e, some), λ e. omega (arith, e))
      (strips_means L.west L.east M.west M.east hL.west hL.east hM.west hM.east m)

  pub cell_means : (i j : ℕ) → ((i < row_count (box_of L) (box_of M)) × (j < column_count (box_of L) (box_of M))) ↔ ((p : ℤ) × (q : ℤ) × (u : ℤ) × (v : ℤ) × Cell L M i j p q u v)
  cell_means i j = (λ h. cell_there L M hL hM i j h.0 h.1, λ c. cell_within L M hL hM i j c.0 c.1 c.2 c.3 c.4)

  module _ (uL : Upright (box_of L)) (uM : Upright (box_of M)) (r s i j : ℕ) (p q u v : ℤ) (c : Cell L M i j p q u v) where
    pub value_first : ((cell_value (box_of L) (box_of M) r s i j ≡ 1) ⊎ (cell_value (box_of L) (box_of M) r s i j ≡ 3)) ↔ Holds L M r p q u v
    value_first =
        let (x, y, e, first, second) = value_means L M r s i j p q u v hL hM uL uM c in
        rw e (iff_join (first_value x y) first)

    pub value_second : ((cell_value (box_of L) (box_of M) r s i j ≡ 2) ⊎ (cell_value (box_of L) (box_of M) r s i j ≡ 3)) ↔ Holds M L s p q u v
    value_second =
        let (x, y, e, first, second) = value_means L M r s i j p q u v hL hM uL uM c in
        rw e (iff_join (second_value x y) second)

-- ---- what a cell holds, by the tiles that a region has
holds_told : {L M : Lines} {A B : ℕ → Type 0} {p q u v : ℤ} → ((t : ℕ) → t < 9 → A t → B t) → HoldsWhere L M A p q u v → HoldsWhere L M B p q u v
holds_told f h =
    record {
      west = h.west;
      east = h.east;
      south = h.south;
      north = h.north;
      tile = h.tile;
      is_tile = h.is_tile;
      in_column = h.in_column;
      in_row = h.in_row;
      there = f h.tile h.is_tile h.there;
    }

pub holds_where : (L M : Lines) (relation : ℕ) (Has : ℕ → Type 0) → ((t : ℕ) → t < 9 → (bit relation t ≡ 1) ↔ Has t)
    → (p q u v : ℤ) → Holds L M relation p q u v ↔ HoldsWhere L M Has p q u v
holds_where L M relation Has tells p q u v = (holds_told (λ t l. (tells t l).0), holds_told (λ t l. (tells t l).1))

-- ---- the nine values by row
pub rows_at : (l : List ℕ) (i j : ℕ) → i < 3 → j < 3 → value_at (three_rows l) i j ≡ get_or l (3 * i + j) 0
rows_at l i j hi hj =
    ap (λ (k : List ℕ). get_or k j 0) (get_d_tab (λ (i : ℕ). tab (λ (j : ℕ). get_or l (3 * i + j) 0) 3) [] 3 i hi)
    ∙ get_d_tab (λ (j : ℕ). get_or l (3 * i + j) 0) 0 3 j hj

pub flat_at : (m : List (List ℕ)) (i j : ℕ) → i < 3 → j < 3 → get_or (flat_of m) (3 * i + j) 0 ≡ value_at m i j
unfolding flat_of
flat_at m i j hi hj =
    let row : (3 * i + j) / 3 ≡ i = omega arith in
    let column : (3 * i + j) % 3 ≡ j = omega arith in
    get_d_tab (λ (k : ℕ). get_or (get_or m (k / 3) []) (k % 3) 0) 0 9 (3 * i + j) (omega arith) ∙ rw (row, column) refl

pub flat_rows : (a b : Box) (r s : ℕ) → three_rows (flat_of (matrix_of a b r s)) ≡ matrix_of a b r s
unfolding matrix_of flat_of tab_from
flat_rows a b r s = refl
