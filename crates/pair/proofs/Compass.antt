-- The directions of the pair answer of two accepted regions by cells of the map, over the lines L and M of the two regions' boxes.
--   first_at, second_at     the answer's value in row i and column j holds a region exactly when the grid has such a cell and the region has the tile
--                       of the other's box around it (`FirstAt`, `SecondAt`)
--   direction_means     direction k is in the answer exactly when some such cell of the first region lies there from one of the second (`Lies`)
use mathlib.Core.Path.{◌≡◌, sym, ◌∙◌}
use mathlib.Core.Logic.{◌↔◌, ◌⊎◌, ◌≢◌, inl, inr, ⊎_elim}
use mathlib.Core.List.{List}
use Prim.Native.Nat.{ℕ, ◌≤◌, ◌<◌}
use native.Mathlib.Omega.{arith}
use native.Mathlib.Decide.{dec_lt}
use lib.IntN.{ℤ}
use Rattle.plane.specs.Points.{Lines}
use Rattle.plane.specs.TileSet.{bit}
use Rattle.plane.proofs.Logic.{iff_join}
use Rattle.region.specs.Region.{Region}
use Rattle.relation.specs.Relation.{RegionBox, RegionHas}
use Rattle.matrix.specs.Grid.{Cell}
use Rattle.matrix.specs.Holding.{HoldsWhere}
use Rattle.matrix.specs.Matrix.{three_rows, value_at}
use Rattle.compass.specs.Directions.{HoldsFirst, HoldsSecond, Direction}
use Rattle.matrix.proofs.Meaning.{rows_at}
use Rattle.pair.specs.Answer.{Answer}
use Rattle.pair.specs.Answer.{pair_of}
use Rattle.pair.specs.Meaning.{Answered, cell_from, FirstAt, SecondAt, Lies}
use Rattle.pair.proofs.Cells.{rows_between, columns_between, cell_past, cell_means, cell_first_has, cell_second_has}
use Rattle.pair.proofs.Directions.{directions_mean}

module _ (first second : Region) (a : Answered first second) (L M : Lines) (one : RegionBox first L) (two : RegionBox second M) where
  abbrev answer : Answer
  answer = pair_of first second

  abbrev values : List (List ℕ)
  values = three_rows answer.cells

  -- a cell of the grid is one of the nine, and a value that is not 0 stands in one
  of_nine : (i j : ℕ) → (i < answer.rows) × (j < answer.columns) → (i < 3) × (j < 3)
  of_nine i j h = (omega (arith, h.0, (rows_between first second a).1), omega (arith, h.1, (columns_between first second a).1))

  within : (i j : ℕ) → (i < 3) × (j < 3) → cell_from answer i j ≢ 0 → (i < answer.rows) × (j < answer.columns)
  within i j h some =
      elim (dec_lt i answer.rows) [
        | yes p ↦ elim (dec_lt j answer.columns) [ yes q ↦ (p, q) | no q ↦ absurd (some (past (inr (omega arith)))) ]
        | no p ↦ absurd (some (past (inl (omega arith))))
      ]
    where
      past : (answer.rows ≤ i) ⊎ (answer.columns ≤ j) → cell_from answer i j ≡ 0
      past = cell_past first second a i j h.0 h.1

  module _ (i j : ℕ) where
    -- a value that is n or 3, by what it says of a cell of the grid
    value_at_cell : (n : ℕ) → n ≢ 0 → (Held : (p q u v : ℤ) → Type 0)
        → ((p q u v : ℤ) → Cell L M i j p q u v → ((cell_from answer i j ≡ n) ⊎ (cell_from answer i j ≡ 3)) ↔ Held p q u v)
        → ((i < 3) × (j < 3) × ((value_at values i j ≡ n) ⊎ (value_at values i j ≡ 3))) ↔ ((p : ℤ) × (q : ℤ) × (u : ℤ) × (v : ℤ) × Cell L M i j p q u v × Held p q u v)
    value_at_cell n some Held says = (
      λ h.
          let e = rw (rows_at answer.cells i j h.0 h.1) at h.2 in
          let filled : cell_from answer i j ≢ 0 = λ z. ⊎_elim (λ d. some (sym d ∙ z)) (λ d. omega arith) e in
          let (p, q, u, v, c) = (cell_means first second a L M one two i j).0 (within i j (h.0, h.1) filled) in
          (p, q, u, v, c, (says p q u v c).0 e),
      λ x.
          let n = of_nine i j ((cell_means first second a L M one two i j).1 (x.0, x.1, x.2, x.3, x.4)) in
          (n.0, n.1, rw (rows_at answer.cells i j n.0 n.1) ((says x.0 x.1 x.2 x.3 x.4).1 x.5)),
    )

    pub first_at : ((i < 3) × (j < 3) × HoldsFirst values i j) ↔ FirstAt first L M i j
    first_at = value_at_cell 1 (λ e. omega arith) (HoldsWhere L M (RegionHas M first)) (cell_first_has first second a L M one two i j)

    pub second_at : ((i < 3) × (j < 3) × HoldsSecond values i j) ↔ SecondAt second L M i j
    second_at = value_at_cell 2 (λ e. omega arith) (HoldsWhere M L (RegionHas L second)) (cell_second_has first second a L M one two i j)

  pub direction_means : (k : ℕ) → k < 9 → (bit answer.directions k ≡ 1) ↔ Lies first second L M k
  direction_means k h = iff_join (directions_mean first second k h) (there, back)
    where
      there : Direction values k → Lies first second L M k
      there d =
          record {
            i = d.i;
            j = d.j;
            i' = d.i';
            j' = d.j';
            first_holds = (first_at d.i d.j).0 (d.first_cell.0, d.first_cell.1, d.first_holds);
            second_holds = (second_at d.i' d.j').0 (d.second_cell.0, d.second_cell.1, d.second_holds);
            rows = d.rows;
            columns = d.columns;
          }

      back : Lies first second L M k → Direction values k
      back d =
          let f = (first_at d.i d.j).1 d.first_holds in
          let s = (second_at d.i' d.j').1 d.second_holds in
          record {
            i = d.i;
            j = d.j;
            i' = d.i';
            j' = d.j';
            first_cell = (f.0, f.1);
            second_cell = (s.0, s.1);
            first_holds = f.2;
            second_holds = s.2;
            rows = d.rows;
            columns = d.columns;
          }
