-- The directions by differences are the directions of the rule, cell by cell.
--   squares_are       the squares of a region, row by row
--   occurs_right      the squares of the two regions fall on each other exactly where some cells stand at the difference
--   taught_means      a direction by differences is a direction
--   taught_bits       so bit k of the directions is set exactly where some difference that occurs has the compass place k
--   by_differences_lem  the set that the code makes of the differences is the directions
use mathlib.Core.Path.{◌≡◌}
use mathlib.Core.Logic.{◌↔◌}
use mathlib.Core.Bool.{true}
use mathlib.Core.List.{List}
use Prim.Native.Nat.{ℕ, zero, suc, ◌+◌, ◌-◌, ◌*◌, ◌/◌, ◌%◌, ◌<◌}
use native.Mathlib.Omega.{arith}
use lib.Dec.{ltb, eqb}
use Rattle.plane.specs.TileSet.{one_if, set_of, bit}
use Rattle.plane.proofs.Logic.{and_means, lt_means, eq_means, both, iff_join, iff_turn, iff_and}
use Rattle.plane.proofs.Folds.{any_means}
use Rattle.plane.proofs.TileSet.{set_means, set_same}
use Rattle.matrix.specs.Matrix.{value_at}
use Rattle.compass.specs.Directions.{Toward, Direction, directed, directions_of}
use Rattle.compass.specs.Differences.{Apart, ByDifference, holds_either, square, squares_of, occurs, place_of, direction_at, within_rows, by_differences}
use Rattle.compass.proofs.Directions.{sides_mean, either_means, directions_mean}
use Rattle.compass.proofs.Moved.{occurs_means}

-- ---- the rule as taught, and the rule
-- the side of a cell from its partner is that of the difference from none
toward_moved : (t r i i' : ℕ) → i + 2 ≡ i' + r → Toward t r 2 ↔ Toward t i i'
toward_moved zero r i i' e = (λ l. omega arith, λ l. omega arith)
toward_moved (suc zero) r i i' e = (λ l. omega arith, λ l. omega arith)
toward_moved (suc (suc t)) r i i' e = (λ l. omega arith, λ l. omega arith)

module _ (m : List (List ℕ)) (k : ℕ) where
  taught_there : ByDifference m k → Direction m k
  taught_there x =
      let a = x.apart in
      record {
        i = a.i;
        j = a.j;
        i' = a.i';
        j' = a.j';
        first_cell = a.first_cell;
        second_cell = a.second_cell;
        first_holds = a.first_holds;
        second_holds = a.second_holds;
        rows = (toward_moved (k / 3) x.r a.i a.i' a.rows).0 x.up;
        columns = (toward_moved (k % 3) x.s a.j a.j' a.columns).0 x.across;
      }

  taught_back : Direction m k → ByDifference m k
  taught_back x =
      let r = x.i + 2 - x.i' in
      let s = x.j + 2 - x.j' in
      let rows : x.i + 2 ≡ x.i' + r = omega (arith, x.second_cell) in
      let columns : x.j + 2 ≡ x.j' + s = omega (arith, x.second_cell) in
      record {
        r = r;
        s = s;
        in_rows = omega (arith, x.first_cell);
        in_columns = omega (arith, x.first_cell);
        apart = record {
          i = x.i;
          j = x.j;
          i' = x.i';
          j' = x.j';
          first_cell = x.first_cell;
          second_cell = x.second_cell;
          first_holds = x.first_holds;
          second_holds = x.second_holds;
          rows = rows;
          columns = columns;
        };
        up = (toward_moved (k / 3) r x.i x.i' rows).1 x.rows;
        across = (toward_moved (k % 3) s x.j x.j' columns).1 x.columns;
      }

  pub taught_means : ByDifference m k ↔ Direction m k
  taught_means = (taught_there, taught_back)

  pub taught_bits : k < 9 → (bit (directions_of m) k ≡ 1) ↔ ByDifference m k
  taught_bits h = iff_join (directions_mean m k h) (iff_turn taught_means)

-- ---- squares
module _ (m : List (List ℕ)) (own : ℕ) where
  abbrev in_row : ℕ → ℕ
  in_row i = one_if (holds_either (value_at m i 0) own) + 2 * one_if (holds_either (value_at m i 1) own) + 4 * one_if (holds_either (value_at m i 2) own)

  pub squares_are : in_row 0 + 32 * in_row 1 + 1024 * in_row 2 ≡ squares_of m own
  unfolding squares_of square set_of
  squares_are = omega arith

  square_means : (p : ℕ) → (square m own p ≡ true) ↔ ((p % 5 < 3) × (holds_either (value_at m (p / 5) (p % 5)) own ≡ true))
  unfolding square
  square_means p = iff_join (and_means (ltb (p % 5) 3) (holds_either (value_at m (p / 5) (p % 5)) own)) (iff_and (lt_means (p % 5) 3) (λ h. h, λ h. h))

  -- a cell as a square
  as_square : (i j : ℕ) → (i < 3) × (j < 3) → holds_either (value_at m i j) own ≡ true → square m own (5 * i + j) ≡ true
  as_square i j l e =
      let row : (5 * i + j) / 5 ≡ i = omega (arith, l) in
      let column : (5 * i + j) % 5 ≡ j = omega (arith, l) in
      (square_means (5 * i + j)).1 (omega (arith, column, l), rw (row, column) e)

-- two squares that fall on each other stand at the difference, in rows and in columns
fallen : (p q r s : ℕ) → p % 5 < 3 → q % 5 < 3 → s < 5 → p + 12 ≡ q + (5 * r + s) → (p / 5 + 2 ≡ q / 5 + r) × (p % 5 + 2 ≡ q % 5 + s)
fallen p q r s hp hq hs e = (omega arith, omega arith)

module _ (m : List (List ℕ)) (r s : ℕ) (hr : r < 5) (hs : s < 5) where
  occurs_there : occurs (squares_of m 1) (squares_of m 2) r s ≡ true → Apart m r s
  unfolding squares_of
  occurs_there o =
      let x = (occurs_means (square m 1) (square m 2) r s hr hs).0 o in
      let (hp, one) = (square_means m 1 x.p).0 x.one in
      let (hq, two) = (square_means m 2 x.q).0 x.two in
      let (rows, columns) = fallen x.p x.q r s hp hq hs x.same in
      record {
        i = x.p / 5;
        j = x.p % 5;
        i' = x.q / 5;
        j' = x.q % 5;
        first_cell = (omega (arith, x.p_in), hp);
        second_cell = (omega (arith, x.q_in), hq);
        first_holds = (either_means (value_at m (x.p / 5) (x.p % 5)) 1).0 one;
        second_holds = (either_means (value_at m (x.q / 5) (x.q % 5)) 2).0 two;
        rows = rows;
        columns = columns;
      }

  occurs_back : Apart m r s → occurs (squares_of m 1) (squares_of m 2) r s ≡ true
  unfolding squares_of
  occurs_back x =
      (occurs_means (square m 1) (square m 2) r s hr hs).1
      (record {
        p = 5 * x.i + x.j;
        q = 5 * x.i' + x.j';
        p_in = omega (arith, x.first_cell);
        q_in = omega (arith, x.second_cell);
        one = as_square m 1 x.i x.j x.first_cell ((either_means (value_at m x.i x.j) 1).1 x.first_holds);
        two = as_square m 2 x.i' x.j' x.second_cell ((either_means (value_at m x.i' x.j') 2).1 x.second_holds);
        same = omega (arith, x.rows, x.columns);
      })

  pub occurs_right : (occurs (squares_of m 1) (squares_of m 2) r s ≡ true) ↔ Apart m r s
  occurs_right = (occurs_there, occurs_back)

-- ---- the set
module _ (m : List (List ℕ)) (k : ℕ) (h : k < 9) where
  abbrev first : ℕ
  first = squares_of m 1

  abbrev second : ℕ
  second = squares_of m 2

  -- one difference: it occurs, and its compass place is k
  at_means : (r s : ℕ) → r < 5 → s < 5 → (direction_at first second r s k ≡ true) ↔ (Apart m r s × (Toward (k / 3) r 2 × Toward (k % 3) s 2))
  at_means r s hr hs =
      iff_join (and_means (occurs first second r s) (eqb (place_of r s) k))
      (iff_and (occurs_right m r s hr hs) (iff_join (eq_means (place_of r s) k) (sides_mean r 2 s 2 k h)))

  found_there : by_differences first second k ≡ true → ByDifference m k
  found_there t =
      let (r, hr, t1) = (any_means (λ r. within_rows first second r k) 5).0 t in
      let (s, hs, t2) = (any_means (λ s. direction_at first second r s k) 5).0 t1 in
      let (a, (up, across)) = (at_means r s hr hs).0 t2 in
      record {
        r = r;
        s = s;
        in_rows = hr;
        in_columns = hs;
        apart = a;
        up = up;
        across = across;
      }

  found_back : ByDifference m k → by_differences first second k ≡ true
  found_back x =
      (any_means (λ r. within_rows first second r k) 5).1 (
        x.r,
        x.in_rows,
        (any_means (λ s. direction_at first second x.r s k) 5).1
            (x.s, x.in_columns, (at_means x.r x.s x.in_rows x.in_columns).1 (x.apart, (x.up, x.across))),
      )

pub by_differences_lem : (m : List (List ℕ)) → set_of (by_differences (squares_of m 1) (squares_of m 2)) 9 ≡ directions_of m
unfolding directions_of
by_differences_lem m =
    set_same (by_differences (squares_of m 1) (squares_of m 2)) (directed m) 9
    (λ k h. both (by_differences (squares_of m 1) (squares_of m 2) k) (directed m k)
    (iff_join (found_there m k h, found_back m k h) (iff_join (iff_turn (taught_bits m k h)) (set_means (directed m) 9 k h))))
