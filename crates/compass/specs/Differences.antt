-- SCOPE 5.4: the directions by differences, as the rule is taught. A difference in rows is a number from 0 to 4, for two up, one up, none, one
-- down, two down; a difference in columns likewise, for two west to two east.
--   Apart m r s                some cell holding a stands at the difference r, s from some cell holding b: r - 2 rows down, s - 2 columns east
--   ByDifference m k           it is so of some difference whose compass place is k. Its meaning: proofs/Differences, `taught_means`
-- What the code finds. The cells of a region are a set of squares, five a row, of which the matrix takes three: square p stands in row p / 5 and
-- column p % 5.
--   holds_either v own         the value v is `own` or 3
--   square m own p             square p is a cell of the matrix with such a value;  squares_of m own  the set of these squares
--   occurs x y r s             some square of the set y, moved by the difference r, s, falls on a square of the set x
--   place_of r s               the compass place of a difference
--   direction_at x y r s k     some square falls so, and k is the compass place of the difference
--   within_rows x y r k        it is so for some difference in columns;  by_differences x y k  for some difference in rows and some in columns
use Rattle.std.specs.Prelude.{◌≡◌, Bool, not, ◌&&◌, ◌||◌, List, ℕ, ◌+◌, ◌*◌, ◌/◌, ◌%◌, ◌^◌, ◌<◌, ltb, eqb}
use Rattle.std.specs.Int.Bits.{bit_and}
use Rattle.plane.specs.Folds.{any_to}
use Rattle.plane.specs.TileSet.{set_of}
use Rattle.matrix.specs.Matrix.{value_at}
use Rattle.compass.specs.Directions.{HoldsFirst, HoldsSecond, Toward, side_of}

pub record Apart (m : List (List ℕ)) (r s : ℕ) : Type 0 where
  pub i : ℕ
  pub j : ℕ
  pub i' : ℕ
  pub j' : ℕ
  pub first_cell : (i < 3) × (j < 3)
  pub second_cell : (i' < 3) × (j' < 3)
  pub first_holds : HoldsFirst m i j
  pub second_holds : HoldsSecond m i' j'
  pub rows : i + 2 ≡ i' + r
  pub columns : j + 2 ≡ j' + s

pub record ByDifference (m : List (List ℕ)) (k : ℕ) : Type 0 where
  pub r : ℕ
  pub s : ℕ
  pub in_rows : r < 5
  pub in_columns : s < 5
  pub apart : Apart m r s
  pub up : Toward (k / 3) r 2
  pub across : Toward (k % 3) s 2

abbrev pub holds_either : ℕ → ℕ → Bool
holds_either v own = eqb v own || eqb v 3

unfoldable pub square : List (List ℕ) → (own p : ℕ) → Bool
square m own p = ltb (p % 5) 3 && holds_either (value_at m (p / 5) (p % 5)) own

unfoldable pub squares_of : List (List ℕ) → ℕ → ℕ
squares_of m own = set_of (square m own) 15

unfoldable pub occurs : (x y r s : ℕ) → Bool
occurs x y r s = not (eqb (bit_and (x * 2 ^ 12) (y * 2 ^ (5 * r + s))) 0)

abbrev pub place_of : (r s : ℕ) → ℕ
place_of r s = 3 * side_of r 2 + side_of s 2

abbrev pub direction_at : (x y r s k : ℕ) → Bool
direction_at x y r s k = occurs x y r s && eqb (place_of r s) k

abbrev pub within_rows : (x y r k : ℕ) → Bool
within_rows x y r k = any_to (λ s. direction_at x y r s k) 5

abbrev pub by_differences : (x y k : ℕ) → Bool
by_differences x y k = any_to (λ r. within_rows x y r k) 5
