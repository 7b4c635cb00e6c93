-- SCOPE 5.4, 4.1: where on the compass the cells that hold a lie, seen from those that hold b. A cell may hold both: that is O, bit 4. Any
-- three by three array is read; a value other than 1, 2 and 3 holds nothing.
--   HoldsFirst, HoldsSecond     the cell holds a (value 1 or 3), holds b (value 2 or 3)
--   Toward s i i'          number i lies on side s of number i': 0 before it, 1 with it, 2 after it
--   Direction m k          some cell holding a lies in direction k from some cell holding b
--   side_of, holds_first, holds_second  the same as tests; cells are numbered by row here
--   compass_place c d      the direction in which cell c lies from cell d
--   directed m k           some cell holding a lies in direction k from some cell holding b, tested
--   directions_of m        the set of directions, computed. Its meaning: proofs/Directions, `directions_mean`
--   opposite s             the set with bit k at 8 - k
use Rattle.std.specs.Prelude.{◌≡◌, ◌⊎◌, Bool, ◌&&◌, ◌||◌, List, ℕ, zero, suc, ◌+◌, ◌-◌, ◌*◌, ◌/◌, ◌%◌, ◌<◌, ltb, eqb}
use Rattle.plane.specs.Choice.{pick}
use Rattle.plane.specs.Folds.{any_to}
use Rattle.plane.specs.TileSet.{set_of, bit}
use Rattle.matrix.specs.Matrix.{value_at}

abbrev pub HoldsFirst : List (List ℕ) → (i j : ℕ) → Type 0
HoldsFirst m i j = (value_at m i j ≡ 1) ⊎ (value_at m i j ≡ 3)

abbrev pub HoldsSecond : List (List ℕ) → (i j : ℕ) → Type 0
HoldsSecond m i j = (value_at m i j ≡ 2) ⊎ (value_at m i j ≡ 3)

abbrev pub Toward : (s i i' : ℕ) → Type 0
Toward zero i i' = i < i'
Toward (suc zero) i i' = i ≡ i'
Toward (suc (suc s)) i i' = i' < i

pub record Direction (m : List (List ℕ)) (k : ℕ) : Type 0 where
  pub i : ℕ
  pub j : ℕ
  pub i' : ℕ
  pub j' : ℕ
  pub first_cell : (i < 3) × (j < 3)
  pub second_cell : (i' < 3) × (j' < 3)
  pub first_holds : HoldsFirst m i j
  pub second_holds : HoldsSecond m i' j'
  pub rows : Toward (k / 3) i i'
  pub columns : Toward (k % 3) j j'

unfoldable pub side_of : (i i' : ℕ) → ℕ
side_of i i' = pick (ltb i i') 0 (pick (eqb i i') 1 2)

-- cells are numbered by row, so cell c stands in row c / 3 and column c % 3
unfoldable pub holds_first : List (List ℕ) → ℕ → Bool
holds_first m c = eqb (value_at m (c / 3) (c % 3)) 1 || eqb (value_at m (c / 3) (c % 3)) 3

unfoldable pub holds_second : List (List ℕ) → ℕ → Bool
holds_second m c = eqb (value_at m (c / 3) (c % 3)) 2 || eqb (value_at m (c / 3) (c % 3)) 3

unfoldable pub compass_place : (c d : ℕ) → ℕ
compass_place c d = 3 * side_of (c / 3) (d / 3) + side_of (c % 3) (d % 3)

unfoldable pub directed : List (List ℕ) → ℕ → Bool
directed m k = any_to (λ c. holds_first m c && any_to (λ d. holds_second m d && eqb (compass_place c d) k) 9) 9

unfoldable pub directions_of : List (List ℕ) → ℕ
directions_of m = set_of (directed m) 9

unfoldable pub opposite : ℕ → ℕ
opposite s = set_of (λ k. eqb (bit s (8 - k)) 1) 9
