-- No rule stands here: how the list of SCOPE 4.7 is held. A list of tiles as one number: hexadecimal digits, each a tile plus 1, the last
-- tile lowest. So 0 is the empty list, and the number alone tells how many tiles there are. An edge has at most five.
--   with_tile v t   the list v with the tile t behind it
--   digit_in v j    digit j of the list v, counted from the lowest
--   count_in v      how many tiles stand on the list v
--   tile_in v i     tile i of the list v, counted from the first
--   tiles_in v      its tiles
--   stands_in v t   tile t stands on the list v
use Rattle.std.specs.Prelude.{Bool, List, ℕ, ◌+◌, ◌-◌, ◌*◌, ◌/◌, ◌%◌, ◌^◌, leb, eqb}
use Rattle.plane.specs.Folds.{any_to, sum_to}
use Rattle.plane.specs.Lists.{tab}
use Rattle.plane.specs.TileSet.{one_if}

abbrev pub with_tile : ℕ → ℕ → ℕ
with_tile v t = 16 * v + t + 1

abbrev pub digit_in : ℕ → ℕ → ℕ
digit_in v j = v / 16 ^ j % 16

unfoldable pub count_in : ℕ → ℕ
count_in v = sum_to (λ j. one_if (leb (16 ^ j) v)) 5

unfoldable pub tile_in : ℕ → ℕ → ℕ
tile_in v i = digit_in v (count_in v - 1 - i) - 1

unfoldable pub tiles_in : ℕ → List ℕ
tiles_in v = tab (tile_in v) (count_in v)

unfoldable pub stands_in : ℕ → ℕ → Bool
stands_in v t = any_to (λ j. eqb (digit_in v j) (t + 1)) 5
