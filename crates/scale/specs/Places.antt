-- No rule stands here: where a vertex of the map stands in its picture, in tenths of a pixel from its upper left corner.
--   tenths_of d span      how many tenths d units have, where a span of units has 7,600, which is the most
--   placed_of m a b span   the tenths from the place a to the place b, behind a margin m
--   x_of v x, y_of v y    where the place x stands from the left and the place y from above: north is up
--   place_in c             the place of a coordinate; 0 for one that is out of range
--   number_place l i      the place of number i of a list of 128
--   corner_of l i         vertex i of that list, by its two places
use Rattle.std.specs.Prelude.{List, ℕ, ◌+◌, ◌-◌, ◌*◌, ◌/◌, ltb, leb, eqb, ℤ, pos, get_or}
use Rattle.plane.specs.Choice.{pick}
use Rattle.plane.specs.Place.{in_range, place_of}
use Rattle.scale.specs.declared.view.View.{View}
use Rattle.scale.specs.declared.view.Corner.{Corner}

unfoldable pub tenths_of : (d span : ℕ) → ℕ
tenths_of d span =
    pick (eqb span 0) 0 (pick (leb span d) 7600 (pick (ltb 2000000 d) 7600 (pick (ltb 7600 (d * 7600 / span)) 7600 (d * 7600 / span))))

unfoldable pub placed_of : (m a b span : ℕ) → ℕ
placed_of m a b span = pick (ltb 50000 m) 50000 (pick (leb b a) m (m + tenths_of (b - a) span))

abbrev pub x_of : View → ℕ → ℕ
x_of v x = placed_of v.left v.west x v.span

abbrev pub y_of : View → ℕ → ℕ
y_of v y = placed_of v.top y v.north v.span

unfoldable pub place_in : ℤ → ℕ
place_in c = pick (in_range c) (place_of c) 0

unfoldable pub number_place : List ℤ → ℕ → ℕ
number_place l i = pick (ltb i 128) (place_in (get_or l i (pos 0))) 0

abbrev pub corner_of : List ℤ → ℕ → Corner
corner_of l i = record { x = number_place l (2 * i); y = number_place l (2 * i + 1) }
