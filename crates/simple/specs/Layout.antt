-- No rule of docs/SCOPE.md stands here: the ranges of a small ring's edges in one axis, laid out in two lists.
--   small      up to so many vertices a ring is small
--   LaidOut    lows has the lower end of each edge, highs the higher one
--   ranges_apart   the ranges of edges i and j have no number in common
use Rattle.std.specs.Prelude.{◌≡◌, Bool, ◌||◌, List, ℕ, ◌<◌, min, max, ltb, get_or, ℤ}
use Rattle.ring.specs.Edges.{corner, after}
use Rattle.bands.specs.Axis.{place_in}

abbrev pub small : ℕ
small = 16

pub record LaidOut (xs : List ℤ) (from n axis : ℕ) (lows highs : List ℕ) : Type 0 where
  pub low : (k : ℕ) → k < n → get_or lows k 0 ≡ min (place_in axis (corner xs from k)) (place_in axis (after xs from n k))
  pub high : (k : ℕ) → k < n → get_or highs k 0 ≡ max (place_in axis (corner xs from k)) (place_in axis (after xs from n k))

unfoldable pub ranges_apart : (lows highs : List ℕ) (i j : ℕ) → Bool
ranges_apart lows highs i j = ltb (get_or highs i 0) (get_or lows j 0) || ltb (get_or highs j 0) (get_or lows i 0)
