-- SCOPE 4.3, 4.8, computed: what is drawn from the list of an edge's tiles: the tiles that the edge has and its pieces, one a tile. An edge
-- with equal ends has no tile and is one piece. Their meaning: proofs/Drawn, `has_means` and `pieces_mean`.
--   drawn v       a list with the set of its tiles and its pieces
--   walk_of b g    the walk along the edge g, seen from the box b: its list with what is drawn from it
--   has b g t     the edge g has tile t of the box b
--   pieces b g    into how many pieces the lines of b cut the edge g
use Rattle.std.specs.Prelude.{Bool, ℕ, max}
use Rattle.plane.specs.TileSet.{set_of}
use Rattle.plane.specs.declared.Box.{Box}
use Rattle.plane.specs.declared.Edge.{Edge}
use Rattle.edge.specs.declared.Walk.{Walk}
use Rattle.edge.specs.TileList.{count_in, stands_in}
use Rattle.edge.specs.Walk.{list_of}

abbrev pub drawn : ℕ → Walk
drawn v = record { list = v; set = set_of (stands_in v) 9; pieces = max 1 (count_in v) }

unfoldable pub walk_of : Box → Edge → Walk
walk_of b g = drawn (list_of b g)

unfoldable pub has : Box → Edge → ℕ → Bool
has b g t = stands_in (list_of b g) t

unfoldable pub pieces : Box → Edge → ℕ
pieces b g = max 1 (count_in (list_of b g))
