-- No rule stands here: which tile of a box holds another box, by its four lines. The code looks at no edge of a region whose box one tile
-- holds; no promise hangs on these names.
--   lines_before lo hi x   how many of the lines lo and hi come before x;  lines_up_to  before x or at it
--   tile_around b own      the tile of b that holds the box `own`, touching no line; 9 where there is none
--   tile_holding b own R   the same for the region R with that box; 9 also where the ends of its first edge are equal
use Rattle.std.specs.Prelude.{ℕ, ◌+◌, ◌*◌, ltb, leb, eqb}
use Rattle.plane.specs.Choice.{pick}
use Rattle.plane.specs.TileSet.{one_if}
use Rattle.plane.specs.declared.Box.{Box}
use Rattle.edge.specs.Walk.{tile_of}
use Rattle.ring.specs.Edges.{ring_edge}
use Rattle.ring.specs.Repeated.{equal_ends}
use Rattle.region.specs.Region.{Region, size_of}

unfoldable pub lines_before : (lo hi x : ℕ) → ℕ
lines_before lo hi x = one_if (ltb lo x) + one_if (ltb hi x)

unfoldable pub lines_up_to : (lo hi x : ℕ) → ℕ
lines_up_to lo hi x = one_if (leb lo x) + one_if (leb hi x)

unfoldable pub tile_around : Box → Box → ℕ
tile_around b own =
    let c = lines_before b.west b.east own.west in
    let r = lines_before b.south b.north own.south in
    pick (eqb (3 * c + r) (3 * lines_up_to b.west b.east own.east + lines_up_to b.south b.north own.north)) (tile_of c r) 9

unfoldable pub tile_holding : Box → Box → Region → ℕ
tile_holding b own R = pick (equal_ends (ring_edge R.coordinates 0 (size_of R.ends 0) 0)) 9 (tile_around b own)
