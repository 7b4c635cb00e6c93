-- No rule stands here: what the desk's request `edge` is answered from. What the tiles of an edge in order of travel are says SCOPE 4.7.
-- Eight numbers are asked with, of any size: x and y of the start and of the end of the edge, and west, south, east and north of the box.
--   edge_in xs, box_in xs  the edge and the box that the eight numbers say, in places
--   is_upright b           the lines are those of a box: the west one at most the east one, the south one at most the north one
--   asked_list xs          the tiles in order of travel, as a list of `edge`; none where they are not eight, a number is out of range, the
--                          box is not upright, or the ends are equal. When that is: proofs/NoTile, `asked_none`
use Rattle.std.specs.Prelude.{Bool, ◌&&◌, List, ℕ, leb, eqb, ℤ, pos, length, get_or}
use Rattle.plane.specs.Choice.{pick}
use Rattle.plane.specs.Place.{place_of}
use Rattle.plane.specs.declared.Box.{Box}
use Rattle.plane.specs.declared.Edge.{Edge}
use Rattle.edge.specs.Walk.{list_of}
use Rattle.region.specs.Check.{some_outside}

abbrev pub edge_in : List ℤ → Edge
edge_in xs =
    record { ax = place_of (get_or xs 0 (pos 0)); ay = place_of (get_or xs 1 (pos 0)); bx = place_of (get_or xs 2 (pos 0)); by = place_of (get_or xs 3 (pos 0)) }

abbrev pub box_in : List ℤ → Box
box_in xs =
    record { west = place_of (get_or xs 4 (pos 0)); south = place_of (get_or xs 5 (pos 0)); east = place_of (get_or xs 6 (pos 0)); north = place_of (get_or xs 7 (pos 0)) }

abbrev pub is_upright : Box → Bool
is_upright b = leb b.west b.east && leb b.south b.north

unfoldable pub asked_list : List ℤ → ℕ
asked_list xs = pick (eqb (length xs) 8) (pick (some_outside xs) 0 (pick (is_upright (box_in xs)) (list_of (box_in xs) (edge_in xs)) 0)) 0
