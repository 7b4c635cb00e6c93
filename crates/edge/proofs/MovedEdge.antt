-- An edge moved half a unit to the right of travel, where it runs along an axis, so that it runs along no line: all numbers are doubled,
-- the lines stand at odd numbers, and so does an edge that is not moved. A tool of proofs: a point of the edge belongs to a tile exactly
-- where the moved point lies inside it (proofs/Belongs), and the walk finds the tiles that the moved edge meets (proofs/Drawn).
--   moved p q u v    how far an edge is moved in the axis in which it runs from p to q, by its way from u to v in the other
--   doubled_box b    the box, doubled;  moved_edge g  the edge, doubled and moved
use Prim.Native.Nat.{ℕ, ◌+◌, ◌*◌}
use lib.Dec.{ltb, eqb}
use Rattle.plane.specs.Choice.{pick}
use Rattle.plane.specs.declared.Box.{Box}
use Rattle.plane.specs.declared.Edge.{Edge}

unfoldable pub moved : (p q u v : ℕ) → ℕ
moved p q u v = pick (eqb p q) (pick (ltb u v) 2 (pick (ltb v u) 0 1)) 1

unfoldable pub doubled_box : Box → Box
doubled_box b = record { west = 2 * b.west + 1; south = 2 * b.south + 1; east = 2 * b.east + 1; north = 2 * b.north + 1 }

unfoldable pub moved_edge : Edge → Edge
moved_edge g =
    record {
      ax = 2 * g.ax + moved g.ax g.bx g.ay g.by;
      ay = 2 * g.ay + moved g.ay g.by g.bx g.ax;
      bx = 2 * g.bx + moved g.ax g.bx g.ay g.by;
      by = 2 * g.by + moved g.ay g.by g.bx g.ax;
    }
