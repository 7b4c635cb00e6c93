use mathlib.Core.Path.{◌≡◌}
use mathlib.Core.Bool.{Bool}
use mathlib.Core.List.{List}
use Prim.Native.Nat.{ℕ, ◌/◌, ◌%◌}
use lib.IntN.{ℤ}
use Rattle.plane.specs.declared.Box.{Box}
use Rattle.plane.proofs.TileSet.{any_set}
use Rattle.ring.specs.Edges.{ring_edge}
use Rattle.matrix.specs.declared.GridLines.{GridLines}
use Rattle.matrix.specs.Kept.{cell_in}
use Rattle.drawing.specs.Stays.{marks}
use Rattle.drawn.proofs.ring_marks.Given as goal

-- The loop's invariant: the set has the cells that the edges before k mark.

abbrev pub edge : (own : Box) → GridLines → List ℤ → (from n : ℕ) → ℕ → ℕ → Bool
edge own g xs from n i c = marks own (cell_in g (c / 3) (c % 3)) (ring_edge xs from n i)

abbrev pub invariant-loop-k : goal.invariant-loop-k
invariant-loop-k l = let r = l.ring in l.set ≡ any_set (edge l.own l.g r.outline.now r.from r.size) l.k 9
