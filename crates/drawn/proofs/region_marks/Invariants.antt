use mathlib.Core.Path.{◌≡◌}
use mathlib.Core.Bool.{Bool}
use mathlib.Core.List.{List}
use Prim.Native.Nat.{ℕ, ◌/◌, ◌%◌}
use lib.IntN.{ℤ}
use Rattle.plane.specs.declared.Box.{Box}
use Rattle.plane.specs.Folds.{any_to}
use Rattle.plane.proofs.TileSet.{any_set}
use Rattle.ring.specs.Edges.{ring_edge}
use Rattle.region.specs.Region.{Region, start_of, size_of}
use Rattle.region.specs.Outline.{drawn_by}
use Rattle.matrix.specs.declared.GridLines.{GridLines}
use Rattle.matrix.specs.Kept.{cell_in}
use Rattle.drawing.specs.Stays.{marks}
use Rattle.drawn.proofs.region_marks.Given as goal

-- The loop's invariant: the set has the cells that the edges of the rings before r mark.

abbrev pub ring : (own k : Box) → List ℤ → (from n : ℕ) → Bool
ring own k xs from n = any_to (λ i. marks own k (ring_edge xs from n i)) n

abbrev pub rings : (own : Box) → GridLines → Region → ℕ → ℕ → Bool
rings own g R r c = ring own (cell_in g (c / 3) (c % 3)) R.coordinates (start_of R.ends r) (size_of R.ends r)

abbrev pub invariant-loop-r : goal.invariant-loop-r
invariant-loop-r l = l.set ≡ any_set (rings l.own l.g (drawn_by l.outline)) l.r 9
