use mathlib.Core.Path.{◌≡◌}
use mathlib.Core.Bool.{Bool, false}
use Prim.Native.Nat.{ℕ}
use Rattle.plane.specs.declared.Box.{Box}
use Rattle.plane.specs.Folds.{any_to}
use Rattle.region.specs.Region.{Region, start_of, size_of}
use Rattle.region.specs.Outline.{drawn_by}
use Rattle.drawn.specs.Steps.{ring_centre}
use Rattle.drawn.proofs.region_centre.Given as goal

-- The loop's invariant: no ring before r has the centre of the other's box.

abbrev pub ring : Box → Region → ℕ → Bool
ring other R r = ring_centre other R.coordinates (start_of R.ends r) (size_of R.ends r)

abbrev pub invariant-loop-r : goal.invariant-loop-r
invariant-loop-r l = any_to (ring l.other (drawn_by l.outline)) l.r ≡ false
