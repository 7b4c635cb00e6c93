use mathlib.Core.Path.{◌≡◌}
use mathlib.Core.Bool.{Bool, false, not, ◌||◌}
use mathlib.Core.List.{List}
use Prim.Native.Nat.{ℕ, ◌+◌, ◌<◌}
use lib.IntN.{ℤ}
use Rattle.plane.specs.Place.{in_range}
use Rattle.plane.specs.Points.{vertex}
use Rattle.outline.proofs.outside_in.Given as goal

abbrev pub vertexOutside : List ℤ → ℕ → Bool
vertexOutside xs i = not (in_range (vertex xs i).x) || not (in_range (vertex xs i).y)

abbrev pub invariant-loop-k : goal.invariant-loop-k
invariant-loop-k l = (i : ℕ) → i < l.k → vertexOutside l.outline (l.from + i) ≡ false
