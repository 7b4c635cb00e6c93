use mathlib.Core.Path.{◌≡◌}
use Prim.Native.Nat.{ℕ, ◌<◌}
use lib.ListN.{length, get_or}
use Rattle.scale.specs.Places.{corner_of}
use Rattle.scale.specs.Shapes.{corner, vertex_of}
use Rattle.scale.proofs.shape.shape_of.Given as goal

abbrev pub invariant-loop-i : goal.invariant-loop-i
invariant-loop-i l = (length l.place-items ≡ 64) × ((j : ℕ) → j < l.i → get_or l.place-items j corner ≡ vertex_of l.v (corner_of l.f.numbers j))
