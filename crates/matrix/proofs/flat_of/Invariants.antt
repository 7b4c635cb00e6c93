use mathlib.Core.Path.{◌≡◌}
use Prim.Native.Nat.{ℕ, ◌<◌, ◌/◌, ◌%◌}
use lib.ListN.{length, get_or}
use Rattle.matrix.specs.Matrix.{value_at}
use Rattle.matrix.proofs.flat_of.Given as goal

abbrev pub invariant-loop-k : goal.invariant-loop-k
invariant-loop-k l = (length l.cells ≡ 9) × ((j : ℕ) → j < l.k → get_or l.cells j 0 ≡ value_at l.m (j / 3) (j % 3))
