use mathlib.Core.Path.{◌≡◌}
use Prim.Native.Nat.{ℕ, ◌<◌, ◌/◌, ◌%◌}
use lib.ListN.{length, get_or}
use Rattle.drawn.specs.Steps.{value_by}
use Rattle.drawn.proofs.cells_drawn.Given as goal

-- The loop's invariant: the cells before k have their values.

abbrev pub invariant-loop-k : goal.invariant-loop-k
invariant-loop-k l = (length l.cells ≡ 9)
    × ((j : ℕ) → j < l.k → get_or l.cells j 0 ≡ value_by l.a l.b l.first l.second (j / 3) (j % 3))
