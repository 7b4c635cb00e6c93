use Prim.Native.Nat.{◌≤◌}
use native.Mathlib.Omega.{arith}
use Rattle.matrix.specs.Kept.{grid_of}
use Rattle.matrix.proofs.Kept.{lines_number}
use Rattle.matrix.proofs.grid_of.Goals as goal
use Rattle.matrix.proofs.grid_of.Goals.{After-lines_of-x, After-lines_of-y}

up_number : (c : After-lines_of-y) → (1 ≤ c.lines_of-y.result.count) × (c.lines_of-y.result.count ≤ 4)
up_number c = lines_number _ _ _ _ _ c.lines_of-y.ensures

across_number : (c : After-lines_of-x) → (1 ≤ c.lines_of-x.result.count) × (c.lines_of-x.result.count ≤ 4)
across_number c = lines_number _ _ _ _ _ c.lines_of-x.ensures

pub overflow_sub-result : goal.overflow_sub-result
overflow_sub-result c = (up_number (goal.at.overflow_sub-result c).After-lines_of-y).0

pub overflow_cast-result : goal.overflow_cast-result
overflow_cast-result c = record { fits = omega (arith, up_number (goal.at.overflow_cast-result c).After-lines_of-y) }

pub overflow_sub-result-2 : goal.overflow_sub-result-2
overflow_sub-result-2 c = (across_number (goal.at.overflow_sub-result-2 c).After-lines_of-x).0

pub overflow_cast-result-2 : goal.overflow_cast-result-2
overflow_cast-result-2 c = record { fits = omega (arith, across_number (goal.at.overflow_cast-result-2 c).After-lines_of-x) }

pub returns : goal.returns
unfolding grid_of
returns c = simp (c.lines_of-y.ensures, c.lines_of-x.ensures)
