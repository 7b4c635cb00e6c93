use mathlib.Core.Path.{◌≡◌}
use mathlib.Core.Bool.{false}
use Rattle.plane.specs.Folds.{any_to}
use Rattle.region.specs.Outline.{drawn_by}
use Rattle.region.specs.Check.{faulty_at}
use Rattle.outline.proofs.some_faulty.Given as goal

-- The loop's invariant: no ring before r is faulty.

abbrev pub invariant-loop-r : goal.invariant-loop-r
invariant-loop-r l = any_to (faulty_at (drawn_by l.outline)) l.r ≡ false
