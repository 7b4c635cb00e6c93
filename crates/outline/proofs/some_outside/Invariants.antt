use mathlib.Core.Path.{◌≡◌}
use mathlib.Core.Bool.{Bool, not}
use mathlib.Core.List.{List}
use Prim.Native.Nat.{ℕ}
use lib.ListN.{get_or}
use lib.IntN.{ℤ, pos}
use Rattle.plane.specs.Place.{in_range}
use Rattle.plane.specs.Folds.{any_to}
use Rattle.outline.proofs.some_outside.Given as goal

-- The loop's invariant: whether some number so far is outside.

abbrev pub out : List ℤ → ℕ → Bool
out xs i = not (in_range (get_or xs i (pos 0)))

abbrev pub invariant-loop-z : goal.invariant-loop-z
invariant-loop-z l = l.outside ≡ any_to (out l.outline) l.z-index
