use mathlib.Core.Path.{◌≡◌}
use Prim.Native.Nat.{ℕ, ◌<◌}
use lib.ListN.{length, get_or}
use Rattle.scale.specs.Places.{corner_of}
use Rattle.scale.proofs.view.corners_of.Given as goal

abbrev pub invariant-loop-i : goal.invariant-loop-i
invariant-loop-i l = (length l.c-items ≡ 64) × ((j : ℕ) → j < l.i → get_or l.c-items j (record { x = 0; y = 0 }) ≡ corner_of l.f.numbers j)
