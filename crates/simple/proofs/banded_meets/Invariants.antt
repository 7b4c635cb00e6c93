use mathlib.Core.Path.{◌≡◌}
use mathlib.Core.Bool.{false}
use Prim.Native.Nat.{ℕ, ◌<◌}
use Rattle.simple.specs.Parts.{meets_with}
use Rattle.simple.proofs.banded_meets.Given as goal

-- The loop's invariant: no edge before i meets a stranger after it.

abbrev pub invariant-loop-i : goal.invariant-loop-i
invariant-loop-i l = (k : ℕ) → k < l.i → meets_with l.ring.outline.now l.ring.from l.ring.size k ≡ false
