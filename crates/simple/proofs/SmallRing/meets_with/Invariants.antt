use mathlib.Core.Path.{◌≡◌}
use mathlib.Core.Bool.{true}
use Prim.Native.Nat.{ℕ, ◌<◌}
use Rattle.simple.specs.Parts.{meet_pair}
use Rattle.simple.proofs.SmallRing.meets_with.Given as goal

-- The loop's invariant: edge i meets no edge before j.

abbrev pub invariant-loop-j : goal.invariant-loop-j
invariant-loop-j l = (k : ℕ) → k < l.j → meet_pair l.self.ring.outline.now l.self.ring.from l.self.ring.size l.i k ≡ true → ⊥
