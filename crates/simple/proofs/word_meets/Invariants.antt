use Prim.Native.Nat.{◌+◌, ◌^◌, ◌≤◌, ◌<◌}
use Rattle.simple.specs.Parts.{Candidates}
use Rattle.simple.proofs.word_meets.Given as goal

-- The loop's invariant: the edges from `at` on that edge i may meet are the bits of the rest.

abbrev pub invariant-loop-rest : goal.invariant-loop-rest
invariant-loop-rest l = (l.i + 1 < l.at) × (l.at ≤ l.ring.size) × (l.rest < 2 ^ 64) × Candidates l.ring.outline.now l.ring.from l.ring.size l.i l.at l.rest

abbrev pub decreases-loop-rest : goal.decreases-loop-rest
decreases-loop-rest l = l.rest
