-- The loop's invariant: what the edges that end in the vertices before `at` have shown.
use mathlib.Core.Path.{◌≡◌}
use Prim.Native.Nat.{◌-◌, ◌≤◌}
use Rattle.seen.specs.Pass.{seen_to}
use Rattle.seen.proofs.edges_seen.Given as goal

abbrev pub invariant-loop-at : goal.invariant-loop-at
invariant-loop-at l = (l.at ≤ l.ring.size) × (l.s ≡ seen_to l.fn.b l.ring.outline.now l.ring.from l.ring.size l.at)

abbrev pub decreases-loop-at : goal.decreases-loop-at
decreases-loop-at l = l.ring.size - l.at
