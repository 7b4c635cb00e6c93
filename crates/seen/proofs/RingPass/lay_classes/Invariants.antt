-- The loop's invariant: the first k places have their classes.
use mathlib.Core.Path.{◌≡◌}
use Prim.Native.Nat.{ℕ, ◌+◌, ◌<◌}
use lib.ListN.{get_or}
use Rattle.seen.specs.Pass.{corner_class}
use Rattle.seen.proofs.RingPass.lay_classes.Given as goal

abbrev pub invariant-loop-k : goal.invariant-loop-k
invariant-loop-k l = (i : ℕ) → i < l.k → get_or l.to i 0 ≡ corner_class l.self.classing l.self.ring.outline.now l.self.ring.from (l.at + i)
