use mathlib.Core.Path.{◌≡◌}
use Rattle.plane.specs.Folds.{any_to}
use Rattle.plane.proofs.Difference.{Diff}
use Rattle.ring.specs.Edges.{ring_edge}
use Rattle.simple.specs.Parts.{edge_before}
use Rattle.simple.proofs.Pass.{equal_at, fold_at, plus_to, minus_to}
use Rattle.simple.proofs.ring_scan.Given as goal

-- The loop's invariant: the edge before edge k, what the edges before k have shown, and their sum.

abbrev pub invariant-loop-k : goal.invariant-loop-k
invariant-loop-k l = (l.g ≡ ring_edge l.ring.outline.now l.ring.from l.ring.size (edge_before l.ring.size l.k))
    × (l.repeated ≡ any_to (equal_at l.ring.outline.now l.ring.from l.ring.size) l.k)
    × (l.folded ≡ any_to (fold_at l.ring.outline.now l.ring.from l.ring.size) l.k)
    × Diff l.sum (plus_to l.ring.outline.now l.ring.from l.ring.size l.k) (minus_to l.ring.outline.now l.ring.from l.ring.size l.k)
