use mathlib.Core.Path.{◌≡◌}
use mathlib.Core.Bool.{Bool}
use mathlib.Core.List.{List}
use Prim.Native.Nat.{ℕ, ◌+◌, ◌≤◌}
use lib.IntN.{ℤ}
use Rattle.plane.specs.declared.Box.{Box}
use Rattle.plane.specs.Folds.{sum_to}
use Rattle.plane.specs.TileSet.{one_if}
use Rattle.ring.specs.Edges.{ring_edge}
use Rattle.ring.specs.Enclosed.{crosses_at}
use Rattle.circuit.proofs.Ring.encloses.Given as goal

-- The loop's invariant: the number is how many of the edges so far cross the ray.

abbrev pub crosses : Box → List ℤ → (from n k : ℕ) → Bool
crosses b xs from n k = crosses_at 2 (b.west + b.east) (b.south + b.north) (ring_edge xs from n k)

abbrev pub count : Box → List ℤ → (from n k : ℕ) → ℕ
count b xs from n k = sum_to (λ i. one_if (crosses b xs from n i)) k

abbrev pub invariant-loop-k : goal.invariant-loop-k
invariant-loop-k l = (l.crossing ≤ l.k) × (l.crossing ≡ count l.b l.self.outline.now l.self.from l.self.size l.k)
