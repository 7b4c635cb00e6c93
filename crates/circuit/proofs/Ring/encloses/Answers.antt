use mathlib.Core.Path.{◌≡◌, ◌∙◌, ap}
use mathlib.Core.Bool.{Bool}
use mathlib.Core.List.{List}
use Prim.Native.Nat.{ℕ, ◌+◌}
use native.Mathlib.Omega.{arith}
use lib.IntN.{ℤ}
use Rattle.plane.specs.declared.Box.{Box}
use Rattle.plane.specs.TileSet.{one_if}
use Rattle.plane.proofs.Folds.{sum_step, sum_none}
use Rattle.ring.specs.Enclosed.{crosses_at, encloses_at}
use Rattle.ring.proofs.Stretch.{edge_in_places}
use Rattle.circuit.proofs.Ring.encloses.Goals as goal
use Rattle.circuit.proofs.Ring.encloses.Invariants.{crosses, count}
use Rattle.circuit.proofs.Ring.encloses.Goals.{then-crosses_ray, else-crosses_ray}

count_more : (b : Box) (xs : List ℤ) (from n k : ℕ) (t : Bool) → t ≡ crosses b xs from n k → count b xs from n k + one_if t ≡ count b xs from n (k + 1)
count_more b xs from n k t e = rw e (sum_step (λ i. one_if (crosses b xs from n i)) k)

pub loop-k-init : goal.loop-k-init
loop-k-init c = (omega arith, sum_none _)

pub crosses_ray-requires : goal.crosses_ray-requires
crosses_ray-requires c = (c.requires, rw c.edge.ensures (edge_in_places c.args.self.now.stretch c.loop-k-test.true))

pub loop-k-preserved : goal.loop-k-preserved
loop-k-preserved c =
    let b = c.args.b in
    let ring = c.args.self.now in
    let l = c.loop-k in
    let t = c.crosses_ray.result in
    let m = count_more b ring.outline.now ring.from ring.size l.k t (c.crosses_ray.ensures ∙ ap (crosses_at 2 (b.west + b.east) (b.south + b.north)) c.edge.ensures) in
    elim c.if-crosses_ray.branch [
      | then-crosses_ray w ↦ (omega (arith, w.crossing-is), omega (arith, w.crossing-is, ap one_if w.if-crosses_ray.true))
      | else-crosses_ray w ↦ (omega (arith, w.crossing-is), omega (arith, w.crossing-is, ap one_if w.if-crosses_ray.false))
    ]

pub returns : goal.returns
unfolding encloses_at
returns c =
    let l = c.loop-k in
    let e : l.k ≡ c.args.self.now.size = omega arith in
    rw (l.invariant.1, e)
