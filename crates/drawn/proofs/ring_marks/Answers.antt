use mathlib.Core.Path.{◌≡◌, ◌∙◌, ap}
use Prim.Native.Nat.{ℕ, ◌/◌, ◌%◌}
use native.Mathlib.Omega.{arith}
use lib.Bits.{bit_or}
use Rattle.plane.specs.TileSet.{set_of}
use Rattle.plane.specs.declared.Edge.{Edge}
use Rattle.plane.proofs.TileSet.{any_set, any_set_none, any_set_more}
use Rattle.ring.proofs.Stretch.{edge_in_places}
use Rattle.matrix.specs.Kept.{cell_in}
use Rattle.drawing.specs.Stays.{marks}
use Rattle.drawn.proofs.Steps.{nine}
use Rattle.drawn.proofs.ring_marks.Invariants.{edge}
use Rattle.drawn.proofs.ring_marks.Goals as goal

pub loop-k-init : goal.loop-k-init
loop-k-init c = let r = c.args.ring.now in any_set_none (edge c.args.own c.args.g r.outline.now r.from r.size) 9

pub edge-requires : goal.edge-requires
edge-requires c = c.loop-k-test.true

pub with_edge-set-requires : goal.with_edge-set-requires
with_edge-set-requires c =
    (c.requires, rw c.edge.ensures (edge_in_places c.args.ring.now.stretch c.loop-k-test.true), nine _ c.loop-k.invariant)

pub loop-k-preserved : goal.loop-k-preserved
loop-k-preserved c =
    let a = c.args in
    let r = a.ring.now in
    let turn = ap (λ (e : Edge). set_of (λ d. marks a.own (cell_in a.g (d / 3) (d % 3)) e) 9) c.edge.ensures in
    c.with_edge-set.ensures ∙ (λ i. bit_or (c.loop-k.invariant i) (turn i)) ∙ any_set_more (edge a.own a.g r.outline.now r.from r.size) 9 c.loop-k.k

pub returns : goal.returns
returns c =
    let l = c.loop-k in
    let r = c.args.ring.now in
    let e : l.k ≡ r.size = omega arith in
    l.invariant ∙ ap (λ (k : ℕ). any_set (edge c.args.own c.args.g r.outline.now r.from r.size) k 9) e
