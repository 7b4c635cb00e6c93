use mathlib.Core.Path.{sym, ◌∙◌}
use Prim.Native.Nat.{◌+◌}
use native.Mathlib.Omega.{arith}
use borrow.Author.Count.{below_none, below_more}
use Rattle.plane.proofs.Folds.{any_means, any_none}
use Rattle.region.specs.Check.{outside_in}
use Rattle.outline.proofs.outside_in.Invariants.{vertexOutside}
use Rattle.outline.proofs.outside_in.Goals as goal

pub loop-k-init : goal.loop-k-init
loop-k-init c = below_none _

pub returns-then-vertex_outside : goal.returns-then-vertex_outside
unfolding outside_in
returns-then-vertex_outside c =
    let a = c.args in
    sym ((any_means (λ k. vertexOutside a.outline.now (a.from + k)) a.n).1 (c.loop-k.k, omega arith, sym c.vertex_outside.ensures ∙ c.if-vertex_outside.true))

pub loop-k-preserved : goal.loop-k-preserved
loop-k-preserved c = below_more _ _ c.loop-k.invariant (sym c.vertex_outside.ensures ∙ c.if-vertex_outside.false)

pub returns : goal.returns
unfolding outside_in
returns c =
    let a = c.args in
    sym (any_none (λ k. vertexOutside a.outline.now (a.from + k)) a.n (λ i l. c.loop-k.invariant i (omega arith)))
