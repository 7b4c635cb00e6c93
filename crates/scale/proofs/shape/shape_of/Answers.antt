use native.Mathlib.Omega.{arith}
use mathlib.Core.Path.{refl, ◌∙◌, ap}
use lib.ListN.{get_or, length-set}
use borrow.Author.Count.{below_none}
use Rattle.plane.proofs.Lists.{tab_more, tab_all, get_d_tab}
use Rattle.scale.specs.Places.{corner_of}
use Rattle.scale.specs.Shapes.{corner, vertex_of}
use Rattle.scale.proofs.shape.shape_of.Goals as goal

pub loop-i-init : goal.loop-i-init
loop-i-init c = (refl, below_none _)

pub loop-i-preserved : goal.loop-i-preserved
loop-i-preserved c =
    let p = c.loop-i in
    let v = c.args.v in
    let corners = corner_of c.args.f.numbers in
    let e = c.vertex_of.ensures ∙ ap (λ l. vertex_of v (get_or l p.i (record { x = 0; y = 0 }))) c.corners_of-corners.ensures ∙ ap (vertex_of v) (get_d_tab corners (record { x = 0; y = 0 }) 64 p.i (omega (arith, c.loop-i-test.true, p.invariant.0))) in
    (simp length-set p.invariant.0, tab_more (λ j. vertex_of v (corners j)) corner p.place-items p.i _ (omega (arith, c.loop-i-test.true, p.invariant.0)) p.invariant.1 e)

pub returns-clause-vertices_value : goal.returns-clause-vertices_value
returns-clause-vertices_value c = let p = c.loop-i in tab_all _ corner 64 p.place-items p.invariant.0 (λ k b. p.invariant.1 k (omega (arith, c.loop-i-test.false, p.invariant.0)))
