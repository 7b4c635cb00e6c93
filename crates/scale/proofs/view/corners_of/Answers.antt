use native.Mathlib.Omega.{arith}
use mathlib.Core.Path.{refl}
use lib.ListN.{length-set}
use borrow.Author.Count.{below_none}
use Rattle.plane.proofs.Lists.{tab_more, tab_all}
use Rattle.scale.specs.Places.{corner_of}
use Rattle.scale.proofs.view.corners_of.Goals as goal

pub loop-i-init : goal.loop-i-init
loop-i-init c = (refl, below_none _)

pub loop-i-preserved : goal.loop-i-preserved
loop-i-preserved c =
    let p = c.loop-i in
    (simp length-set p.invariant.0, tab_more (corner_of c.args.f.numbers) _ p.c-items p.i _ (omega (arith, c.loop-i-test.true, p.invariant.0)) p.invariant.1 c.corner_at.ensures)

pub returns : goal.returns
returns c = let p = c.loop-i in tab_all _ (record { x = 0; y = 0 }) 64 p.c-items p.invariant.0 (λ k b. p.invariant.1 k (omega (arith, c.loop-i-test.false, p.invariant.0)))
