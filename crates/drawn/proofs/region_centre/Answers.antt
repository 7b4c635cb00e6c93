use mathlib.Core.Path.{◌≡◌, sym, ◌∙◌, ap}
use native.Mathlib.Omega.{arith}
use lib.ListN.{length}
use Rattle.plane.specs.Folds.{any_to}
use Rattle.plane.proofs.Folds.{none_yet, none_more, found}
use Rattle.region.specs.Outline.{drawn_by}
use Rattle.region.proofs.Ends.{size_least}
use Rattle.region.proofs.Keeps.{keeps_fewer, Sized, sized}
use Rattle.drawn.specs.Steps.{ring_centre, region_centre}
use Rattle.drawn.proofs.region_centre.Invariants.{ring}
use Rattle.drawn.proofs.region_centre.Goals as goal
use Rattle.drawn.proofs.region_centre.Goals.{After-ring_centre, Start}

pub loop-r-init : goal.loop-r-init
loop-r-init c = none_yet _

pub ring_of-requires : goal.ring_of-requires
ring_of-requires c = (c.requires.1, c.loop-r-test.true)

pub ring_centre-requires : goal.ring_centre-requires
ring_centre-requires c =
    let sizes : Sized (drawn_by c.args.outline) = sized (keeps_fewer (omega arith) c.requires.1) in
    (c.requires.0, omega (arith, size_least c.args.outline.ends.now sizes.grown c.loop-r.r c.loop-r-test.true, c.ring_of.ensures.2))

-- the ring that the pass looked at
module _ (c : After-ring_centre) where
  ring_is : c.ring_centre.result ≡ ring c.args.other (drawn_by c.args.outline) c.loop-r.r
  ring_is = let e = c.ring_of.ensures in c.ring_centre.ensures ∙ (λ i. ring_centre c.args.other (e.0 i) (e.1 i) (e.2 i))

pub returns-then-ring_centre : goal.returns-then-ring_centre
unfolding region_centre
returns-then-ring_centre c = found _ _ c.loop-r.r c.loop-r-test.true (sym (ring_is (goal.at.returns-then-ring_centre c).After-ring_centre) ∙ c.if-ring_centre.true)

pub loop-r-preserved : goal.loop-r-preserved
loop-r-preserved c = none_more _ c.loop-r.r c.loop-r.invariant (sym (ring_is (goal.at.loop-r-preserved c).After-ring_centre) ∙ c.if-ring_centre.false)

pub returns : goal.returns
unfolding region_centre
returns c =
    let l = c.loop-r in
    let e : l.r ≡ length c.args.outline.ends.now = omega arith in
    sym l.invariant ∙ ap (any_to (ring c.args.other (drawn_by c.args.outline))) e
