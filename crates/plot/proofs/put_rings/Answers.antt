use native.Mathlib.Omega.{arith}
use mathlib.Core.Path.{◌≡◌, ap}
use Rattle.svg.proofs.Inking.{on_as}
use Rattle.plot.proofs.Drawing.{rings_none, rings_more}
use Rattle.plot.specs.Drawn.{ring_ink, rings_ink}
use Rattle.plot.proofs.put_rings.Goals as goal

pub loop-r-init : goal.loop-r-init
loop-r-init c = rings_none c.args.s _

pub loop-r-preserved : goal.loop-r-preserved
loop-r-preserved c = rings_more c.args.s c.loop-r.r c.loop-r.invariant (on_as (ap ring_ink c.ring.ensures) c.put_ring.ensures)

pub returns : goal.returns
returns c =
    let z : c.loop-r.r ≡ c.args.s.rings = omega arith in
    on_as (ap (rings_ink c.args.s) z) c.loop-r.invariant
