use mathlib.Core.List.{[], ◌∷◌}
use mathlib.Core.Path.{◌≡◌, ap}
use lib.ListN.{length}
use native.Mathlib.Omega.{arith}
use Rattle.svg.proofs.Inking.{on_then, on_as}
use Rattle.plot.proofs.Drawing.{stretch_none, stretch_more}
use Rattle.plot.specs.Drawn.{move_text, close_text, stretch_ink, ring_ink}
use Rattle.plot.proofs.put_ring.Goals as goal

pub loop-v-init : goal.loop-v-init
loop-v-init c = stretch_none c.args.ring.now _

pub loop-v-preserved : goal.loop-v-preserved
loop-v-preserved c = stretch_more c.args.ring.now c.loop-v.v-index c.loop-v.invariant c.put_vertex.ensures

pub returns : goal.returns
unfolding ring_ink
returns c =
    let ring = c.args.ring.now in
    let z : c.loop-v.v-index ≡ length ring = omega arith in
    on_then (move_text ∷ []) _ c.text.ensures (on_then (stretch_ink ring (length ring)) (close_text ∷ []) (on_as (ap (stretch_ink ring) z) c.loop-v.invariant) c.text-2.ensures)
