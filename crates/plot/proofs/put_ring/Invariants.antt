use Rattle.svg.specs.Ink.{InkedOn}
use Rattle.plot.specs.Drawn.{stretch_ink}
use Rattle.plot.proofs.put_ring.Given as goal

abbrev pub invariant-loop-v : goal.invariant-loop-v
invariant-loop-v l = InkedOn l.initial.page (stretch_ink l.ring l.v-index) l.page
