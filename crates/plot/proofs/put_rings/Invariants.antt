use Rattle.svg.specs.Ink.{InkedOn}
use Rattle.plot.specs.Drawn.{rings_ink}
use Rattle.plot.proofs.put_rings.Given as goal

abbrev pub invariant-loop-r : goal.invariant-loop-r
invariant-loop-r l = InkedOn l.initial.page (rings_ink l.s l.r) l.page
