use mir.Facts.{to_z-of_z}
use Rattle.meet.specs.Signs.{together}
use Rattle.meet.proofs.together.Goals as goal

pub returns : goal.returns
unfolding together
returns c = rw (to_z-of_z c.ranges.p, to_z-of_z c.ranges.q)
