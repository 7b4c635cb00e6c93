use native.Mathlib.Omega.{arith}
use Rattle.compass.proofs.compass_place.Goals as goal

pub returns : goal.returns
returns c = (omega (arith, c.side_of.ensures.0, c.side_of-2.ensures.0), omega arith)
