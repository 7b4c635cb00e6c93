use native.Mathlib.Omega.{arith}
use Rattle.edge.specs.Walk.{tile_of}
use Rattle.edge.proofs.tile_of.Goals as goal

pub returns-then-r-eq0 : goal.returns-then-r-eq0
unfolding tile_of
returns-then-r-eq0 c = (omega arith, omega arith)

pub returns-then-r-eq1 : goal.returns-then-r-eq1
unfolding tile_of
returns-then-r-eq1 c = (omega arith, omega arith)

pub returns : goal.returns
unfolding tile_of
returns c = (omega arith, omega arith)
