use mathlib.Core.Path.{◌≡◌}
use borrow.Author.Rules.{rules}
use native.Mathlib.Omega.{arith}
use Rattle.plane.specs.Points.{vertex}
use Rattle.bands.specs.Axis.{place_in, number_of}
use Rattle.bands.proofs.Places.{place_in_le}
use Rattle.bands.proofs.place_in.Goals as goal
use Rattle.bands.proofs.place_in.Goals.{After-place_at}

read : (c : After-place_at) → c.place_at.result ≡ place_in (number_of c.args.axis) (vertex c.args.outline.now c.args.i)
read c = search rules

pub overflow_cast-result : goal.overflow_cast-result
overflow_cast-result c = record { fits = omega (arith, read c, place_in_le (number_of c.args.axis) _ c.requires.range) }
