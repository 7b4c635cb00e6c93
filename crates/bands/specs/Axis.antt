-- No rule stands here: one axis of the plane at a time, 0 for x, 1 for y.
--   place_in axis P    where the point P lies in this axis, in places
--   number_of axis     the number that stands for the axis of the code
use Rattle.std.specs.Prelude.{ℕ, zero, suc}
use Rattle.plane.specs.Place.{place_of}
use Rattle.plane.specs.Points.{Point}
use Rattle.bands.specs.declared.Axis.{Axis}
use Rattle.bands.specs.declared.Axis.TheVariants.{X, Y}

abbrev pub place_in : ℕ → Point → ℕ
place_in zero P = place_of P.x
place_in (suc k) P = place_of P.y

abbrev pub number_of : Axis → ℕ
number_of X = 0
number_of Y = 1
