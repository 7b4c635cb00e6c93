-- SCOPE 4.1, 5.5: a box that reaches beyond another on each side, as that of a region does that lies round another (proofs/Reaches, `round_reaches`).
--   Reaches K L     the box with the lines K reaches beyond the box with the lines L in the west, the south, the east and the north
use Rattle.std.specs.Prelude.{◌<ℤ◌}
use Rattle.plane.specs.Points.{Lines}

pub record Reaches (K L : Lines) : Type 0 where
  pub west : K.west <ℤ L.west
  pub south : K.south <ℤ L.south
  pub east : L.east <ℤ K.east
  pub north : L.north <ℤ K.north
