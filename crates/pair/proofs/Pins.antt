-- Request L12 in the pair answer: a pin that a ring of one region encloses, strictly inside a tile of the other's box, has the bit of that tile in the
-- relation of the one to the other.
--   pin_answered         a pin in the first region: the bit stands in the relation of the first to the second
--   back_pin_answered    a pin in the second: in the relation of the second to the first
use mathlib.Core.Path.{◌≡◌}
use Prim.Native.Nat.{ℕ, ◌<◌}
use lib.ListN.{length}
use Rattle.plane.specs.Points.{Lines}
use Rattle.plane.specs.Ray.{Pin}
use Rattle.plane.specs.TileSet.{bit}
use Rattle.region.specs.Region.{Region}
use Rattle.relation.specs.Relation.{RegionBox}
use Rattle.pin.specs.Pins.{InTile, Encloses}
use Rattle.pin.proofs.Pins.{accounted_for}
use Rattle.pair.specs.Answer.{pair_of}
use Rattle.pair.specs.Meaning.{Answered}
use Rattle.pair.proofs.Laws.{four, tile_means, back_tile_means}

module _ (first second : Region) (a : Answered first second) where
  pub pin_answered : (M : Lines) → RegionBox second M → (P : Pin) (r t : ℕ) → r < length first.ends → t < 9 → Encloses first r P → InTile M P t
      → bit (pair_of first second).first t ≡ 1
  pin_answered M is P r t hr ht e i = (tile_means first second a M is t ht).1 (accounted_for (four first second a).0 (four first second a).1 M is P r t hr ht e i)

  pub back_pin_answered : (L : Lines) → RegionBox first L → (P : Pin) (r t : ℕ) → r < length second.ends → t < 9 → Encloses second r P → InTile L P t
      → bit (pair_of first second).second t ≡ 1
  back_pin_answered L is P r t hr ht e i =
      (back_tile_means first second a L is t ht).1 (accounted_for (four first second a).1 (four first second a).0 L is P r t hr ht e i)
