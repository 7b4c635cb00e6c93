-- No rule stands here: what the functions that read a card may rely on. Conditions of inner functions, no part of what is promised.
--   RightParcels b          the card keeps rules 14 and 15: every ring entry is there
--   RightVertices b         it keeps rules 2, 3 and 16 too: every vertex is there
use Rattle.std.specs.Prelude.{◌≡◌, false, List, ℕ, ◌<◌}
use Rattle.card.specs.Reading.{parcel_count}
use Rattle.card.specs.CardNumber.{wrong_header, wrong_parcels, sizes_number, wrong_vertices}

pub record RightParcels (b : List ℕ) : Type 0 where
  pub header : wrong_header b ≡ false
  pub parcels : wrong_parcels b ≡ false

pub record RightVertices (b : List ℕ) : Type 0 where
  pub parcels : RightParcels b
  pub sizes : (k : ℕ) → k < parcel_count b → sizes_number b k ≡ 0
  pub vertices : wrong_vertices b ≡ false
