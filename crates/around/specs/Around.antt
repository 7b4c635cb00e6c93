-- SCOPE 5.5: the word "around". A region is around the other where it has all eight tiles round the other's box and not B, and the other has B of
-- its box and no tile besides.
--   Surrounds first second L M    so it is, over the lines L and M of the two regions' boxes
--   eight, middle                 the eight tiles without B, and B alone, as sets
--   around_of a                    the word of an answer: no for a refused one. Its meaning: proofs/Surrounding
use Rattle.std.specs.Prelude.{◌≡◌, ◌↔◌, ◌≢◌, Bool, ◌&&◌, ℕ, ◌<◌, eqb}
use Rattle.plane.specs.Points.{Lines}
use Rattle.region.specs.Region.{Region}
use Rattle.relation.specs.Relation.{RegionHas}
use Rattle.pair.specs.Answer.{Answer}

pub record Surrounds (first second : Region) (L M : Lines) : Type 0 where
  pub all_but_middle : (k : ℕ) → k < 9 → RegionHas M first k ↔ (k ≢ 4)
  pub middle_alone : (k : ℕ) → k < 9 → RegionHas L second k ↔ (k ≡ 4)

abbrev pub eight : ℕ
eight = 495

abbrev pub middle : ℕ
middle = 16

unfoldable pub around_of : Answer → Bool
around_of a = eqb a.first eight && eqb a.second middle
