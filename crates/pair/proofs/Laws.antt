-- What the pair answer says, in words that a user can check against a map: both relations and both piece counts. The other fields: number, region
-- and ring in proofs/Refusals, rows, columns and cells in proofs/Cells, directions in proofs/Directions; the word "around" in around/proofs/Surrounding.
--   number_means      number 0 exactly when both regions keep rules 1 to 7: they are `Answered`;  four  they keep rules 1 to 4 then
--   fields_are        the fields of such an answer
--   some_tile         neither relation of it is 0;  has_tile, has_back_tile  for each region has a tile of the other's box
--   tile_means, back_tile_means         tile k is in the relation of the first region to the second, of the second to the first, exactly
--                     when the document's rule finds it there
--   pieces_mean, back_pieces_mean       the pieces of the first region against the second's box, of the second against the first's
--   pieces_between, back_pieces_between     the pieces are at least the edges and at most five times as many
--   relation_below, back_relation_below     a relation is nine tiles and nothing else
use mathlib.Core.Path.{◌≡◌, refl, ap}
use mathlib.Core.Logic.{◌↔◌, ◌≢◌}
use Prim.Native.Nat.{ℕ, zero, suc, ◌*◌, ◌≤◌, ◌<◌}
use native.Mathlib.Omega.{arith}
use Rattle.plane.specs.Points.{Lines}
use Rattle.plane.specs.TileSet.{bit}
use Rattle.region.specs.Check.{Checked}
use Rattle.region.specs.Check.{Accepted, Refused}
use Rattle.region.specs.Region.{Region, last_end}
use Rattle.region.specs.Rules.{Keeps}
use Rattle.region.specs.Check.{check_of}
use Rattle.region.proofs.Keeps.{keeps_fewer}
use Rattle.region.proofs.Check.{accepted_means, refused_means}
use Rattle.relation.specs.Relation.{RegionBox, RegionHas, RegionPieces, region_box, relation_of, region_seen}
use Rattle.relation.proofs.Relation.{relation_tile, pieces_count, region_pieces_le, relation_lt}
use Rattle.relation.proofs.Never.{never_none, region_tile}
use Rattle.pair.specs.Answer.{Answer}
use Rattle.pair.specs.Answer.{or_refused, given, answer_of, pair_of}
use Rattle.pair.specs.Meaning.{Answered}

module _ (first second : Region) where
  abbrev whole : Answer
  whole = given (region_box first) (region_box second) (region_seen (region_box second) first) (region_seen (region_box first) second)

  module _ (a : Answered first second) where
    pub four : Keeps 4 first × Keeps 4 second
    four = (keeps_fewer (omega arith) a.first_kept, keeps_fewer (omega arith) a.second_kept)

    pub some_tile : (relation_of (region_box second) first ≢ 0) × (relation_of (region_box first) second ≢ 0)
    some_tile = (never_none (keeps_fewer (omega arith) a.first_kept) second, never_none (keeps_fewer (omega arith) a.second_kept) first)

    pub has_tile : (M : Lines) → RegionBox second M → (t : ℕ) × (t < 9) × RegionHas M first t
    has_tile M is = region_tile (keeps_fewer (omega arith) a.first_kept) second four.1 M is

    pub has_back_tile : (L : Lines) → RegionBox first L → (t : ℕ) × (t < 9) × RegionHas L second t
    has_back_tile L is = region_tile (keeps_fewer (omega arith) a.second_kept) first four.0 L is

    pub fields_are : pair_of first second ≡ whole
    unfolding pair_of answer_of
    fields_are = rw ((accepted_means first).1 a.first_kept, (accepted_means second).1 a.second_kept) refl

    pub tile_means : (M : Lines) → RegionBox second M → (k : ℕ) → k < 9 → (bit (pair_of first second).first k ≡ 1) ↔ RegionHas M first k
    unfolding given
    tile_means M is k h = rw fields_are (relation_tile four.0 four.1 M is k h)

    pub back_tile_means : (L : Lines) → RegionBox first L → (k : ℕ) → k < 9 → (bit (pair_of first second).second k ≡ 1) ↔ RegionHas L second k
    unfolding given
    back_tile_means L is k h = rw fields_are (relation_tile four.1 four.0 L is k h)

    pub pieces_mean : (M : Lines) → RegionBox second M → (m : ℕ) → ((pair_of first second).first_pieces ≡ m) ↔ RegionPieces M first m
    unfolding given
    pieces_mean M is m = rw fields_are (pieces_count four.0 four.1 M is m)

    pub back_pieces_mean : (L : Lines) → RegionBox first L → (m : ℕ) → ((pair_of first second).second_pieces ≡ m) ↔ RegionPieces L second m
    unfolding given
    back_pieces_mean L is m = rw fields_are (pieces_count four.1 four.0 L is m)

    pub pieces_between : (last_end first.ends ≤ (pair_of first second).first_pieces) × ((pair_of first second).first_pieces ≤ last_end first.ends * 5)
    unfolding given
    pieces_between = rw fields_are (region_pieces_le four.0 (region_box second))

    pub back_pieces_between : (last_end second.ends ≤ (pair_of first second).second_pieces) × ((pair_of first second).second_pieces ≤ last_end second.ends * 5)
    unfolding given
    back_pieces_between = rw fields_are (region_pieces_le four.1 (region_box first))

    pub relation_below : (pair_of first second).first < 512
    unfolding given
    relation_below = rw fields_are (relation_lt (region_box second) first)

    pub back_relation_below : (pair_of first second).second < 512
    unfolding given
    back_relation_below = rw fields_are (relation_lt (region_box first) second)

  -- a refusal by the check has a number that is not 0
  refused_number : (R : Region) (n r : ℕ) → check_of R ≡ Refused n r → n ≡ 0 → ⊥
  refused_number R zero r e q = ((refused_means R zero r).0 e).broken
  refused_number R (suc n) r e q = omega arith

  number_there : (pair_of first second).number ≡ 0 → Answered first second
  unfolding pair_of
  number_there h = one (check_of first) refl h
    where
      two : check_of first ≡ Accepted → (c : Checked) → check_of second ≡ c → (or_refused c 2 (answer_of first second)).number ≡ 0 → Answered first second
      two e Accepted f n = record { first_kept = (accepted_means first).0 e; second_kept = (accepted_means second).0 f }
      two e (Refused m r) f n = absurd (refused_number second m r f n)

      one : (c : Checked) → check_of first ≡ c → (or_refused c 1 (or_refused (check_of second) 2 (answer_of first second))).number ≡ 0 → Answered first second
      one Accepted e n = two e (check_of second) refl n
      one (Refused m r) e n = absurd (refused_number first m r e n)

  pub number_means : ((pair_of first second).number ≡ 0) ↔ Answered first second
  unfolding given
  number_means = (number_there, λ a. ap (λ (r : Answer). r.number) (fields_are a))
