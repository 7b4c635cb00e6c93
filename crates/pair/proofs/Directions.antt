-- The directions of the pair answer, for any two regions; a refused answer has none.
--   directions_are       the directions are those of the answer's own nine cells, three rows of three
--   directions_mean      direction k is there exactly when some cell whose value holds the first region lies in that direction from some cell
--                        whose value holds the second (what a value holds: proofs/Cells; both together: proofs/Compass)
--   directions_below     the directions are nine bits and nothing else
--   turned, directions_turned    accepted the other way too; the directions are then the opposites
use mathlib.Core.Path.{◌≡◌, refl, sym, ap}
use mathlib.Core.Logic.{◌↔◌, ◌⊎◌, inl, inr}
use Prim.Native.Nat.{ℕ, ◌<◌}
use Rattle.plane.specs.Folds.{any_to}
use Rattle.plane.specs.Lists.{tab_from}
use Rattle.plane.specs.TileSet.{set_of, bit}
use Rattle.plane.proofs.TileSet.{set_lt}
use Rattle.region.specs.Region.{Region}
use Rattle.relation.specs.Relation.{region_box, relation_of}
use Rattle.matrix.specs.Matrix.{three_rows}
use Rattle.compass.specs.Directions.{Direction, holds_first, directed, directions_of, opposite}
use Rattle.matrix.proofs.Meaning.{flat_rows}
use Rattle.compass.proofs.Directions as compass
use Rattle.pair.specs.Answer.{given, pair_of}
use Rattle.pair.specs.Meaning.{Answered, RefusedPair}
use Rattle.pair.proofs.Laws.{fields_are}
use Rattle.pair.proofs.Refusals.{refused_means, answered_or_refused}

module _ (first second : Region) where
  pub directions_are : (pair_of first second).directions ≡ directions_of (three_rows (pair_of first second).cells)
  unfolding given directions_of directed holds_first any_to set_of tab_from
  directions_are = go (answered_or_refused first second)
    where
      go : Answered first second ⊎ ((n : ℕ) × (g : ℕ) × (r : ℕ) × RefusedPair first second n g r)
          → (pair_of first second).directions ≡ directions_of (three_rows (pair_of first second).cells)
      go (inl a) =
          rw (fields_are first second a)
          (sym (ap directions_of (flat_rows (region_box first) (region_box second) (relation_of (region_box second) first) (relation_of (region_box first) second))))
      go (inr x) = rw ((refused_means first second x.0 x.1 x.2).1 x.3) refl

  pub directions_mean : (k : ℕ) → k < 9 → (bit (pair_of first second).directions k ≡ 1) ↔ Direction (three_rows (pair_of first second).cells) k
  directions_mean k h = rw directions_are (compass.directions_mean (three_rows (pair_of first second).cells) k h)

  pub directions_below : (pair_of first second).directions < 512
  unfolding directions_of
  directions_below = rw directions_are (set_lt (directed (three_rows (pair_of first second).cells)) 9)

  -- ---- the answer the other way
  pub turned : Answered first second → Answered second first
  turned a = record { first_kept = a.second_kept; second_kept = a.first_kept }

  pub directions_turned : Answered first second → (pair_of second first).directions ≡ opposite (pair_of first second).directions
  unfolding given
  directions_turned a =
      rw (fields_are first second a, fields_are second first (turned a))
      (compass.pair_opposite (region_box first) (region_box second) (relation_of (region_box second) first) (relation_of (region_box first) second))
