-- SCOPE 7.3, 7.7: what an office counts in a row that is handed out: the cells that are not 0, one for each other parcel. That it is so after any run:
-- proofs/Neighbours.
--   filled_cells row   how many cells of a row are not 0
--   others st i        how many of the parcels st stand in other slots than i
use Rattle.std.specs.Prelude.{not, ◌&&◌, List, ℕ, eqb, length, get_or}
use Rattle.plane.specs.Folds.{sum_to}
use Rattle.plane.specs.TileSet.{one_if}
use Rattle.region.specs.Region.{Parcel}
use Rattle.layout.specs.Sheet.{slots}
use Rattle.layout.specs.Standing.{occupied}

unfoldable pub filled_cells : List ℕ → ℕ
filled_cells row = sum_to (λ k. one_if (not (eqb (get_or row k 0) 0))) (length row)

unfoldable pub others : (ℕ → Parcel) → ℕ → ℕ
others st i = sum_to (λ k. one_if (occupied (st k) && not (eqb k i))) slots
