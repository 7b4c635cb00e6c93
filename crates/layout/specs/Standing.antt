-- SCOPE 2.4: what stands in the slots, a function from slot numbers to parcels. What may stand on a sheet, and how much of it there is.
--   occupied p              a parcel is there
--   end_list p, coordinate_list p  its ring ends and its coordinates: none where nothing is there
--   instead st i p          what stands once p has come into slot i, in place of what stood there
--   ParcelKeeps n p         p keeps rules 1 to n: nothing does, and an outline where its region does
--   StandTogether n st      the parcels st may stand on one sheet, and each keeps rules 1 to n
--   parcels_below st i, rings_below st i, vertices_below st i  how many parcels, rings and vertices stand in the slots below i
use Rattle.std.specs.Prelude.{Bool, true, false, List, [], ℕ, ◌<◌, eqb, ℤ, length}
use Rattle.plane.specs.Choice.{pick}
use Rattle.plane.specs.Folds.{sum_to}
use Rattle.plane.specs.TileSet.{one_if}
use Rattle.region.specs.Region.{Parcel, nothing, outline, last_end}
use Rattle.region.specs.Rules.{Keeps}
use Rattle.layout.specs.Sheet.{slots}

abbrev pub occupied : Parcel → Bool
occupied nothing = false
occupied (outline R) = true

abbrev pub end_list : Parcel → List ℕ
end_list nothing = []
end_list (outline R) = R.ends

abbrev pub coordinate_list : Parcel → List ℤ
coordinate_list nothing = []
coordinate_list (outline R) = R.coordinates

abbrev pub instead : (ℕ → Parcel) → ℕ → Parcel → ℕ → Parcel
instead st i p k = pick (eqb k i) p (st k)

abbrev pub ParcelKeeps : ℕ → Parcel → Type 0
ParcelKeeps n nothing = Unit {0}
ParcelKeeps n (outline R) = Keeps n R

pub record StandTogether (n : ℕ) (st : ℕ → Parcel) : Type 0 where
  pub each : (i : ℕ) → i < slots → ParcelKeeps n (st i)

unfoldable pub parcels_below : (ℕ → Parcel) → ℕ → ℕ
parcels_below st i = sum_to (λ k. one_if (occupied (st k))) i

unfoldable pub rings_below : (ℕ → Parcel) → ℕ → ℕ
rings_below st i = sum_to (λ k. length (end_list (st k))) i

unfoldable pub vertices_below : (ℕ → Parcel) → ℕ → ℕ
vertices_below st i = sum_to (λ k. last_end (end_list (st k))) i
