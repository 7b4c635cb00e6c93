-- SCOPE 7.2, 7.8: what is read from the lists of any sheet, also of one that others have written. A ring count of 0 means that the slot is empty.
--   rings_in records i      the ring count of slot i;  empty_in records i  the slot is empty
--   ends_in records i, coordinates_in xs records i  the ring ends and the coordinates that slot i uses;  region_in  the region they are
--   in_slot xs records i     what stands in slot i;  parcel_at s i  the same, of a sheet
--   cell_in relations p q   the cell of the primary slot p and the reference slot q
--   row_in relations p       the row of slot p;  row_place p  the place of the list at which it begins
use Rattle.std.specs.Prelude.{Bool, List, ℕ, ◌+◌, ◌*◌, eqb, ℤ, get_or, take, drop}
use Rattle.plane.specs.Choice.{pick}
use Rattle.region.specs.Region.{Region, region_of, Parcel, nothing, outline, last_end}
use Rattle.layout.specs.Sheet.{Sheet, slots, room, record_length}

unfoldable pub rings_in : List ℕ → ℕ → ℕ
rings_in records i = get_or records (record_length * i) 0

abbrev pub empty_in : List ℕ → ℕ → Bool
empty_in records i = eqb (rings_in records i) 0

unfoldable pub ends_in : List ℕ → ℕ → List ℕ
ends_in records i = take (rings_in records i) (drop (record_length * i + 1) records)

unfoldable pub coordinates_in : List ℤ → List ℕ → ℕ → List ℤ
coordinates_in xs records i = take (2 * last_end (ends_in records i)) (drop (room * i) xs)

abbrev pub region_in : List ℤ → List ℕ → ℕ → Region
region_in xs records i = region_of (coordinates_in xs records i) (ends_in records i)

unfoldable pub in_slot : List ℤ → List ℕ → ℕ → Parcel
in_slot xs records i = pick (empty_in records i) nothing (outline (region_in xs records i))

abbrev pub parcel_at : Sheet → ℕ → Parcel
parcel_at s i = in_slot s.coordinates s.records i

unfoldable pub cell_in : List ℕ → (p q : ℕ) → ℕ
cell_in relations p q = get_or relations (slots * p + q) 0

unfoldable pub row_place : ℕ → ℕ
row_place p = slots * p

unfoldable pub row_in : List ℕ → ℕ → List ℕ
row_in relations p = take slots (drop (row_place p) relations)
