-- SCOPE 8.1, 8.2: the numbers of a card, by its layout, for any bytes: a byte that is not there reads as 0.
--   parcel_count, ring_count, vertex_count  the header's counts
--   slot_at b k, count_at b k               the slot and the ring count of parcel entry k
--   first_ring b k, first_vertex b k        how many rings and how many vertices the parcels before k have
--   ends_at b k, numbers_at b k              the ring ends and the coordinates of parcel k;  region_at b k  the region that they are
--   entry_of b i                             the first entry that names slot i, or the number of entries
--   parcel_in b i                           what the card puts into slot i
use Rattle.std.specs.Prelude.{List, ℕ, ◌+◌, ◌*◌, ltb, eqb, ℤ}
use Rattle.plane.specs.Choice.{pick}
use Rattle.plane.specs.Folds.{sum_to, first_of}
use Rattle.plane.specs.Lists.{tab}
use Rattle.region.specs.Region.{Region, region_of, Parcel, nothing, outline, last_end}
use Rattle.endian.specs.Bytes.{u16_at, i32_at}
use Rattle.card.specs.Layout.{parcels_at, rings_at, vertices_at}

abbrev pub parcel_count : List ℕ → ℕ
parcel_count b = u16_at b 0

abbrev pub ring_count : List ℕ → ℕ
ring_count b = u16_at b 2

abbrev pub vertex_count : List ℕ → ℕ
vertex_count b = u16_at b 4

abbrev pub slot_at : List ℕ → ℕ → ℕ
slot_at b k = u16_at b (parcels_at + 4 * k)

abbrev pub count_at : List ℕ → ℕ → ℕ
count_at b k = u16_at b (parcels_at + 4 * k + 2)

unfoldable pub first_ring : List ℕ → ℕ → ℕ
first_ring b k = sum_to (count_at b) k

unfoldable pub ends_at : List ℕ → ℕ → List ℕ
ends_at b k = tab (λ i. u16_at b (rings_at (parcel_count b) + 2 * (first_ring b k + i))) (count_at b k)

unfoldable pub first_vertex : List ℕ → ℕ → ℕ
first_vertex b k = sum_to (λ i. last_end (ends_at b i)) k

unfoldable pub numbers_at : List ℕ → ℕ → List ℤ
numbers_at b k = tab (λ i. i32_at b (vertices_at (parcel_count b) (ring_count b) + 8 * first_vertex b k + 4 * i)) (2 * last_end (ends_at b k))

abbrev pub region_at : List ℕ → ℕ → Region
region_at b k = region_of (numbers_at b k) (ends_at b k)

unfoldable pub entry_of : List ℕ → ℕ → ℕ
entry_of b i = first_of (λ k. eqb (slot_at b k) i) (parcel_count b)

unfoldable pub parcel_in : List ℕ → ℕ → Parcel
parcel_in b i = pick (ltb (entry_of b i) (parcel_count b)) (outline (region_at b (entry_of b i))) nothing
