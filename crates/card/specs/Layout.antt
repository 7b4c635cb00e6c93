-- SCOPE 8.1, 8.2: where everything stands on a card. Six numbers are the header: how many parcels, rings and vertices there are, and where the
-- three parts begin. A parcel has four bytes in the first part, a ring end two in the second, a vertex eight in the third, and the card ends
-- there. Reading and writing take their places from here.
--   most_card_parcels, most_card_rings, most_card_vertices  what a header may count
--   last_card_slot                             the highest slot that an entry may name: the card's own limit, refused by 15 and not by 8
--   parcels_at, rings_at, vertices_at          where the three parts begin
--   length_of                                   the card's length
use Rattle.std.specs.Prelude.{ℕ, ◌+◌, ◌*◌}

abbrev pub most_card_parcels : ℕ
most_card_parcels = 32

abbrev pub most_card_rings : ℕ
most_card_rings = 256

abbrev pub most_card_vertices : ℕ
most_card_vertices = 2048

abbrev pub last_card_slot : ℕ
last_card_slot = 31

abbrev pub parcels_at : ℕ
parcels_at = 12

abbrev pub rings_at : (parcels : ℕ) → ℕ
rings_at parcels = parcels_at + 4 * parcels

abbrev pub vertices_at : (parcels rings : ℕ) → ℕ
vertices_at parcels rings = rings_at parcels + 2 * rings

abbrev pub length_of : (parcels rings vertices : ℕ) → ℕ
length_of parcels rings vertices = vertices_at parcels rings + 8 * vertices
