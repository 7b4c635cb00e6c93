-- SCOPE 8.3 to 8.5: the numbers that refuse a card by itself. 14 comes first, then 15; then, parcel after parcel, the lower of rules 2 and 3;
-- then 16; then, parcel after parcel, the lowest of rules 4 to 7.
--   wrong_header b       rule 14
--   wrong_entry b k      entry k breaks rule 15;  wrong_parcels b  some entry does, or the entries' rings are not the header's
--   sizes_number b k     the lowest number of rules 2 and 3 (last end) that parcel k breaks, or 0;  shape_number b k  of rules 4 to 7
--   wrong_vertices b     rule 16
--   card_number b        the card's own refusal, or 0: the card is good. Its meaning: proofs/Good, `good_means`
use Rattle.std.specs.Prelude.{Bool, not, ◌&&◌, ◌||◌, List, ℕ, ◌-◌, leb, ltb, eqb, length}
use Rattle.plane.specs.Folds.{any_to, sum_to}
use Rattle.region.specs.declared.refusals.Refusal.TheVariants.{RingLength, ListSize, CardHeader, CardParcels, CardVertices}
use Rattle.region.specs.Refusals.{number_if, or_else, first_number}
use Rattle.region.specs.Region.{most_rings, most_vertices, last_end}
use Rattle.region.specs.Check.{short_at, shape_of, number_of}
use Rattle.endian.specs.Bytes.{u16_at}
use Rattle.card.specs.Layout.{most_card_parcels, most_card_rings, most_card_vertices, last_card_slot, parcels_at, rings_at, vertices_at, length_of}
use Rattle.card.specs.Reading.{parcel_count, ring_count, vertex_count, slot_at, count_at, ends_at, region_at}

unfoldable pub wrong_header : List ℕ → Bool
wrong_header b =
    ltb (length b) parcels_at || (ltb most_card_parcels (parcel_count b) || (ltb most_card_rings (ring_count b) || (ltb most_card_vertices (vertex_count b)
    || (not (eqb (u16_at b 6) parcels_at) || (not (eqb (u16_at b 8) (rings_at (parcel_count b))) || (not (eqb (u16_at b 10) (vertices_at (parcel_count b) (ring_count b)))
    || not (eqb (length b) (length_of (parcel_count b) (ring_count b) (vertex_count b)))))))))

unfoldable pub wrong_entry : List ℕ → ℕ → Bool
wrong_entry b k =
    (ltb 0 k && leb (slot_at b k) (slot_at b (k - 1))) || (ltb last_card_slot (slot_at b k) || (eqb (count_at b k) 0 || ltb most_rings (count_at b k)))

unfoldable pub wrong_parcels : List ℕ → Bool
wrong_parcels b = any_to (wrong_entry b) (parcel_count b) || not (eqb (sum_to (count_at b) (parcel_count b)) (ring_count b))

unfoldable pub sizes_number : List ℕ → ℕ → ℕ
sizes_number b k =
    or_else (number_if (any_to (short_at (ends_at b k)) (length (ends_at b k))) RingLength) (number_if (ltb most_vertices (last_end (ends_at b k))) ListSize)

unfoldable pub wrong_vertices : List ℕ → Bool
wrong_vertices b = not (eqb (sum_to (λ k. last_end (ends_at b k)) (parcel_count b)) (vertex_count b))

unfoldable pub shape_number : List ℕ → ℕ → ℕ
shape_number b k = number_of (shape_of (region_at b k))

unfoldable pub card_number : List ℕ → ℕ
card_number b =
    or_else (number_if (wrong_header b) CardHeader)
    (or_else (number_if (wrong_parcels b) CardParcels)
    (or_else (first_number (sizes_number b) (parcel_count b))
    (or_else (number_if (wrong_vertices b) CardVertices) (first_number (shape_number b) (parcel_count b)))))
