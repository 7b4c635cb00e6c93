-- SCOPE 8.1 to 8.5: which bytes are a good card. Each field of GoodCard is one sentence of these rules.
--   GoodCard b     the bytes b keep the layout and numbers 14, 15 and 16, and every parcel of them keeps rules 1 to 7
--   CardsOwn n     n is one of the numbers that refuse a card by itself: 2 to 7, 14, 15 or 16
use Rattle.std.specs.Prelude.{◌≡◌, ◌⊎◌, List, ℕ, ◌+◌, ◌≤◌, ◌<◌, length}
use Rattle.plane.specs.Folds.{sum_to}
use Rattle.region.specs.Region.{most_rings, last_end}
use Rattle.region.specs.Rules.{KeepsRules}
use Rattle.endian.specs.Bytes.{u16_at}
use Rattle.card.specs.Layout.{most_card_parcels, most_card_rings, most_card_vertices, last_card_slot, parcels_at, rings_at, vertices_at, length_of}
use Rattle.card.specs.Reading.{parcel_count, ring_count, vertex_count, slot_at, count_at, ends_at, region_at}

pub record GoodCard (b : List ℕ) : Type 0 where
  pub few_parcels : parcel_count b ≤ most_card_parcels
  pub few_rings : ring_count b ≤ most_card_rings
  pub few_vertices : vertex_count b ≤ most_card_vertices
  pub parcels_offset : u16_at b 6 ≡ parcels_at
  pub rings_offset : u16_at b 8 ≡ rings_at (parcel_count b)
  pub vertices_offset : u16_at b 10 ≡ vertices_at (parcel_count b) (ring_count b)
  pub whole_length : length b ≡ length_of (parcel_count b) (ring_count b) (vertex_count b)
  pub slots_rise : (k : ℕ) → k + 1 < parcel_count b → slot_at b k < slot_at b (k + 1)
  pub slots_low : (k : ℕ) → k < parcel_count b → slot_at b k ≤ last_card_slot
  pub some_rings : (k : ℕ) → k < parcel_count b → 1 ≤ count_at b k
  pub few_of_each : (k : ℕ) → k < parcel_count b → count_at b k ≤ most_rings
  pub rings_add : sum_to (count_at b) (parcel_count b) ≡ ring_count b
  pub vertices_add : sum_to (λ k. last_end (ends_at b k)) (parcel_count b) ≡ vertex_count b
  pub parcels_keep : (k : ℕ) → k < parcel_count b → KeepsRules (region_at b k)

abbrev pub CardsOwn : ℕ → Type 0
CardsOwn n = ((2 ≤ n) × (n ≤ 7)) ⊎ ((14 ≤ n) × (n ≤ 16))
