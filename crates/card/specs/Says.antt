-- SCOPE 8.3 to 8.5: what each number that refuses a card by itself says, in the order in which they are looked for. That a card has number n exactly
-- when its case n holds: proofs/Says, `card_says`.
--   Header b           number 14 does not refuse the card b
--   Entry b k          nor does 15 by its entry k;  Entries b  by none, and the ring counts add up
--   Sizes b k          parcel k keeps rule 2, and rule 3 by its last end
--   VerticesAdd b      number 16 does not refuse the card
--   CardSays b n       the card is good, and n is 0; or n is the first number that refuses it: of the first parcel that one does, the lowest
use Rattle.std.specs.Prelude.{◌≡◌, ◌≢◌, List, ℕ, ◌-◌, ◌≤◌, ◌<◌, length}
use Rattle.plane.specs.Folds.{sum_to}
use Rattle.region.specs.declared.refusals.Refusal.TheVariants.{RingLength, ListSize, CardHeader, CardParcels, CardVertices}
use Rattle.region.specs.Refusals.{number}
use Rattle.region.specs.Region.{most_rings, most_vertices, last_end}
use Rattle.region.specs.Rules.{Breaks, KeepsRules, RefusedWith}
use Rattle.endian.specs.Bytes.{u16_at}
use Rattle.card.specs.Layout.{most_card_parcels, most_card_rings, most_card_vertices, last_card_slot, parcels_at, rings_at, vertices_at, length_of}
use Rattle.card.specs.Reading.{parcel_count, ring_count, vertex_count, slot_at, count_at, ends_at, region_at}
use Rattle.card.specs.Good.{GoodCard}

pub record Header (b : List ℕ) : Type 0 where
  pub few_parcels : parcel_count b ≤ most_card_parcels
  pub few_rings : ring_count b ≤ most_card_rings
  pub few_vertices : vertex_count b ≤ most_card_vertices
  pub first : u16_at b 6 ≡ parcels_at
  pub second : u16_at b 8 ≡ rings_at (parcel_count b)
  pub third : u16_at b 10 ≡ vertices_at (parcel_count b) (ring_count b)
  pub total : length b ≡ length_of (parcel_count b) (ring_count b) (vertex_count b)

pub record Entry (b : List ℕ) (k : ℕ) : Type 0 where
  pub rises : 0 < k → slot_at b (k - 1) < slot_at b k
  pub low : slot_at b k ≤ last_card_slot
  pub some : count_at b k ≢ 0
  pub few : count_at b k ≤ most_rings

pub record Entries (b : List ℕ) : Type 0 where
  pub each : (k : ℕ) → k < parcel_count b → Entry b k
  pub rings_add : sum_to (count_at b) (parcel_count b) ≡ ring_count b

pub record Sizes (b : List ℕ) (k : ℕ) : Type 0 where
  pub none_short : (r : ℕ) → Breaks (region_at b k) 2 r → ⊥
  pub low_end : last_end (ends_at b k) ≤ most_vertices

abbrev pub VerticesAdd : List ℕ → Type 0
VerticesAdd b = sum_to (λ k. last_end (ends_at b k)) (parcel_count b) ≡ vertex_count b

pub data CardSays (b : List ℕ) : ℕ → Type 0 where
  says_good : GoodCard b → CardSays b 0
  says_header : (Header b → ⊥) → CardSays b (number CardHeader)
  says_entries : Header b → (Entries b → ⊥) → CardSays b (number CardParcels)
  says_short : Header b → Entries b → (k : ℕ) → k < parcel_count b → ((j : ℕ) → j < k → Sizes b j) → (r : ℕ) → Breaks (region_at b k) 2 r
      → CardSays b (number RingLength)
  says_long : Header b → Entries b → (k : ℕ) → k < parcel_count b → ((j : ℕ) → j < k → Sizes b j) → ((r : ℕ) → Breaks (region_at b k) 2 r → ⊥)
      → most_vertices < last_end (ends_at b k) → CardSays b (number ListSize)
  says_vertices : Header b → Entries b → ((k : ℕ) → k < parcel_count b → Sizes b k) → (VerticesAdd b → ⊥) → CardSays b (number CardVertices)
  says_shape : Header b → Entries b → ((k : ℕ) → k < parcel_count b → Sizes b k) → VerticesAdd b → (k : ℕ) → k < parcel_count b
      → ((j : ℕ) → j < k → KeepsRules (region_at b j)) → (n r : ℕ) → RefusedWith (region_at b k) n r → CardSays b n
