-- What is read of a card lies in it.
--   length_ends                    how many ring ends parcel k has
--   ends_read, numbers_read        its ends and coordinates, as they were read to the front of a list
--   low_word, low_last             a number of two bytes is small, and so is a last end
--   entry_there       every parcel entry is there, where rule 14 is kept
--   entry_few         each parcel has a ring and not too many, where rule 15 is kept too;  rings_there  and its ring entries are there
--   vertices_there    its vertices are there and not too many, where rules 2, 3 and 16 are
--   parcel_keeps      and it keeps rules 1 to 3
use mathlib.Core.Path.{◌≡◌, sym, ◌∙◌, ap₂}
use mathlib.Core.List.{List, ◌++◌}
use Prim.Native.Nat.{ℕ, zero, suc, ◌+◌, ◌-◌, ◌*◌, ◌≤◌, ◌<◌}
use native.Mathlib.Omega.{arith}
use native.Mathlib.Decide.{dec_lt, ℕ_discrete}
use lib.IntN.{ℤ}
use lib.ListN.{length, get_or, take, drop, get_or-eq_default}
use lib.Seq.{take_at}
use mir.Syntax.{w8}
use mir.Val.{Fits}
use mathlib.Core.Bool.{false}
use Rattle.plane.specs.Folds.{sum_to}
use Rattle.plane.specs.Lists.{tab}
use Rattle.plane.proofs.Lists.{length_tab, get_d_tab}
use Rattle.region.specs.Region.{most_rings, most_vertices, last_end}
use Rattle.region.specs.Rules.{Keeps}
use Rattle.region.proofs.Ends.{start_lt}
use Rattle.region.proofs.Keeps.{sized_keeps}
use Rattle.endian.specs.Bytes.{u16_at}
use Rattle.card.specs.Layout.{most_card_parcels, most_card_rings, most_card_vertices, parcels_at, rings_at, vertices_at}
use Rattle.card.specs.Reading.{parcel_count, ring_count, count_at, first_ring, first_vertex, ends_at, numbers_at, region_at}
use Rattle.card.specs.CardNumber.{wrong_header}
use Rattle.card.specs.Right.{RightParcels, RightVertices}
use Rattle.card.proofs.Tests.{header_means, entry_means, parcels_mean, vertices_mean, sizes_mean}

pub length_ends : (b : List ℕ) (k : ℕ) → length (ends_at b k) ≡ count_at b k
unfolding ends_at
length_ends b k = length_tab _ (count_at b k)

length_numbers : (b : List ℕ) (k : ℕ) → length (numbers_at b k) ≡ 2 * last_end (ends_at b k)
unfolding numbers_at
length_numbers b k = length_tab _ (2 * last_end (ends_at b k))

-- the lists that were read, as the part of their places is lent
pub front : {A : Type 0} (n : ℕ) (stored l₀ : List A) {l : List A} → l ≡ stored ++ drop n l₀ → length stored ≡ n → take (n - 0) (drop 0 l) ≡ stored
front n stored l₀ e h = let z : n - 0 ≡ n = omega arith in ap₂ take z e ∙ take_at stored (drop n l₀) n h

module _ (b : List ℕ) (k : ℕ) where
  pub ends_read : {n : ℕ} {l : List ℕ} (l₀ : List ℕ) → n ≡ count_at b k → l ≡ ends_at b k ++ drop n l₀ → take (n - 0) (drop 0 l) ≡ ends_at b k
  ends_read {n} l₀ e f = front n (ends_at b k) l₀ f (length_ends b k ∙ sym e)

  pub numbers_read : {n : ℕ} {l : List ℤ} (l₀ : List ℤ) → n ≡ 2 * last_end (ends_at b k) → l ≡ numbers_at b k ++ drop n l₀ → take (n - 0) (drop 0 l) ≡ numbers_at b k
  numbers_read {n} l₀ e f = front n (numbers_at b k) l₀ f (length_numbers b k ∙ sym e)

-- numbers of two bytes
module _ (b : List ℕ) (known : (j : ℕ) → Fits w8 (get_or b j 0)) where
  pub low_word : (i : ℕ) → u16_at b i < 65536
  low_word i = omega (arith, known i, known (i + 1))

  pub low_last : (k : ℕ) → last_end (ends_at b k) < 65536
  unfolding ends_at
  low_last k = start_lt (ends_at b k) 65536 (omega arith) each (length (ends_at b k))
    where
      word : ℕ → ℕ
      word i = u16_at b (rings_at (parcel_count b) + 2 * (first_ring b k + i))

      each : (i : ℕ) → get_or (tab word (count_at b k)) i 0 < 65536
      each i =
          elim (dec_lt i (count_at b k)) [
            | yes l ↦ rw (get_d_tab word 0 (count_at b k) i l) (low_word (rings_at (parcel_count b) + 2 * (first_ring b k + i)))
            | no l ↦ rw (get_or-eq_default (tab word (count_at b k)) 0 {n = i} (omega (arith, length_tab word (count_at b k)))) (omega arith)
          ]

-- the part of a sum up to and with k
sum_part : (f : ℕ → ℕ) (n k : ℕ) → k < n → sum_to f k + f k ≤ sum_to f n
unfolding sum_to
sum_part f zero k l = absurd (omega arith)
sum_part f (suc n) k l =
    elim (ℕ_discrete k n) [ yes e ↦ rw e (omega arith) | no e ↦ omega (arith, sum_part f n k (omega arith)) ]

-- where the ring entries and the vertices of parcel k stand
pub record RingPart (b : List ℕ) (k : ℕ) : Type 0 where
  pub few : count_at b k ≤ most_rings
  pub low : first_ring b k ≤ most_card_rings
  pub start : rings_at (parcel_count b) ≤ rings_at most_card_parcels
  pub inside : rings_at (parcel_count b) + 2 * (first_ring b k + count_at b k) ≤ length b

pub record VertexPart (b : List ℕ) (k : ℕ) : Type 0 where
  pub few : last_end (ends_at b k) ≤ most_vertices
  pub low : first_vertex b k ≤ most_card_vertices
  pub start : vertices_at (parcel_count b) (ring_count b) ≤ vertices_at most_card_parcels most_card_rings
  pub inside : vertices_at (parcel_count b) (ring_count b) + 8 * (first_vertex b k + last_end (ends_at b k)) ≤ length b

pub entry_there : (b : List ℕ) → wrong_header b ≡ false → (k : ℕ) → k < parcel_count b → parcels_at + 4 * k + 4 ≤ length b
entry_there b h k l = omega (arith, (header_means b h).total)

module _ (b : List ℕ) (right : RightParcels b) (k : ℕ) (l : k < parcel_count b) where
  pub entry_few : (1 ≤ count_at b k) × (count_at b k ≤ most_rings)
  entry_few = let e = entry_means b k (((parcels_mean b).0 right.parcels).0 k l) in (omega (arith, e.some), e.few)

  pub rings_there : RingPart b k
  unfolding first_ring
  rings_there =
      let h = header_means b right.header in
      let all = ((parcels_mean b).0 right.parcels).1 in
      let s = sum_part (count_at b) (parcel_count b) k l in
      record {
        few = entry_few.1;
        low = omega (arith, s, all, h.few_rings);
        start = omega (arith, h.few_parcels);
        inside = omega (arith, s, all, h.total);
      }

module _ (b : List ℕ) (right : RightVertices b) (k : ℕ) (l : k < parcel_count b) where
  pub vertices_there : VertexPart b k
  unfolding first_vertex
  vertices_there =
      let h = header_means b right.parcels.header in
      let all = (vertices_mean b).0 right.vertices in
      let s = sum_part (λ i. last_end (ends_at b i)) (parcel_count b) k l in
      record {
        few = ((sizes_mean b k).0 (right.sizes k l)).1;
        low = omega (arith, s, all, h.few_vertices);
        start = omega (arith, h.few_parcels, h.few_rings);
        inside = omega (arith, s, all, h.total);
      }

  pub parcel_keeps : Keeps 3 (region_at b k)
  parcel_keeps =
      let few = entry_few b right.parcels k l in
      let sizes = (sizes_mean b k).0 (right.sizes k l) in
      sized_keeps (record {
        some = omega (arith, length_ends b k, few.0);
        few = omega (arith, length_ends b k, few.1);
        grown = sizes.0;
        small = sizes.1;
        listed = length_numbers b k;
      })
