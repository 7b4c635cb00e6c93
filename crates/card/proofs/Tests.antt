-- The tests of a card's own rules and what they say, where a rule is kept: its test finds nothing.
--   header_means, header_right     rule 14, from its test and back;  header_wrong  the test finds something where it is broken;
--                      header_last  where only the length is left to test, it decides
--   entry_means, entry_right_lem, entry_wrong, entry_last  rule 15 of one entry;  slot_rises  the test of its slot
--   parcels_mean, parcels_wrong, parcels_last       rule 15 of the card;  vertices_mean  rule 16
--   sizes_mean         rules 2 and 3 of one parcel
use mathlib.Core.Path.{◌≡◌, refl, sym, ap}
use mathlib.Core.Logic.{◌↔◌, ◌≢◌}
use mathlib.Core.Bool.{Bool, true, false, not, ◌&&◌, ◌||◌}
use mathlib.Core.List.{List}
use Prim.Native.Nat.{ℕ, zero, suc, ◌+◌, ◌-◌, ◌≤◌, ◌<◌}
use native.Mathlib.Omega.{arith}
use lib.Dec.{leb, ltb, eqb}
use lib.ListN.{length, get_or}
use borrow.Author.Tests.{lt-ltb, le-ltb, eq-eqb, ne_eqb, lt-leb, ltb-false, leb-false, eqb-true, eqb-false, not-false}
use Rattle.plane.specs.Folds.{any_to, sum_to}
use Rattle.plane.proofs.Logic.{never, clash, is_false, iff_join, iff_and}
use Rattle.plane.proofs.Folds.{any_means, any_none}
use Rattle.region.specs.declared.refusals.Refusal.TheVariants.{RingLength, ListSize}
use Rattle.region.specs.Refusals.{number_if}
use Rattle.region.specs.Region.{most_rings, most_vertices, start_of, last_end}
use Rattle.region.specs.Check.{short_at}
use Rattle.region.proofs.OrElse.{or_else_none, number_if_none}
use Rattle.region.proofs.Ends.{Grown}
use Rattle.endian.specs.Bytes.{u16_at}
use Rattle.card.specs.Layout.{most_card_parcels, most_card_rings, most_card_vertices, last_card_slot, parcels_at, rings_at, vertices_at, length_of}
use Rattle.card.specs.Reading.{parcel_count, ring_count, vertex_count, slot_at, count_at, ends_at}
use Rattle.card.specs.CardNumber.{wrong_header, wrong_entry, wrong_parcels, wrong_vertices, sizes_number}
use Rattle.card.specs.Says.{Header, Entry}

-- ---- tests that find nothing
or_none : (x y : Bool) → (x || y ≡ false) ↔ ((x ≡ false) × (y ≡ false))
or_none true y = (λ h. never (sym h), λ p. never (sym p.0))
or_none false y = (λ h. (refl, h), λ p. p.1)

lt_none : (a b : ℕ) → (ltb a b ≡ false) ↔ (b ≤ a)
lt_none a b = (ltb-false a b, le-ltb a b)

eq_none : (a b : ℕ) → (eqb a b ≡ false) ↔ (a ≢ b)
eq_none a b = (eqb-false a b, ne_eqb a b)

other_none : (a b : ℕ) → (not (eqb a b) ≡ false) ↔ (a ≡ b)
other_none a b = (λ h. eqb-true a b (not-false (eqb a b) h), λ e. ap not (eq-eqb a b e))

some_none : (f : ℕ → Bool) (n : ℕ) → (any_to f n ≡ false) ↔ ((k : ℕ) → k < n → f k ≡ false)
some_none f n = (λ h k l. is_false (f k) (λ e. clash (any_to f n) ((any_means f n).1 (k, l, e)) h), any_none f n)

-- a test that does not find nothing
finds : (t : Bool) → (t ≡ false → ⊥) → true ≡ t
finds true h = refl
finds false h = absurd (h refl)

-- two tests that find nothing together
together : (x y : Bool) → (x ≡ false) ↔ (y ≡ false) → x ≡ y
together true true e = refl
together true false e = e.1 refl
together false y e = sym (e.0 refl)

-- ---- rule 14
module _ (b : List ℕ) where
  header_tests : (wrong_header b ≡ false)
      ↔ ((parcels_at ≤ length b) × ((parcel_count b ≤ most_card_parcels) × ((ring_count b ≤ most_card_rings) × ((vertex_count b ≤ most_card_vertices)
      × ((u16_at b 6 ≡ parcels_at) × ((u16_at b 8 ≡ rings_at (parcel_count b)) × ((u16_at b 10 ≡ vertices_at (parcel_count b) (ring_count b))
      × (length b ≡ length_of (parcel_count b) (ring_count b) (vertex_count b)))))))))
  unfolding wrong_header
  header_tests =
      iff_join (or_none _ _) (iff_and (lt_none (length b) parcels_at)
      (iff_join (or_none _ _) (iff_and (lt_none most_card_parcels (parcel_count b))
      (iff_join (or_none _ _) (iff_and (lt_none most_card_rings (ring_count b))
      (iff_join (or_none _ _) (iff_and (lt_none most_card_vertices (vertex_count b))
      (iff_join (or_none _ _) (iff_and (other_none (u16_at b 6) parcels_at)
      (iff_join (or_none _ _) (iff_and (other_none (u16_at b 8) (rings_at (parcel_count b)))
      (iff_join (or_none _ _) (iff_and (other_none (u16_at b 10) (vertices_at (parcel_count b) (ring_count b)))
      (other_none (length b) (length_of (parcel_count b) (ring_count b) (vertex_count b))))))))))))))))

  pub header_means : wrong_header b ≡ false → Header b
  header_means h =
      let x = header_tests.0 h in
      record {
        few_parcels = x.1.0;
        few_rings = x.1.1.0;
        few_vertices = x.1.1.1.0;
        first = x.1.1.1.1.0;
        second = x.1.1.1.1.1.0;
        third = x.1.1.1.1.1.1.0;
        total = x.1.1.1.1.1.1.1;
      }

  pub header_right : Header b → wrong_header b ≡ false
  header_right h =
      header_tests.1 (omega (arith, h.total), (h.few_parcels, (h.few_rings, (h.few_vertices, (h.first, (h.second, (h.third, h.total)))))))

  pub header_wrong : (Header b → ⊥) → true ≡ wrong_header b
  header_wrong h = finds (wrong_header b) (λ e. h (header_means e))

  -- past every test but the last, which answers
  pub header_last : parcel_count b ≤ most_card_parcels → ring_count b ≤ most_card_rings → vertex_count b ≤ most_card_vertices → u16_at b 6 ≡ parcels_at
      → u16_at b 8 ≡ rings_at (parcel_count b) → u16_at b 10 ≡ vertices_at (parcel_count b) (ring_count b)
      → not (eqb (length b) (length_of (parcel_count b) (ring_count b) (vertex_count b))) ≡ wrong_header b
  header_last p r v x y z = together _ _ (
    λ h. header_right (record { few_parcels = p; few_rings = r; few_vertices = v; first = x; second = y; third = z; total = (other_none _ _).0 h }),
    λ h. (other_none _ _).1 (header_means h).total,
  )

-- ---- rule 15
module _ (b : List ℕ) (k : ℕ) where
  pub slot_rises : (ltb 0 k && leb (slot_at b k) (slot_at b (k - 1)) ≡ false) ↔ (0 < k → slot_at b (k - 1) < slot_at b k)
  slot_rises = (λ h l. leb-false (slot_at b k) (slot_at b (k - 1)) (rw (lt-ltb 0 k l) at h), back k)
    where
      back : (k : ℕ) → (0 < k → slot_at b (k - 1) < slot_at b k) → ltb 0 k && leb (slot_at b k) (slot_at b (k - 1)) ≡ false
      back zero h = refl
      back (suc k) h = rw (lt-ltb 0 (suc k) (omega arith), lt-leb (slot_at b (suc k)) (slot_at b (suc k - 1)) (h (omega arith))) refl

  entry_tests : (wrong_entry b k ≡ false) ↔ ((0 < k → slot_at b (k - 1) < slot_at b k) × ((slot_at b k ≤ last_card_slot) × ((count_at b k ≢ 0) × (count_at b k ≤ most_rings))))
  unfolding wrong_entry
  entry_tests =
      iff_join (or_none _ _) (iff_and slot_rises
      (iff_join (or_none _ _) (iff_and (lt_none last_card_slot (slot_at b k))
      (iff_join (or_none _ _) (iff_and (eq_none (count_at b k) 0) (lt_none most_rings (count_at b k)))))))

  pub entry_means : wrong_entry b k ≡ false → Entry b k
  entry_means h = let x = entry_tests.0 h in record { rises = x.0; low = x.1.0; some = x.1.1.0; few = x.1.1.1 }

  pub entry_right_lem : Entry b k → wrong_entry b k ≡ false
  entry_right_lem e = entry_tests.1 (e.rises, (e.low, (e.some, e.few)))

  -- past every test but the last, which answers
  pub entry_last : (0 < k → slot_at b (k - 1) < slot_at b k) → slot_at b k ≤ last_card_slot → count_at b k ≢ 0 → ltb most_rings (count_at b k) ≡ wrong_entry b k
  entry_last r l s = together _ _ (λ h. entry_right_lem (record { rises = r; low = l; some = s; few = ltb-false _ _ h }), λ h. le-ltb _ _ (entry_means h).few)

  pub entry_wrong : (Entry b k → ⊥) → true ≡ wrong_entry b k
  entry_wrong h = finds (wrong_entry b k) (λ e. h (entry_means e))

module _ (b : List ℕ) where
  pub parcels_mean : (wrong_parcels b ≡ false) ↔ (((k : ℕ) → k < parcel_count b → wrong_entry b k ≡ false) × (sum_to (count_at b) (parcel_count b) ≡ ring_count b))
  unfolding wrong_parcels
  parcels_mean = iff_join (or_none _ _) (iff_and (some_none (wrong_entry b) (parcel_count b)) (other_none (sum_to (count_at b) (parcel_count b)) (ring_count b)))

  pub parcels_wrong : (k : ℕ) → k < parcel_count b → wrong_entry b k ≡ true → true ≡ wrong_parcels b
  parcels_wrong k l e = finds (wrong_parcels b) (λ h. clash (wrong_entry b k) e ((parcels_mean.0 h).0 k l))

  -- past every entry, the rings decide
  pub parcels_last : ((k : ℕ) → k < parcel_count b → wrong_entry b k ≡ false) → not (eqb (sum_to (count_at b) (parcel_count b)) (ring_count b)) ≡ wrong_parcels b
  parcels_last each = together _ _ (λ h. parcels_mean.1 (each, (other_none _ _).0 h), λ h. (other_none _ _).1 (parcels_mean.0 h).1)

  -- ---- rule 16
  pub vertices_mean : (wrong_vertices b ≡ false) ↔ (sum_to (λ k. last_end (ends_at b k)) (parcel_count b) ≡ vertex_count b)
  unfolding wrong_vertices
  vertices_mean = other_none (sum_to (λ k. last_end (ends_at b k)) (parcel_count b)) (vertex_count b)

-- ---- rules 2 and 3
module _ (b : List ℕ) (k : ℕ) where
  abbrev short : Bool
  short = any_to (short_at (ends_at b k)) (length (ends_at b k))

  abbrev long : Bool
  long = ltb most_vertices (last_end (ends_at b k))

  pub sizes_mean : (sizes_number b k ≡ 0) ↔ (Grown (ends_at b k) × (last_end (ends_at b k) ≤ most_vertices))
  unfolding sizes_number short_at
  sizes_mean =
      iff_join (or_else_none (number_if short RingLength) (number_if long ListSize))
      (iff_and (iff_join (number_if_none short RingLength) (iff_join (some_none (short_at (ends_at b k)) (length (ends_at b k))) each))
      (iff_join (number_if_none long ListSize) (lt_none most_vertices (last_end (ends_at b k)))))
    where
      each : ((r : ℕ) → r < length (ends_at b k) → ltb (get_or (ends_at b k) r 0) (start_of (ends_at b k) r + 3) ≡ false) ↔ Grown (ends_at b k)
      each = (λ h r l. ltb-false _ _ (h r l), λ h r l. le-ltb _ _ (h r l))
