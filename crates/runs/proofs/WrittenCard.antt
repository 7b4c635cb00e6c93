-- A written card: what its bytes read as, where what stands may stand together and keeps rules 1 to 7.
--   parts                       where its parts stand
--   parcels_read, rings_read, vertices_read     its header's counts
--   slot_read, count_read       the entry of a parcel;  ends_read, numbers_read  its ring ends and coordinates;  region_read  so its region
use mathlib.Core.Path.{◌≡◌, refl, sym, ◌∙◌, ap, subst}
use mathlib.Core.Bool.{true}
use mathlib.Core.List.{List, ◌++◌}
use Prim.Native.Nat.{ℕ, zero, suc, ◌+◌, ◌*◌, ◌/◌, ◌%◌, ◌≤◌, ◌<◌}
use native.Mathlib.Omega.{arith}
use native.Mathlib.Decide.{ℕ_discrete}
use native.Mathlib.Numerals.{add-one}
use lib.ListN.{length, get_or}
use lib.IntN.{pos}
use Rattle.plane.specs.Place.{in_range}
use Rattle.plane.specs.Folds.{sum_to}
use Rattle.plane.specs.TileSet.{one_if}
use Rattle.plane.proofs.Place.{mag_in}
use Rattle.plane.proofs.Lists.{tab_all}
use Rattle.region.specs.Region.{Region, region_of, Parcel, nothing, outline, last_end}
use Rattle.region.specs.Rules.{KeepsRules}
use Rattle.region.proofs.Keeps.{keeps_fewer, Sized, sized, end_small}
use Rattle.relation.proofs.Regions.{region_in_range}
use Rattle.layout.specs.Sheet.{slots}
use Rattle.layout.specs.Standing.{occupied, end_list, coordinate_list, StandTogether, parcels_below, rings_below, vertices_below}
use Rattle.layout.proofs.Standing.{stand_fewer, parcels_fit, rings_fit, vertices_fit}
use Rattle.endian.specs.Bytes.{u16_at, i32_at, u16_bytes, i32_bytes, joined}
use Rattle.endian.specs.Placed.{word_bytes, number_bytes}
use Rattle.endian.proofs.Joined.{length_joined, sum_const}
use Rattle.card.specs.Layout.{most_card_parcels, most_card_rings, most_card_vertices, parcels_at, rings_at, vertices_at}
use Rattle.card.specs.Reading.{parcel_count, ring_count, vertex_count, slot_at, count_at, first_ring, ends_at, first_vertex, numbers_at, region_at}
use Rattle.writing.specs.Write.{header_of, entry_bytes, entry_part, end_part, vertex_part, card_of}
use Rattle.writing.proofs.Lengths.{entries_length, ends_length, vertices_length}
use Rattle.endian.proofs.Held.{Held, held_whole, held_left, held_right, held_joined, u16_held, i32_held}

-- every coordinate of an accepted outline is in range
numbers_in : (R : Region) → KeepsRules R → (k : ℕ) → k < 2 * last_end R.ends → in_range (get_or R.coordinates k (pos 0)) ≡ true
numbers_in R kept k l =
    let p = (region_in_range (keeps_fewer (omega arith) kept)).at (k / 2) (omega arith) in
    elim (ℕ_discrete (k % 2) 0) [
      | yes z ↦ (let q : 2 * (0 + k / 2) ≡ k = omega arith in rw q at p.x)
      | no z ↦ (let q : 2 * (0 + k / 2) + 1 ≡ k = omega arith in rw q at p.y)
    ]

plus_none : (a : ℕ) → a + 0 ≡ a
plus_none a = omega arith

module _ (st : ℕ → Parcel) where
  abbrev pub B : List ℕ
  B = card_of st

  abbrev P : ℕ
  P = parcels_below st slots

  abbrev N : ℕ
  N = rings_below st slots

  -- ---- the parts, where they stand
  abbrev header : List ℕ
  header = header_of P N (vertices_below st slots)

  pub record Parts : Type 0 where
    pub word : (k : ℕ) → k < 6 → Held B (2 * k) (u16_bytes (get_or header k 0))
    pub entries : Held B parcels_at (entry_part st slots)
    pub ends : Held B (rings_at P) (end_part st slots)
    pub numbers : Held B (vertices_at P N) (vertex_part st slots)

  pub parts : Parts
  unfolding card_of joined
  parts =
      let rest = entry_part st slots ++ (end_part st slots ++ vertex_part st slots) in
      let h : Held B 0 (word_bytes header 6 ++ rest) = held_whole B in
      let h6 : Held B 12 rest = held_right B 0 (word_bytes header 6) rest h in
      let e : 12 + length (entry_part st slots) ≡ rings_at P = omega (arith, entries_length st slots) in
      let h7 : Held B (rings_at P) (end_part st slots ++ vertex_part st slots) = rw e at (held_right B 12 (entry_part st slots) (end_part st slots ++ vertex_part st slots) h6) in
      let n : rings_at P + length (end_part st slots) ≡ vertices_at P N = omega (arith, ends_length st slots) in
      record {
        word = λ k l. subst (λ (z : ℕ). Held B z (u16_bytes (get_or header k 0))) (sum_const 2 k) (plain k (held_joined B 0 (λ j. u16_bytes (get_or header j 0)) 6 k (held_left B 0 (word_bytes header 6) rest h) l));
        entries = held_left B 12 (entry_part st slots) (end_part st slots ++ vertex_part st slots) h6;
        ends = held_left B (rings_at P) (end_part st slots) (vertex_part st slots) h7;
        numbers = rw n at (held_right B (rings_at P) (end_part st slots) (vertex_part st slots) h7);
      }
    where
      plain : (k : ℕ) → Held B (0 + sum_to (λ j. 2) k) (u16_bytes (get_or header k 0)) → Held B (sum_to (λ j. 2) k) (u16_bytes (get_or header k 0))
      plain k h = let e : 0 + sum_to (λ j. 2) k ≡ sum_to (λ j. 2) k = omega arith in rw e at h

  -- ---- what is read, where what stands may stand
  module _ (stand : StandTogether 7 st) where
    four : StandTogether 4 st
    four = stand_fewer (omega arith) stand

    pub parcels_le : P ≤ most_card_parcels
    parcels_le = omega (arith, parcels_fit st four)

    pub rings_le : N ≤ most_card_rings
    rings_le = omega (arith, rings_fit st four)

    pub vertices_le : vertices_below st slots ≤ most_card_vertices
    vertices_le = omega (arith, vertices_fit st four)

    pub parcels_read : parcel_count B ≡ P
    parcels_read = u16_held B 0 P (omega (arith, parcels_le)) (parts.word 0 (omega arith))

    pub rings_read : ring_count B ≡ N
    rings_read = u16_held B 2 N (omega (arith, rings_le)) (parts.word 1 (omega arith))

    pub vertices_read : vertex_count B ≡ vertices_below st slots
    vertices_read = u16_held B 4 (vertices_below st slots) (omega (arith, vertices_le)) (parts.word 2 (omega arith))

    module _ (i : ℕ) (hi : i < slots) (R : Region) (e : st i ≡ outline R) where
      pub kept : KeepsRules R
      kept = rw e at (stand.each i hi)

      pub size : Sized R
      size = sized (keeps_fewer (omega arith) kept)

      -- where the parts of slot i begin
      entry_held : Held B (parcels_at + 4 * parcels_below st i) (u16_bytes i ++ u16_bytes (length R.ends))
      entry_held =
          let h = held_joined B parcels_at (λ k. entry_bytes k (occupied (st k)) (length (end_list (st k)))) slots i parts.entries hi in
          let at : parcels_at + sum_to (λ k. length (entry_bytes k (occupied (st k)) (length (end_list (st k))))) i ≡ parcels_at + 4 * parcels_below st i = omega (arith, length_joined (λ k. entry_bytes k (occupied (st k)) (length (end_list (st k)))) i, entries_length st i) in
          subst (Held B (parcels_at + 4 * parcels_below st i)) (ap (λ (p : Parcel). entry_bytes i (occupied p) (length (end_list p))) e) (rw at at h)

      ends_held : Held B (rings_at P + 2 * rings_below st i) (word_bytes R.ends (length R.ends))
      ends_held =
          let h = held_joined B (rings_at P) (λ k. word_bytes (end_list (st k)) (length (end_list (st k)))) slots i parts.ends hi in
          let at : rings_at P + sum_to (λ k. length (word_bytes (end_list (st k)) (length (end_list (st k))))) i ≡ rings_at P + 2 * rings_below st i = omega (arith, length_joined (λ k. word_bytes (end_list (st k)) (length (end_list (st k)))) i, ends_length st i) in
          subst (Held B (rings_at P + 2 * rings_below st i)) (ap (λ (p : Parcel). word_bytes (end_list p) (length (end_list p))) e) (rw at at h)

      numbers_held : Held B (vertices_at P N + 8 * vertices_below st i) (number_bytes R.coordinates (2 * last_end R.ends))
      numbers_held =
          let h = held_joined B (vertices_at P N) (λ k. number_bytes (coordinate_list (st k)) (2 * last_end (end_list (st k)))) slots i parts.numbers hi in
          let at : vertices_at P N + sum_to (λ k. length (number_bytes (coordinate_list (st k)) (2 * last_end (end_list (st k))))) i ≡ vertices_at P N + 8 * vertices_below st i = omega (arith, length_joined (λ k. number_bytes (coordinate_list (st k)) (2 * last_end (end_list (st k)))) i, vertices_length st i) in
          subst (Held B (vertices_at P N + 8 * vertices_below st i)) (ap (λ (p : Parcel). number_bytes (coordinate_list p) (2 * last_end (end_list p))) e) (rw at at h)

      pub slot_read : slot_at B (parcels_below st i) ≡ i
      slot_read = u16_held B (parcels_at + 4 * parcels_below st i) i (omega arith) (held_left B (parcels_at + 4 * parcels_below st i) (u16_bytes i) (u16_bytes (length R.ends)) entry_held)

      pub count_read : count_at B (parcels_below st i) ≡ length R.ends
      count_read =
          u16_held B (parcels_at + 4 * parcels_below st i + 2) (length R.ends) (omega (arith, size.few))
          (held_right B (parcels_at + 4 * parcels_below st i) (u16_bytes i) (u16_bytes (length R.ends)) entry_held)

    -- the rings and the vertices before slot i, as the card counts them
    pub rings_before : (i : ℕ) → i ≤ slots → first_ring B (parcels_below st i) ≡ rings_below st i
    unfolding first_ring sum_to parcels_below rings_below
    rings_before zero h = refl
    rings_before (suc i) h = go (st i) refl (rings_before i (omega arith))
      where
        go : (p : Parcel) → st i ≡ p → sum_to (count_at B) (parcels_below st i) ≡ rings_below st i → sum_to (count_at B) (parcels_below st i + one_if (occupied p)) ≡ rings_below st i + length (end_list p)
        go nothing e ih = rw (plus_none (parcels_below st i)) (ih ∙ sym (plus_none (rings_below st i)))
        go (outline R) e ih = rw (add-one (parcels_below st i)) (rw (ih, count_read i h R e) refl)

    module _ (i : ℕ) (hi : i < slots) (R : Region) (e : st i ≡ outline R) where
      end_read : (r : ℕ) → r < length R.ends → u16_at B (rings_at (parcel_count B) + 2 * (first_ring B (parcels_below st i) + r)) ≡ get_or R.ends r 0
      end_read r l =
          let h = held_joined B (rings_at P + 2 * rings_below st i) (λ k. u16_bytes (get_or R.ends k 0)) (length R.ends) r (ends_held i hi R e) l in
          let at : rings_at P + 2 * rings_below st i + sum_to (λ k. 2) r ≡ rings_at (parcel_count B) + 2 * (first_ring B (parcels_below st i) + r) = omega (arith, sum_const 2 r, parcels_read, rings_before i (omega arith)) in
          u16_held B (rings_at (parcel_count B) + 2 * (first_ring B (parcels_below st i) + r)) (get_or R.ends r 0) (omega (arith, end_small (size i hi R e) r l))
          (subst (λ (z : ℕ). Held B z (u16_bytes (get_or R.ends r 0))) at h)

      pub ends_read : ends_at B (parcels_below st i) ≡ R.ends
      unfolding ends_at
      ends_read = sym (tab_all _ 0 (count_at B (parcels_below st i)) R.ends (sym (count_read i hi R e)) (λ r l. sym (end_read r (omega (arith, count_read i hi R e, l)))))

    pub vertices_before : (i : ℕ) → i ≤ slots → first_vertex B (parcels_below st i) ≡ vertices_below st i
    unfolding first_vertex sum_to parcels_below vertices_below
    vertices_before zero h = refl
    vertices_before (suc i) h = go (st i) refl (vertices_before i (omega arith))
      where
        go : (p : Parcel) → st i ≡ p → sum_to (λ k. last_end (ends_at B k)) (parcels_below st i) ≡ vertices_below st i
            → sum_to (λ k. last_end (ends_at B k)) (parcels_below st i + one_if (occupied p)) ≡ vertices_below st i + last_end (end_list p)
        go nothing e ih = rw (plus_none (parcels_below st i)) (ih ∙ sym (plus_none (vertices_below st i)))
        go (outline R) e ih = rw (add-one (parcels_below st i)) (rw (ih, ends_read i h R e) refl)

    module _ (i : ℕ) (hi : i < slots) (R : Region) (e : st i ≡ outline R) where
      number_read : (k : ℕ) → k < 2 * last_end R.ends → i32_at B (vertices_at (parcel_count B) (ring_count B) + 8 * first_vertex B (parcels_below st i) + 4 * k) ≡ get_or R.coordinates k (pos 0)
      number_read k l =
          let h = held_joined B (vertices_at P N + 8 * vertices_below st i) (λ j. i32_bytes (get_or R.coordinates j (pos 0))) (2 * last_end R.ends) k (numbers_held i hi R e) l in
          let at : vertices_at P N + 8 * vertices_below st i + sum_to (λ j. 4) k ≡ vertices_at (parcel_count B) (ring_count B) + 8 * first_vertex B (parcels_below st i) + 4 * k =
          omega (arith, sum_const 4 k, parcels_read, rings_read, vertices_before i (omega arith)) in
          i32_held B _ (get_or R.coordinates k (pos 0)) (omega (arith, mag_in (get_or R.coordinates k (pos 0)) (numbers_in R (kept i hi R e) k l)))
          (subst (λ (z : ℕ). Held B z (i32_bytes (get_or R.coordinates k (pos 0)))) at h)

      numbers_read : numbers_at B (parcels_below st i) ≡ R.coordinates
      unfolding numbers_at
      numbers_read =
          let n : 2 * last_end (ends_at B (parcels_below st i)) ≡ 2 * last_end R.ends = ap (λ (l : List ℕ). 2 * last_end l) (ends_read i hi R e) in
          sym (tab_all _ (pos 0) (2 * last_end (ends_at B (parcels_below st i))) R.coordinates ((size i hi R e).listed ∙ sym n) (λ k l. sym (number_read k (omega (arith, n, l)))))

      pub region_read : region_at B (parcels_below st i) ≡ R
      region_read = λ d. region_of (numbers_read d) (ends_read i hi R e d)
