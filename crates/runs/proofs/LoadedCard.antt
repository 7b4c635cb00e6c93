-- A card has one form: writing what was loaded gives the card's bytes again.
--   sorted       the entries before slot i are those of lower slots
--   one_form     the card of a good card's parcels is that card
use mathlib.Core.Path.{◌≡◌, refl, sym, ◌∙◌, ap, subst}
use mathlib.Core.Logic.{◌≢◌}
use mathlib.Core.Bool.{Bool}
use mathlib.Core.List.{List, [], ◌++◌}
use Prim.Native.Nat.{ℕ, zero, suc, ◌+◌, ◌*◌, ◌≤◌, ◌<◌}
use native.Mathlib.Omega.{arith}
use native.Mathlib.Decide.{dec_lt, ℕ_discrete}
use native.Mathlib.Numerals.{add-one}
use lib.Dec.{eqb}
use lib.ListN.{length, get_or}
use lib.Seq.{ext_get_or}
use lib.IntN.{pos}
use borrow.Author.Tests.{lt-ltb, le-ltb, eqb-true, eqb-false}
use Rattle.plane.specs.Folds.{sum_to, first_of}
use Rattle.plane.specs.TileSet.{one_if}
use Rattle.plane.proofs.Folds.{first_below, first_passes}
use Rattle.plane.proofs.Lists.{get_d_tab}
use Rattle.region.specs.Region.{Parcel, nothing, outline, last_end}
use Rattle.layout.specs.Sheet.{slots}
use Rattle.layout.specs.Standing.{occupied, end_list, coordinate_list, parcels_below, rings_below, vertices_below}
use Rattle.endian.specs.Bytes.{u16_at, i32_at, u16_bytes, i32_bytes, joined}
use Rattle.endian.specs.Placed.{word_bytes, number_bytes}
use Rattle.endian.proofs.Joined.{length_joined, sum_const}
use Rattle.card.specs.Layout.{parcels_at, rings_at, vertices_at}
use Rattle.card.specs.Reading.{parcel_count, ring_count, vertex_count, slot_at, count_at, first_ring, first_vertex, entry_of, parcel_in, ends_at, numbers_at, region_at}
use Rattle.card.specs.Good.{GoodCard}
use Rattle.card.proofs.Good.{slots_rise}
use Rattle.card.proofs.Bounds.{length_ends}
use Rattle.writing.specs.Write.{header_of, entry_bytes, entry_part, end_part, vertex_part, card_of}
use Rattle.writing.proofs.Lengths.{entries_length, ends_length, vertices_length, written_length}
use Rattle.endian.proofs.Held.{Held, held_append, join_held, held_u16, held_i32}

plus_none : (a : ℕ) → a + 0 ≡ a
plus_none a = omega arith

module _ (b : List ℕ) (good : GoodCard b) where
  abbrev st : ℕ → Parcel
  st = parcel_in b

  abbrev P : ℕ
  P = parcel_count b

  abbrev before : ℕ → ℕ
  before i = parcels_below st i

  -- the entries before slot i are those of lower slots
  record Sorted (i : ℕ) : Type 0 where
    some : before i ≤ P
    lower : (k : ℕ) → k < before i → slot_at b k < i
    higher : (k : ℕ) → before i ≤ k → k < P → i ≤ slot_at b k

  abbrev named : ℕ → ℕ → Bool
  named i k = eqb (slot_at b k) i

  -- the entry that names slot i is the next one
  entry_next : (i : ℕ) → Sorted i → entry_of b i < P → (entry_of b i ≡ before i) × (slot_at b (entry_of b i) ≡ i)
  unfolding entry_of
  entry_next i s l = (place (dec_lt (first_of (named i) P) (before i)) (dec_lt (before i) (first_of (named i) P)), is)
    where
      is : slot_at b (first_of (named i) P) ≡ i
      is = eqb-true (slot_at b (first_of (named i) P)) i (first_passes (named i) P l)

      place : Dec (first_of (named i) P < before i) → Dec (before i < first_of (named i) P) → first_of (named i) P ≡ before i
      place (yes q) d = absurd (omega (arith, s.lower (first_of (named i) P) q, is))
      place (no q) (yes r) = absurd (omega (arith, s.higher (before i) (omega arith) (omega arith), slots_rise b good (before i) (first_of (named i) P) r l, is))
      place (no q) (no r) = omega arith

  -- what stands in a slot that an entry names, and in one that none does
  there : (i : ℕ) → entry_of b i < P → one_if (occupied (st i)) ≡ 1
  unfolding parcel_in
  there i l = rw (lt-ltb (entry_of b i) P l) refl

  absent : (i : ℕ) → (entry_of b i < P → ⊥) → one_if (occupied (st i)) ≡ 0
  unfolding parcel_in
  absent i l = rw (le-ltb (entry_of b i) P (omega arith)) refl

  other : (i k : ℕ) → k < P → (entry_of b i < P → ⊥) → slot_at b k ≢ i
  unfolding entry_of
  other i k l n = eqb-false (slot_at b k) i (first_below (named i) P k (omega arith))

  sorted : (i : ℕ) → i ≤ slots → Sorted i
  unfolding sum_to parcels_below
  sorted zero h = record { some = omega arith; lower = λ k l. absurd (omega arith); higher = λ k l m. omega arith }
  sorted (suc i) h = go (sorted i (omega arith)) (dec_lt (entry_of b i) P)
    where
      go : Sorted i → Dec (entry_of b i < P) → Sorted (suc i)
      go s (yes l) =
          let x = entry_next i s l in
          let one : one_if (occupied (st i)) ≡ 1 = there i l in
          let at : slot_at b (before i) ≡ i = ap (slot_at b) (sym x.0) ∙ x.1 in
          record {
            some = omega (arith, x.0, l, one);
            lower = λ k q.
                elim (ℕ_discrete k (before i)) [ yes e ↦ (let f : slot_at b k ≡ i = ap (slot_at b) e ∙ at in omega arith) | no e ↦ omega (arith, s.lower k (omega (arith, q, one, e))) ];
            higher = λ k q r. omega (arith, slots_rise b good (before i) k (omega (arith, q, one)) r, at);
          }
      go s (no l) =
          let none : one_if (occupied (st i)) ≡ 0 = absent i l in
          record {
            some = omega (arith, s.some, none);
            lower = λ k q. omega (arith, s.lower k (omega (arith, q, none)));
            higher = λ k q r. omega (arith, s.higher k (omega (arith, q, none)) r, other i k r l);
          }

  parcels_all : parcels_below st slots ≡ P
  parcels_all =
      let s = sorted slots (omega arith) in
      elim (dec_lt (before slots) P) [ yes l ↦ absurd (omega (arith, s.higher (before slots) (omega arith) l, good.slots_low (before slots) l)) | no l ↦ omega (arith, s.some) ]

  -- the entry of slot i, and what stands there
  record Entry (i : ℕ) : Type 0 where
    low : before i < P
    names : slot_at b (before i) ≡ i
    is : st i ≡ outline (region_at b (before i))

  entry_of_lem : (i : ℕ) → i < slots → entry_of b i < P → Entry i
  unfolding parcel_in
  entry_of_lem i h l =
      let x = entry_next i (sorted i (omega arith)) l in
      record {
        low = omega (arith, x.0, l);
        names = ap (slot_at b) (sym x.0) ∙ x.1;
        is = rw (lt-ltb (entry_of b i) P l) (ap (λ (k : ℕ). outline (region_at b k)) x.0);
      }

  empty_of : (i : ℕ) → (entry_of b i < P → ⊥) → st i ≡ nothing
  unfolding parcel_in
  empty_of i l = rw (le-ltb (entry_of b i) P (omega arith)) refl

  -- a slot is empty, or its parcel is that of the next entry
  data Slot (i : ℕ) : Type 0 where
    empty : st i ≡ nothing → Slot i
    taken : Entry i → Slot i

  slot_is : (i : ℕ) → i < slots → Slot i
  slot_is i h = elim (dec_lt (entry_of b i) P) [ yes l ↦ taken (entry_of_lem i h l) | no l ↦ empty (empty_of i l) ]

  rings_to : (i : ℕ) → i ≤ slots → rings_below st i ≡ first_ring b (before i)
  unfolding first_ring sum_to parcels_below rings_below
  rings_to zero h = refl
  rings_to (suc i) h = go (slot_is i h) (rings_to i (omega arith))
    where
      go : Slot i → rings_below st i ≡ sum_to (count_at b) (before i) → rings_below st i + length (end_list (st i)) ≡ sum_to (count_at b) (before i + one_if (occupied (st i)))
      go (empty e) ih = rw (e, plus_none (before i), plus_none (rings_below st i)) ih
      go (taken e) ih = rw (e.is, add-one (before i), length_ends b (before i), ih) refl

  vertices_to : (i : ℕ) → i ≤ slots → vertices_below st i ≡ first_vertex b (before i)
  unfolding first_vertex sum_to parcels_below vertices_below
  vertices_to zero h = refl
  vertices_to (suc i) h = go (slot_is i h) (vertices_to i (omega arith))
    where
      go : Slot i → vertices_below st i ≡ sum_to (λ k. last_end (ends_at b k)) (before i)
          → vertices_below st i + last_end (end_list (st i)) ≡ sum_to (λ k. last_end (ends_at b k)) (before i + one_if (occupied (st i)))
      go (empty e) ih = rw (e, plus_none (before i), plus_none (vertices_below st i)) ih
      go (taken e) ih = rw (e.is, add-one (before i), ih) refl

  rings_all : rings_below st slots ≡ ring_count b
  unfolding first_ring
  rings_all = rings_to slots (omega arith) ∙ ap (sum_to (count_at b)) parcels_all ∙ good.rings_add

  vertices_all : vertices_below st slots ≡ vertex_count b
  unfolding first_vertex
  vertices_all = vertices_to slots (omega arith) ∙ ap (sum_to (λ k. last_end (ends_at b k))) parcels_all ∙ good.vertices_add

  module _ (low : (j : ℕ) → get_or b j 0 < 256) where
    word_held : (at v : ℕ) → u16_at b at ≡ v → Held b at (u16_bytes v)
    word_held at v e = held_u16 b at v (low at) (low (at + 1)) e

    nothing_held : (at : ℕ) → Held b at []
    nothing_held at j l = absurd (omega arith)

    -- ---- the parts of one slot
    end_at : (k r : ℕ) → r < count_at b k → u16_at b (rings_at P + 2 * first_ring b k + sum_to (λ j. 2) r) ≡ get_or (ends_at b k) r 0
    unfolding ends_at
    end_at k r l =
        let at : rings_at P + 2 * first_ring b k + sum_to (λ j. 2) r ≡ rings_at P + 2 * (first_ring b k + r) = omega (arith, sum_const 2 r) in
        ap (u16_at b) at ∙ sym (get_d_tab _ 0 (count_at b k) r l)

    number_at : (k j : ℕ) → j < 2 * last_end (ends_at b k) → i32_at b (vertices_at P (ring_count b) + 8 * first_vertex b k + sum_to (λ i. 4) j) ≡ get_or (numbers_at b k) j (pos 0)
    unfolding numbers_at
    number_at k j l =
        let at : vertices_at P (ring_count b) + 8 * first_vertex b k + sum_to (λ i. 4) j ≡ vertices_at P (ring_count b) + 8 * first_vertex b k + 4 * j = omega (arith, sum_const 4 j) in
        ap (i32_at b) at ∙ sym (get_d_tab _ (pos 0) (2 * last_end (ends_at b k)) j l)

    module _ (i : ℕ) where
      abbrev entry : Parcel → List ℕ
      entry p = entry_bytes i (occupied p) (length (end_list p))

      abbrev ends : Parcel → List ℕ
      ends p = word_bytes (end_list p) (length (end_list p))

      abbrev numbers : Parcel → List ℕ
      numbers p = number_bytes (coordinate_list p) (2 * last_end (end_list p))

      entry_held : Slot i → Held b (parcels_at + 4 * before i) (entry (st i))
      entry_held (empty e) = subst (λ (p : Parcel). Held b (parcels_at + 4 * before i) (entry p)) (sym e) (nothing_held _)
      entry_held (taken e) =
          subst (λ (p : Parcel). Held b (parcels_at + 4 * before i) (entry p)) (sym e.is)
          (held_append b (parcels_at + 4 * before i) (u16_bytes i) (u16_bytes (length (ends_at b (before i)))) (word_held _ i e.names)
          (word_held (parcels_at + 4 * before i + 2) _ (sym (length_ends b (before i)))))

      ends_held : Slot i → Held b (rings_at P + 2 * first_ring b (before i)) (ends (st i))
      unfolding joined
      ends_held (empty e) = subst (λ (p : Parcel). Held b (rings_at P + 2 * first_ring b (before i)) (ends p)) (sym e) (nothing_held _)
      ends_held (taken e) =
          subst (λ (p : Parcel). Held b (rings_at P + 2 * first_ring b (before i)) (ends p)) (sym e.is)
          (join_held b (rings_at P + 2 * first_ring b (before i)) (λ r. u16_bytes (get_or (ends_at b (before i)) r 0)) (length (ends_at b (before i)))
          (λ r l. word_held _ _ (end_at (before i) r (omega (arith, l, length_ends b (before i))))))

      numbers_held : Slot i → Held b (vertices_at P (ring_count b) + 8 * first_vertex b (before i)) (numbers (st i))
      unfolding joined
      numbers_held (empty e) = subst (λ (p : Parcel). Held b (vertices_at P (ring_count b) + 8 * first_vertex b (before i)) (numbers p)) (sym e) (nothing_held _)
      numbers_held (taken e) =
          subst (λ (p : Parcel). Held b (vertices_at P (ring_count b) + 8 * first_vertex b (before i)) (numbers p)) (sym e.is)
          (join_held b (vertices_at P (ring_count b) + 8 * first_vertex b (before i)) (λ k. i32_bytes (get_or (numbers_at b (before i)) k (pos 0))) (2 * last_end (ends_at b (before i)))
          (λ k l. held_i32 b _ _ low (number_at (before i) k l)))

    -- ---- the parts
    all_entries : Held b parcels_at (entry_part st slots)
    all_entries =
        join_held b parcels_at (λ i. entry i (st i)) slots
        (λ i l. subst (λ (z : ℕ). Held b (parcels_at + z) (entry i (st i))) (sym (sym (length_joined (λ k. entry k (st k)) i) ∙ entries_length st i)) (entry_held i (slot_is i l)))

    all_ends : Held b (rings_at P) (end_part st slots)
    all_ends =
        join_held b (rings_at P) (λ i. ends i (st i)) slots
        (λ i l. subst (λ (z : ℕ). Held b (rings_at P + z) (ends i (st i)))
        (sym (sym (length_joined (λ k. ends k (st k)) i) ∙ ends_length st i ∙ ap (λ (z : ℕ). 2 * z) (rings_to i (omega arith)))) (ends_held i (slot_is i l)))

    all_numbers : Held b (vertices_at P (ring_count b)) (vertex_part st slots)
    all_numbers =
        join_held b (vertices_at P (ring_count b)) (λ i. numbers i (st i)) slots
        (λ i l. subst (λ (z : ℕ). Held b (vertices_at P (ring_count b) + z) (numbers i (st i)))
        (sym (sym (length_joined (λ k. numbers k (st k)) i) ∙ vertices_length st i ∙ ap (λ (z : ℕ). 8 * z) (vertices_to i (omega arith)))) (numbers_held i (slot_is i l)))

    abbrev header : List ℕ
    header = header_of (parcels_below st slots) (rings_below st slots) (vertices_below st slots)

    words : (k : ℕ) → k < 6 → u16_at b (2 * k) ≡ get_or header k 0
    words zero l = sym parcels_all
    words (suc zero) l = sym rings_all
    words (suc (suc zero)) l = sym vertices_all
    words (suc (suc (suc zero))) l = good.parcels_offset
    words (suc (suc (suc (suc zero)))) l = good.rings_offset ∙ ap rings_at (sym parcels_all)
    words (suc (suc (suc (suc (suc zero))))) l = good.vertices_offset ∙ sym (rw (parcels_all, rings_all) refl)
    words (suc (suc (suc (suc (suc (suc k)))))) l = absurd (omega arith)

    header_held : Held b 0 (word_bytes header 6)
    header_held = join_held b 0 (λ k. u16_bytes (get_or header k 0)) 6 (λ k l. word_held (0 + sum_to (λ j. 2) k) (get_or header k 0) (place k ∙ words k l))
      where
        place : (k : ℕ) → u16_at b (0 + sum_to (λ j. 2) k) ≡ u16_at b (2 * k)
        place k = let e : 0 + sum_to (λ j. 2) k ≡ 2 * k = omega (arith, sum_const 2 k) in ap (u16_at b) e

    whole_held : Held b 0 (card_of (parcel_in b))
    unfolding card_of joined
    whole_held =
        let p : parcels_below st slots ≡ P = parcels_all in
        let e : 12 + length (entry_part st slots) ≡ rings_at P = omega (arith, entries_length st slots, p) in
        let n : rings_at P + length (end_part st slots) ≡ vertices_at P (ring_count b) = omega (arith, ends_length st slots, rings_all) in
        let h7 : Held b (rings_at P) (end_part st slots ++ vertex_part st slots) = held_append b (rings_at P) (end_part st slots) (vertex_part st slots) all_ends (subst (λ (z : ℕ). Held b z (vertex_part st slots)) (sym n) all_numbers) in
        let h6 : Held b 12 (entry_part st slots ++ (end_part st slots ++ vertex_part st slots)) = held_append b 12 (entry_part st slots) (end_part st slots ++ vertex_part st slots) all_entries (subst (λ (z : ℕ). Held b z (end_part st slots ++ vertex_part st slots)) (sym e) h7) in
        held_append b 0 (word_bytes header 6) (entry_part st slots ++ (end_part st slots ++ vertex_part st slots)) header_held h6

    pub one_form : card_of (parcel_in b) ≡ b
    one_form =
        ext_get_or 0 (card_of (parcel_in b)) b
        (omega (arith, written_length st, good.whole_length, parcels_all, rings_all, vertices_all))
        (λ i l. sym (whole_held i l) ∙ ap (λ (z : ℕ). get_or b z 0) (plain i))
      where
        plain : (a : ℕ) → 0 + a ≡ a
        plain a = omega arith
