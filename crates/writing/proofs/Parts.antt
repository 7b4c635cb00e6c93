-- The parts of a card, by the lists of an undamaged sheet.
--   countable     its ring ends may be counted
--   totals_are    the totals are those of what stands;  totals_le  and within a header's limits
--   entries_are, ends_are, vertices_are     the bytes of the three parts are those of what stands
use mathlib.Core.Path.{◌≡◌, sym, ◌∙◌, ap}
use mathlib.Core.Bool.{not}
use mathlib.Core.List.{List}
use Prim.Native.Nat.{ℕ, ◌*◌, ◌<◌}
use lib.IntN.{ℤ}
use lib.ListN.{length}
use Rattle.plane.specs.TileSet.{one_if}
use Rattle.plane.proofs.Folds.{sum_same}
use Rattle.region.specs.Region.{last_end}
use Rattle.layout.specs.Sheet.{slots}
use Rattle.layout.specs.Standing.{occupied, end_list, parcels_below, rings_below, vertices_below}
use Rattle.layout.specs.Slots.{rings_in, empty_in, ends_in, in_slot}
use Rattle.layout.specs.Steps.{Whole}
use Rattle.layout.proofs.Slots.{occupied_in, ends_in_lem, coordinates_in_lem, rings_length, coordinates_length_lem}
use Rattle.endian.specs.Placed.{word_bytes, number_bytes}
use Rattle.endian.proofs.Joined.{joined_same}
use Rattle.writing.specs.declared.Totals.{Totals}
use Rattle.writing.specs.Write.{entry_bytes, entry_part, end_part, vertex_part}
use Rattle.writing.specs.Steps.{Countable, totals_of, entries_of, ends_of, vertices_of}

module _ (xs : List ℤ) (records : List ℕ) (whole : Whole xs records) where
  pub countable : Countable records
  countable = record { counted = λ i l. (whole.outlined i l).counted; low = λ i l. (whole.outlined i l).low }

  -- ---- one slot
  there : (i : ℕ) → not (empty_in records i) ≡ occupied (in_slot xs records i)
  there i = sym (occupied_in xs records i)

  rings : (i : ℕ) → i < slots → rings_in records i ≡ length (end_list (in_slot xs records i))
  rings i l = sym (rings_length records i (whole.outlined i l).counted) ∙ ap length (sym (ends_in_lem xs records i))

  last : (i : ℕ) → last_end (ends_in records i) ≡ last_end (end_list (in_slot xs records i))
  last i = ap (λ (l : List ℕ). last_end l) (sym (ends_in_lem xs records i))

  -- ---- all slots
  pub record TotalsAre (t : Totals) : Type 0 where
    pub parcels_are : t.parcels ≡ parcels_below (in_slot xs records) slots
    pub rings_are : t.rings ≡ rings_below (in_slot xs records) slots
    pub vertices_are : t.vertices ≡ vertices_below (in_slot xs records) slots

  pub totals_are : {t : Totals} → t ≡ totals_of records → TotalsAre t
  unfolding totals_of parcels_below rings_below vertices_below
  totals_are e =
      record {
        parcels_are = ap (λ (t : Totals). t.parcels) e ∙ sum_same _ _ slots (λ i l. ap one_if (there i));
        rings_are = ap (λ (t : Totals). t.rings) e ∙ sum_same _ _ slots rings;
        vertices_are = ap (λ (t : Totals). t.vertices) e ∙ sum_same _ _ slots (λ i l. last i);
      }

  pub entries_are : entries_of records ≡ entry_part (in_slot xs records) slots
  entries_are = joined_same _ _ slots (λ i l d. entry_bytes i (there i d) (rings i l d))

  pub ends_are : ends_of records ≡ end_part (in_slot xs records) slots
  ends_are = joined_same _ _ slots (λ i l. ap (λ (e : List ℕ). word_bytes e (length e)) (sym (ends_in_lem xs records i)))

  pub vertices_are : vertices_of xs records ≡ vertex_part (in_slot xs records) slots
  vertices_are =
      joined_same _ _ slots
      (λ i l d. number_bytes (sym (coordinates_in_lem xs records i) d) ((coordinates_length_lem xs records i (whole.outlined i l) ∙ ap (λ (n : ℕ). 2 * n) (last i)) d))
