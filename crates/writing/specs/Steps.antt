-- No rule stands here: what the functions that write a card compute from the lists, slot by slot, and what they may rely on. No promise
-- hangs on these names: proofs/Parts shows that they are the parts of specs/Write.
--   Countable records       the ring ends of every slot may be read, and are within a region's limits
--   totals_of records       how many parcels, rings and vertices stand
--   entries_of records, ends_of records, vertices_of xs records  the bytes of the three parts
use Rattle.std.specs.Prelude.{not, List, ℕ, ◌≤◌, ◌<◌, ℤ, length}
use Rattle.plane.specs.Folds.{sum_to}
use Rattle.plane.specs.TileSet.{one_if}
use Rattle.region.specs.Region.{most_vertices, last_end}
use Rattle.layout.specs.Sheet.{slots}
use Rattle.layout.specs.Slots.{rings_in, empty_in, ends_in, coordinates_in}
use Rattle.layout.specs.Steps.{Counted}
use Rattle.endian.specs.Bytes.{joined}
use Rattle.endian.specs.Placed.{word_bytes, number_bytes}
use Rattle.writing.specs.declared.Totals.{Totals}
use Rattle.writing.specs.Write.{entry_bytes}

pub record Countable (records : List ℕ) : Type 0 where
  pub counted : (i : ℕ) → i < slots → Counted records i
  pub low : (i : ℕ) → i < slots → last_end (ends_in records i) ≤ most_vertices

unfoldable pub totals_of : List ℕ → Totals
totals_of records =
    record {
      parcels = sum_to (λ i. one_if (not (empty_in records i))) slots;
      rings = sum_to (λ i. rings_in records i) slots;
      vertices = sum_to (λ i. last_end (ends_in records i)) slots;
    }

abbrev pub entries_of : List ℕ → List ℕ
entries_of records = joined (λ i. entry_bytes i (not (empty_in records i)) (rings_in records i)) slots

abbrev pub ends_of : List ℕ → List ℕ
ends_of records = joined (λ i. word_bytes (ends_in records i) (length (ends_in records i))) slots

abbrev pub vertices_of : List ℤ → List ℕ → List ℕ
vertices_of xs records = joined (λ i. number_bytes (coordinates_in xs records i) (length (coordinates_in xs records i))) slots
