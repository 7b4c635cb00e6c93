-- No rule stands here: what the functions behind the calls may rely on, and what one step of them computes. No promise hangs on these names.
--   SlotLists xs records    the lists in which the outlines lie have their lengths
--   Counted records i       the ring ends of slot i may be read;  Outlined xs records i  and its coordinates too
--   Whole xs records        that holds of every slot, and what stands there keeps rules 1 to 4
--   Ready s i p             p may come into slot i
--   parcel_of R             two lent lists as a parcel: nothing where both are empty
--   cell_for xs records p q  the cell of what stands in slots p and q
--   crossed cell i k l      the relations l once the cells of slots i and k are written, each way round
use Rattle.std.specs.Prelude.{◌≡◌, ◌&&◌, List, ℕ, ◌+◌, ◌*◌, ◌≤◌, ◌<◌, eqb, ℤ, length, set}
use Rattle.plane.specs.Choice.{pick}
use Rattle.region.specs.Region.{Region, Parcel, nothing, outline, most_rings, most_vertices, last_end}
use Rattle.layout.specs.Sheet.{Sheet, slots, coordinates_length, records_length}
use Rattle.layout.specs.Standing.{ParcelKeeps}
use Rattle.layout.specs.Layout.{cell_of}
use Rattle.layout.specs.Slots.{rings_in, ends_in, in_slot}
use Rattle.layout.specs.Changes.{Changeable}

pub record SlotLists (xs : List ℤ) (records : List ℕ) : Type 0 where
  pub coordinate_count : length xs ≡ coordinates_length
  pub record_count : length records ≡ records_length

pub record Counted (records : List ℕ) (i : ℕ) : Type 0 where
  pub record_count : length records ≡ records_length
  pub slot_in : i < slots
  pub few : rings_in records i ≤ most_rings

pub record Outlined (xs : List ℤ) (records : List ℕ) (i : ℕ) : Type 0 where
  pub counted : Counted records i
  pub coordinate_count : length xs ≡ coordinates_length
  pub low : last_end (ends_in records i) ≤ most_vertices

pub record Whole (xs : List ℤ) (records : List ℕ) : Type 0 where
  pub outlined : (i : ℕ) → i < slots → Outlined xs records i
  pub keeps : (i : ℕ) → i < slots → ParcelKeeps 4 (in_slot xs records i)

pub record Ready (s : Sheet) (i : ℕ) (p : Parcel) : Type 0 where
  pub change : Changeable s i
  pub keeps : ParcelKeeps 4 p

abbrev pub parcel_of : Region → Parcel
parcel_of R = pick (eqb (length R.ends) 0 && eqb (length R.coordinates) 0) nothing (outline R)

abbrev pub cell_for : List ℤ → List ℕ → (p q : ℕ) → ℕ
cell_for xs records p q = cell_of (in_slot xs records p) (in_slot xs records q) (eqb p q)

abbrev pub crossed : (ℕ → ℕ → ℕ) → (i k : ℕ) → List ℕ → List ℕ
crossed cell i k l = set (set l (slots * i + k) (cell i k)) (slots * k + i) (cell k i)
