-- SCOPE 7.2, 7.3: what stands decides every number of the three lists. The room of a slot has its outline's coordinates, its record the number
-- of rings and their ends, and places that nothing uses are 0. A cell of two different slots has the relation of the parcel that is looked
-- at to the other. It is 0 where both slots are one, by decree, and where one of the two is empty.
--   record_number ends k    number k of the record of a slot with these ring ends
--   self_cell               the cell of a parcel with itself
--   cell_of p q same         the cell of the parcels p and q;  same: they stand in one slot
--   layout st               the sheet on which the parcel st i stands in slot i, for each slot
--   blank                   the empty sheet: every number is 0. It is the layout of nothing: proofs/Blank, `blank_layout`
use Rattle.std.specs.Prelude.{Bool, List, ℕ, zero, suc, ◌/◌, ◌%◌, eqb, pos, length, get_or, replicate}
use Rattle.plane.specs.Choice.{pick}
use Rattle.plane.specs.Lists.{tab}
use Rattle.region.specs.Region.{Parcel, nothing, outline}
use Rattle.relation.specs.Relation.{region_box, relation_of}
use Rattle.layout.specs.Sheet.{Sheet, sheet_of, slots, room, record_length, coordinates_length, records_length, relations_length}
use Rattle.layout.specs.Standing.{end_list, coordinate_list}

abbrev pub record_number : List ℕ → ℕ → ℕ
record_number ends zero = length ends
record_number ends (suc k) = get_or ends k 0

abbrev pub self_cell : ℕ
self_cell = 0

abbrev pub cell_of : Parcel → Parcel → Bool → ℕ
cell_of nothing q same = 0
cell_of (outline R) nothing same = 0
cell_of (outline R) (outline Q) same = pick same self_cell (relation_of (region_box Q) R)

unfoldable pub layout : (ℕ → Parcel) → Sheet
layout st =
    record {
      coordinates = tab (λ k. get_or (coordinate_list (st (k / room))) (k % room) (pos 0)) coordinates_length;
      records = tab (λ k. record_number (end_list (st (k / record_length))) (k % record_length)) records_length;
      relations = tab (λ k. cell_of (st (k / slots)) (st (k % slots)) (eqb (k / slots) (k % slots))) relations_length;
    }

unfoldable pub blank : Sheet
blank = sheet_of (replicate coordinates_length (pos 0)) (replicate records_length 0) (replicate relations_length 0)
