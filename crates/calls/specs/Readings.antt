-- SCOPE 7.7: the readings. They are lent the records and the relations, and never ask whether the sheet is damaged. A cell is
-- refused by 11, then 8, then 9, each for either slot; a row is that part of the lent table, and empty exactly where one of these numbers
-- applies. How many tiles a relation has counts its nine low bits.
--   read_number records relations i j   the refusal of reading the cell of i and j, or 0;  read_value  the relation there, 0 beside a refusal
--   Reading                             what reading a cell answers: the relation that stands there, or the number of the refusal
--   reading_in r                        what a result of a function says so;  reading_of records relations i j  what reading the cell answers
--   reading_number, reading_value       the document's number and value for each case of an answer
--   row_of records relations i           the cells of row i, or none;  row_start  the place in the table at which the part begins
--   tile_count v                        how many tiles the relation v has
use Rattle.std.specs.Prelude.{◌||◌, List, [], ℕ, ltb, eqb, Result, Ok, Err}
use Rattle.plane.specs.Choice.{pick}
use Rattle.plane.specs.Folds.{sum_to}
use Rattle.plane.specs.TileSet.{bit}
use Rattle.region.specs.declared.refusals.Refusal.TheVariants.{SlotNumber, SlotEmpty, SheetLists}
use Rattle.region.specs.declared.refusals.Refusal.{Refusal}
use Rattle.region.specs.Refusals.{number, number_if, or_else}
use Rattle.layout.specs.Sheet.{last_slot, wrong_tables}
use Rattle.layout.specs.Slots.{empty_in, cell_in, row_in, row_place}

pub data Reading : Type 0 where
  Relation : ℕ → Reading
  Refused : ℕ → Reading

abbrev pub reading_in : Result ℕ Refusal → Reading
reading_in (Ok v) = Relation v
reading_in (Err k) = Refused (number k)

unfoldable pub read_number : List ℕ → List ℕ → (i j : ℕ) → ℕ
read_number records relations i j =
    or_else (number_if (wrong_tables records relations) SheetLists)
    (or_else (number_if (ltb last_slot i || ltb last_slot j) SlotNumber) (number_if (empty_in records i || empty_in records j) SlotEmpty))

unfoldable pub read_value : List ℕ → List ℕ → (i j : ℕ) → ℕ
read_value records relations i j = pick (eqb (read_number records relations i j) 0) (cell_in relations i j) 0

unfoldable pub reading_of : List ℕ → List ℕ → (i j : ℕ) → Reading
reading_of records relations i j =
    pick (eqb (read_number records relations i j) 0) (Relation (cell_in relations i j)) (Refused (read_number records relations i j))

abbrev pub reading_number : Reading → ℕ
reading_number (Relation v) = 0
reading_number (Refused n) = n

abbrev pub reading_value : Reading → ℕ
reading_value (Relation v) = v
reading_value (Refused n) = 0

unfoldable pub row_of : List ℕ → List ℕ → ℕ → List ℕ
row_of records relations i = pick (eqb (read_number records relations i i) 0) (row_in relations i) []

unfoldable pub row_start : List ℕ → List ℕ → ℕ → ℕ
row_start records relations i = pick (eqb (read_number records relations i i) 0) (row_place i) 0

unfoldable pub tile_count : ℕ → ℕ
tile_count v = sum_to (bit v) 9
