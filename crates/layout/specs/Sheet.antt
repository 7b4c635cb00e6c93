-- SCOPE 7.1, number 11: a sheet is three lists, each of a fixed length. A slot has a room of coordinates in the first, a
-- record of ring ends in the second, and in the third a row, where it is the primary slot, and a column, where it is the reference.
--   slots, last_slot        how many slots there are, and the highest slot number
--   room, record_length     how many coordinates, and how many numbers of a record, belong to a slot
--   coordinates_length, records_length, relations_length  how long the three lists are
--   Sheet                   the three lists;  sheet_of xs records relations  the sheet whose lists these are
--   RightLists s            rule 11 is kept: each list has its length
--   RightTables records relations    the same for a reading, which is lent these two lists only
--   wrong_lists s           the test of rule 11. Its meaning: proofs/RightLists, `lists_mean`
--   wrong_tables records relations   the test for a reading
use Rattle.std.specs.Prelude.{◌≡◌, Bool, not, ◌||◌, List, ℕ, eqb, length, ℤ}

abbrev pub slots : ℕ
slots = 32

abbrev pub last_slot : ℕ
last_slot = 31

abbrev pub room : ℕ
room = 128

abbrev pub record_length : ℕ
record_length = 9

abbrev pub coordinates_length : ℕ
coordinates_length = 4096

abbrev pub records_length : ℕ
records_length = 288

abbrev pub relations_length : ℕ
relations_length = 1024

pub record Sheet : Type 0 where
  pub coordinates : List ℤ
  pub records : List ℕ
  pub relations : List ℕ

abbrev pub sheet_of : List ℤ → List ℕ → List ℕ → Sheet
sheet_of xs records relations = record { coordinates = xs; records = records; relations = relations }

pub record RightLists (s : Sheet) : Type 0 where
  pub coordinate_count : length s.coordinates ≡ coordinates_length
  pub record_count : length s.records ≡ records_length
  pub relation_count : length s.relations ≡ relations_length

abbrev pub RightTables : (records relations : List ℕ) → Type 0
RightTables records relations = (length records ≡ records_length) × (length relations ≡ relations_length)

unfoldable pub wrong_tables : (records relations : List ℕ) → Bool
wrong_tables records relations = not (eqb (length records) records_length) || not (eqb (length relations) relations_length)

unfoldable pub wrong_lists : Sheet → Bool
wrong_lists s = not (eqb (length s.coordinates) coordinates_length) || wrong_tables s.records s.relations
