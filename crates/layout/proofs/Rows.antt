-- The rows of the relation table.
--   row_length    a row has a cell for each slot
--   row_cell      its number k is the cell of the slot and slot k
use mathlib.Core.Path.{◌≡◌, ◌∙◌}
use mathlib.Core.Bool.{false}
use mathlib.Core.List.{List}
use Prim.Native.Nat.{ℕ, ◌*◌, ◌<◌}
use native.Mathlib.Omega.{arith}
use lib.ListN.{length, get_or, drop}
use lib.Seq.{get_or-take, get_or-drop}
use Rattle.layout.specs.Sheet.{slots, wrong_tables}
use Rattle.layout.specs.Slots.{cell_in, row_place, row_in}
use Rattle.layout.proofs.Blocks.{part_length}
use Rattle.layout.proofs.RightLists.{tables_mean}

pub row_length : (records relations : List ℕ) (p : ℕ) → wrong_tables records relations ≡ false → p < slots → length (row_in relations p) ≡ slots
unfolding row_in row_place
row_length records relations p right h = part_length (slots * p) slots relations (omega (arith, ((tables_mean records relations).0 right).1))

pub row_cell : (relations : List ℕ) (p k : ℕ) → k < slots → get_or (row_in relations p) k 0 ≡ cell_in relations p k
unfolding row_in row_place cell_in
row_cell relations p k h = get_or-take slots (drop (slots * p) relations) k 0 h ∙ get_or-drop (slots * p) relations k 0
