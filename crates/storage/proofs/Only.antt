-- No second answer fits: two answers that meet the contract of a function for the same arguments are equal, with the lists at exit.
--   wrong_tables_only, wrong_lists_only, ring_count_only, is_empty_only, cell_only, tables_cell_only    the answer
--   whole_number_only, change_number_only    the number that an answer says, 0 where nothing is refused
--   ends_only, outline_only              the numbers of the part
--   row_only, tables_row_only            the cells and the place at which the part begins
--   clear_only                           the three lists
use mathlib.Core.Path.{◌≡◌, sym, ◌∙◌}
use mathlib.Core.Bool.{Bool}
use Prim.Native.Nat.{ℕ}
use Rattle.std.specs.Prelude.{Result}
use Rattle.region.specs.declared.refusals.Refusal.{Refusal}
use Rattle.region.specs.Refusals.{number_in}
use Rattle.layout.specs.Sheet.{sheet_of}
use Rattle.storage.specs.declared.slots.Standing.{Standing}
use Rattle.storage.proofs.lists.wrong_tables.Reads as wrong_tables_reads
use Rattle.storage.proofs.lists.wrong_lists.Reads as wrong_lists_reads
use Rattle.storage.proofs.lists.clear_lists.Reads as clear_reads
use Rattle.storage.proofs.slots.ring_count.Reads as ring_count_reads
use Rattle.storage.proofs.slots.is_empty.Reads as is_empty_reads
use Rattle.storage.proofs.slots.ends_at.Reads as ends_reads
use Rattle.storage.proofs.slots.outline_at.Reads as outline_reads
use Rattle.storage.proofs.refused.check_whole.Reads as whole_number_reads
use Rattle.storage.proofs.refused.check_change.Reads as change_number_reads
use Rattle.storage.proofs.table.cell_in.Reads as cell_reads
use Rattle.storage.proofs.table.row_in.Reads as row_reads
use Rattle.storage.proofs.table.Tables.cell.Reads as tables_cell_reads
use Rattle.storage.proofs.table.Tables.row.Reads as tables_row_reads

pub wrong_tables_only : (κs : _) (a : _) (r r' : Bool) (s s' : _) → wrong_tables_reads.Post κs a r s → wrong_tables_reads.Post κs a r' s' → r ≡ r'
wrong_tables_only κs a r r' s s' p q = p ∙ sym q

pub wrong_lists_only : (κs : _) (a : _) (r r' : Bool) (s s' : _) → wrong_lists_reads.Post κs a r s → wrong_lists_reads.Post κs a r' s' → r ≡ r'
wrong_lists_only κs a r r' s s' p q = p ∙ sym q

pub ring_count_only : (κs : _) (a : _) (r r' : ℕ) (s s' : _) → ring_count_reads.Post κs a r s → ring_count_reads.Post κs a r' s' → r ≡ r'
ring_count_only κs a r r' s s' p q = p ∙ sym q

pub is_empty_only : (κs : _) (a : _) (r r' : Bool) (s s' : _) → is_empty_reads.Post κs a r s → is_empty_reads.Post κs a r' s' → r ≡ r'
is_empty_only κs a r r' s s' p q = p ∙ sym q

pub whole_number_only : (κs : _) (a : _) (r r' : Result Standing Refusal) (s s' : _) → whole_number_reads.Post κs a r s → whole_number_reads.Post κs a r' s' → number_in r ≡ number_in r'
whole_number_only κs a r r' s s' p q = p.0 ∙ sym q.0

pub change_number_only : (κs : _) (a : _) (r r' : Result Standing Refusal) (s s' : _) → change_number_reads.Post κs a r s → change_number_reads.Post κs a r' s' → number_in r ≡ number_in r'
change_number_only κs a r r' s s' p q = p.0 ∙ sym q.0

pub cell_only : (κs : _) (a : _) (r r' : ℕ) (s s' : _) → cell_reads.Post κs a r s → cell_reads.Post κs a r' s' → r ≡ r'
cell_only κs a r r' s s' p q = p ∙ sym q

pub ends_only : (κs : _) (a : _) (r r' : _) (s s' : _) → ends_reads.Post κs a r s → ends_reads.Post κs a r' s' → r.now ≡ r'.now
ends_only κs a r r' s s' p q = p ∙ sym q

pub outline_only : (κs : _) (a : _) (r r' : _) (s s' : _) → outline_reads.Post κs a r s → outline_reads.Post κs a r' s' → r.now ≡ r'.now
outline_only κs a r r' s s' p q = p ∙ sym q

pub row_only : (κs : _) (a : _) (r r' : _) (s s' : _) → row_reads.Post κs a r s → row_reads.Post κs a r' s' → (r.now ≡ r'.now) × (r.ref_ptr ≡ r'.ref_ptr)
row_only κs a r r' s s' p q = (p.0 ∙ sym q.0, p.1 ∙ sym q.1)

pub tables_cell_only : (κs : _) (a : _) (r r' : ℕ) (s s' : _) → tables_cell_reads.Post κs a r s → tables_cell_reads.Post κs a r' s' → r ≡ r'
tables_cell_only κs a r r' s s' p q = p ∙ sym q

pub tables_row_only : (κs : _) (a : _) (r r' : _) (s s' : _) → tables_row_reads.Post κs a r s → tables_row_reads.Post κs a r' s' → (r.now ≡ r'.now) × (r.ref_ptr ≡ r'.ref_ptr)
tables_row_only κs a r r' s s' p q = (p.0 ∙ sym q.0, p.1 ∙ sym q.1)

pub clear_only : (κs : _) (a : _) (r r' : _) (s s' : _) → clear_reads.Post κs a r s → clear_reads.Post κs a r' s'
    → sheet_of s.0.now s.1.0.now s.1.1.0.now ≡ sheet_of s'.0.now s'.1.0.now s'.1.1.0.now
clear_only κs a r r' s s' p q = p ∙ sym q
