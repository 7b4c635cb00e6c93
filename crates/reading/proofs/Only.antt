-- No second answer fits: two answers that meet the contract of a reading for the same arguments are equal.
--   read_only, tiles_only    the answer
--   row_only                 the cells and the place at which the part begins
--   several_only             the number and the results at exit
use mathlib.Core.Path.{◌≡◌, sym, ◌∙◌}
use Prim.Native.Nat.{ℕ}
use Rattle.std.specs.Prelude.{Result}
use Rattle.region.specs.declared.refusals.Refusal.{Refusal}
use Rattle.region.proofs.Answers.{number_in_only}
use Rattle.calls.proofs.Readings.{reading_only}
use Rattle.reading.proofs.read_cell.Reads as read_reads
use Rattle.reading.proofs.row.Reads as row_reads
use Rattle.reading.proofs.tiles.Reads as tiles_reads
use Rattle.reading.proofs.several.read_cells.Reads as several_reads

pub read_only : (κs : _) (a : _) (r r' : Result ℕ Refusal) (s s' : _) → read_reads.Post κs a r s → read_reads.Post κs a r' s' → r ≡ r'
read_only κs a r r' s s' p q = reading_only r r' (p.0 ∙ sym q.0)

pub row_only : (κs : _) (a : _) (r r' : _) (s s' : _) → row_reads.Post κs a r s → row_reads.Post κs a r' s' → (r.now ≡ r'.now) × (r.ref_ptr ≡ r'.ref_ptr)
row_only κs a r r' s s' p q = (p.0 ∙ sym q.0, p.1 ∙ sym q.1)

pub tiles_only : (κs : _) (a : _) (r r' : ℕ) (s s' : _) → tiles_reads.Post κs a r s → tiles_reads.Post κs a r' s' → r ≡ r'
tiles_only κs a r r' s s' p q = p ∙ sym q

pub several_only : (κs : _) (a : _) (r r' : Result (Unit {0}) Refusal) (s s' : _) → several_reads.Post κs a r s → several_reads.Post κs a r' s'
    → (r ≡ r') × (s.1.1.1.0.now ≡ s'.1.1.1.0.now)
several_only κs a r r' s s' p q = (number_in_only r r' (p.0 ∙ sym q.0), p.1 ∙ sym q.1)
