-- No second answer fits: two answers that meet the contract of a function for the same arguments are equal, with the lists at exit.
--   write_only    the three lists
use mathlib.Core.Path.{◌≡◌, sym, ◌∙◌}
use Rattle.layout.specs.Sheet.{sheet_of}
use Rattle.placing.proofs.writing.write_parcel.Reads as write_reads

pub write_only : (κs : _) (a : _) (r r' : _) (s s' : _) → write_reads.Post κs a r s → write_reads.Post κs a r' s'
    → sheet_of s.0.now s.1.0.now s.1.1.0.now ≡ sheet_of s'.0.now s'.1.0.now s'.1.1.0.now
write_only κs a r r' s s' p q = p ∙ sym q
