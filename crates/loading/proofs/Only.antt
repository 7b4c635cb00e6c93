-- No second answer fits: two answers that meet the contract of the call for the same arguments are equal, with the lists at exit.
--   load_only          the answer and the three lists
use mathlib.Core.Path.{◌≡◌, sym, ◌∙◌}
use Rattle.std.specs.Prelude.{Result}
use Rattle.region.specs.declared.refusals.Refusal.{Refusal}
use Rattle.region.proofs.Answers.{number_in_only}
use Rattle.layout.specs.Sheet.{sheet_of}
use Rattle.loading.proofs.load.Reads as load_reads

pub load_only : (κs : _) (a : _) (r r' : Result (Unit {0}) Refusal) (s s' : _) → load_reads.Post κs a r s → load_reads.Post κs a r' s'
    → (r ≡ r') × (sheet_of s.0.now s.1.0.now s.1.1.0.now ≡ sheet_of s'.0.now s'.1.0.now s'.1.1.0.now)
load_only κs a r r' s s' p q = (number_in_only r r' (p.0 ∙ sym q.0), p.1 ∙ sym q.1)
