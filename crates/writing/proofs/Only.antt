-- No second answer fits: two answers that meet the contract of the call for the same arguments are equal, with the buffer at exit.
--   write_only         the length or the refusal, and the buffer
use mathlib.Core.Path.{◌≡◌, sym, ◌∙◌}
use Prim.Native.Nat.{ℕ}
use Rattle.std.specs.Prelude.{Result}
use Rattle.region.specs.declared.refusals.Refusal.{Refusal}
use Rattle.writing.proofs.WholeCard.{written_only}
use Rattle.writing.proofs.write.Reads as write_reads

pub write_only : (κs : _) (a : _) (r r' : Result ℕ Refusal) (s s' : _) → write_reads.Post κs a r s → write_reads.Post κs a r' s'
    → (r ≡ r') × (s.1.1.1.0.now ≡ s'.1.1.1.0.now)
write_only κs a r r' s s' p q = (written_only r r' (p.0 ∙ sym q.0), p.1 ∙ sym q.1)
