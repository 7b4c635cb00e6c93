-- No second answer fits: two answers that meet the contract of the call for the same arguments are equal, with the report at exit.
use mathlib.Core.Path.{◌≡◌, sym, ◌∙◌}
use Prim.Native.Nat.{ℕ}
use Rattle.host.proofs.direction_report.Reads as direction_report_reads

pub direction_report_only : (κs : _) (a : _) (r r' : ℕ) (s s' : _) → direction_report_reads.Post κs a r s → direction_report_reads.Post κs a r' s'
    → (r ≡ r') × (s.1.0.now ≡ s'.1.0.now)
direction_report_only κs a r r' s s' p q = (p.0 ∙ sym q.0, p.1 ∙ sym q.1)
