-- No second answer fits: two answers that meet the contract of `list` for the same arguments are equal, with the buffers at exit.
use mathlib.Core.Path.{◌≡◌, sym, ◌∙◌}
use Prim.Native.Nat.{ℕ}
use Rattle.lines.proofs.list.Reads as list_reads

pub list_only : (κs : _) (a : _) (r r' : ℕ) (s s' : _) → list_reads.Post κs a r s → list_reads.Post κs a r' s'
    → (r ≡ r') × (s.1.0.now ≡ s'.1.0.now)
list_only κs a r r' s s' p q = (p.0 ∙ sym q.0, p.1 ∙ sym q.1)
