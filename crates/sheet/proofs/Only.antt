-- No second answer fits: two answers that meet the contract of a call for the same arguments are equal, with the lists at exit.
--   put_only, remove_only, clear_only    the answer and the three lists
use mathlib.Core.Path.{◌≡◌, sym, ◌∙◌}
use Prim.Native.Nat.{ℕ}
use Rattle.std.specs.Prelude.{Result}
use Rattle.region.specs.declared.refusals.Refusal.{Refusal}
use Rattle.region.specs.Refusals.{number_in}
use Rattle.region.proofs.Answers.{number_in_only}
use Rattle.layout.specs.Sheet.{sheet_of}
use Rattle.sheet.proofs.put.Reads as put_reads
use Rattle.sheet.proofs.remove.Reads as remove_reads
use Rattle.sheet.proofs.clear.Reads as clear_reads

same : {B : Type 0} (r r' : Result (Unit {0}) Refusal) {n : ℕ} {b b' d : B} → (number_in r ≡ n) × (b ≡ d) → (number_in r' ≡ n) × (b' ≡ d) → (r ≡ r') × (b ≡ b')
same r r' p q = (number_in_only r r' (p.0 ∙ sym q.0), p.1 ∙ sym q.1)

pub put_only : (κs : _) (a : _) (r r' : Result (Unit {0}) Refusal) (s s' : _) → put_reads.Post κs a r s → put_reads.Post κs a r' s'
    → (r ≡ r') × (sheet_of s.0.now s.1.0.now s.1.1.0.now ≡ sheet_of s'.0.now s'.1.0.now s'.1.1.0.now)
put_only κs a r r' s s' p q = same r r' p q

pub remove_only : (κs : _) (a : _) (r r' : Result (Unit {0}) Refusal) (s s' : _) → remove_reads.Post κs a r s → remove_reads.Post κs a r' s'
    → (r ≡ r') × (sheet_of s.0.now s.1.0.now s.1.1.0.now ≡ sheet_of s'.0.now s'.1.0.now s'.1.1.0.now)
remove_only κs a r r' s s' p q = same r r' p q

pub clear_only : (κs : _) (a : _) (r r' : Result (Unit {0}) Refusal) (s s' : _) → clear_reads.Post κs a r s → clear_reads.Post κs a r' s'
    → (r ≡ r') × (sheet_of s.0.now s.1.0.now s.1.1.0.now ≡ sheet_of s'.0.now s'.1.0.now s'.1.1.0.now)
clear_only κs a r r' s s' p q = same r r' p q
