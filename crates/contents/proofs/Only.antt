-- No second answer fits: two answers that meet a contract for the same arguments are equal, with the lists that were lent to be written.
--   card_number_only, read_ends_only, read_numbers_only
use mathlib.Core.Path.{◌≡◌, sym, ◌∙◌}
use Prim.Native.Nat.{ℕ}
use Rattle.std.specs.Prelude.{Result}
use Rattle.region.specs.declared.refusals.Refusal.{Refusal}
use Rattle.region.proofs.Answers.{number_in_only}
use Rattle.contents.proofs.rules.check.Reads as check_reads
use Rattle.contents.proofs.read_ends.Reads as read_ends_reads
use Rattle.contents.proofs.read_numbers.Reads as read_numbers_reads

pub card_number_only : (κs : _) (a : _) (r r' : Result (Unit {0}) Refusal) (s s' : _) → check_reads.Post κs a r s → check_reads.Post κs a r' s' → r ≡ r'
card_number_only κs a r r' s s' p q = number_in_only r r' (p ∙ sym q)

pub read_ends_only : (κs : _) (a : _) (r r' : ℕ) (s s' : _) → read_ends_reads.Post κs a r s → read_ends_reads.Post κs a r' s'
    → (r ≡ r') × (s.1.1.0.now ≡ s'.1.1.0.now)
read_ends_only κs a r r' s s' p q = let e = p.0 ∙ sym q.0 in (e, p.1 ∙ rw e (sym q.1))

pub read_numbers_only : (κs : _) (a : _) (r r' : ℕ) (s s' : _) → read_numbers_reads.Post κs a r s → read_numbers_reads.Post κs a r' s'
    → (r ≡ r') × (s.1.1.0.now ≡ s'.1.1.0.now)
read_numbers_only κs a r r' s s' p q = let e = p.0 ∙ sym q.0 in (e, p.1 ∙ rw e (sym q.1))
