-- The contract of the ring's check leaves one answer.
--   ring_faults_only    two answers that meet the contract of `ring_faults` for the same ring are equal
use mathlib.Core.Path.{◌≡◌, sym, ◌∙◌}
use Rattle.simple.specs.declared.Faults.{Faults}
use Rattle.simple.proofs.ring_faults.Reads as reads

pub ring_faults_only : (κs : _) (a : _) (f f' : Faults) (s s' : _) → reads.Post κs a f s → reads.Post κs a f' s' → f ≡ f'
ring_faults_only κs a f f' s s' p q = p ∙ sym q
