-- No second answer fits: two answers that meet the contract of `pair_in`, or that of `drawn_in`, for the same arguments are equal.
use mathlib.Core.Path.{◌≡◌, sym, ◌∙◌}
use Rattle.pair.specs.declared.Answer.{Answer}
use Rattle.pair.proofs.Only.{answer_with_only}
use Rattle.matrix.specs.declared.SizedMatrix.{SizedMatrix}
use Rattle.drawn.proofs.Only.{drawn_with_only}
use Rattle.carried.proofs.pair_in.Reads as pair_in_reads
use Rattle.carried.proofs.drawn_in.Reads as drawn_in_reads

pub pair_in_only : (κs : _) (a : _) (r r' : Answer) (s s' : _) → pair_in_reads.Post κs a r s → pair_in_reads.Post κs a r' s' → r ≡ r'
pair_in_only κs a r r' s s' p q = answer_with_only r r' (p ∙ sym q)

pub drawn_in_only : (κs : _) (a : _) (r r' : SizedMatrix) (s s' : _) → drawn_in_reads.Post κs a r s → drawn_in_reads.Post κs a r' s' → r ≡ r'
drawn_in_only κs a r r' s s' p q = drawn_with_only r r' (p ∙ sym q)
