-- No second answer fits: two answers that meet the call's own contract are equal.
--   drawn_with_only, matrix_in_only     two answers that say the same are the same
use mathlib.Core.Path.{◌≡◌, sym, ◌∙◌, ap}
use Rattle.std.specs.Prelude.{Result, Ok, Err}
use Rattle.region.specs.declared.RefusedRegion.{RefusedRegion}
use Rattle.region.proofs.Answers.{refused_region_only}
use Rattle.region.proofs.OrElse.{number_some}
use Rattle.matrix.specs.declared.SizedMatrix.{SizedMatrix}
use Rattle.drawn.specs.Drawn.{DrawnMatrix, drawn_with, matrix_in}
use Rattle.drawn.proofs.drawn_of.Reads as reads

pub drawn_with_only : (a b : SizedMatrix) → drawn_with a ≡ drawn_with b → a ≡ b
drawn_with_only a b e i = record { rows = (e i).rows; columns = (e i).columns; cells = (e i).cells }

pub matrix_in_only : (r r' : Result SizedMatrix RefusedRegion) → matrix_in r ≡ matrix_in r' → r ≡ r'
matrix_in_only (Ok a) (Ok b) e = ap (λ (x : SizedMatrix). Ok x) (drawn_with_only a b e)
matrix_in_only (Ok a) (Err f) e = absurd (number_some f.broken.rule (sym (ap (λ (x : DrawnMatrix). x.number) e)))
matrix_in_only (Err f) (Ok a) e = absurd (number_some f.broken.rule (ap (λ (x : DrawnMatrix). x.number) e))
matrix_in_only (Err f) (Err g) e =
    ap (λ (x : RefusedRegion). Err x)
    (refused_region_only f g (ap (λ (x : DrawnMatrix). x.number) e) (ap (λ (x : DrawnMatrix). x.region) e) (ap (λ (x : DrawnMatrix). x.ring) e))

pub drawn_only : (κs : _) (a : _) (r r' : Result SizedMatrix RefusedRegion) (s s' : _) → reads.Post κs a r s → reads.Post κs a r' s' → r ≡ r'
drawn_only κs a r r' s s' p q = matrix_in_only r r' (p ∙ sym q)
