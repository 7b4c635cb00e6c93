-- No second answer fits: two answers that meet the pair call's own contract are equal.
--   answer_with_only, answer_in_only     two answers that say the same are the same
use mathlib.Core.Path.{◌≡◌, sym, ◌∙◌, ap}
use Rattle.std.specs.Prelude.{Result, Ok, Err}
use Rattle.region.specs.declared.RefusedRegion.{RefusedRegion}
use Rattle.region.proofs.Answers.{refused_region_only}
use Rattle.region.proofs.OrElse.{number_some}
use Rattle.pair.specs.declared.Answer.{Answer as Accepting}
use Rattle.pair.specs.Answer.{Answer, answer_with, answer_in}
use Rattle.pair.proofs.pair_of.Reads as reads

pub answer_with_only : (a b : Accepting) → answer_with a ≡ answer_with b → a ≡ b
answer_with_only a b e i =
    record {
      first = (e i).first;
      second = (e i).second;
      matrix = record { rows = (e i).rows; columns = (e i).columns; cells = (e i).cells };
      directions = (e i).directions;
      first_pieces = (e i).first_pieces;
      second_pieces = (e i).second_pieces;
    }

pub answer_in_only : (r r' : Result Accepting RefusedRegion) → answer_in r ≡ answer_in r' → r ≡ r'
answer_in_only (Ok a) (Ok b) e = ap (λ (x : Accepting). Ok x) (answer_with_only a b e)
answer_in_only (Ok a) (Err f) e = absurd (number_some f.broken.rule (sym (ap (λ (x : Answer). x.number) e)))
answer_in_only (Err f) (Ok a) e = absurd (number_some f.broken.rule (ap (λ (x : Answer). x.number) e))
answer_in_only (Err f) (Err g) e =
    ap (λ (x : RefusedRegion). Err x)
    (refused_region_only f g (ap (λ (x : Answer). x.number) e) (ap (λ (x : Answer). x.region) e) (ap (λ (x : Answer). x.ring) e))

pub pair_only : (κs : _) (a : _) (r r' : Result Accepting RefusedRegion) (s s' : _) → reads.Post κs a r s → reads.Post κs a r' s' → r ≡ r'
pair_only κs a r r' s s' p q = answer_in_only r r' (p ∙ sym q)
