use mathlib.Core.Path.{◌≡◌, refl, ◌∙◌, ap}
use mathlib.Core.Logic.{⊎_elim}
use native.Mathlib.Omega.{arith}
use Rattle.std.specs.Prelude.{Result, Ok, Err, IsErrAnd}
use Rattle.region.specs.declared.RefusedRegion.{RefusedRegion}
use Rattle.region.specs.Region.{Region}
use Rattle.region.specs.Check.{Accepted, BothChecked, check_of}
use Rattle.region.specs.Rules.{Keeps}
use Rattle.region.proofs.Keeps.{keeps_fewer}
use Rattle.region.proofs.Check.{accepted_means}
use Rattle.pair.specs.Answer.{answer_in, pair_of}
use Rattle.pair.proofs.Accepted.{accepted_answer}
use Rattle.pair.proofs.pair_of.Goals as goal

-- ---- the answer by the two checks
module _ (first second : Region) where
  refused_is : (e : RefusedRegion) → BothChecked first second (Err e) → answer_in (Err e) ≡ pair_of first second
  unfolding pair_of
  refused_is e h = ⊎_elim (λ p. rw (p.0, p.1) refl) (λ p. rw (p.0, p.1, p.2) refl) h

-- the refusal that `?` hands on
passed_up : {A : Type 0} (r : Result A RefusedRegion) (e : RefusedRegion) → IsErrAnd r (λ f. f ≡ e) → r ≡ Err e
passed_up (Ok a) e h = absurd h
passed_up (Err f) e h = ap (λ (x : RefusedRegion). Err x) h

four : {R : Region} → check_of R ≡ Accepted → Keeps 4 R
four e = keeps_fewer (omega arith) ((accepted_means _).0 e)

pub returns-in_err-check_both : goal.returns-in_err-check_both
returns-in_err-check_both c =
    let is = passed_up c.from_residual.result c.in_err-check_both.field-0.0 c.from_residual.ensures.1 in
    rw is (refused_is _ _ c.in_err-check_both.field-0.0 c.in_err-check_both.ensures)

pub answer_of-requires : goal.answer_of-requires
answer_of-requires c = let e = c.in_ok-check_both.ensures in (four e.0, four e.1)

pub returns : goal.returns
returns c = let e = c.in_ok-check_both.ensures in c.answer_of.ensures ∙ accepted_answer _ _ e.0 e.1
