-- The answer for two accepted regions.
--   accepted_answer     it is the one without refusal
use mathlib.Core.Path.{◌≡◌, refl}
use Rattle.region.specs.Region.{Region}
use Rattle.region.specs.Check.{Accepted, check_of}
use Rattle.pair.specs.Answer.{answer_of, pair_of}

pub accepted_answer : (first second : Region) → check_of first ≡ Accepted → check_of second ≡ Accepted → answer_of first second ≡ pair_of first second
unfolding pair_of
accepted_answer first second e f = rw (e, f) refl
