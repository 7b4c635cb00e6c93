use mathlib.Core.Path.{refl}
use borrow.Author.Tests.{eq-eqb, ne_eqb}
use Rattle.around.specs.Around.{around_of}
use Rattle.around.proofs.around.Goals as goal

pub returns-in_default : goal.returns-in_default
unfolding around_of
returns-in_default c = rw c.in_default.is refl

pub returns-then-a-eq-EIGHT : goal.returns-then-a-eq-EIGHT
unfolding around_of
returns-then-a-eq-EIGHT c = rw c.in-Ok.is (simp (eq-eqb _ _ c.if-a-eq-EIGHT.true))

pub returns-else-a-eq-EIGHT : goal.returns-else-a-eq-EIGHT
unfolding around_of
returns-else-a-eq-EIGHT c = rw c.in-Ok.is (simp (ne_eqb _ _ c.if-a-eq-EIGHT.false))
