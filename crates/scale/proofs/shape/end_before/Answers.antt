use mathlib.Core.Path.{refl}
use native.Mathlib.Omega.{arith}
use borrow.Author.Tests.{lt-ltb, le-ltb, eq-eqb, ne_eqb}
use Rattle.scale.specs.Shapes.{end_before}
use Rattle.scale.proofs.shape.end_before.Goals as goal

pub returns-then-r-eq0 : goal.returns-then-r-eq0
unfolding end_before
returns-then-r-eq0 c = (rw (eq-eqb c.args.r 0 (omega arith)) refl, omega arith)

pub returns-then-r-gt-MOST_RINGS : goal.returns-then-r-gt-MOST_RINGS
unfolding end_before
returns-then-r-gt-MOST_RINGS c = let r = c.args.r in (rw (ne_eqb r 0 (λ e. omega (arith, e)), lt-ltb 8 r (omega arith)) refl, omega arith)

pub returns : goal.returns
unfolding end_before
returns c = let r = c.args.r in (rw (ne_eqb r 0 (λ e. omega (arith, e)), le-ltb 8 r (omega arith)) c.least.ensures.0, c.least.ensures.1)
