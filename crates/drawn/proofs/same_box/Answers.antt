use mathlib.Core.Path.{◌≡◌}
use mathlib.Core.Bool.{Bool, true, ◌&&◌}
use borrow.Author.Tests.{eq-eqb, ne_eqb}
use Rattle.drawing.specs.Drawing.{same_box}
use Rattle.drawn.proofs.same_box.Goals as goal

-- where three tests hold the fourth decides
last_decides : (p q r s : Bool) → p ≡ true → q ≡ true → r ≡ true → s ≡ p && (q && (r && s))
last_decides p q r s x y z = rw (x, y, z)

pub returns-then-k-b : goal.returns-then-k-b
unfolding same_box
returns-then-k-b c = simp (ne_eqb _ _ c.if-k-b.true)

pub returns-then-k-b-2 : goal.returns-then-k-b-2
unfolding same_box
returns-then-k-b-2 c = simp (eq-eqb _ _ c.if-k-b.false, ne_eqb _ _ c.if-k-b-2.true)

pub returns-then-k-b-3 : goal.returns-then-k-b-3
unfolding same_box
returns-then-k-b-3 c =
    simp (eq-eqb _ _ c.if-k-b.false, eq-eqb _ _ c.if-k-b-2.false, ne_eqb _ _ c.if-k-b-3.true)

pub returns : goal.returns
unfolding same_box
returns c =
    last_decides _ _ _ _ (eq-eqb _ _ c.if-k-b.false) (eq-eqb _ _ c.if-k-b-2.false) (eq-eqb _ _ c.if-k-b-3.false)
