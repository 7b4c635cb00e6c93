use mathlib.Core.Path.{◌≡◌}
use mathlib.Core.Bool.{Bool, true, ◌&&◌}
use native.Mathlib.Omega.{arith}
use borrow.Author.Tests.{lt-ltb, le-ltb}
use Rattle.edge.proofs.Moments.{product_fits}
use Rattle.drawing.specs.Stays.{overlaps}
use Rattle.drawn.proofs.overlaps.Goals as goal

-- where three tests hold the fourth decides
last_decides : (p q r s : Bool) → p ≡ true → q ≡ true → r ≡ true → s ≡ p && (q && (r && s))
last_decides p q r s x y z = rw (x, y, z)

pub returns-then-s : goal.returns-then-s
unfolding overlaps
returns-then-s c = simp (le-ltb _ _ c.if-s.true)

pub returns-then-t : goal.returns-then-t
unfolding overlaps
returns-then-t c = simp (lt-ltb _ _ c.if-s.false, le-ltb _ _ c.if-t.true)

pub overflow_mul-t : goal.overflow_mul-t
overflow_mul-t c =
    let p = c.requires in
    product_fits _ _ (omega (arith, p.1.to_part, p.1.small)) p.0.small

pub overflow_mul-s : goal.overflow_mul-s
overflow_mul-s c =
    let p = c.requires in
    product_fits _ _ (omega (arith, p.0.from_part, p.0.small)) p.1.small

pub returns-then-t-s : goal.returns-then-t-s
unfolding overlaps
returns-then-t-s c =
    simp (lt-ltb _ _ c.if-s.false, lt-ltb _ _ c.if-t.false, le-ltb _ _ c.if-t-s.true)

pub overflow_mul-result : goal.overflow_mul-result
overflow_mul-result c =
    let p = c.requires in
    product_fits _ _ (omega (arith, p.1.from_part, p.1.small)) p.0.small

pub overflow_mul-result-2 : goal.overflow_mul-result-2
overflow_mul-result-2 c =
    let p = c.requires in
    product_fits _ _ (omega (arith, p.0.to_part, p.0.small)) p.1.small

pub returns : goal.returns
unfolding overlaps
returns c =
    last_decides _ _ _ _ (lt-ltb _ _ c.if-s.false) (lt-ltb _ _ c.if-t.false) (lt-ltb _ _ c.if-t-s.false)
