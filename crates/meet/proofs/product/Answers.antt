use mathlib.Core.Path.{◌≡◌, ◌∙◌, ap₂}
use Prim.Native.Nat.{ℕ, ◌+◌, ◌*◌, ◌≤◌}
use native.Mathlib.Omega.{arith}
use native.Mathlib.Nat.{mul-le-mul}
use lib.IntN.{ℤ, pos, ◌-ℤ◌}
use mir.Syntax.{w64}
use mir.Val.{SFits, to_z, of_z}
use mir.Facts.{to_z-of_z, to_z_pos}
use Rattle.meet.specs.Signs.{product_of}
use Rattle.meet.proofs.Signs.{fits, diff_less, diff_product}
use borrow.Author.Rules.{rules}
use Rattle.meet.proofs.product.Goals as goal

-- Places are small: what the casts give is the place itself, and each difference and the product fit.

-- a difference, as the code has it
module _ (a b : ℕ) (ha : a ≤ 4000000) (hb : b ≤ 4000000) where
  less : to_z w64 a -ℤ to_z w64 b ≡ pos a -ℤ pos b
  less = ap₂ (λ (x y : ℤ). x -ℤ y) (to_z_pos w64 {n = a} (omega arith)) (to_z_pos w64 {n = b} (omega arith))

  less_fits : SFits w64 (to_z w64 a -ℤ to_z w64 b)
  less_fits = rw less (fits (pos a -ℤ pos b) a b (diff_less a b) (omega arith) (omega arith))

  less_back : to_z w64 (of_z w64 (to_z w64 a -ℤ to_z w64 b)) ≡ pos a -ℤ pos b
  less_back = to_z-of_z less_fits ∙ less

product_fits : (a b c d : ℕ) → a ≤ 4000000 → b ≤ 4000000 → c ≤ 4000000 → d ≤ 4000000 → SFits w64 (product_of a b c d)
product_fits a b c d ha hb hc hd =
    fits (product_of a b c d) (a * c + b * d) (a * d + b * c) (diff_product a b c d)
    (omega (arith, mul-le-mul ha hc, mul-le-mul hb hd)) (omega (arith, mul-le-mul ha hd, mul-le-mul hb hc))

pub overflow_sub-result : goal.overflow_sub-result
overflow_sub-result c = less_fits c.args.a c.args.b c.requires.0 c.requires.1

pub overflow_sub-result-2 : goal.overflow_sub-result-2
overflow_sub-result-2 c = less_fits c.args.c c.args.d c.requires.2 c.requires.3

pub overflow_mul-result : goal.overflow_mul-result
unfolding product_of
overflow_mul-result c =
    let a = c.args in
    let p = c.requires in
    rw (less_back a.a a.b p.0 p.1, less_back a.c a.d p.2 p.3) (product_fits a.a a.b a.c a.d p.0 p.1 p.2 p.3)

pub returns : goal.returns
unfolding product_of
returns c =
    let a = c.args in
    let p = c.requires in
    rw (less_back a.a a.b p.0 p.1, less_back a.c a.d p.2 p.3)
    (to_z-of_z (product_fits a.a a.b a.c a.d p.0 p.1 p.2 p.3))
