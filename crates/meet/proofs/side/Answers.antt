use mathlib.Core.Path.{◌≡◌, ◌∙◌, ap₂}
use native.Mathlib.Omega.{arith}
use native.Mathlib.Nat.{mul-le-mul}
use Prim.Native.Nat.{ℕ, ◌≤◌}
use lib.IntN.{ℤ, ◌-ℤ◌}
use mir.Syntax.{w64}
use mir.Val.{SFits, to_z, of_z}
use mir.Facts.{to_z-of_z}
use Rattle.plane.specs.declared.Edge.{Edge}
use Rattle.plane.specs.Placed.{EdgeInPlaces}
use Rattle.meet.specs.Signs.{product_of}
use Rattle.meet.proofs.Signs.{fits, plus, minus, diff_side, side_is}
use borrow.Author.Rules.{rules}
use Rattle.meet.proofs.side.Goals as goal
use Rattle.meet.proofs.side.Goals.{After-product-2}

-- the two products, as the code has them
subtracted : (c : After-product-2)
    → let g = c.args in
    to_z w64 (of_z w64 c.product.result) -ℤ to_z w64 (of_z w64 c.product-2.result)
    ≡ product_of g.g.bx g.g.ax g.y g.g.ay -ℤ product_of g.g.by g.g.ay g.x g.g.ax
subtracted c =
    let p : SFits w64 c.product.result = record { sfits = c.product.type_inv } in
    let q : SFits w64 c.product-2.result = record { sfits = c.product-2.type_inv } in
    ap₂ (λ (x y : ℤ). x -ℤ y) (to_z-of_z p ∙ c.product.ensures) (to_z-of_z q ∙ c.product-2.ensures)

side_fits : (g : Edge) (x y : ℕ) → EdgeInPlaces g → x ≤ 2000000 → y ≤ 2000000
    → SFits w64 (product_of g.bx g.ax y g.ay -ℤ product_of g.by g.ay x g.ax)
side_fits g x y p hx hy =
    fits (product_of g.bx g.ax y g.ay -ℤ product_of g.by g.ay x g.ax) (plus g x y) (minus g x y) (diff_side g x y)
    (omega (arith, mul-le-mul p.bx hy, mul-le-mul p.ax p.ay, mul-le-mul p.by p.ax, mul-le-mul p.ay hx))
    (omega (arith, mul-le-mul p.bx p.ay, mul-le-mul p.ax hy, mul-le-mul p.by hx, mul-le-mul p.ay p.ax))

pub overflow_sub-result : goal.overflow_sub-result
overflow_sub-result c =
    let a = c.args in
    let p = c.requires in
    rw (subtracted (goal.at.overflow_sub-result c).After-product-2) (side_fits a.g a.x a.y p.0 p.1 p.2)

pub returns : goal.returns
returns c =
    let a = c.args in
    let p = c.requires in
    rw (subtracted (goal.at.returns c).After-product-2) (to_z-of_z (side_fits a.g a.x a.y p.0 p.1 p.2) ∙ side_is a.g a.x a.y)
