use mathlib.Core.Path.{◌∙◌, ap₂}
use lib.Dec.{eqb}
use lib.IntN.{ℤ}
use mir.Syntax.{w64}
use mir.Val.{of_z}
use Rattle.meet.proofs.Signs.{line_is}
use borrow.Author.Rules.{rules}
use Rattle.meet.proofs.in_line.Goals as goal

pub returns : goal.returns
returns c =
    let a = c.args in
    let p = c.requires in
    let u = c.product in
    let v = c.product-2 in
    ap₂ (λ (x y : ℤ). eqb (of_z w64 x) (of_z w64 y)) u.ensures v.ensures
    ∙ line_is a.g a.h p.2 p.3 (rw (← u.ensures) (record { sfits = u.type_inv })) (rw (← v.ensures) (record { sfits = v.type_inv }))
