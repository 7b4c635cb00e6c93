use mathlib.Core.Path.{sym, ap, ◌∙◌}
use mathlib.Core.Logic.{inl, inr}
use Prim.Native.Nat.{◌<◌}
use native.Mathlib.Omega.{arith}
use Rattle.matrix.specs.declared.GridLines.{GridLines}
use Rattle.matrix.specs.Holding.{row_count, column_count}
use Rattle.matrix.specs.Kept.{cell_in, rectangle_of}
use Rattle.matrix.proofs.Kept.{kept_size, cell_kept}
use Rattle.matrix.proofs.Matrix.{value_is, value_outside}
use Rattle.matrix.proofs.Regions.cell_value.Goals as goal

pub returns-then-g-i : goal.returns-then-g-i
returns-then-g-i c =
    let a = c.args.self in
    let n = kept_size a.a a.b a.grid a.gridded in
    sym (value_outside a.a a.b a.of_a a.of_b c.args.i c.args.j (inl (omega (arith, c.if-g-i.true))))

pub returns-then-g-j : goal.returns-then-g-j
returns-then-g-j c =
    let a = c.args.self in
    let n = kept_size a.a a.b a.grid a.gridded in
    sym (value_outside a.a a.b a.of_a a.of_b c.args.i c.args.j (inr (omega (arith, c.if-g-j.true))))

pub cell_at-cell-requires : goal.cell_at-cell-requires
cell_at-cell-requires c =
    let a = c.args.self in
    let n = kept_size a.a a.b a.grid a.gridded in
    (omega arith, n.rows_few, omega (arith, c.if-g-j.false))

pub returns : goal.returns
returns c =
    let a = c.args.self in
    let i = c.args.i in
    let j = c.args.j in
    let n = kept_size a.a a.b a.grid a.gridded in
    let h : i < row_count a.a a.b = omega arith in
    let k : j < column_count a.a a.b = omega arith in
    let e =
    ap rectangle_of c.cell_at-cell.ensures
    ∙ ap (λ (g : GridLines). rectangle_of (cell_in g i j)) a.gridded
    ∙ cell_kept a.a a.b i j h k in
    c.value_of.ensures
    ∙ simp (c.holds_region.ensures, c.holds_region-2.ensures, e)
    (sym (value_is a.a a.b a.of_a a.of_b i j h k))
