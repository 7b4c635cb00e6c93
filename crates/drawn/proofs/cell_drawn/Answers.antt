use mathlib.Core.Path.{◌≡◌, refl, ◌∙◌, ap}
use mathlib.Core.Bool.{Bool, true, false, ◌&&◌}
use Prim.Native.Nat.{ℕ, ◌+◌, ◌*◌, ◌<◌, ◌≤◌}
use native.Mathlib.Omega.{arith}
use borrow.Author.Tests.{lt-ltb, le-ltb}
use lib.Dec.{ltb}
use Rattle.plane.specs.Choice.{pick}
use Rattle.plane.specs.TileSet.{one_if}
use Rattle.plane.specs.declared.Box.{Box}
use Rattle.matrix.specs.declared.GridLines.{GridLines}
use Rattle.matrix.specs.Holding.{row_count, column_count}
use Rattle.matrix.specs.Kept.{grid_of, cell_in}
use Rattle.matrix.proofs.Kept.{kept_size}
use Rattle.drawn.specs.declared.Marked.{Marked}
use Rattle.drawn.specs.Steps.{is_marked, value_by}
use Rattle.drawn.proofs.cell_drawn.Goals as goal

-- ---- the value by its tests
module _ (a b : Box) (first second : Marked) (i j : ℕ) where
  abbrev cell : Box
  cell = cell_in (grid_of a b) i j

  within : i < row_count a b → j < column_count a b
      → one_if (is_marked first cell b (3 * i + j)) + 2 * one_if (is_marked second cell a (3 * i + j)) ≡ value_by a b first second i j
  unfolding value_by
  within h k = simp (lt-ltb i (row_count a b) h, lt-ltb j (column_count a b) k)

  past_rows : row_count a b ≤ i → 0 ≡ value_by a b first second i j
  unfolding value_by
  past_rows h = simp (le-ltb i (row_count a b) h)

  past_columns : column_count a b ≤ j → 0 ≡ value_by a b first second i j
  unfolding value_by
  past_columns h = go (ltb i (row_count a b)) (ltb j (column_count a b)) (le-ltb j (column_count a b) h)
    where
      go : (x y : Bool) → y ≡ false → 0 ≡ pick (x && y) (one_if (is_marked first cell b (3 * i + j)) + 2 * one_if (is_marked second cell a (3 * i + j))) 0
      go true y e = simp e
      go false y e = refl

pub returns-then-g-i : goal.returns-then-g-i
returns-then-g-i c =
    let a = c.args in
    let n = kept_size a.a a.b a.g c.requires.0 in
    past_rows a.a a.b a.first a.second a.i a.j (omega (arith, c.if-g-i.true, n.rows_are))

pub returns-then-g-j : goal.returns-then-g-j
returns-then-g-j c =
    let a = c.args in
    let n = kept_size a.a a.b a.g c.requires.0 in
    past_columns a.a a.b a.first a.second a.i a.j (omega (arith, c.if-g-j.true, n.columns_are))

pub cell_at-cell-requires : goal.cell_at-cell-requires
cell_at-cell-requires c =
    let n = kept_size c.args.a c.args.b c.args.g c.requires.0 in
    (omega (arith, c.if-g-i.false), n.rows_few, c.requires.2)

pub returns : goal.returns
returns c =
    let a = c.args in
    let n = kept_size a.a a.b a.g c.requires.0 in
    let h : a.i < row_count a.a a.b = omega (arith, c.if-g-i.false, n.rows_are) in
    let j : a.j < column_count a.a a.b = omega (arith, c.if-g-j.false, n.columns_are) in
    let e = c.cell_at-cell.ensures ∙ ap (λ (g : GridLines). cell_in g a.i a.j) c.requires.0 in
    c.value_of.ensures
    ∙ (λ i. one_if ((c.is_marked.ensures ∙ ap (λ (x : Box). is_marked a.first x a.b (3 * a.i + a.j)) e) i)
    + 2 * one_if ((c.is_marked-2.ensures ∙ ap (λ (x : Box). is_marked a.second x a.a (3 * a.i + a.j)) e) i))
    ∙ within a.a a.b a.first a.second a.i a.j h j
