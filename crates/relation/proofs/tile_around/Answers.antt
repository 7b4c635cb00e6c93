use mathlib.Core.Path.{◌≡◌, sym, ◌∙◌, ap₂}
use Prim.Native.Nat.{ℕ, ◌+◌, ◌-◌, ◌*◌}
use native.Mathlib.Omega.{arith}
use borrow.Author.Tests.{eq-eqb, ne_eqb}
use Rattle.edge.specs.Walk.{tile_of}
use Rattle.relation.specs.OneTile.{lines_before, lines_up_to, tile_around}
use Rattle.relation.proofs.tile_around.Goals as goal
use Rattle.relation.proofs.tile_around.Goals.{After-lines_up_to-to_row}

-- ---- the four counts
module _ (c : After-lines_up_to-to_row) where
  abbrev count : ℕ → ℕ → ℕ
  count column row = 3 * column + row

  from_sides : let a = c.args in
      count c.lines_before-column.result c.lines_before-row.result
      ≡ count (lines_before a.b.west a.b.east a.own.west) (lines_before a.b.south a.b.north a.own.south)
  from_sides = ap₂ count c.lines_before-column.ensures.0 c.lines_before-row.ensures.0

  to_sides : let a = c.args in
      count c.lines_up_to-to_column.result c.lines_up_to-to_row.result
      ≡ count (lines_up_to a.b.west a.b.east a.own.east) (lines_up_to a.b.south a.b.north a.own.north)
  to_sides = ap₂ count c.lines_up_to-to_column.ensures.0 c.lines_up_to-to_row.ensures.0

pub overflow_mul-column : goal.overflow_mul-column
overflow_mul-column c = record { fits = omega (arith, c.lines_before-column.ensures.1) }

pub overflow_add-column : goal.overflow_add-column
overflow_add-column c = record { fits = omega (arith, c.lines_before-column.ensures.1, c.lines_before-row.ensures.1) }

pub overflow_mul-to_column : goal.overflow_mul-to_column
overflow_mul-to_column c = record { fits = omega (arith, c.lines_up_to-to_column.ensures.1) }

pub overflow_add-to_column : goal.overflow_add-to_column
overflow_add-to_column c = record { fits = omega (arith, c.lines_up_to-to_column.ensures.1, c.lines_up_to-to_row.ensures.1) }

pub returns-then-column-row : goal.returns-then-column-row
unfolding tile_around
returns-then-column-row c =
    let s = (goal.at.returns-then-column-row c).After-lines_up_to-to_row in
    simp (ne_eqb _ _ (λ q. c.if-column-row.true (from_sides s ∙ q ∙ sym (to_sides s))))

pub overflow_sub-result : goal.overflow_sub-result
overflow_sub-result c = omega (arith, c.lines_before-row.ensures.1)

pub overflow_add-result : goal.overflow_add-result
overflow_add-result c = record { fits = omega (arith, c.lines_before-column.ensures.1) }

pub returns : goal.returns
unfolding tile_around tile_of
returns c =
    let s = (goal.at.returns c).After-lines_up_to-to_row in
    let x = c.lines_before-column in
    let y = c.lines_before-row in (
      ap₂ (λ (column row : ℕ). 3 * (2 - row) + column) x.ensures.0 y.ensures.0 ∙ simp (eq-eqb _ _ (sym (from_sides s) ∙ c.if-column-row.false ∙ to_sides s)),
      omega (arith, x.ensures.1),
    )
