use mathlib.Core.Path.{◌≡◌, refl, sym, ◌∙◌}
use mathlib.Core.Bool.{Bool, true, false}
use Prim.Native.Nat.{ℕ, ◌-◌, ◌≤◌, ◌<◌}
use native.Mathlib.Omega.{arith}
use borrow.Author.Tests.{lt-ltb, le-ltb}
use lib.ListN.{get_or}
use Rattle.plane.specs.Choice.{pick}
use Rattle.plane.specs.declared.Edge.{Edge}
use Rattle.matrix.specs.declared.GridLines.{GridLines}
use Rattle.drawn.specs.Steps.{near, near_row}
use Rattle.drawn.proofs.near_in_row.Goals as goal

module _ (g : GridLines) (e : Edge) (i columns : ℕ) where
  past : g.rows ≤ i → 0 ≡ pick (near_row g e i) columns 0
  unfolding near_row
  past h = rw (le-ltb i g.rows h) refl

  abbrev comes : Bool
  comes = near e.ay e.by (get_or g.up (g.rows - 1 - i) 0) (get_or g.up (g.rows - i) 0)

  there : i < g.rows → comes ≡ true → columns ≡ pick (near_row g e i) columns 0
  unfolding near_row
  there h p = rw (lt-ltb i g.rows h, p) refl

  not_there : i < g.rows → comes ≡ false → 0 ≡ pick (near_row g e i) columns 0
  unfolding near_row
  not_there h p = rw (lt-ltb i g.rows h, p) refl

pub returns-then-rows-i : goal.returns-then-rows-i
returns-then-rows-i c = let a = c.args in (past a.g a.e a.i a.columns c.if-rows-i.true, omega arith)

pub returns-then-near : goal.returns-then-near
returns-then-near c =
    let a = c.args in
    (there a.g a.e a.i a.columns (omega (arith, c.if-rows-i.false)) (sym c.near.ensures ∙ c.if-near.true), omega arith)

pub returns : goal.returns
returns c =
    let a = c.args in
    (not_there a.g a.e a.i a.columns (omega (arith, c.if-rows-i.false)) (sym c.near.ensures ∙ c.if-near.false), omega arith)
