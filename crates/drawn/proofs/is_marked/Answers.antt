use mathlib.Core.Path.{◌≡◌, refl, ◌∙◌}
use mathlib.Core.Bool.{true, false}
use Prim.Native.Nat.{ℕ}
use borrow.Author.Tests.{eq-eqb, ne_eqb, not-true, not-false}
use lib.Dec.{eqb}
use Rattle.plane.specs.TileSet.{bit}
use Rattle.plane.specs.declared.Box.{Box}
use Rattle.drawing.specs.Drawing.{same_box}
use Rattle.drawn.specs.declared.Marked.{Marked}
use Rattle.drawn.specs.Steps.{is_marked}
use Rattle.drawn.proofs.is_marked.Goals as goal

module _ (m : Marked) (k b : Box) (c : ℕ) where
  by_edge : eqb (bit m.cells c) 1 ≡ true → true ≡ is_marked m k b c
  unfolding is_marked
  by_edge p = rw p refl

  by_none : eqb (bit m.cells c) 1 ≡ false → m.centre ≡ false → false ≡ is_marked m k b c
  unfolding is_marked
  by_none p q = rw (p, q) refl

  by_centre : eqb (bit m.cells c) 1 ≡ false → m.centre ≡ true → same_box k b ≡ is_marked m k b c
  unfolding is_marked
  by_centre p q = rw (p, q) refl

pub returns-then-m-k-eq1 : goal.returns-then-m-k-eq1
returns-then-m-k-eq1 c =
    let a = c.args in
    by_edge a.m a.cell a.other a.k (eq-eqb _ 1 c.if-m-k-eq1.true)

pub returns-then-not-m : goal.returns-then-not-m
returns-then-not-m c =
    let a = c.args in
    by_none a.m a.cell a.other a.k (ne_eqb _ 1 c.if-m-k-eq1.false) (not-true a.m.centre c.if-not-m.true)

pub returns : goal.returns
returns c =
    let a = c.args in
    c.same_box.ensures ∙ by_centre a.m a.cell a.other a.k (ne_eqb _ 1 c.if-m-k-eq1.false) (not-false a.m.centre c.if-not-m.false)
