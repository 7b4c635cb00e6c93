use mathlib.Core.Path.{◌≡◌, sym, ◌∙◌, ap}
use mathlib.Core.Bool.{Bool}
use Prim.Native.Nat.{ℕ, ◌/◌, ◌%◌}
use lib.Bits.{bit_or}
use lib.Dec.{eqb}
use Rattle.plane.specs.TileSet.{set_of, bit}
use Rattle.plane.specs.declared.Box.{Box}
use Rattle.plane.specs.declared.Edge.{Edge}
use Rattle.matrix.specs.declared.GridLines.{GridLines}
use Rattle.matrix.specs.Kept.{cell_in}
use Rattle.drawing.specs.Stays.{marks}
use Rattle.drawn.specs.Steps.{near_cell}
use Rattle.drawn.proofs.Steps.{near_marked, nothing_new}
use Rattle.drawn.proofs.with_edge.Goals as goal

module _ (own : Box) (g : GridLines) (e : Edge) (set : ℕ) where
  abbrev edge : ℕ → Bool
  edge c = marks own (cell_in g (c / 3) (c % 3)) e

  passed : {n : ℕ} → set ≡ set_of (λ c. eqb (bit set c) 1) 9 → n ≡ set_of (near_cell g e) 9 → bit_or set n ≡ set → set ≡ bit_or set (set_of edge 9)
  passed s n had =
      s
      ∙ nothing_new (λ c. eqb (bit set c) 1) (near_cell g e) edge (λ t h m. near_marked own g e (t / 3) (t % 3) m) (sym (λ i. bit_or (s i) (n i)) ∙ had ∙ s)
      ∙ ap (λ (z : ℕ). bit_or z (set_of edge 9)) (sym s)

pub returns-then-set-near_cells : goal.returns-then-set-near_cells
returns-then-set-near_cells c =
    let a = c.args in
    passed a.own a.g a.e a.set c.requires.2 c.near_cells.ensures c.if-set-near_cells.true

pub returns : goal.returns
returns c = ap (bit_or c.args.set) c.edge_marks.ensures
