use mathlib.Core.Path.{◌≡◌, ◌∙◌, ap}
use mathlib.Core.List.{List}
use Prim.Native.Nat.{ℕ, ◌≤◌}
use Rattle.plane.specs.declared.Box.{Box}
use Rattle.plane.specs.Placed.{BoxInPlaces}
use Rattle.region.specs.Region.{Region}
use Rattle.region.specs.Outline.{drawn_by}
use Rattle.region.specs.Rules.{Keeps}
use Rattle.relation.specs.Relation.{region_box}
use Rattle.relation.proofs.Regions.{region_box_in_places}
use Rattle.matrix.specs.declared.GridLines.{GridLines}
use Rattle.matrix.specs.Kept.{grid_of}
use Rattle.matrix.proofs.Kept.{kept_size}
use Rattle.drawing.specs.Drawing.{drawn_cells}
use Rattle.drawn.specs.Drawn.{DrawnMatrix}
use Rattle.drawn.specs.Drawn.{drawn_for}
use Rattle.drawn.specs.Steps.{marked_by}
use Rattle.drawn.proofs.Steps.{cells_are}
use Rattle.drawn.proofs.matrix_drawn.Goals as goal
use Rattle.drawn.proofs.matrix_drawn.Goals.{After-grid_of-g, Start}

in_places : {b : Box} {R : Region} → b ≡ region_box R → Keeps 4 R → BoxInPlaces b
in_places e kept = rw e (region_box_in_places kept)

whole : (g : GridLines) (a b : Box) (first second : Region) (cells : List ℕ) → g ≡ grid_of a b → cells ≡ drawn_cells a b first second
    → ◌≡◌ {A = DrawnMatrix} (record { number = 0; region = 0; ring = 0; rows = g.rows; columns = g.columns; cells = cells }) (drawn_for a b first second)
unfolding drawn_for
whole g a b first second cells e f =
    let n = kept_size a b g e in
    λ i. record { number = 0; region = 0; ring = 0; rows = n.rows_are i; columns = n.columns_are i; cells = f i }

abbrev one : Start → Region
one s = drawn_by s.args.first

abbrev two : Start → Region
two s = drawn_by s.args.second

few_rows : (c : After-grid_of-g) → c.grid_of-g.result.rows ≤ 3
few_rows c = (kept_size _ _ _ c.grid_of-g.ensures).rows_few

pub region_drawn-one-requires : goal.region_drawn-one-requires
region_drawn-one-requires c =
    let p = c.requires in
    (few_rows c, in_places c.region_box-b.ensures p.1, p.0)

pub region_drawn-two-requires : goal.region_drawn-two-requires
region_drawn-two-requires c =
    let p = c.requires in
    (few_rows (goal.at.region_drawn-two-requires c).After-grid_of-g, in_places c.region_box-a.ensures p.0, p.1)

pub cells_drawn-cells-requires : goal.cells_drawn-cells-requires
cells_drawn-cells-requires c = c.grid_of-g.ensures

pub returns : goal.returns
returns c =
    let start = (goal.at.returns c).Start in
    let a = c.region_box-a.result in
    let b = c.region_box-b.result in
    let g = c.grid_of-g.ensures in
    let ea = c.region_box-a.ensures in
    let eb = c.region_box-b.ensures in
    whole c.grid_of-g.result a b (one start) (two start) c.cells_drawn-cells.result g
    (c.cells_drawn-cells.ensures
    ∙ cells_are a b (one start) (two start) (c.region_drawn-one.ensures ∙ ap (λ (k : GridLines). marked_by a b k (one start)) g) (c.region_drawn-two.ensures ∙ ap (λ (k : GridLines). marked_by b a k (two start)) g))
    ∙ (λ i. drawn_for (ea i) (eb i) (one start) (two start))
