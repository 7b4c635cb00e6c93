use mathlib.Core.Path.{◌∙◌, ap}
use mathlib.Core.Bool.{Bool}
use Prim.Native.Nat.{◌+◌, ◌*◌}
use Rattle.plane.specs.TileSet.{one_if}
use Rattle.drawn.specs.Steps.{near_column}
use Rattle.drawn.proofs.Steps.{near_set}
use Rattle.drawn.proofs.near_cells.Goals as goal

pub returns : goal.returns
unfolding near_column
returns c =
    let a = c.args in
    let x = c.weight-west.ensures.0 ∙ ap (λ (t : Bool). one_if t * 1) c.near.ensures in
    let y = c.weight-middle.ensures.0 ∙ ap (λ (t : Bool). one_if t * 2) c.near-2.ensures in
    let z = c.weight-east.ensures.0 ∙ ap (λ (t : Bool). one_if t * 4) c.near-3.ensures in
    near_set a.g a.e _ _ _ _ (λ i. x i + y i + z i) c.near_in_row-top.ensures.0 c.near_in_row-centre.ensures.0 c.near_in_row-bottom.ensures.0
