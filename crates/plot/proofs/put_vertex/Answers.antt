use mathlib.Core.List.{[], ◌∷◌}
use Rattle.names.specs.Numbers.{decimal}
use Rattle.svg.proofs.Inking.{on_then}
use Rattle.plot.specs.Drawn.{space_text}
use Rattle.plot.proofs.put_vertex.Goals as goal

pub returns : goal.returns
returns c =
    let v = c.args.v in
    on_then (decimal v.x ∷ []) _ c.number.ensures (on_then (space_text ∷ []) _ c.text.ensures (on_then (decimal v.y ∷ []) (space_text ∷ []) c.number-2.ensures c.text-2.ensures))
