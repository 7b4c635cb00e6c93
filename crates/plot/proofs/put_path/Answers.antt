use mathlib.Core.List.{[], ◌∷◌}
use Rattle.svg.proofs.Inking.{on_then}
use Rattle.plot.specs.Drawn.{path_start_text, path_end_text, rings_ink}
use Rattle.plot.proofs.put_path.Goals as goal

pub returns : goal.returns
returns c =
    let s = c.args.s in
    on_then (path_start_text ∷ []) _ c.text.ensures (on_then (rings_ink s s.rings) (path_end_text ∷ []) c.put_rings.ensures c.text-2.ensures)
