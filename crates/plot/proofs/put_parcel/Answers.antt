use mathlib.Core.List.{[], ◌∷◌, ◌++◌}
use Prim.Native.Nat.{◌%◌}
use Rattle.names.specs.Numbers.{decimal}
use Rattle.svg.proofs.Inking.{on_then}
use Rattle.plot.specs.Drawn.{path_start_text, path_end_text, id_start_text, id_end_text, fill_at, rings_ink, parcel_ink}
use Rattle.plot.proofs.put_parcel.Goals as goal

pub returns : goal.returns
unfolding parcel_ink
returns c =
    let s = c.args.s in
    on_then (path_start_text ∷ (rings_ink s s.rings ++ (path_end_text ∷ []))) _ c.put_path.ensures
    (on_then (fill_at (s.slot % 8) ∷ []) _ c.put_fill.ensures (on_then (id_start_text ∷ []) _ c.text.ensures (on_then (decimal s.slot ∷ []) (id_end_text ∷ []) c.number.ensures c.text-2.ensures)))
