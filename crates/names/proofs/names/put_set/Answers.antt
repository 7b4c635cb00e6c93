use mathlib.Core.List.{[], ◌∷◌}
use Rattle.names.specs.Names.{names_of}
use Rattle.names.specs.Numbers.{space}
use Rattle.names.proofs.Putting.{put_then, room_first, room_next}
use Rattle.names.proofs.names.put_set.Goals as goal

pub put_names-next-requires : goal.put_names-next-requires
put_names-next-requires c =
    room_first c.args.at _ (names_of c.args.middle c.args.set) (space ∷ []) c.requires

pub put_byte-requires : goal.put_byte-requires
put_byte-requires c =
    room_next (names_of c.args.middle c.args.set) (space ∷ []) c.put_names-next.ensures c.requires

pub returns : goal.returns
returns c =
    let a = c.args in
    put_then (names_of a.middle a.set) (space ∷ []) c.put_names-next.ensures c.put_byte.ensures
