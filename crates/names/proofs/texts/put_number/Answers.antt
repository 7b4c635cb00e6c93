use mathlib.Core.List.{[], ◌∷◌}
use native.Mathlib.Omega.{arith}
use Rattle.names.specs.Numbers.{decimal}
use Rattle.names.specs.Steps.{Put}
use Rattle.names.proofs.Putting.{put_then, room_first, room_next}
use Rattle.names.proofs.Decimals.{put_decimal}
use Rattle.names.proofs.texts.put_number.Goals as goal
use Rattle.names.proofs.texts.put_number.Goals.{After-put_natural-next}

first : (c : After-put_natural-next)
    → let a = c.args in
    Put a.out.now a.at (decimal a.n) c.put_natural-next.result c.put_natural-next.new.out
first c =
    put_decimal (omega arith) (room_first c.args.at _ (decimal c.args.n) _ c.requires) c.put_natural-next.ensures

pub put_byte-requires : goal.put_byte-requires
put_byte-requires c =
    room_next (decimal c.args.n) (c.args.end ∷ []) (first (goal.at.put_byte-requires c).After-put_natural-next) c.requires

pub returns : goal.returns
returns c =
    let a = c.args in
    put_then (decimal a.n) (a.end ∷ []) (first (goal.at.returns c).After-put_natural-next) c.put_byte.ensures
