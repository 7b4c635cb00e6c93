use Prim.Native.Nat.{ℕ, ◌+◌, ◌-◌, ◌*◌}
use native.Mathlib.Omega.{arith}
use lib.IntN.{pos}
use lib.ListN.{length}
use Rattle.layout.proofs.Middle.{room_written}
use Rattle.placing.proofs.writing.write_room.Goals as goal

pub returns : goal.returns
returns c =
    let o = c.args.outline.now in
    let at : ℕ = 128 * c.args.slot in
    let k : ℕ = length o in
    room_written (pos 0) at (at + k) (at + k - at) (at + 128 - (at + k)) 128 c.args.xs.now o c.copy_from_slice.new.self c.fill.new.self
    (omega arith) (omega arith) (omega arith) (omega arith) c.copy_from_slice.ensures.after
    (c.fill.ensures.after (λ y e. e))
