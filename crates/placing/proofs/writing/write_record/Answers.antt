use Prim.Native.Nat.{ℕ, ◌+◌, ◌-◌, ◌*◌}
use native.Mathlib.Omega.{arith}
use lib.ListN.{length}
use Rattle.layout.proofs.Middle.{record_written}
use Rattle.placing.proofs.writing.write_record.Goals as goal

pub returns : goal.returns
returns c =
    let ends = c.args.ends.now in
    let at : ℕ = 9 * c.args.slot in
    let k : ℕ = length ends in
    record_written at (at + 1) (at + 1 + k) (at + 1 + k - (at + 1)) (at + 9 - (at + 1 + k)) 9 c.args.records.now ends c.copy_from_slice.new.self c.fill.new.self
    (omega arith) (omega arith) (omega arith) (omega arith) (omega arith) c.copy_from_slice.ensures.after
    (c.fill.ensures.after (λ y e. e))
