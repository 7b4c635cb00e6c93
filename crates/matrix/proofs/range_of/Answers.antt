use Rattle.std.proofs.Common.{arith, leb}
use Rattle.plane.proofs.Bytes.{byte_is, byte_le}
use Rattle.matrix.specs.Holding.{range_of}
use Rattle.matrix.proofs.range_of.Goals as goal

pub returns : goal.returns
unfolding range_of
returns c =
    let a = c.args in
    let h = c.from.ensures in
    let k = c.from-2.ensures in
    (simp (h, k, byte_is), omega (arith, h, k, byte_le (leb a.lo a.p), byte_le (leb a.hi a.p)))
