use Rattle.std.proofs.Common.{◌+◌, ◌*◌, length, arith}
use Rattle.plane.proofs.Lists.{tab_all}
use Rattle.endian.proofs.read_all.Goals as goal

pub returns : goal.returns
returns g c =
    let n = g.T.LittleEndian in
    tab_all (λ k. n.read c.args.b.now (c.args.at + n.SIZE * k)) n.none (length c.args.xs.now) c.loop-k.xs c.loop-k.auto.xs (λ k l. c.loop-k.invariant k (omega arith))
