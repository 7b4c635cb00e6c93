use Rattle.std.proofs.Common.{arith}
use Rattle.endian.specs.Bytes.{u16_bytes}
use Rattle.endian.proofs.Placed.{placed_part}
use Rattle.endian.proofs.U16LittleEndian.put.Goals as goal

pub returns : goal.returns
returns c = placed_part c.args.b.now (u16_bytes c.args.self) c.args.at (omega arith) (cc) (omega arith)
