use Prim.Native.Nat.{◌%◌}
use native.Mathlib.Omega.{arith}
use lib.Count.{ones-le}
use Rattle.calls.specs.Readings.{tile_count}
use Rattle.calls.proofs.Readings.{bits_ones}
use Rattle.reading.proofs.tiles.Goals as goal

pub overflow_cast-result : goal.overflow_cast-result
overflow_cast-result c = omega (arith, ones-le 9 (c.args.relation % 512) (omega arith))

pub returns : goal.returns
unfolding tile_count
returns c = bits_ones 9 c.args.relation
