use mathlib.Core.Path.{refl}
use Prim.Native.Nat.{◌*◌}
use native.Mathlib.Omega.{arith}
use Rattle.layout.specs.Slots.{rings_in}
use Rattle.storage.proofs.slots.ring_count.Goals as goal

pub overflow_cast-result : goal.overflow_cast-result
overflow_cast-result c = omega (arith, (c.type_inv.records (9 * c.args.slot)).fits)

pub returns : goal.returns
unfolding rings_in
returns c = refl
