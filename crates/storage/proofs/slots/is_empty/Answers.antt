use mathlib.Core.Path.{ap}
use Prim.Native.Nat.{ℕ}
use lib.Dec.{eqb}
use Rattle.storage.proofs.slots.is_empty.Goals as goal

pub returns : goal.returns
returns c = ap (λ (n : ℕ). eqb n 0) c.ring_count.ensures
