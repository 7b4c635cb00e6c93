use mathlib.Core.Path.{◌≡◌}
use mathlib.Core.Bool.{false}
use Prim.Native.Nat.{ℕ, ◌<◌}
use Rattle.card.specs.CardNumber.{wrong_entry}
use Rattle.card.proofs.rules.wrong_parcels.Given as goal

abbrev pub invariant-loop-k : goal.invariant-loop-k
invariant-loop-k l = (j : ℕ) → j < l.k → wrong_entry l.card.bytes.now j ≡ false
