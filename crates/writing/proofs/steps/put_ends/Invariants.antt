use mathlib.Core.List.{List}
use Prim.Native.Nat.{ℕ}
use lib.ListN.{length}
use Rattle.layout.specs.Sheet.{slots}
use Rattle.layout.specs.Slots.{ends_in}
use Rattle.endian.specs.Placed.{word_bytes}
use Rattle.endian.proofs.Running.{Running}
use Rattle.writing.proofs.steps.put_ends.Given as goal

abbrev bytes : List ℕ → ℕ → List ℕ
bytes records j = word_bytes (ends_in records j) (length (ends_in records j))

abbrev pub invariant-loop-i : goal.invariant-loop-i
invariant-loop-i l = Running (bytes l.standing.records.now) l.from slots l.initial.b l.i l.b l.at
