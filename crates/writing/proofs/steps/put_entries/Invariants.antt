use mathlib.Core.Bool.{not}
use mathlib.Core.List.{List}
use Prim.Native.Nat.{ℕ}
use Rattle.layout.specs.Sheet.{slots}
use Rattle.layout.specs.Slots.{rings_in, empty_in}
use Rattle.endian.proofs.Running.{Running}
use Rattle.writing.specs.Write.{entry_bytes}
use Rattle.writing.proofs.steps.put_entries.Given as goal

abbrev entry : List ℕ → ℕ → List ℕ
entry records j = entry_bytes j (not (empty_in records j)) (rings_in records j)

abbrev pub invariant-loop-i : goal.invariant-loop-i
invariant-loop-i l = Running (entry l.standing.records.now) l.from slots l.initial.b l.i l.b l.at
