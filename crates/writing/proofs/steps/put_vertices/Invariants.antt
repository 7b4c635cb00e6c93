use mathlib.Core.List.{List}
use Prim.Native.Nat.{ℕ}
use lib.IntN.{ℤ}
use lib.ListN.{length}
use Rattle.layout.specs.Sheet.{slots}
use Rattle.layout.specs.Slots.{coordinates_in}
use Rattle.endian.specs.Placed.{number_bytes}
use Rattle.endian.proofs.Running.{Running}
use Rattle.writing.proofs.steps.put_vertices.Given as goal

abbrev bytes : List ℤ → List ℕ → ℕ → List ℕ
bytes xs records j = number_bytes (coordinates_in xs records j) (length (coordinates_in xs records j))

abbrev pub invariant-loop-i : goal.invariant-loop-i
invariant-loop-i l = Running (bytes l.standing.xs.now l.standing.records.now) l.from slots l.initial.b l.i l.b l.at
