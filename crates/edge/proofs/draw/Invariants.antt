-- The loop's invariant: of the first j digits, the tiles for which they stand and how many there are; and the digits that are left.
use mathlib.Core.Path.{◌≡◌}
use mathlib.Core.Bool.{Bool}
use Prim.Native.Nat.{ℕ, ◌+◌, ◌/◌, ◌^◌, ◌≤◌}
use lib.Dec.{leb, eqb}
use Rattle.plane.specs.Folds.{sum_to}
use Rattle.plane.specs.TileSet.{one_if}
use Rattle.plane.proofs.TileSet.{any_set}
use Rattle.edge.specs.TileList.{digit_in}
use Rattle.edge.proofs.draw.Given as goal

abbrev pub stands_at : ℕ → ℕ → ℕ → Bool
stands_at v j t = eqb (digit_in v j) (t + 1)

abbrev pub there : ℕ → ℕ → ℕ
there v j = one_if (leb (16 ^ j) v)

abbrev pub invariant-loop-digit : goal.invariant-loop-digit
invariant-loop-digit l = (l.rest ≡ l.list / 16 ^ l._digit) × (l.set ≡ any_set (stands_at l.list) l._digit 9) × (l.count ≡ sum_to (there l.list) l._digit) × (l.count ≤ l._digit)
