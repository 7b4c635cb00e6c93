use mathlib.Core.Path.{◌≡◌}
use mathlib.Core.Bool.{true}
use mathlib.Core.List.{List}
use Prim.Native.Nat.{ℕ, ◌-◌}
use lib.IntN.{ℤ}
use Rattle.plane.specs.Place.{place_of, in_range}
use Rattle.plane.specs.Folds.{least_to, greatest_to}
use Rattle.ring.specs.Edges.{corner}
use Rattle.circuit.proofs.Ring.own_box.Given as goal

-- The loop's invariant: after the first k vertices, one of which is there before the loop, the places of the four coordinates are the
-- least and the greatest of theirs.

abbrev pub x_of : List ℤ → (from i : ℕ) → ℕ
x_of xs from i = place_of (corner xs from i).x

abbrev pub y_of : List ℤ → (from i : ℕ) → ℕ
y_of xs from i = place_of (corner xs from i).y

-- a coordinate in range, and its place
abbrev pub Placed : ℤ → ℕ → Type 0
Placed z p = (in_range z ≡ true) × (place_of z ≡ p)

abbrev pub invariant-loop-k : goal.invariant-loop-k
invariant-loop-k l =
    let x = x_of l.self.outline.now l.self.from in
    let y = y_of l.self.outline.now l.self.from in
    Placed l.west (least_to x (l.k - 1))
    × Placed l.south (least_to y (l.k - 1))
    × Placed l.east (greatest_to x (l.k - 1))
    × Placed l.north (greatest_to y (l.k - 1))
