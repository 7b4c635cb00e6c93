use mathlib.Core.Path.{◌≡◌}
use mathlib.Core.List.{List}
use Prim.Native.Nat.{ℕ, ◌<◌, min, max}
use lib.ListN.{length, get_or}
use lib.IntN.{ℤ}
use Rattle.ring.specs.Edges.{corner, after}
use Rattle.bands.specs.Axis.{place_in, number_of}
use Rattle.simple.specs.Layout.{small}
use Rattle.simple.proofs.lay_out.Given as goal

-- The loop's invariant: the edges before k have their lower and their higher end.

abbrev pub low_of : List ℤ → (from n axis i : ℕ) → ℕ
low_of xs from n axis i = min (place_in axis (corner xs from i)) (place_in axis (after xs from n i))

abbrev pub high_of : List ℤ → (from n axis i : ℕ) → ℕ
high_of xs from n axis i = max (place_in axis (corner xs from i)) (place_in axis (after xs from n i))

abbrev pub invariant-loop-k : goal.invariant-loop-k
invariant-loop-k l = (length l.ranges.lows ≡ small)
    × (length l.ranges.highs ≡ small)
    × ((i : ℕ) → i < l.k → get_or l.ranges.lows i 0 ≡ low_of l.ring.outline.now l.ring.from l.ring.size (number_of l.axis) i)
    × ((i : ℕ) → i < l.k → get_or l.ranges.highs i 0 ≡ high_of l.ring.outline.now l.ring.from l.ring.size (number_of l.axis) i)
