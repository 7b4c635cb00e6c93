use mathlib.Core.Path.{◌≡◌}
use Prim.Native.Nat.{ℕ, suc, ◌≤◌, ◌<◌}
use lib.ListN.{length, get_or}
use Rattle.bands.specs.Bands.{bands, joined_to}
use Rattle.bands.proofs.gather_below.Given as goal

-- The loop's invariant: the bands before b are done, `joined` has all of them, and the bands from b on are as they were.

abbrev pub invariant-loop-b : goal.invariant-loop-b
invariant-loop-b l = (length l.words ≡ bands)
    × (l.joined ≡ joined_to (λ k. get_or l.initial.words k 0) l.b)
    × ((a : ℕ) → a < l.b → get_or l.words a 0 ≡ joined_to (λ k. get_or l.initial.words k 0) (suc a))
    × ((a : ℕ) → l.b ≤ a → get_or l.words a 0 ≡ get_or l.initial.words a 0)
