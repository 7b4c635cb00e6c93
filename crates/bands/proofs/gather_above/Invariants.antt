use mathlib.Core.Path.{◌≡◌}
use mathlib.Core.List.{List}
use Prim.Native.Nat.{ℕ, suc, ◌-◌, ◌≤◌, ◌<◌}
use lib.ListN.{length, get_or}
use Rattle.bands.specs.Bands.{bands, joined_to}
use Rattle.bands.proofs.gather_above.Given as goal

-- The loop's invariant: the bands from b on are done, and the word has all of them.

abbrev pub downward : List ℕ → ℕ → ℕ
downward t k = get_or t (bands - suc k) 0

abbrev pub invariant-loop-b : goal.invariant-loop-b
invariant-loop-b l = (length l.above ≡ bands) × (l.joined ≡ joined_to (downward l.words) (bands - l.b)) × ((a : ℕ) → l.b ≤ a → a < bands → get_or l.above a 0 ≡ joined_to (downward l.words) (bands - a))
