use mathlib.Core.Path.{◌≡◌}
use lib.ListN.{length}
use Rattle.plane.specs.Folds.{turns}
use Rattle.bands.specs.Bands.{bands, mark_at}
use Rattle.bands.proofs.mark.Given as goal

-- The loop's invariant: the words after the marks of the vertices up to e.

abbrev pub invariant-loop-e : goal.invariant-loop-e
invariant-loop-e l = (length l.words ≡ bands) × (l.words ≡ turns (mark_at l.ends) l.e l.initial.words)
