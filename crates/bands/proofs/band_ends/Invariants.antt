use mathlib.Core.Path.{◌≡◌}
use lib.ListN.{length}
use Rattle.plane.specs.Lists.{stores}
use Rattle.ring.specs.Edges.{corner}
use Rattle.bands.specs.Axis.{place_in, number_of}
use Rattle.bands.specs.Bands.{band_of}
use Rattle.bands.proofs.band_ends.Given as goal

-- The loop's invariant: the list after the stores for the vertices before k.

abbrev pub invariant-loop-k : goal.invariant-loop-k
invariant-loop-k l = (length l.ends ≡ length l.initial.ends) × (l.ends ≡ stores (λ k. k) (λ k. band_of l.low l.shift (place_in (number_of l.axis) (corner l.ring.outline.now l.ring.from k))) l.k l.initial.ends)
