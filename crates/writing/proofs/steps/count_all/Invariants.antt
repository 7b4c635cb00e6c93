use mathlib.Core.Bool.{not}
use Rattle.plane.specs.TileSet.{one_if}
use Rattle.region.specs.Region.{most_rings, most_vertices, last_end}
use Rattle.layout.specs.Sheet.{slots}
use Rattle.layout.specs.Slots.{rings_in, empty_in, ends_in}
use Rattle.card.proofs.Sums.{Summing}
use Rattle.writing.proofs.steps.count_all.Given as goal

-- The loop's invariant: the three sums over the slots so far.

abbrev pub invariant-loop-i : goal.invariant-loop-i
invariant-loop-i l = Summing (λ j. one_if (not (empty_in l.standing.records.now j))) 1 slots l.i l.parcels × Summing (λ j. rings_in l.standing.records.now j) most_rings slots l.i l.rings × Summing (λ j. last_end (ends_in l.standing.records.now j)) most_vertices slots l.i l.vertices
