use mathlib.Core.Path.{◌≡◌}
use lib.ListN.{length}
use Rattle.layout.specs.Sheet.{slots}
use Rattle.layout.specs.BoxList.{BoxedTo}
use Rattle.placing.proofs.boxes.find_boxes.Given as goal

-- The loop's invariant: the boxes of the slots so far are found.

abbrev pub invariant-loop-k : goal.invariant-loop-k
invariant-loop-k l = (length l.boxes ≡ slots) × BoxedTo l.boxes l.standing.xs.now l.standing.records.now l.k
