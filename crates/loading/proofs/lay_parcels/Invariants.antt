use mathlib.Core.Path.{◌≡◌}
use Rattle.layout.specs.Sheet.{sheet_of}
use Rattle.layout.specs.Layout.{layout}
use Rattle.layout.specs.BoxList.{Boxed}
use Rattle.loading.proofs.Loading.{loaded}
use Rattle.loading.proofs.lay_parcels.Given as goal

-- The loop's invariant: the sheet is the layout of the parcels so far, and the list has their boxes.

abbrev pub invariant-loop-k : goal.invariant-loop-k
invariant-loop-k l = (sheet_of l.xs l.records l.relations ≡ layout (loaded l.card.bytes.now l.k)) × Boxed l.boxes l.xs l.records
