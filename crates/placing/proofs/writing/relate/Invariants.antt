use mathlib.Core.Path.{◌≡◌}
use Rattle.plane.specs.Folds.{turns}
use Rattle.layout.specs.Steps.{cell_for, crossed}
use Rattle.placing.proofs.writing.relate.Given as goal

abbrev pub invariant-loop-k : goal.invariant-loop-k
invariant-loop-k l = l.relations ≡ turns (crossed (cell_for l.standing.xs.now l.standing.records.now) l.slot) l.k l.initial.relations
