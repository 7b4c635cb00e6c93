use mathlib.Core.Path.{ap, ◌∙◌}
use mathlib.Core.List.{List}
use Prim.Native.Nat.{ℕ}
use Rattle.plane.proofs.Folds.{turns_none, turns_more}
use Rattle.layout.specs.Steps.{cell_for, crossed}
use Rattle.placing.proofs.writing.relate.Goals as goal

pub loop-k-init : goal.loop-k-init
loop-k-init c = turns_none _ _

pub loop-k-preserved : goal.loop-k-preserved
loop-k-preserved c =
    let p = c.loop-k in
    let a = c.args in
    c.relate_one.ensures ∙ ap (λ (l : List ℕ). crossed (cell_for a.standing.now.xs.now a.standing.now.records.now) a.slot p.k l) p.invariant
    ∙ turns_more (crossed (cell_for a.standing.now.xs.now a.standing.now.records.now) a.slot) p.k a.relations.now
