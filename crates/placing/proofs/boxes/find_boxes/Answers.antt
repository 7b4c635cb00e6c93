use mathlib.Core.Path.{sym, ap, ◌∙◌, subst}
use mathlib.Core.List.{List}
use Prim.Native.Nat.{◌+◌}
use native.Mathlib.Omega.{arith}
use lib.ListN.{length}
use Rattle.plane.specs.declared.Box.{Box}
use Rattle.layout.specs.BoxList.{BoxedTo}
use Rattle.layout.proofs.BoxList.{found_length, boxed_none, boxed_more, boxed_all}
use Rattle.placing.proofs.boxes.find_boxes.Goals as goal

pub loop-k-init : goal.loop-k-init
loop-k-init c = (omega arith, boxed_none _ _ _)

pub loop-k-preserved : goal.loop-k-preserved
loop-k-preserved c =
    let p = c.loop-k in
    let a = c.args in (
      ap length c.find_box.ensures ∙ found_length _ _ _ _ ∙ p.invariant.0,
      subst (λ (l : List Box). BoxedTo l a.standing.now.xs.now a.standing.now.records.now (p.k + 1)) (sym c.find_box.ensures)
          (boxed_more a.standing.now.xs.now a.standing.now.records.now _ p.k p.invariant.0 c.loop-k-test.true p.invariant.1),
    )

pub returns : goal.returns
returns c = let p = c.loop-k in boxed_all _ _ _ p.k p.invariant.0 (omega arith) p.invariant.1
