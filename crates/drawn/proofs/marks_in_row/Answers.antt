use mathlib.Core.Path.{◌∙◌, ap}
use native.Mathlib.Omega.{arith}
use Rattle.drawing.specs.declared.Stay.{Stay}
use Rattle.drawing.proofs.Marks.{stay_fits}
use Rattle.drawn.specs.Steps.{row_stay, row_set}
use Rattle.drawn.proofs.Steps.{row_past}
use Rattle.drawn.proofs.marks_in_row.Goals as goal

pub returns-then-rows-i : goal.returns-then-rows-i
returns-then-rows-i c =
    let a = c.args in
    (row_past a.g a.e a.above a.i a.west a.middle a.east c.if-rows-i.true, omega arith)

pub row_marks-requires : goal.row_marks-requires
row_marks-requires c =
    let p = c.requires in
    (rw c.stay_of-up.ensures (stay_fits _ _ _ _ _ p.1.ay p.1.by), p.2, p.3, p.4)

pub returns : goal.returns
unfolding row_stay
returns c =
    let a = c.args in
    (c.row_marks.ensures.0 ∙ ap (λ (s : Stay). row_set s a.west a.middle a.east) c.stay_of-up.ensures, c.row_marks.ensures.1)
