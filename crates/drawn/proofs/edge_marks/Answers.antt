use mathlib.Core.Path.{◌≡◌, sym, ◌∙◌}
use mathlib.Core.Bool.{Bool}
use Rattle.drawing.proofs.Marks.{stay_fits}
use Rattle.drawing.specs.Stays.{StayFits, stay_of}
use Rattle.drawing.specs.declared.Stay.{Stay}
use Prim.Native.Nat.{ℕ, ◌≤◌}
use Rattle.drawn.proofs.Steps.{edge_none, edge_by}
use Rattle.drawn.proofs.edge_marks.Goals as goal
use Rattle.drawn.proofs.edge_marks.Goals.{After-stay_of-east, Start}

fits : (a b lo hi : ℕ) (up : Bool) {s : Stay} → a ≤ 2000000 → b ≤ 2000000 → s ≡ stay_of a b lo hi up → StayFits s
fits a b lo hi up ha hb e = rw e (stay_fits a b lo hi up ha hb)

-- what the three columns ask of the rows
module _ (c : After-stay_of-east) where
  west_fits : StayFits c.stay_of-west.result
  west_fits = fits _ _ _ _ _ c.requires.1.ax c.requires.1.bx c.stay_of-west.ensures

  middle_fits : StayFits c.stay_of-middle.result
  middle_fits = fits _ _ _ _ _ c.requires.1.ax c.requires.1.bx c.stay_of-middle.ensures

  east_fits : StayFits c.stay_of-east.result
  east_fits = fits _ _ _ _ _ c.requires.1.ax c.requires.1.bx c.stay_of-east.ensures

pub returns-then-equal_ends : goal.returns-then-equal_ends
returns-then-equal_ends c = let a = c.args in edge_none a.own a.g a.e (sym c.equal_ends.ensures ∙ c.if-equal_ends.true)

pub marks_in_row-top-requires : goal.marks_in_row-top-requires
marks_in_row-top-requires c = (c.requires.0, c.requires.1, west_fits c, middle_fits c, east_fits c)

pub marks_in_row-centre-requires : goal.marks_in_row-centre-requires
marks_in_row-centre-requires c =
    let past = (goal.at.marks_in_row-centre-requires c).After-stay_of-east in
    (c.requires.0, c.requires.1, west_fits past, middle_fits past, east_fits past)

pub marks_in_row-bottom-requires : goal.marks_in_row-bottom-requires
marks_in_row-bottom-requires c =
    let past = (goal.at.marks_in_row-bottom-requires c).After-stay_of-east in
    (c.requires.0, c.requires.1, west_fits past, middle_fits past, east_fits past)

pub returns : goal.returns
returns c =
    let s = c.args in
    edge_by s.own s.g s.e (sym c.equal_ends.ensures ∙ c.if-equal_ends.false) c.counted-past.ensures c.counted-above.ensures
    c.stay_of-west.ensures c.stay_of-middle.ensures c.stay_of-east.ensures
    c.marks_in_row-top.ensures.0 c.marks_in_row-centre.ensures.0 c.marks_in_row-bottom.ensures.0
