use Rattle.drawn.proofs.region_drawn.Goals as goal

pub returns : goal.returns
returns c = λ i. record { cells = c.region_marks-cells.ensures i; centre = c.region_centre-centre.ensures i }
