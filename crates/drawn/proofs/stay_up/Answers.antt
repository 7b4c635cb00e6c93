use Rattle.drawn.proofs.stay_up.Goals as goal

pub returns : goal.returns
returns c = simp (c.gap-from.ensures, c.gap-to.ensures)
