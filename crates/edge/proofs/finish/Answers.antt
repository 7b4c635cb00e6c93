use mathlib.Core.Path.{◌∙◌}
use native.Mathlib.Omega.{arith}
use Rattle.edge.proofs.WalkSteps.{step_fits, fits_more}
use Rattle.edge.proofs.finish.Goals as goal

pub step-s1-requires : goal.step-s1-requires
step-s1-requires c = (c.requires.0, c.requires.1, fits_more 3 _ (omega arith) c.requires.2)

pub step-requires : goal.step-requires
step-requires c = (c.requires.0, c.requires.1, rw c.step-s1.ensures (step_fits _ _ 3 _ c.requires.2))

pub returns : goal.returns
returns c = c.step.ensures ∙ rw c.step-s1.ensures
