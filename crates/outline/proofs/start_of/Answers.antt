use mathlib.Core.Path.{◌∙◌}
use Rattle.region.proofs.Ends.{start_after}
use Rattle.outline.proofs.start_of.Goals as goal

pub returns : goal.returns
returns c = c.end_of.ensures ∙ start_after c.args.ends.now c.args.r c.if-r-eq0.false
