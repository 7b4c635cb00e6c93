use mathlib.Core.Path.{◌∙◌, ap}
use Rattle.edge.specs.Drawn.{drawn, walk_of}
use Rattle.edge.proofs.walk_edge.Goals as goal

pub returns : goal.returns
unfolding walk_of
returns c = c.draw.ensures ∙ ap drawn c.edge_list.ensures
