use mathlib.Core.Path.{◌∙◌, ap}
use Rattle.ring.specs.RingBox.{stretch_box}
use Rattle.relation.specs.Relation.{region_box}
use Rattle.relation.proofs.Regions.{whole_stretch, some_vertex}
use Rattle.relation.proofs.region_box.Goals as goal

pub invariant_of-all : goal.invariant_of-all
invariant_of-all c = record { stretch = rw c.last_end.ensures (whole_stretch c.requires) }

pub own_box-requires : goal.own_box-requires
own_box-requires c = rw c.last_end.ensures (some_vertex c.requires)

pub returns : goal.returns
unfolding region_box
returns c = c.own_box.ensures ∙ ap (stretch_box c.args.outline.coordinates.now 0) c.last_end.ensures
