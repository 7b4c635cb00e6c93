use Rattle.edge.specs.Walk.{enter_of}
use Rattle.edge.proofs.enter.Goals as goal

pub returns : goal.returns
unfolding enter_of
returns c = simp (c.tile_of-t.ensures.0, c.range_after-2.ensures.0, c.range_after.ensures.0)
