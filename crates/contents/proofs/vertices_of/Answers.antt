use mathlib.Core.Path.{◌∙◌, ap}
use native.Mathlib.Omega.{arith}
use Rattle.region.specs.Region.{last_end}
use Rattle.card.proofs.Bounds.{ends_read, entry_few}
use Rattle.contents.proofs.vertices_of.Goals as goal

pub slice_bounds-last_end-end : goal.slice_bounds-last_end-end
slice_bounds-last_end-end c =
    let few = (entry_few c.args.card.now c.requires.0 c.args.k c.requires.1).1 in
    omega (arith, c.read_ends-n.ensures.value, few, c.read_ends-n.auto.ends)

pub returns : goal.returns
returns c =
    c.last_end.ensures ∙ ap last_end (ends_read c.args.card.now c.args.k _ c.read_ends-n.ensures.value c.read_ends-n.ensures.ends_after)
