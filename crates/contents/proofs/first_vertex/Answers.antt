use native.Mathlib.Omega.{arith}
use Rattle.region.specs.Region.{last_end}
use Rattle.card.specs.Reading.{ends_at, first_vertex}
use Rattle.card.proofs.Tests.{header_means}
use Rattle.card.proofs.Bounds.{low_last}
use Rattle.card.proofs.Sums.{summing_none, summing_more, summing_all}
use Rattle.contents.proofs.first_vertex.Goals as goal

pub loop-i-init : goal.loop-i-init
loop-i-init c = summing_none _ 65535 _

pub overflow_add-vertices : goal.overflow_add-vertices
overflow_add-vertices c =
    let low = low_last c.args.card.now c.shared_slice_known-1.given c.loop-i.i in
    record { fits = omega (arith, c.vertices_of-vertices.ensures, low, (header_means c.args.card.now c.requires.0.header).few_parcels, c.requires.1) }

pub loop-i-preserved : goal.loop-i-preserved
loop-i-preserved c =
    let low = low_last c.args.card.now c.shared_slice_known-1.given c.loop-i.i in
    summing_more (λ j. last_end (ends_at c.args.card.now j)) 65535 c.args.k c.loop-i.i c.loop-i.vertices (omega arith) c.loop-i.invariant c.vertices_of-vertices.ensures (omega (arith, low, c.vertices_of-vertices.ensures))

pub returns : goal.returns
unfolding first_vertex
returns c = let p = c.loop-i in summing_all _ _ _ p.i p.vertices (omega arith) p.invariant
