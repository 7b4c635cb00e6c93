use Rattle.card.proofs.Sums.{summing_none, summing_more, summing_all}
use native.Mathlib.Omega.{arith}
use Rattle.card.specs.Reading.{count_at, first_ring}
use Rattle.card.proofs.Tests.{header_means}
use Rattle.card.proofs.Bounds.{entry_there}
use Rattle.card.proofs.HeadedCard.first_ring.Goals as goal

pub loop-i-init : goal.loop-i-init
loop-i-init c = summing_none _ 65535 _

pub count_at-rings-requires : goal.count_at-rings-requires
count_at-rings-requires c = entry_there c.args.self.now.bytes.now c.args.self.now.header c.loop-i.i (omega (arith, c.requires))

pub overflow_add-rings : goal.overflow_add-rings
overflow_add-rings c =
    record { fits = omega (arith, c.count_at-rings.ensures.1, (header_means c.args.self.now.bytes.now c.args.self.now.header).few_parcels, c.requires) }

pub loop-i-preserved : goal.loop-i-preserved
loop-i-preserved c =
    summing_more (count_at c.args.self.now.bytes.now) 65535 c.args.k c.loop-i.i c.loop-i.rings (omega arith) c.loop-i.invariant c.count_at-rings.ensures.0 c.count_at-rings.ensures.1

pub returns : goal.returns
unfolding first_ring
returns c = let p = c.loop-i in summing_all _ _ _ p.i p.rings (omega arith) p.invariant
