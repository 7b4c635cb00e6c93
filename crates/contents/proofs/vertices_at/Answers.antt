use native.Mathlib.Omega.{arith}
use Rattle.card.proofs.Tests.{header_means}
use Rattle.contents.proofs.vertices_at.Goals as goal

pub read-requires : goal.read-requires
read-requires c = omega (arith, (header_means c.args.card.now.bytes.now c.args.card.now.header).total)

pub overflow_add-result : goal.overflow_add-result
overflow_add-result c =
    let h = header_means c.args.card.now.bytes.now c.args.card.now.header in
    record { fits = omega (arith, c.read.ensures, c.rings_at.ensures, h.few_parcels, h.few_rings) }
