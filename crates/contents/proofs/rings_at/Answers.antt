use native.Mathlib.Omega.{arith}
use Rattle.card.proofs.Tests.{header_means}
use Rattle.contents.proofs.rings_at.Goals as goal

pub overflow_mul-result : goal.overflow_mul-result
overflow_mul-result c = record { fits = omega (arith, c.parcel_count.ensures, (header_means c.args.card.now.bytes.now c.args.card.now.header).few_parcels) }

pub overflow_add-result : goal.overflow_add-result
overflow_add-result c = record { fits = omega (arith, c.parcel_count.ensures, (header_means c.args.card.now.bytes.now c.args.card.now.header).few_parcels) }
