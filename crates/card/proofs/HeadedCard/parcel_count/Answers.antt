use native.Mathlib.Omega.{arith}
use Rattle.card.proofs.Tests.{header_means}
use Rattle.card.proofs.HeadedCard.parcel_count.Goals as goal

pub parcel_count-requires : goal.parcel_count-requires
parcel_count-requires c = omega (arith, (header_means _ c.args.self.now.header).total)

pub returns : goal.returns
returns c = (c.parcel_count.ensures, omega (arith, c.parcel_count.ensures, (header_means _ c.args.self.now.header).few_parcels))
