use native.Mathlib.Omega.{arith}
use Rattle.card.proofs.Good.{good_means}
use Rattle.contents.proofs.GoodCard.parcel_count.Goals as goal

pub parcel_count-requires : goal.parcel_count-requires
parcel_count-requires c = omega (arith, ((good_means _).0 c.args.self.now.good).whole_length)

pub returns : goal.returns
returns c = (c.parcel_count.ensures, omega (arith, c.parcel_count.ensures, ((good_means _).0 c.args.self.now.good).few_parcels))
