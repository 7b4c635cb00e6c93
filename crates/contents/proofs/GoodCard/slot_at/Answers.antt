use Rattle.card.proofs.Good.{good_means, good_right}
use Rattle.card.proofs.Bounds.{entry_there}
use Rattle.contents.proofs.GoodCard.slot_at.Goals as goal

pub slot_at-requires : goal.slot_at-requires
slot_at-requires c = entry_there _ (good_right _ ((good_means _).0 c.args.self.now.good)).parcels.header c.args.k c.requires
