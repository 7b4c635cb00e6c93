use mathlib.Core.List.{List}
use mathlib.Core.Path.{◌≡◌}
use Prim.Native.Nat.{ℕ}
use native.Mathlib.Omega.{arith}
use Rattle.card.specs.Right.{RightVertices}
use Rattle.card.specs.CardNumber.{card_number}
use Rattle.card.proofs.Good.{good_means, good_right}
use Rattle.card.proofs.Bounds.{entry_few, vertices_there}
use Rattle.contents.proofs.GoodCard.parcel.Goals as goal

right : (card : List ℕ) → card_number card ≡ 0 → RightVertices card
right card e = good_right card ((good_means card).0 e)

pub read_ends-rings-requires : goal.read_ends-rings-requires
read_ends-rings-requires c = ((right _ c.args.self.now.good).parcels, c.requires, omega arith)

pub read_numbers-size-requires : goal.read_numbers-size-requires
read_numbers-size-requires c = (right _ c.args.self.now.good, c.requires, omega arith)

pub invariant_of-result : goal.invariant_of-result
invariant_of-result c =
    let card = c.args.self.now.bytes.now in
    let kept = right card c.args.self.now.good in
    record {
      few = (
        omega (arith, c.read_ends-rings.ensures.value, (entry_few card kept.parcels c.args.k c.requires).1),
        omega (arith, c.read_numbers-size.ensures.value, (vertices_there card kept c.args.k c.requires).few),
      );
    }
