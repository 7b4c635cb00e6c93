use mathlib.Core.Path.{◌≡◌, ◌∙◌, ap}
use mathlib.Core.List.{List}
use Prim.Native.Nat.{ℕ, ◌≤◌, ◌<◌}
use native.Mathlib.Omega.{arith}
use lib.ListN.{length}
use Rattle.region.specs.Region.{outline}
use Rattle.layout.specs.Sheet.{Sheet}
use Rattle.layout.specs.Layout.{layout}
use Rattle.layout.specs.Changes.{with_parcel}
use Rattle.layout.proofs.Standing.{stand_fewer}
use Rattle.card.specs.Reading.{parcel_count, slot_at, region_at}
use Rattle.card.specs.Good.{GoodCard}
use Rattle.card.proofs.Good.{good_means}
use Rattle.loading.proofs.Loading.{loaded, loaded_stand, from_blank, changeable, with_loaded, loaded_all, same_lists}
use Rattle.loading.proofs.lay_parcels.Goals as goal
use Rattle.loading.proofs.lay_parcels.Goals.{At-loop-k}

module _ (c : At-loop-k) where
  abbrev card : List ℕ
  card = c.args.card.now.bytes.now

  good : GoodCard card
  good = (good_means card).0 c.args.card.now.good

  few : c.loop-k.k ≤ parcel_count card
  few = omega (arith, c.parcel_count-parcels.ensures.0)

  kept : (length c.loop-k.xs ≡ length c.args.xs.now) × (length c.loop-k.records ≡ length c.args.records.now) × (length c.loop-k.relations ≡ length c.args.relations.now)
  kept =
      same_lists (loaded card 0) (loaded card c.loop-k.k)
      (stand_fewer (omega arith) (loaded_stand card good 0 (omega arith)))
      (stand_fewer (omega arith) (loaded_stand card good c.loop-k.k few)) (from_blank card c.requires.0) c.loop-k.invariant.0

pub loop-k-init : goal.loop-k-init
loop-k-init c = (from_blank c.args.card.now.bytes.now c.requires.0, c.requires.1)

pub lay_parcel-requires : goal.lay_parcel-requires
lay_parcel-requires c =
    let s = (goal.at.lay_parcel-requires c).At-loop-k in
    let l : c.loop-k.k < parcel_count (card s) = omega (arith, c.loop-k-test.true, c.parcel_count-parcels.ensures.0) in
    (l, changeable (card s) (good s) c.loop-k.k l c.loop-k.invariant.0, c.loop-k.invariant.1)

pub loop-k-preserved : goal.loop-k-preserved
loop-k-preserved c =
    let s = (goal.at.loop-k-preserved c).At-loop-k in
    let k = c.loop-k.k in (
      c.lay_parcel.ensures.relations_after ∙ ap (λ (t : Sheet). with_parcel t (slot_at (card s) k) (outline (region_at (card s) k))) c.loop-k.invariant.0
          ∙ with_loaded (card s) (good s) k (omega (arith, c.loop-k-test.true, c.parcel_count-parcels.ensures.0)),
      c.lay_parcel.ensures.boxed,
    )

pub shape_of-xs : goal.shape_of-xs
shape_of-xs c = (kept (goal.at.shape_of-xs c).At-loop-k).0

pub shape_of-records : goal.shape_of-records
shape_of-records c = (kept (goal.at.shape_of-records c).At-loop-k).1

pub shape_of-relations : goal.shape_of-relations
shape_of-relations c = (kept (goal.at.shape_of-relations c).At-loop-k).2

pub returns : goal.returns
returns c =
    let e : c.loop-k.k ≡ c.parcel_count-parcels.result = omega arith in
    c.loop-k.invariant.0 ∙ ap (λ (m : ℕ). layout (loaded c.args.card.now.bytes.now m)) (e ∙ c.parcel_count-parcels.ensures.0) ∙ loaded_all c.args.card.now.bytes.now
