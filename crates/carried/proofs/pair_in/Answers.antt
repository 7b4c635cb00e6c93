use mathlib.Core.Path.{◌≡◌, ◌∙◌, ap₂}
use native.Mathlib.Omega.{arith}
use Rattle.region.specs.Region.{region_of}
use Rattle.region.specs.Outline.{drawn_by}
use Rattle.region.proofs.Keeps.{keeps_fewer}
use Rattle.region.proofs.Check.{accepted_means}
use Rattle.pair.specs.Answer.{answer_of}
use Rattle.pair.proofs.Accepted.{accepted_answer}
use Rattle.card.specs.Reading.{region_at}
use Rattle.card.proofs.Good.{good_means}
use Rattle.carried.specs.Pairs.{pair_in}
use Rattle.carried.proofs.pair_in.Goals as goal
use Rattle.carried.proofs.pair_in.Goals.{After-outline-2}

-- the two parcels that were read
module _ (c : After-outline-2) where
  first : drawn_by c.outline.result ≡ region_at c.args.card.now.bytes.now c.args.j
  first = ap₂ region_of (c.outline.ensures.0 ∙ c.parcel-one.ensures.numbers) (c.outline.ensures.1 ∙ c.parcel-one.ensures.ends)

  second : drawn_by c.outline-2.result ≡ region_at c.args.card.now.bytes.now c.args.k
  second = ap₂ region_of (c.outline-2.ensures.0 ∙ c.parcel-two.ensures.numbers) (c.outline-2.ensures.1 ∙ c.parcel-two.ensures.ends)

pub answer_of-requires : goal.answer_of-requires
answer_of-requires c =
    let kept = (good_means c.args.card.now.bytes.now).0 c.args.card.now.good in
    rw (first c, second c) (keeps_fewer (omega arith) (kept.parcels_keep c.args.j c.requires.0), keeps_fewer (omega arith) (kept.parcels_keep c.args.k c.requires.1))

pub returns : goal.returns
unfolding pair_in
returns c =
    let kept = (good_means c.args.card.now.bytes.now).0 c.args.card.now.good in
    let at = (goal.at.returns c).After-outline-2 in
    c.answer_of.ensures ∙ ap₂ answer_of (first at) (second at)
    ∙ accepted_answer _ _ ((accepted_means _).1 (kept.parcels_keep c.args.j c.requires.0)) ((accepted_means _).1 (kept.parcels_keep c.args.k c.requires.1))
