use mathlib.Core.Path.{◌≡◌, ◌∙◌, ap}
use Rattle.plane.specs.declared.Box.{Box}
use Rattle.plane.specs.Placed.{BoxInPlaces, Upright}
use Rattle.seen.specs.declared.Seen.{Seen}
use Rattle.region.specs.Region.{Region}
use Rattle.region.specs.Outline.{drawn_by}
use Rattle.region.specs.Rules.{Keeps}
use Rattle.relation.specs.Relation.{region_box, region_seen}
use Rattle.relation.proofs.Regions.{region_box_in_places, region_upright}
use Rattle.pair.specs.Answer.{given, answer_of}
use Rattle.pair.proofs.answer_of.Goals as goal
use Rattle.pair.proofs.answer_of.Goals.{After-region_seen-back, Start}

box_there : {b : Box} {R : Region} → b ≡ region_box R → Keeps 4 R → BoxInPlaces b × Upright b
box_there e kept = rw e (region_box_in_places kept, region_upright _)

-- ---- what the calls answered
abbrev one : Start → Region
one s = drawn_by s.args.first

abbrev two : Start → Region
two s = drawn_by s.args.second

module _ (c : After-region_seen-back) where
  abbrev begin : Start
  begin = (goal.at.After-region_seen-back c).Start

  abbrev a : Box
  a = c.region_box-a.result

  abbrev b : Box
  b = c.region_box-b.result

  abbrev there : Seen
  there = c.region_seen-there.result

  abbrev back : Seen
  back = c.region_seen-back.result

  answered : given a b there back ≡ answer_of (one begin) (two begin)
  unfolding answer_of
  answered =
      let ea = c.region_box-a.ensures in
      let eb = c.region_box-b.ensures in
      let et = c.region_seen-there.ensures ∙ ap (λ (k : Box). region_seen k (one begin)) eb in
      let ek = c.region_seen-back.ensures ∙ ap (λ (k : Box). region_seen k (two begin)) ea in
      λ i. given (ea i) (eb i) (et i) (ek i)

pub region_seen-there-requires : goal.region_seen-there-requires
region_seen-there-requires c =
    let p = c.requires in
    let t = box_there c.region_box-b.ensures p.1 in
    (t.0, t.1, p.0, c.region_box-a.ensures)

pub region_seen-back-requires : goal.region_seen-back-requires
region_seen-back-requires c =
    let p = c.requires in
    let t = box_there c.region_box-a.ensures p.0 in
    (t.0, t.1, p.1, c.region_box-b.ensures)

pub returns : goal.returns
returns c = c.given.ensures ∙ answered (goal.at.returns c).After-region_seen-back
