use mathlib.Core.Path.{◌≡◌, sym, ap, ap₂, ◌∙◌, subst}
use mathlib.Core.Bool.{false}
use Rattle.plane.specs.Placed.{BoxInPlaces, Upright}
use Rattle.plane.specs.declared.Box.{Box}
use Rattle.seen.specs.declared.Seen.{Seen}
use Rattle.region.specs.Region.{Region}
use Rattle.region.specs.Outline.{drawn_by}
use Rattle.region.specs.Rules.{Keeps}
use Rattle.relation.specs.Relation.{region_box, relation_of}
use Rattle.relation.proofs.Regions.{region_box_in_places, region_upright}
use Rattle.layout.specs.Slots.{empty_in, region_in}
use Rattle.layout.specs.BoxList.{box_at}
use Rattle.layout.proofs.Slots.{parcel_there}
use Rattle.layout.proofs.SlotCells.{there_keeps, first_empty, second_empty, self, between}
use Rattle.placing.proofs.writing.cell_for.Goals as goal
use Rattle.placing.proofs.writing.cell_for.Goals.{After-outline, Else-is_empty-2}

pub returns-then-is_empty : goal.returns-then-is_empty
returns-then-is_empty c = first_empty _ _ _ _ (sym c.is_empty.ensures ∙ c.if-is_empty.true)

pub returns-then-is_empty-2 : goal.returns-then-is_empty-2
returns-then-is_empty-2 c = second_empty _ _ _ _ (sym c.is_empty-2.ensures ∙ c.if-is_empty-2.true)

-- neither slot is empty
module _ (c : Else-is_empty-2) where
  abbrev first : Region
  first = region_in c.args.standing.now.xs.now c.args.standing.now.records.now c.args.primary

  abbrev second : Region
  second = region_in c.args.standing.now.xs.now c.args.standing.now.records.now c.args.reference

  first_there : empty_in c.args.standing.now.records.now c.args.primary ≡ false
  first_there = sym c.is_empty.ensures ∙ c.if-is_empty.false

  second_there : empty_in c.args.standing.now.records.now c.args.reference ≡ false
  second_there = sym c.is_empty-2.ensures ∙ c.if-is_empty-2.false

  first_keeps : Keeps 4 first
  first_keeps = there_keeps _ _ c.args.standing.now.whole _ c.requires.1 first_there

  second_keeps : Keeps 4 second
  second_keeps = there_keeps _ _ c.args.standing.now.whole _ c.requires.2 second_there

pub returns-then-primary-reference : goal.returns-then-primary-reference
returns-then-primary-reference c = self _ _ _ _ (first_there (goal.at.returns-then-primary-reference c).Else-is_empty-2) (second_there (goal.at.returns-then-primary-reference c).Else-is_empty-2) c.if-primary-reference.true

-- the boxes and the region that were read
module _ (c : After-outline) where
  own_is : box_at c.args.boxes.now c.args.primary ≡ region_box (region_in c.args.standing.now.xs.now c.args.standing.now.records.now c.args.primary)
  own_is =
      c.requires.0.each _ c.requires.1 _ (parcel_there c.args.standing.now.xs.now c.args.standing.now.records.now c.args.primary (sym c.is_empty.ensures ∙ c.if-is_empty.false))

  box_is : box_at c.args.boxes.now c.args.reference ≡ region_box (region_in c.args.standing.now.xs.now c.args.standing.now.records.now c.args.reference)
  box_is =
      c.requires.0.each _ c.requires.2 _ (parcel_there c.args.standing.now.xs.now c.args.standing.now.records.now c.args.reference (sym c.is_empty-2.ensures ∙ c.if-is_empty-2.false))

  read : drawn_by c.outline.result ≡ region_in c.args.standing.now.xs.now c.args.standing.now.records.now c.args.primary
  read = c.outline.ensures

pub region_seen-seen-requires : goal.region_seen-seen-requires
region_seen-seen-requires c =
    let e = (goal.at.region_seen-seen-requires c).Else-is_empty-2 in
    let r = (goal.at.region_seen-seen-requires c).After-outline in (
      subst BoxInPlaces (sym (box_is r)) (region_box_in_places (second_keeps e)),
      subst Upright (sym (box_is r)) (region_upright (second e)),
      subst (Keeps 4) (sym (read r)) (first_keeps e),
      own_is r ∙ ap region_box (sym (read r)),
    )

pub returns : goal.returns
returns c =
    let e = (goal.at.returns c).Else-is_empty-2 in
    let r = (goal.at.returns c).After-outline in
    ap (λ (s : Seen). s.set) c.region_seen-seen.ensures ∙ ap₂ (λ (k : Box) (R : Region). relation_of k R) (box_is r) (read r)
    ∙ between _ _ _ _ (first_there e) (second_there e) c.if-primary-reference.false
