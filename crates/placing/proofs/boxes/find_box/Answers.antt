use mathlib.Core.Path.{◌≡◌, sym, ap, ◌∙◌, subst}
use mathlib.Core.Bool.{false}
use Rattle.region.specs.Region.{Region}
use Rattle.region.specs.Outline.{drawn_by}
use Rattle.region.specs.Rules.{Keeps}
use Rattle.relation.specs.Relation.{region_box}
use Rattle.layout.specs.Slots.{empty_in, region_in}
use Rattle.layout.specs.BoxList.{with_box}
use Rattle.layout.proofs.SlotCells.{there_keeps}
use Rattle.layout.proofs.BoxList.{found_none, found_some}
use Rattle.placing.proofs.boxes.find_box.Goals as goal
use Rattle.placing.proofs.boxes.find_box.Goals.{After-outline}

pub returns-then-is_empty : goal.returns-then-is_empty
returns-then-is_empty c = found_none _ _ _ _ (sym c.is_empty.ensures ∙ c.if-is_empty.true)

-- the region that was read
module _ (c : After-outline) where
  abbrev there : Region
  there = region_in c.args.standing.now.xs.now c.args.standing.now.records.now c.args.slot

  occupied : empty_in c.args.standing.now.records.now c.args.slot ≡ false
  occupied = sym c.is_empty.ensures ∙ c.if-is_empty.false

  read : drawn_by c.outline.result ≡ there
  read = c.outline.ensures

  keeps : Keeps 4 there
  keeps = there_keeps _ _ c.args.standing.now.whole _ c.requires occupied

pub region_box-requires : goal.region_box-requires
region_box-requires c = subst (Keeps 4) (sym (read (goal.at.region_box-requires c).After-outline)) (keeps (goal.at.region_box-requires c).After-outline)

pub returns : goal.returns
returns c =
    let a = c.args in
    ap (with_box a.boxes.now a.slot) (c.region_box.ensures ∙ ap region_box (read (goal.at.returns c).After-outline)) ∙ found_some _ _ _ _ (occupied (goal.at.returns c).After-outline)
