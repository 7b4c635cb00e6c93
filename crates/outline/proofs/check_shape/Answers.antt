use mathlib.Core.Path.{sym, ◌∙◌}
use Rattle.region.specs.Outline.{drawn_by}
use Rattle.region.specs.Rules.{Keeps}
use Rattle.region.proofs.Check.{shape_accepted}
use Rattle.region.proofs.Rings.{none_outside, none_faulty}
use Rattle.outline.proofs.check_shape.Goals as goal
use Rattle.outline.proofs.check_shape.Goals.{Else-some_outside}

-- no number is outside
four : (c : Else-some_outside) → let a = c.args in Keeps 4 (drawn_by a.outline)
four c = none_outside c.requires (sym c.some_outside.ensures ∙ c.if-some_outside.false)

pub some_faulty-requires : goal.some_faulty-requires
some_faulty-requires c = four c

pub returns : goal.returns
returns c =
    sym ((shape_accepted _ c.requires).1 (none_faulty (four (goal.at.returns c).Else-some_outside) (sym c.some_faulty.ensures ∙ c.if-some_faulty.false)))
