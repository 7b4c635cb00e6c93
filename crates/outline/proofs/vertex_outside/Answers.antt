use mathlib.Core.Path.{sym, ◌∙◌}
use Rattle.outline.proofs.vertex_outside.Goals as goal

pub returns-then-number_outside : goal.returns-then-number_outside
returns-then-number_outside c = let e = sym c.number_outside.ensures ∙ c.if-number_outside.true in simp e

pub returns : goal.returns
returns c = let e = sym c.number_outside.ensures ∙ c.if-number_outside.false in simp e c.number_outside-2.ensures
