use mathlib.Core.Path.{sym, ◌∙◌}
use native.Mathlib.Omega.{arith}
use Rattle.region.proofs.Search.{passed_none, passed_more, where_hit, where_all}
use Rattle.outline.proofs.first_breaking.Goals as goal

pub loop-r-init : goal.loop-r-init
loop-r-init c = passed_none _ _

pub breaks_rule-requires : goal.breaks_rule-requires
breaks_rule-requires c = let p = c.requires in (p.0, p.1, p.2, c.loop-r-test.true)

pub returns-then-breaks_rule : goal.returns-then-breaks_rule
returns-then-breaks_rule c = where_hit _ _ _ c.loop-r.invariant (omega arith) (sym c.breaks_rule.ensures ∙ c.if-breaks_rule.true)

pub loop-r-preserved : goal.loop-r-preserved
loop-r-preserved c = passed_more _ _ _ c.loop-r.invariant (omega arith) (sym c.breaks_rule.ensures ∙ c.if-breaks_rule.false)

pub returns : goal.returns
returns c = where_all _ _ _ c.loop-r.invariant (omega arith)
