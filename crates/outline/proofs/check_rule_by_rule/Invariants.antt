use Prim.Native.Nat.{◌+◌}
use Rattle.region.specs.Outline.{drawn_by}
use Rattle.region.specs.Rules.{Keeps}
use Rattle.outline.proofs.check_rule_by_rule.Given as goal

-- The loop's invariant: the rules before the one that is next are kept.

abbrev pub invariant-loop-rule : goal.invariant-loop-rule
invariant-loop-rule l = Keeps (3 + l.rule-index) (drawn_by l.outline)
