use mathlib.Core.Path.{sym}
use Rattle.edge.proofs.WalkSteps.{next_first, next_second, next_end}
use Rattle.edge.proofs.next_line.Goals as goal

pub returns-then-c-eq0 : goal.returns-then-c-eq0
returns-then-c-eq0 c = sym (next_first c.args.x _ c.if-c-eq0.true)

pub returns-then-c-eq1 : goal.returns-then-c-eq1
returns-then-c-eq1 c = sym (next_second c.args.x _ c.if-c-eq1.true)

pub returns : goal.returns
returns c = sym (next_end c.args.x _ c.if-c-eq0.false c.if-c-eq1.false)
