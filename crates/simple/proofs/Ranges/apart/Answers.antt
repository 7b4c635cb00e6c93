use borrow.Author.Tests.{lt-ltb, le-ltb}
use Rattle.simple.specs.Layout.{ranges_apart}
use Rattle.simple.proofs.Ranges.apart.Goals as goal

pub returns-then-self-i : goal.returns-then-self-i
unfolding ranges_apart
returns-then-self-i c = rw (lt-ltb _ _ c.if-self-i.true)

pub returns-else-self-i : goal.returns-else-self-i
unfolding ranges_apart
returns-else-self-i c = rw (le-ltb _ _ c.if-self-i.false)
