use Rattle.simple.proofs.Parts.{three_none}
use Rattle.simple.proofs.ring_meets.Goals as goal

pub returns-then-n-eq3 : goal.returns-then-n-eq3
returns-then-n-eq3 c = let a = c.args in three_none a.ring.outline.now a.ring.from a.ring.size c.if-n-eq3.true
