use Rattle.meet.specs.MeetTest.{overlap}
use borrow.Author.Rules.{rules}
use Rattle.meet.proofs.overlap.Goals as goal

pub returns : goal.returns
unfolding overlap
returns c = rw (c.min.ensures, c.max.ensures, c.min-2.ensures, c.max-2.ensures)
