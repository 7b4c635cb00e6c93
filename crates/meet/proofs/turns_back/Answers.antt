use Rattle.meet.specs.Signs.{turns_back}
use borrow.Author.Rules.{rules}
use Rattle.meet.proofs.turns_back.Goals as goal

pub returns : goal.returns
unfolding turns_back
returns c = rw (c.one_side.ensures, c.one_side-2.ensures)
