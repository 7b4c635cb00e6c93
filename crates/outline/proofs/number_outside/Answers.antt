use borrow.Author.Rules.{rules}
use Rattle.outline.proofs.number_outside.Goals as goal

pub returns : goal.returns
returns c = search (rules, c.in_range.ensures)
