use borrow.Author.Tests.{eq-eqb, ne_eqb}
use Rattle.layout.specs.Sheet.{wrong_lists}
use Rattle.storage.proofs.lists.wrong_lists.Goals as goal

pub returns-then-xs-ne-COORDINATES : goal.returns-then-xs-ne-COORDINATES
unfolding wrong_lists
returns-then-xs-ne-COORDINATES c = simp (ne_eqb _ _ c.if-xs-ne-COORDINATES.true)

pub returns : goal.returns
unfolding wrong_lists
returns c = simp (eq-eqb _ _ c.if-xs-ne-COORDINATES.false) c.wrong_tables.ensures
