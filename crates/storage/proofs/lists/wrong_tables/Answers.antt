use borrow.Author.Tests.{eq-eqb, ne_eqb}
use Rattle.layout.specs.Sheet.{wrong_tables}
use Rattle.storage.proofs.lists.wrong_tables.Goals as goal

pub returns-then-records-ne-RECORDS : goal.returns-then-records-ne-RECORDS
unfolding wrong_tables
returns-then-records-ne-RECORDS c = simp (ne_eqb _ _ c.if-records-ne-RECORDS.true)

pub returns : goal.returns
unfolding wrong_tables
returns c = simp (eq-eqb _ _ c.if-records-ne-RECORDS.false)
