use mathlib.Core.Path.{sym, ◌∙◌}
use Rattle.layout.proofs.RightLists.{tables_mean}
use Rattle.storage.proofs.table.Tables.of.Goals as goal

pub invariant_of-result : goal.invariant_of-result
invariant_of-result c = record { right = (tables_mean _ _).0 (sym c.wrong_tables.ensures ∙ c.if-wrong_tables.false) }
