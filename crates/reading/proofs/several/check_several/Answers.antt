use mathlib.Core.Path.{◌≡◌, refl, sym}
use mathlib.Core.Bool.{true, false}
use borrow.Author.Tests.{lt-ltb, le-ltb, eq-eqb, ne_eqb}
use Rattle.std.proofs.lemmas.Result.{err_from_is_err_and}
use Rattle.region.specs.declared.refusals.Refusal.TheVariants.{SheetLists}
use Rattle.region.proofs.OrElse.{number_some, number_if_none}
use Rattle.layout.specs.Sheet.{wrong_tables}
use Rattle.calls.proofs.Several.{several_is, several_first}
use Rattle.reading.proofs.several.check_several.Goals as goal
use Rattle.reading.proofs.several.check_several.Goals.{In_ok-tables}

pub returns-in_err-tables-clause-refusal : goal.returns-in_err-tables-clause-refusal
returns-in_err-tables-clause-refusal c =
    let p = err_from_is_err_and c.from_residual.result c.from_residual.ensures.1 in
    rw (p.1, p.2) (several_first _ _ _ _ (number_some _) c.in_err-tables.ensures.refusal)

right : (c : In_ok-tables) → let a = c.args in wrong_tables a.records.now a.relations.now ≡ false
right c = (number_if_none _ SheetLists).0 (sym c.in_ok-tables.ensures.refusal)

pub returns-then-pairs-eq1-clause-refusal : goal.returns-then-pairs-eq1-clause-refusal
returns-then-pairs-eq1-clause-refusal c = sym (several_is _ _ _ _ false true _ (right (goal.at.returns-then-pairs-eq1-clause-refusal c).In_ok-tables) (eq-eqb _ _ c.if-pairs-eq1.true) refl)

pub returns-then-results-pairs-clause-refusal : goal.returns-then-results-pairs-clause-refusal
returns-then-results-pairs-clause-refusal c = sym (several_is _ _ _ _ false false true (right (goal.at.returns-then-results-pairs-clause-refusal c).In_ok-tables) (ne_eqb _ _ c.if-pairs-eq1.false) (lt-ltb _ _ c.if-results-pairs.true))

pub returns-clause-refusal : goal.returns-clause-refusal
returns-clause-refusal c = sym (several_is _ _ _ _ false false false (right (goal.at.returns-clause-refusal c).In_ok-tables) (ne_eqb _ _ c.if-pairs-eq1.false) (le-ltb _ _ c.if-results-pairs.false))
