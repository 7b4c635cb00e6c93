use mathlib.Core.Path.{◌≡◌, refl, sym, ◌∙◌}
use mathlib.Core.Bool.{true, false}
use borrow.Author.Tests.{lt-ltb, le-ltb}
use Rattle.layout.specs.Sheet.{wrong_tables}
use Rattle.layout.proofs.RightLists.{tables_mean}
use Rattle.calls.proofs.Readings.{read_is}
use Rattle.reading.proofs.check_cell.Goals as goal
use Rattle.reading.proofs.check_cell.Goals.{Start}

right : (c : Start) → let t = c.args.tables.now in wrong_tables t.records.now t.relations.now ≡ false
right c = (tables_mean _ _).1 c.args.tables.now.right

pub returns-then-primary-gt-LAST_SLOT : goal.returns-then-primary-gt-LAST_SLOT
returns-then-primary-gt-LAST_SLOT c = sym (read_is _ _ _ _ false true _ _ _ (right (goal.at.returns-then-primary-gt-LAST_SLOT c).Start) (lt-ltb _ _ c.if-primary-gt-LAST_SLOT.true) refl refl refl)

pub returns-then-reference-gt-LAST_SLOT : goal.returns-then-reference-gt-LAST_SLOT
returns-then-reference-gt-LAST_SLOT c = sym (read_is _ _ _ _ false false true _ _ (right (goal.at.returns-then-reference-gt-LAST_SLOT c).Start) (le-ltb _ _ c.if-primary-gt-LAST_SLOT.false) (lt-ltb _ _ c.if-reference-gt-LAST_SLOT.true) refl refl)

pub returns-then-is_empty : goal.returns-then-is_empty
returns-then-is_empty c =
    sym (read_is _ _ _ _ false false false true _ (right (goal.at.returns-then-is_empty c).Start) (le-ltb _ _ c.if-primary-gt-LAST_SLOT.false) (le-ltb _ _ c.if-reference-gt-LAST_SLOT.false) (sym c.is_empty.ensures ∙ c.if-is_empty.true) refl)

pub returns-then-is_empty-2 : goal.returns-then-is_empty-2
returns-then-is_empty-2 c =
    sym (read_is _ _ _ _ false false false false true (right (goal.at.returns-then-is_empty-2 c).Start) (le-ltb _ _ c.if-primary-gt-LAST_SLOT.false) (le-ltb _ _ c.if-reference-gt-LAST_SLOT.false) (sym c.is_empty.ensures ∙ c.if-is_empty.false)
    (sym c.is_empty-2.ensures ∙ c.if-is_empty-2.true))

pub returns : goal.returns
returns c =
    sym (read_is _ _ _ _ false false false false false (right (goal.at.returns c).Start) (le-ltb _ _ c.if-primary-gt-LAST_SLOT.false) (le-ltb _ _ c.if-reference-gt-LAST_SLOT.false) (sym c.is_empty.ensures ∙ c.if-is_empty.false)
    (sym c.is_empty-2.ensures ∙ c.if-is_empty-2.false))
