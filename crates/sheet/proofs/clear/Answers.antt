use mathlib.Core.Path.{◌≡◌, sym}
use mathlib.Core.Bool.{false}
use Rattle.std.proofs.lemmas.Result.{err_from_is_err_and}
use Rattle.region.proofs.OrElse.{number_some, number_if_none}
use Rattle.region.specs.declared.refusals.Refusal.TheVariants.{SheetLists}
use Rattle.layout.specs.Sheet.{sheet_of, wrong_lists}
use Rattle.layout.proofs.RightLists.{lists_mean}
use Rattle.calls.proofs.Numbers.{clear_refused, clear_done}
use Rattle.sheet.proofs.clear.Goals as goal
use Rattle.sheet.proofs.clear.Goals.{In_ok-check_lists}

pub returns-in_err-check_lists : goal.returns-in_err-check_lists
returns-in_err-check_lists c =
    let a = c.args in
    let p = err_from_is_err_and c.from_residual.result c.from_residual.ensures.1 in
    let e = clear_refused (sheet_of a.xs.now a.records.now a.relations.now) (number_some _) c.in_err-check_lists.ensures in
    record { value = rw (p.1, p.2) e.0; relations_after = e.1 }

right : (c : In_ok-check_lists) → let a = c.args in wrong_lists (sheet_of a.xs.now a.records.now a.relations.now) ≡ false
right c = (number_if_none _ SheetLists).0 (sym c.in_ok-check_lists.ensures)

pub clear_lists-requires : goal.clear_lists-requires
clear_lists-requires c = (lists_mean _).0 (right (goal.at.clear_lists-requires c).In_ok-check_lists)

pub returns : goal.returns
returns c =
    let a = c.args in
    let e = clear_done (sheet_of a.xs.now a.records.now a.relations.now) (right (goal.at.returns c).In_ok-check_lists) c.clear_lists.ensures in
    record { value = e.0; relations_after = e.1 }
