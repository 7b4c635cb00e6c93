use mathlib.Core.Path.{sym}
use Rattle.std.proofs.lemmas.Result.{err_from_is_err_and}
use Rattle.region.proofs.OrElse.{number_some}
use Rattle.layout.specs.Sheet.{sheet_of}
use Rattle.layout.specs.Damage.{damaged}
use Rattle.layout.proofs.Undamaged.{slot_lists}
use Rattle.layout.proofs.Refusing.{lists_right, whole_first, whole_next}
use Rattle.storage.proofs.refused.check_whole.Goals as goal

pub returns-in_err-check_lists-clause-refusal : goal.returns-in_err-check_lists-clause-refusal
returns-in_err-check_lists-clause-refusal c =
    let p = err_from_is_err_and c.from_residual.result c.from_residual.ensures.1 in
    rw (p.1, p.2) (whole_first _ (number_some _) c.in_err-check_lists.ensures)

pub check_slots-requires : goal.check_slots-requires
check_slots-requires c =
    let a = c.args in
    slot_lists _ ((lists_right (sheet_of a.xs.now a.records.now a.relations.now)).0 (sym c.in_ok-check_lists.ensures))

pub returns-clause-refusal : goal.returns-clause-refusal
unfolding damaged
returns-clause-refusal c = whole_next _ c.in_ok-check_lists.ensures c.check_slots.ensures.refusal
