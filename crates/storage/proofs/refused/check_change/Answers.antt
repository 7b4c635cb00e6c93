use mathlib.Core.Path.{sym}
use native.Mathlib.Omega.{arith}
use Rattle.std.proofs.lemmas.Result.{err_from_is_err_and}
use Rattle.region.proofs.OrElse.{number_some}
use Rattle.layout.specs.Sheet.{sheet_of}
use Rattle.layout.specs.Damage.{damaged}
use Rattle.layout.proofs.Undamaged.{slot_lists}
use Rattle.layout.proofs.Refusing.{lists_right, change_first, change_slot, change_next}
use Rattle.storage.proofs.refused.check_change.Goals as goal

pub returns-in_err-check_lists-clause-refusal : goal.returns-in_err-check_lists-clause-refusal
returns-in_err-check_lists-clause-refusal c =
    let p = err_from_is_err_and c.from_residual.result c.from_residual.ensures.1 in
    rw (p.1, p.2) (change_first _ _ (number_some _) c.in_err-check_lists.ensures)

pub returns-then-slot-gt-LAST_SLOT-clause-refusal : goal.returns-then-slot-gt-LAST_SLOT-clause-refusal
returns-then-slot-gt-LAST_SLOT-clause-refusal c = change_slot _ _ c.in_ok-check_lists.ensures (omega arith)

pub check_slots-requires : goal.check_slots-requires
check_slots-requires c =
    let a = c.args in
    slot_lists _ ((lists_right (sheet_of a.xs.now a.records.now a.relations.now)).0 (sym c.in_ok-check_lists.ensures))

pub returns-clause-refusal : goal.returns-clause-refusal
unfolding damaged
returns-clause-refusal c = change_next _ _ c.in_ok-check_lists.ensures (omega arith) c.check_slots.ensures.refusal
