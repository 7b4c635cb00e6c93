use mathlib.Core.Path.{sym, ap, ◌∙◌}
use Rattle.std.proofs.lemmas.Result.{err_from_is_err_and}
use Rattle.region.proofs.OrElse.{number_some}
use Rattle.calls.specs.Readings.{Relation}
use Rattle.calls.specs.Says.{Readable}
use Rattle.calls.proofs.Readings.{read_means, cell_answered, number_answered}
use Rattle.reading.proofs.cell_of.Goals as goal
use Rattle.reading.proofs.cell_of.Goals.{In_ok-check_cell}

pub returns-in_err-check_cell : goal.returns-in_err-check_cell
returns-in_err-check_cell c =
    let p = err_from_is_err_and c.from_residual.result c.from_residual.ensures.1 in
    rw (p.1, p.2) (sym (number_answered _ _ _ _ _ (number_some _) (sym c.in_err-check_cell.ensures)))

readable : (c : In_ok-check_cell) → let t = c.args.tables.now in Readable t.records.now t.relations.now c.args.primary c.args.reference
readable c = (read_means _ _ _ _).0 (sym c.in_ok-check_cell.ensures)

pub cell-requires : goal.cell-requires
cell-requires c = let h = readable (goal.at.cell-requires c).In_ok-check_cell in (h.primary, h.reference)

pub returns : goal.returns
returns c = ap Relation c.cell.ensures ∙ sym (cell_answered _ _ _ _ (readable (goal.at.returns c).In_ok-check_cell))
