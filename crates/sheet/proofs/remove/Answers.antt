use mathlib.Core.Path.{◌≡◌, sym, ◌∙◌}
use Rattle.std.proofs.lemmas.Result.{err_from_is_err_and}
use Rattle.region.proofs.OrElse.{number_some}
use Rattle.layout.specs.Sheet.{Sheet, sheet_of}
use Rattle.calls.specs.Changes.{remove_number}
use Rattle.calls.proofs.Numbers.{remove_ready, remove_refused, remove_done}
use Rattle.sheet.proofs.remove.Goals as goal
use Rattle.sheet.proofs.remove.Goals.{In_ok-check_remove}

pub returns-in_err-check_remove : goal.returns-in_err-check_remove
returns-in_err-check_remove c =
    let p = err_from_is_err_and c.from_residual.result c.from_residual.ensures.1 in
    let e = c.in_err-check_remove.ensures in
    record { value = rw (p.1, p.2) e; relations_after = remove_refused _ _ (λ q. number_some _ (e ∙ q)) }

-- nothing refuses the removal
module _ (c : In_ok-check_remove) where
  abbrev before : Sheet
  before =
      let a = c.args in
      sheet_of a.xs.now a.records.now a.relations.now

  accepted : remove_number before c.args.slot ≡ 0
  accepted = sym c.in_ok-check_remove.ensures

pub write_parcel-requires : goal.write_parcel-requires
write_parcel-requires c = let e = (goal.at.write_parcel-requires c).In_ok-check_remove in remove_ready (before e) _ (accepted e)

pub returns : goal.returns
returns c =
    let e = (goal.at.returns c).In_ok-check_remove in
    record { value = sym (accepted e); relations_after = remove_done (before e) _ (accepted e) c.write_parcel.ensures }
