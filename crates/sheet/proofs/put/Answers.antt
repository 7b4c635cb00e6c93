use mathlib.Core.Path.{◌≡◌, sym, ◌∙◌}
use Rattle.std.proofs.lemmas.Result.{err_from_is_err_and}
use Rattle.region.specs.Region.{Region}
use Rattle.region.specs.Outline.{drawn_by}
use Rattle.region.proofs.OrElse.{number_some}
use Rattle.layout.specs.Sheet.{Sheet, sheet_of}
use Rattle.calls.specs.Changes.{put_number}
use Rattle.calls.proofs.Numbers.{put_writes, put_refused, put_done}
use Rattle.sheet.proofs.put.Goals as goal
use Rattle.sheet.proofs.put.Goals.{In_ok-check_put}

pub returns-in_err-check_put : goal.returns-in_err-check_put
returns-in_err-check_put c =
    let p = err_from_is_err_and c.from_residual.result c.from_residual.ensures.1 in
    let e = c.in_err-check_put.ensures in
    record { value = rw (p.1, p.2) e; relations_after = put_refused _ _ _ (λ q. number_some _ (e ∙ q)) }

-- nothing refuses the put
module _ (c : In_ok-check_put) where
  abbrev before : Sheet
  before =
      let a = c.args in
      sheet_of a.xs.now a.records.now a.relations.now

  abbrev lent : Region
  lent =
      let a = c.args in
      drawn_by a.outline

  accepted : put_number before c.args.slot lent ≡ 0
  accepted = sym c.in_ok-check_put.ensures

pub write_parcel-requires : goal.write_parcel-requires
write_parcel-requires c = let e = (goal.at.write_parcel-requires c).In_ok-check_put in put_writes (before e) _ (lent e) (accepted e)

pub returns : goal.returns
returns c =
    let e = (goal.at.returns c).In_ok-check_put in
    record { value = sym (accepted e); relations_after = put_done (before e) _ (lent e) (accepted e) c.write_parcel.ensures }
