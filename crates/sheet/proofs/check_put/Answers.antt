use mathlib.Core.Path.{sym, ap, ◌∙◌}
use Rattle.std.proofs.lemmas.Result.{err_from_is_err_and}
use Rattle.region.specs.Check.{number_of}
use Rattle.region.proofs.OrElse.{number_some}
use Rattle.calls.proofs.Numbers.{put_first, put_next}
use Rattle.sheet.proofs.check_put.Goals as goal

pub returns-in_err-check_change : goal.returns-in_err-check_change
returns-in_err-check_change c =
    let p = err_from_is_err_and c.from_residual.result c.from_residual.ensures.1 in
    rw (p.1, p.2) (c.in_err-check_change.ensures.refusal ∙ put_first _ _ _ (λ q. number_some _ (c.in_err-check_change.ensures.refusal ∙ q)))

pub returns-in-Ok : goal.returns-in-Ok
returns-in-Ok c = ap number_of c.in-Ok.ensures ∙ put_next _ _ _ (sym c.in_ok-check_change.ensures.refusal)

pub returns-in-Err : goal.returns-in-Err
returns-in-Err c = ap number_of c.in-Err.ensures ∙ put_next _ _ _ (sym c.in_ok-check_change.ensures.refusal)
