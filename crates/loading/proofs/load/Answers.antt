use mathlib.Core.Path.{sym, ap, ◌∙◌}
use mathlib.Core.List.{List}
use Prim.Native.Nat.{ℕ}
use Rattle.std.proofs.lemmas.Result.{err_from_is_err_and}
use Rattle.region.proofs.OrElse.{number_some}
use Rattle.layout.specs.Sheet.{Sheet, sheet_of}
use Rattle.layout.specs.Layout.{layout}
use Rattle.layout.proofs.Refusing.{lists_right}
use Rattle.card.specs.Reading.{parcel_in}
use Rattle.loading.proofs.Loading.{load_refused, load_wrong, load_done}
use Rattle.loading.proofs.load.Goals as goal
use Rattle.loading.proofs.load.Goals.{Start}

abbrev before : Start → Sheet
before c =
    let a = c.args in
    sheet_of a.xs.now a.records.now a.relations.now

pub returns-in_err-check_lists : goal.returns-in_err-check_lists
returns-in_err-check_lists c =
    let p = err_from_is_err_and c.from_residual.result c.from_residual.ensures.1 in
    let e = load_refused (before (goal.at.returns-in_err-check_lists c).Start) c.args.card.now (number_some _) c.in_err-check_lists.ensures in
    record { value = rw (p.1, p.2) e.0; relations_after = e.1 }

pub returns-in_err-card : goal.returns-in_err-card
returns-in_err-card c =
    let p = err_from_is_err_and c.from_residual-in_err-card.result c.from_residual-in_err-card.ensures.1 in
    let e = load_wrong (before (goal.at.returns-in_err-card c).Start) c.args.card.now c.in_ok-check_lists.ensures (number_some _) c.in_err-card.ensures.refusal in
    record { value = rw (p.1, p.2) e.0; relations_after = e.1 }

pub lay_out-requires : goal.lay_out-requires
lay_out-requires c = (lists_right (before (goal.at.lay_out-requires c).Start)).0 (sym c.in_ok-check_lists.ensures)

pub returns : goal.returns
returns c =
    let e = load_done (before (goal.at.returns c).Start) c.args.card.now c.in_ok-check_lists.ensures c.in_ok-card.ensures.refusal
    (c.lay_out.ensures ∙ ap (λ (b : List ℕ). layout (parcel_in b)) c.in_ok-card.ensures.card) in
    record { value = e.0; relations_after = e.1 }
