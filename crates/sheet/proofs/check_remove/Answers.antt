use mathlib.Core.Path.{◌≡◌, sym, ap, ◌∙◌}
use mathlib.Core.Bool.{true, false}
use mathlib.Core.List.{List}
use Prim.Native.Nat.{ℕ}
use Rattle.std.proofs.lemmas.Result.{err_from_is_err_and}
use Rattle.region.proofs.OrElse.{number_some}
use Rattle.layout.specs.Sheet.{Sheet, sheet_of}
use Rattle.layout.specs.Slots.{empty_in}
use Rattle.layout.specs.Changes.{change_number}
use Rattle.layout.proofs.Refusing.{change_means}
use Rattle.calls.proofs.Numbers.{remove_first, remove_next}
use Rattle.sheet.proofs.check_remove.Goals as goal
use Rattle.sheet.proofs.check_remove.Goals.{In_ok-standing}

pub returns-in_err-standing : goal.returns-in_err-standing
returns-in_err-standing c =
    let p = err_from_is_err_and c.from_residual.result c.from_residual.ensures.1 in
    rw (p.1, p.2) (c.in_err-standing.ensures.refusal ∙ remove_first _ _ (λ q. number_some _ (c.in_err-standing.ensures.refusal ∙ q)))

-- 11, 8 and 12 do not refuse the removal
module _ (c : In_ok-standing) where
  abbrev before : Sheet
  before =
      let a = c.args in
      sheet_of a.xs.now a.records.now a.relations.now

  allowed : change_number before c.args.slot ≡ 0
  allowed = sym c.in_ok-standing.ensures.refusal

  lent : empty_in c.in_ok-standing.standing.records.now c.args.slot ≡ empty_in c.args.records.now c.args.slot
  lent = ap (λ (l : List ℕ). empty_in l c.args.slot) c.in_ok-standing.ensures.standing.1

pub is_empty-requires : goal.is_empty-requires
is_empty-requires c =
    let s = (goal.at.is_empty-requires c).In_ok-standing in
    ((change_means (before s) _).0 (allowed s)).slot_in

pub returns-then-is_empty : goal.returns-then-is_empty
returns-then-is_empty c =
    let s = (goal.at.returns-then-is_empty c).In_ok-standing in
    remove_next (before s) _ (allowed s) true (sym (lent s) ∙ sym c.is_empty.ensures ∙ c.if-is_empty.true)

pub returns : goal.returns
returns c =
    let s = (goal.at.returns c).In_ok-standing in
    remove_next (before s) _ (allowed s) false (sym (lent s) ∙ sym c.is_empty.ensures ∙ c.if-is_empty.false)
