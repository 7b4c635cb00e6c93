use mathlib.Core.Path.{◌≡◌, sym, ap, ap₂, ◌∙◌}
use mathlib.Core.List.{List}
use Prim.Native.Nat.{ℕ, ◌+◌, ◌*◌}
use native.Mathlib.Nat.{zero-add}
use denote.Bor.{Bor}
use Rattle.region.specs.declared.refusals.Refusal.{Refusal}
use Rattle.region.specs.Refusals.{number}
use Rattle.region.proofs.OrElse.{number_some}
use Rattle.layout.specs.Slots.{row_in, row_place}
use Rattle.calls.specs.Readings.{read_number}
use Rattle.calls.proofs.Readings.{read_first, read_means, row_empty, row_whole, start_full, start_empty}
use Rattle.reading.proofs.row.Goals as goal
use Rattle.reading.proofs.row.Goals.{In_default, In_default-check_cell, In-Ok-check_cell}

refuses : (records relations : List ℕ) (i : ℕ) (k : Refusal) → number k ≡ read_number records relations i i → read_number records relations i i ≡ 0 → ⊥
refuses records relations i k e z = number_some k (e ∙ z)

-- 11 refuses the reading
lists_refuse : (c : In_default) → let a = c.args in read_number a.records.now a.relations.now a.slot a.slot ≡ 0 → ⊥
lists_refuse c = refuses _ _ _ c.in_default.field-0 (read_first _ _ _ _ (number_some _) c.in_default.ensures.refusal)

pub returns-in_default-clause-result_value : goal.returns-in_default-clause-result_value
returns-in_default-clause-result_value c = sym (row_empty _ _ _ (lists_refuse (goal.at.returns-in_default-clause-result_value c).In_default))

pub returns-in_default-clause-ref_ptr_value : goal.returns-in_default-clause-ref_ptr_value
returns-in_default-clause-ref_ptr_value c =
    let a = c.args in
    simp (start_empty a.records.now a.relations.now a.slot (lists_refuse (goal.at.returns-in_default-clause-ref_ptr_value c).In_default), zero-add)

-- the lists are those that are lent
lent : (i : ℕ) {x y a b : Bor (List ℕ)} → x ≡ a → y ≡ b → read_number x.now y.now i i ≡ read_number a.now b.now i i
lent i e f = ap₂ (λ (x y : Bor (List ℕ)). read_number x.now y.now i i) e f

-- 8 or 9 refuses it
slot_refuses : (c : In_default-check_cell) → let a = c.args in read_number a.records.now a.relations.now a.slot a.slot ≡ 0 → ⊥
slot_refuses c = refuses _ _ _ c.in_default-check_cell.field-0 (c.in_default-check_cell.ensures ∙ lent c.args.slot c.in-Ok.ensures.tables.0 c.in-Ok.ensures.tables.1)

pub returns-in_default-check_cell-clause-result_value : goal.returns-in_default-check_cell-clause-result_value
returns-in_default-check_cell-clause-result_value c = sym (row_empty _ _ _ (slot_refuses (goal.at.returns-in_default-check_cell-clause-result_value c).In_default-check_cell))

pub returns-in_default-check_cell-clause-ref_ptr_value : goal.returns-in_default-check_cell-clause-ref_ptr_value
returns-in_default-check_cell-clause-ref_ptr_value c =
    let a = c.args in
    simp (start_empty a.records.now a.relations.now a.slot (slot_refuses (goal.at.returns-in_default-check_cell-clause-ref_ptr_value c).In_default-check_cell), zero-add)

-- nothing refuses it
accepted : (c : In-Ok-check_cell) → let a = c.args in read_number a.records.now a.relations.now a.slot a.slot ≡ 0
accepted c = sym (c.in-Ok-check_cell.ensures ∙ lent c.args.slot c.in-Ok.ensures.tables.0 c.in-Ok.ensures.tables.1)

pub row-requires : goal.row-requires
row-requires c =
    let h = (read_means _ _ _ _).0 (accepted (goal.at.row-requires c).In-Ok-check_cell) in
    h.primary

pub returns-clause-result_value : goal.returns-clause-result_value
returns-clause-result_value c =
    c.row.ensures.result_value ∙ ap (λ (x : Bor (List ℕ)). row_in x.now c.args.slot) c.in-Ok.ensures.tables.1
    ∙ sym (row_whole _ _ _ (accepted (goal.at.returns-clause-result_value c).In-Ok-check_cell))

pub returns-clause-ref_ptr_value : goal.returns-clause-ref_ptr_value
returns-clause-ref_ptr_value c =
    let a = c.args in
    c.row.ensures.ref_ptr_value ∙ ap (λ (x : Bor (List ℕ)). (x.ref_ptr.0, row_place a.slot * 2 + x.ref_ptr.1)) c.in-Ok.ensures.tables.1
    ∙ ap (λ (n : ℕ). (a.relations.ref_ptr.0, n * 2 + a.relations.ref_ptr.1)) (sym (start_full _ _ _ (accepted (goal.at.returns-clause-ref_ptr_value c).In-Ok-check_cell)))
