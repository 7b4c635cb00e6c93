use mathlib.Core.Path.{◌≡◌, sym, ap, ap₂, ◌∙◌}
use mathlib.Core.List.{List}
use Prim.Native.Nat.{ℕ}
use denote.Bor.{Bor}
use Rattle.std.specs.Prelude.{Result}
use Rattle.std.proofs.lemmas.Result.{err_from_is_err_and}
use Rattle.region.specs.declared.refusals.Refusal.{Refusal}
use Rattle.region.specs.Refusals.{number_in}
use Rattle.region.proofs.OrElse.{number_some}
use Rattle.calls.specs.Readings.{read_number, read_value, reading_in, reading_of, reading_value}
use Rattle.calls.proofs.Readings.{read_first, number_answered, number_said, value_read}
use Rattle.reading.proofs.read_cell.Goals as goal

-- what a result that says the answer says in number and value
said : (records relations : List ℕ) (i j : ℕ) (r : Result ℕ Refusal) → reading_in r ≡ reading_of records relations i j
    → (reading_in r ≡ reading_of records relations i j) × ((number_in r ≡ read_number records relations i j) × (reading_value (reading_in r) ≡ read_value records relations i j))
said records relations i j r e = (e, (number_said records relations i j r e, ap reading_value e ∙ value_read records relations i j))

pub returns-in_err-tables : goal.returns-in_err-tables
returns-in_err-tables c =
    let a = c.args in
    let p = err_from_is_err_and c.from_residual.result c.from_residual.ensures.1 in
    let k = c.in_err-tables.field-0.0 in
    let e = said a.records.now a.relations.now a.primary a.reference c.from_residual.result
    (rw (p.1, p.2) (sym (number_answered _ _ _ _ _ (number_some k) (sym (read_first a.records.now a.relations.now a.primary a.reference (number_some k) c.in_err-tables.ensures.refusal))))) in
    record { value = e.0; result_value = e.1.0; result_value_2 = e.1.1 }

pub returns : goal.returns
returns c =
    let a = c.args in
    let t = c.in_ok-tables.ensures.tables in
    let e = said a.records.now a.relations.now a.primary a.reference c.cell_of.result
    (c.cell_of.ensures ∙ ap₂ (λ (x y : Bor (List ℕ)). reading_of x.now y.now a.primary a.reference) t.0 t.1) in
    record { value = e.0; result_value = e.1.0; result_value_2 = e.1.1 }
