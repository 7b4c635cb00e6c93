use mathlib.Core.Path.{sym, ap₂, ◌∙◌}
use mathlib.Core.List.{List}
use Prim.Native.Nat.{ℕ}
use Rattle.plane.specs.Lists.{stores}
use Rattle.region.proofs.OrElse.{number_some}
use Rattle.calls.specs.Several.{pair_count, pair_result}
use Rattle.calls.proofs.Several.{several_room, several_written, several_refused}
use Rattle.reading.proofs.several.read_cells.Goals as goal

pub returns-in_err-tables-clause-results_after : goal.returns-in_err-tables-clause-results_after
returns-in_err-tables-clause-results_after c = sym (several_refused _ _ _ _ (λ z. number_some _ (c.in_err-tables.ensures.refusal ∙ z)))

pub read_pairs-requires : goal.read_pairs-requires
read_pairs-requires c = let a = c.args in several_room a.records.now a.relations.now a.pairs.now a.results.now (sym c.in_ok-tables.ensures.refusal)

pub returns-clause-results_after : goal.returns-clause-results_after
returns-clause-results_after c =
    let a = c.args in
    let t = c.in_ok-tables.ensures.tables in
    c.read_pairs.ensures
    ∙ ap₂ (λ (x y : List ℕ). stores (λ k. k) (pair_result x y a.pairs.now) (pair_count a.pairs.now) a.results.now) t.0 t.1
    ∙ sym (several_written _ _ _ _ (sym c.in_ok-tables.ensures.refusal))
