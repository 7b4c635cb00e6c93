use mathlib.Core.Path.{ap₂}
use Prim.Native.Nat.{ℕ, ◌+◌, ◌*◌}
use native.Mathlib.Omega.{arith}
use lib.ListN.{set, length-set}
use Rattle.layout.specs.Sheet.{slots}
use Rattle.placing.proofs.writing.relate_one.Goals as goal

pub bounds-relations-j : goal.bounds-relations-j
bounds-relations-j c = simp length-set (omega arith)

pub returns : goal.returns
returns c =
    let a = c.args in
    ap₂ (λ (x y : ℕ). set (set a.relations.now (slots * a.slot + a.k) x) (slots * a.k + a.slot) y) c.cell_for-row.ensures c.cell_for-column.ensures
