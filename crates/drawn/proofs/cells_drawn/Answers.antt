use Prim.Native.Nat.{ℕ, ◌<◌, ◌/◌, ◌%◌}
use native.Mathlib.Omega.{arith}
use lib.ListN.{length, length-set}
use Rattle.plane.proofs.Lists.{tab_more, tab_all}
use Rattle.drawn.specs.Steps.{value_by}
use Rattle.drawn.proofs.cells_drawn.Goals as goal

pub cell_drawn-requires : goal.cell_drawn-requires
cell_drawn-requires c = (c.requires, omega arith, omega arith)

pub loop-k-preserved : goal.loop-k-preserved
loop-k-preserved c =
    let p = c.loop-k in
    let a = c.args in
    let n : p.k < length p.cells = omega (arith, p.invariant.0) in (
      simp length-set p.invariant.0,
      tab_more (λ (j : ℕ). value_by a.a a.b a.first a.second (j / 3) (j % 3)) 0
          p.cells p.k _ n p.invariant.1 c.cell_drawn.ensures,
    )

pub returns : goal.returns
returns c = let p = c.loop-k in tab_all _ 0 9 p.cells p.invariant.0 (λ k b. p.invariant.1 k (omega arith))
