use mathlib.Core.Path.{refl}
use Prim.Native.Nat.{ℕ, ◌<◌, ◌/◌, ◌%◌}
use native.Mathlib.Omega.{arith}
use lib.ListN.{length, length-set}
use Rattle.plane.proofs.Lists.{tab_more, tab_all}
use Rattle.matrix.specs.Matrix.{flat_of, value_at}
use Rattle.matrix.proofs.flat_of.Goals as goal

pub loop-k-preserved : goal.loop-k-preserved
loop-k-preserved c =
    let p = c.loop-k in
    let m = c.args.m in
    let n : p.k < length p.cells = omega (arith, p.invariant.0) in
    (simp length-set p.invariant.0, tab_more (λ (j : ℕ). value_at m (j / 3) (j % 3)) 0 p.cells p.k _ n p.invariant.1 refl)

pub returns : goal.returns
unfolding flat_of
returns c = let p = c.loop-k in tab_all _ 0 9 p.cells p.invariant.0 (λ k b. p.invariant.1 k (omega arith))
