use mathlib.Core.Path.{◌∙◌, ap}
use Prim.Native.Nat.{ℕ, ◌/◌, ◌%◌, ◌^◌}
use native.Mathlib.Omega.{arith}
use native.Mathlib.Nat.{one-mul}
use lib.Pow.{shl_exact}
use Rattle.edge.proofs.TileList.{digit_set}
use Rattle.edge.proofs.tile_set.Goals as goal

pub returns : goal.returns
returns c =
    let d = c.args.digit in
    let e = shl_exact {a = 1} 1 d 64 (omega arith) (omega arith) in
    rw e (ap (λ (p : ℕ). p / 2 % 512) (one-mul (2 ^ d)) ∙ digit_set d c.requires)
