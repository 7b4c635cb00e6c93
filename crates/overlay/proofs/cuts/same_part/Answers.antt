use native.Mathlib.Omega.{arith}
use native.Mathlib.Nat.{mul-le-mul_left}
use Prim.Native.Nat.{ℕ, ◌*◌, ◌≤◌}
use Rattle.overlay.proofs.cuts.same_part.Goals as goal

product : (k d : ℕ) → k ≤ 2000000 → d ≤ 2000000 → k * d ≤ 4000000000000
product k d h g = omega (arith, h, mul-le-mul_left k g)

pub overflow_mul-result : goal.overflow_mul-result
overflow_mul-result c = let a = c.args in omega (arith, product a.k a.m (omega arith) (omega arith))

pub overflow_mul-result-2 : goal.overflow_mul-result-2
overflow_mul-result-2 c = let a = c.args in omega (arith, product a.j a.n (omega arith) (omega arith))
