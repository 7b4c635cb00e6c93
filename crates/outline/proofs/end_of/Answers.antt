use native.Mathlib.Omega.{arith}
use Rattle.outline.proofs.end_of.Goals as goal

pub overflow_cast-result : goal.overflow_cast-result
overflow_cast-result c = omega (arith, c.type_inv.ends c.args.r)
