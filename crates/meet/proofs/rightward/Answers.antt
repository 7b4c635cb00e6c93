use mathlib.Core.Path.{refl}
use native.Mathlib.Omega.{arith}
use Rattle.meet.proofs.Bounds.{rightward_fits}
use Rattle.meet.proofs.rightward.Goals as goal

pub overflow_mul-result : goal.overflow_mul-result
overflow_mul-result c = omega (arith, rightward_fits c.requires)

pub overflow_mul-result-2 : goal.overflow_mul-result-2
overflow_mul-result-2 c = omega (arith, rightward_fits c.requires)

pub overflow_add-result : goal.overflow_add-result
overflow_add-result c = omega (arith, rightward_fits c.requires)

pub overflow_mul-result-3 : goal.overflow_mul-result-3
overflow_mul-result-3 c = omega (arith, rightward_fits c.requires)

pub overflow_add-result-2 : goal.overflow_add-result-2
overflow_add-result-2 c = omega (arith, rightward_fits c.requires)

pub returns : goal.returns
returns c = refl
