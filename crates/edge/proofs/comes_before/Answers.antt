use mathlib.Core.Path.{refl}
use native.Mathlib.Omega.{arith}
use Rattle.edge.specs.Moments.{sooner}
use Rattle.edge.proofs.Moments.{product_fits, sooner_never, sooner_last}
use Rattle.edge.proofs.comes_before.Goals as goal

pub returns-then-m : goal.returns-then-m
returns-then-m c = let a = c.args in sooner_never a.m a.o 2000000 c.requires.1 c.if-m.true

pub returns-then-o : goal.returns-then-o
returns-then-o c = let a = c.args in sooner_last a.m a.o 2000000 c.requires.1 c.if-m.false c.if-o.true

pub overflow_mul-result : goal.overflow_mul-result
overflow_mul-result c = product_fits _ _ (omega arith) (omega arith)

pub overflow_mul-result-2 : goal.overflow_mul-result-2
overflow_mul-result-2 c = product_fits _ _ (omega arith) (omega arith)

pub returns : goal.returns
unfolding sooner
returns c = refl
