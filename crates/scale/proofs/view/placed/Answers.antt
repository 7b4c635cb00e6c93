use mathlib.Core.Path.{refl, ap}
use native.Mathlib.Omega.{arith}
use Prim.Native.Nat.{ℕ, ◌+◌}
use borrow.Author.Tests.{lt-ltb, le-ltb, lt-leb, le-leb}
use Rattle.scale.specs.Places.{placed_of}
use Rattle.scale.proofs.view.placed.Goals as goal

pub returns-then-margin-gt50000 : goal.returns-then-margin-gt50000
unfolding placed_of
returns-then-margin-gt50000 c = let a = c.args in (rw (lt-ltb 50000 a.margin (omega arith)) refl, omega arith)

pub returns-then-b-a : goal.returns-then-b-a
unfolding placed_of
returns-then-b-a c = let a = c.args in (rw (le-ltb 50000 a.margin (omega arith), le-leb a.b a.a (omega arith)) refl, omega arith)

pub returns : goal.returns
unfolding placed_of
returns c = let a = c.args in (rw (le-ltb 50000 a.margin (omega arith), lt-leb a.b a.a (omega arith)) (ap (λ (t : ℕ). a.margin + t) c.tenths.ensures.0), omega (arith, c.tenths.ensures.1))
