use mathlib.Core.Path.{◌≡◌, refl, ◌∙◌, ap}
use mathlib.Core.Bool.{false}
use Prim.Native.Nat.{ℕ, ◌≤◌, ◌<◌, min, max}
use native.Mathlib.Omega.{arith}
use borrow.Author.Tests.{le-leb, lt-leb}
use lib.Dec.{leb}
use Rattle.drawn.specs.Steps.{near}
use Rattle.drawn.proofs.near.Goals as goal

module _ (a b lo hi : ℕ) where
  before_it : hi < min a b → false ≡ near a b lo hi
  unfolding near
  before_it h = rw (lt-leb (min a b) hi h) refl

  by_its_end : min a b ≤ hi → leb lo (max a b) ≡ near a b lo hi
  unfolding near
  by_its_end h = rw (le-leb (min a b) hi h) refl

pub returns-then-min-hi : goal.returns-then-min-hi
returns-then-min-hi c =
    let a = c.args in
    ap (leb a.lo) c.max.ensures ∙ by_its_end a.a a.b a.lo a.hi (omega (arith, c.if-min-hi.true, c.min.ensures))

pub returns-else-min-hi : goal.returns-else-min-hi
returns-else-min-hi c = let a = c.args in lt-leb c.min.result a.hi c.if-min-hi.false ∙ before_it a.a a.b a.lo a.hi (omega (arith, c.if-min-hi.false, c.min.ensures))
