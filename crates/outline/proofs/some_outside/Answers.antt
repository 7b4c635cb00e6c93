use mathlib.Core.Path.{◌≡◌, refl, ◌∙◌, ap}
use mathlib.Core.Bool.{Bool, false, not}
use Prim.Native.Nat.{ℕ}
use borrow.Author.Rules.{rules}
use native.Mathlib.Omega.{arith}
use lib.ListN.{length}
use Rattle.plane.specs.Folds.{any_to}
use Rattle.plane.proofs.Folds.{any_step}
use Rattle.region.specs.Check.{some_outside}
use Rattle.outline.proofs.some_outside.Invariants.{out}
use Rattle.outline.proofs.some_outside.Goals as goal

none : (f : ℕ → Bool) → false ≡ any_to f 0
unfolding any_to
none f = refl

pub loop-z-init : goal.loop-z-init
loop-z-init c = none _

pub loop-z-preserved : goal.loop-z-preserved
loop-z-preserved c =
    let l = c.loop-z in
    let e : not c.in_range.result ≡ out c.args.outline.now l.z-index = search (rules, c.in_range.ensures) in
    rw (l.invariant, e) (any_step (out c.args.outline.now) l.z-index)

pub returns : goal.returns
unfolding some_outside
returns c =
    let l = c.loop-z in
    let e : l.z-index ≡ length c.args.outline.now = omega arith in
    l.invariant ∙ ap (any_to (out c.args.outline.now)) e
