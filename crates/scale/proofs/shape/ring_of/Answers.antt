use native.Mathlib.Omega.{arith}
use borrow.Author.Tests.{lt-ltb, ne_eqb}
use mathlib.Core.Path.{◌≡◌, refl, sym, ap}
use mathlib.Core.List.{List}
use Prim.Native.Nat.{ℕ, ◌+◌, ◌-◌, ◌≤◌}
use lib.ListN.{take, drop}
use Rattle.scale.specs.Shapes.{end_before, ring_of}
use Rattle.scale.proofs.shape.ring_of.Goals as goal

beyond : (ends : List ℕ) (r : ℕ) → 8 ≤ r → end_before ends (r + 1) ≡ 0
unfolding end_before
beyond ends r h = rw (ne_eqb (r + 1) 0 (λ e. omega (arith, e)), lt-ltb 8 (r + 1) (omega arith)) refl

pub returns-then-r-ge-MOST_RINGS : goal.returns-then-r-ge-MOST_RINGS
unfolding ring_of
returns-then-r-ge-MOST_RINGS g c =
    let ends = c.args.ends in
    let r = c.args.r in
    let z : end_before ends (r + 1) - end_before ends r ≡ 0 = omega (arith, beyond ends r (omega arith)) in
    sym (ap (λ n. take n (drop (end_before ends r) c.args.vertices.now)) z)

pub returns-then-to-from : goal.returns-then-to-from
unfolding ring_of
returns-then-to-from g c =
    let ends = c.args.ends in
    let r = c.args.r in
    let z : end_before ends (r + 1) - end_before ends r ≡ 0 = omega (arith, c.end_before-from.ensures.0, c.end_before-to.ensures.0) in
    sym (ap (λ n. take n (drop (end_before ends r) c.args.vertices.now)) z)

pub returns : goal.returns
unfolding ring_of
returns g c = λ i. take (c.end_before-to.ensures.0 i - c.end_before-from.ensures.0 i) (drop (c.end_before-from.ensures.0 i) c.args.vertices.now)
