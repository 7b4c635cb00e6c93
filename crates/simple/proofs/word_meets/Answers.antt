use mathlib.Core.Path.{sym, ◌∙◌}
use Prim.Native.Nat.{◌+◌}
use native.Mathlib.Omega.{arith}
use lib.Pow.{shr_le}
use lib.Count.{count_trailing_zeros}
use Rattle.simple.proofs.Parts.{with_found}
use Rattle.simple.proofs.Candidates.{none_left, none_set, later}
use Rattle.simple.proofs.word_meets.Goals as goal

pub returns-then-n-at : goal.returns-then-n-at
returns-then-n-at c =
    let l = c.loop-rest in
    let a = c.args in
    none_left a.ring.outline.now a.ring.from a.ring.size a.i l.at l.rest l.invariant.3 c.if-n-at.true

pub returns-then-pair_meets : goal.returns-then-pair_meets
returns-then-pair_meets c =
    let l = c.loop-rest in
    let a = c.args in
    with_found a.ring.outline.now a.ring.from a.ring.size a.i (l.at + count_trailing_zeros 64 l.rest) c.if-n-at.false (sym c.pair_meets.ensures ∙ c.if-pair_meets.true)

pub loop-rest-smaller : goal.loop-rest-smaller
loop-rest-smaller c = omega (arith, shr_le c.loop-rest.rest (count_trailing_zeros 64 c.loop-rest.rest), c.loop-rest-test.true)

pub loop-rest-preserved : goal.loop-rest-preserved
loop-rest-preserved c =
    let l = c.loop-rest in
    let a = c.args in (
      omega (arith, l.invariant.0),
      omega (arith, c.if-n-at.false),
      omega (arith, l.invariant.2, shr_le l.rest (count_trailing_zeros 64 l.rest)),
      later a.ring.outline.now a.ring.from a.ring.size a.i l.at l.rest l.invariant.3 (sym c.pair_meets.ensures ∙ c.if-pair_meets.false),
    )

pub returns : goal.returns
returns c =
    let l = c.loop-rest in
    let a = c.args in
    none_set a.ring.outline.now a.ring.from a.ring.size a.i l.at l.rest l.invariant.3 c.loop-rest-test.false
