use mathlib.Core.Path.{◌≡◌, sym}
use mathlib.Core.Bool.{true, false}
use native.Mathlib.Omega.{arith}
use borrow.Author.Count.{below_more, below_none}
use borrow.Author.Tests.{le-leb, lt-leb}
use lib.Dec.{leb}
use lib.ListN.{get_or}
use Rattle.plane.proofs.Folds.{first_hit, first_none}
use Rattle.matrix.proofs.axis.place_among.Goals as goal

pub loop-k-init : goal.loop-k-init
loop-k-init c = below_none _

pub returns-then-v-at : goal.returns-then-v-at
returns-then-v-at c =
    let p = c.loop-k in
    let a = c.args in
    let e : leb a.v (get_or a.at p.k 0) ≡ true = le-leb a.v (get_or a.at p.k 0) c.if-v-at.true in
    sym (first_hit _ p.k a.count (omega arith) p.invariant e)

pub loop-k-preserved : goal.loop-k-preserved
loop-k-preserved c =
    let p = c.loop-k in
    let a = c.args in
    let e : leb a.v (get_or a.at p.k 0) ≡ false = lt-leb a.v (get_or a.at p.k 0) (omega arith) in
    below_more _ _ p.invariant e

pub returns : goal.returns
returns c =
    let p = c.loop-k in
    let a = c.args in
    sym (first_none _ a.count (λ k h. p.invariant k (omega arith)))
