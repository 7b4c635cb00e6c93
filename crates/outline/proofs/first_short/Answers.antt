use mathlib.Core.Path.{◌≡◌}
use mathlib.Core.Bool.{true, false}
use Prim.Native.Nat.{◌+◌}
use native.Mathlib.Omega.{arith}
use lib.ListN.{get_or}
use borrow.Author.Tests.{lt-ltb, le-ltb}
use Rattle.region.specs.Region.{start_of}
use Rattle.region.specs.Check.{short_at}
use Rattle.region.proofs.Search.{passed_none, passed_more, where_hit, where_all}
use Rattle.region.proofs.Ends.{start_lt}
use Rattle.outline.proofs.first_short.Goals as goal

pub loop-r-init : goal.loop-r-init
loop-r-init c = passed_none _ _

pub overflow_add-start_of : goal.overflow_add-start_of
overflow_add-start_of c =
    omega (arith, c.start_of.ensures, start_lt c.args.ends.now 65536 (omega arith) (λ i. omega (arith, c.type_inv.ends i)) c.loop-r.r)

pub returns-then-end_of-start_of : goal.returns-then-end_of-start_of
unfolding short_at
returns-then-end_of-start_of c =
    let ends = c.args.ends.now in
    let e : short_at ends c.loop-r.r ≡ true = lt-ltb (get_or ends c.loop-r.r 0) (start_of ends c.loop-r.r + 3) (omega (arith, c.end_of.ensures, c.start_of.ensures)) in
    where_hit _ _ _ c.loop-r.invariant (omega arith) e

pub loop-r-preserved : goal.loop-r-preserved
unfolding short_at
loop-r-preserved c =
    let ends = c.args.ends.now in
    let e : short_at ends c.loop-r.r ≡ false = le-ltb (get_or ends c.loop-r.r 0) (start_of ends c.loop-r.r + 3) (omega (arith, c.end_of.ensures, c.start_of.ensures)) in
    passed_more _ _ _ c.loop-r.invariant (omega arith) e

pub returns : goal.returns
returns c = where_all _ _ _ c.loop-r.invariant (omega arith)
