use mathlib.Core.Path.{◌≡◌, ◌∙◌, ap}
use native.Mathlib.Omega.{arith}
use Rattle.seen.specs.Pass.{seen_to}
use Rattle.seen.proofs.Shown.{seen_none, seen_all}
use Rattle.seen.proofs.edges_seen.Goals as goal

pub loop-at-init : goal.loop-at-init
loop-at-init c = let ring = c.args.ring.now in (omega arith, seen_none c.args.b ring.outline.now ring.from ring.size)

pub block_seen-s-requires : goal.block_seen-s-requires
block_seen-s-requires c =
    let l = c.loop-at in
    (c.loop-at-test.true, omega (arith, c.min-m.ensures, l.invariant.0), omega (arith, c.min-m.ensures), l.invariant.1)

pub overflow_add-at : goal.overflow_add-at
overflow_add-at c =
    let l = c.loop-at in
    record { fits = omega (arith, c.min-m.ensures, l.invariant.0, c.args.ring.now.stretch.few) }

pub loop-at-smaller : goal.loop-at-smaller
loop-at-smaller c = omega (arith, c.min-m.ensures, c.loop-at-test.true)

pub loop-at-preserved : goal.loop-at-preserved
loop-at-preserved c =
    let l = c.loop-at in
    (omega (arith, c.min-m.ensures, l.invariant.0), c.block_seen-s.ensures)

pub returns : goal.returns
returns c =
    let ring = c.args.ring.now in
    let l = c.loop-at in
    let e : l.at ≡ ring.size = omega (arith, l.invariant.0, c.loop-at-test.false) in
    l.invariant.1 ∙ ap (seen_to c.args.b ring.outline.now ring.from ring.size) e
    ∙ seen_all c.args.b ring.outline.now ring.from ring.size c.requires.0 c.requires.1 ring.stretch
