use mathlib.Core.Path.{◌≡◌, sym, ◌∙◌, ap}
use native.Mathlib.Omega.{arith}
use lib.ListN.{length}
use Rattle.plane.specs.Folds.{any_to}
use Rattle.plane.proofs.Folds.{none_yet, none_more, found}
use Rattle.region.specs.Outline.{drawn_by}
use Rattle.region.specs.Check.{faulty_at, some_faulty}
use Rattle.outline.proofs.Faults.{faults_are}
use Rattle.outline.proofs.some_faulty.Goals as goal

pub loop-r-init : goal.loop-r-init
loop-r-init c = none_yet _

pub faults_at-faults-requires : goal.faults_at-faults-requires
faults_at-faults-requires c = (c.requires, c.loop-r-test.true)

pub returns-then-faults : goal.returns-then-faults
unfolding some_faulty
returns-then-faults c =
    found _ _ c.loop-r.r c.loop-r-test.true (sym (faults_are _ c.loop-r.r c.loop-r-test.true c.faults_at-faults.result c.faults_at-faults.ensures) ∙ c.if-faults.true)

pub loop-r-preserved : goal.loop-r-preserved
loop-r-preserved c =
    none_more _ c.loop-r.r c.loop-r.invariant (sym (faults_are _ c.loop-r.r c.loop-r-test.true c.faults_at-faults.result c.faults_at-faults.ensures) ∙ c.if-faults.false)

pub returns : goal.returns
unfolding some_faulty
returns c =
    let l = c.loop-r in
    let a = c.args in
    let e : l.r ≡ length a.outline.ends.now = omega arith in
    sym l.invariant ∙ ap (any_to (faulty_at (drawn_by a.outline))) e
