use mathlib.Core.Path.{refl}
use native.Mathlib.Omega.{arith}
use Prim.Native.Nat.{◌*◌, ◌/◌}
use borrow.Author.Tests.{lt-ltb, le-ltb, lt-leb, le-leb, eq-eqb, ne_eqb}
use Rattle.scale.specs.Places.{tenths_of}
use Rattle.scale.proofs.view.tenths.Goals as goal

pub returns-then-span-eq0 : goal.returns-then-span-eq0
unfolding tenths_of
returns-then-span-eq0 c = let a = c.args in (rw (eq-eqb a.span 0 (omega arith)) refl, omega arith)

pub returns-then-span-d : goal.returns-then-span-d
unfolding tenths_of
returns-then-span-d c = let a = c.args in (rw (ne_eqb a.span 0 (λ e. omega (arith, e)), le-leb a.span a.d (omega arith)) refl, omega arith)

pub returns-then-d-gt-MOST_PLACE : goal.returns-then-d-gt-MOST_PLACE
unfolding tenths_of
returns-then-d-gt-MOST_PLACE c = let a = c.args in (rw (ne_eqb a.span 0 (λ e. omega (arith, e)), lt-leb a.span a.d (omega arith), lt-ltb 2000000 a.d (omega arith)) refl, omega arith)

pub returns-then-t-gt7600 : goal.returns-then-t-gt7600
unfolding tenths_of
returns-then-t-gt7600 c = let a = c.args in (rw (ne_eqb a.span 0 (λ e. omega (arith, e)), lt-leb a.span a.d (omega arith), le-ltb 2000000 a.d (omega arith), lt-ltb 7600 (a.d * 7600 / a.span) (omega arith)) refl, omega arith)

pub returns : goal.returns
unfolding tenths_of
returns c = let a = c.args in (rw (ne_eqb a.span 0 (λ e. omega (arith, e)), lt-leb a.span a.d (omega arith), le-ltb 2000000 a.d (omega arith), le-ltb 7600 (a.d * 7600 / a.span) (omega arith)) refl, omega arith)
