use mathlib.Core.Path.{◌≡◌, sym, ◌∙◌, ap, ap₂}
use Prim.Native.Nat.{ℕ, ◌+◌}
use native.Mathlib.Omega.{arith}
use Rattle.edge.specs.declared.Axis.{Axis}
use Rattle.edge.specs.declared.State.{State}
use Rattle.edge.specs.Moments.{AxisFits}
use Rattle.edge.specs.Walk.{begin_of, enter_of, step_of, StateFits}
use Rattle.edge.proofs.WalkSteps.{enter_fits, step_fits, fits_more, ended_0, ended_1, ended_2, ended_4}
use Rattle.edge.proofs.walk_axes.Goals as goal
use Rattle.edge.proofs.walk_axes.Goals.{After-enter-s}

listed : {s e : State} → s ≡ e → s.list ≡ e.list
listed h = ap (λ (s : State). s.list) h

-- ---- at the start
module _ (c : After-enter-s) where
  abbrev x : Axis
  x = c.args.x

  abbrev y : Axis
  y = c.args.y

  fits_x : AxisFits x 2000000
  fits_x = c.requires.0

  fits_y : AxisFits y 2000000
  fits_y = c.requires.1

  begins : c.enter-s.result ≡ begin_of x y
  begins = c.enter-s.ensures ∙ ap₂ (λ (k l : ℕ). enter_of x.down y.down k l 0) c.lines_at_start.ensures.0 c.lines_at_start-2.ensures.0

  one_fits : StateFits c.enter-s.result 1
  one_fits = rw c.enter-s.ensures (enter_fits 0 _ _ _ _ _ c.lines_at_start.ensures.1 c.lines_at_start-2.ensures.1 (omega arith))

-- ---- after one more step
next_fits : (x y : Axis) (n : ℕ) (s t : State) → t ≡ step_of x y s → StateFits s n → StateFits t (n + 1)
next_fits x y n s t e h = rw e (step_fits x y n s h)

pub returns-then-done : goal.returns-then-done
returns-then-done c =
    let s = (goal.at.returns-then-done c).After-enter-s in
    listed (ended_0 (x s) (y s) 2000000 (fits_x s) (fits_y s) _ (begins s) (sym c.done.ensures ∙ c.if-done.true))

pub step-s1-requires : goal.step-s1-requires
step-s1-requires c = let s = (goal.at.step-s1-requires c).After-enter-s in (fits_x s, fits_y s, fits_more 1 _ (omega arith) (one_fits s))

pub returns-then-done-2 : goal.returns-then-done-2
returns-then-done-2 c =
    let s = (goal.at.returns-then-done-2 c).After-enter-s in
    listed (ended_1 (x s) (y s) 2000000 (fits_x s) (fits_y s) _ (begins s) _ c.step-s1.ensures (sym c.done-2.ensures ∙ c.if-done-2.true))

pub step-s2-requires : goal.step-s2-requires
step-s2-requires c =
    let s = (goal.at.step-s2-requires c).After-enter-s in
    (fits_x s, fits_y s, fits_more 2 _ (omega arith) (next_fits (x s) (y s) 1 _ _ c.step-s1.ensures (one_fits s)))

pub returns-then-done-3 : goal.returns-then-done-3
returns-then-done-3 c =
    let s = (goal.at.returns-then-done-3 c).After-enter-s in
    listed (ended_2 (x s) (y s) 2000000 (fits_x s) (fits_y s) _ (begins s) _ _ c.step-s1.ensures c.step-s2.ensures (sym c.done-3.ensures ∙ c.if-done-3.true))

pub finish-s4-requires : goal.finish-s4-requires
finish-s4-requires c =
    let s = (goal.at.finish-s4-requires c).After-enter-s in
    (fits_x s, fits_y s, next_fits (x s) (y s) 2 _ _ c.step-s2.ensures (next_fits (x s) (y s) 1 _ _ c.step-s1.ensures (one_fits s)))

pub returns : goal.returns
returns c =
    let s = (goal.at.returns c).After-enter-s in
    listed (ended_4 (x s) (y s) 2000000 (fits_x s) (fits_y s) _ (begins s) _ _ _ c.step-s1.ensures c.step-s2.ensures c.finish-s4.ensures)
