-- The steps of a walk: their bounds, and what each answer of the code comes to.
--   next_first, next_second, next_end    the next line after c lines
--   enter_fits, step_fits, fits_more    a step adds at most one tile, and four are few enough
--   step_x, step_y, step_both, step_none    the four answers of a step
--   done_x, done_y, done_all    the answers of `done_of`
--   ended_0, ended_1, ended_2, ended_4    a walk that is done after so many steps has ended
--   list_none, list_some    the list of an edge with equal ends, and of any other
use mathlib.Core.Path.{◌≡◌, refl, sym}
use mathlib.Core.Bool.{Bool, true, false, not, ◌&&◌}
use Prim.Native.Nat.{ℕ, zero, suc, ◌+◌, ◌*◌, ◌^◌, ◌≤◌, ◌<◌}
use native.Mathlib.Omega.{arith}
use native.Mathlib.Decide.{ℕ_discrete}
use native.Mathlib.Nat.{mul-le-mul}
use borrow.Author.Tests.{eq-eqb, ne_eqb, ltb-false, le-ltb}
use lib.Dec.{ltb, eqb}
use lib.Pow.{pow-add}
use Rattle.plane.specs.Choice.{pick}
use Rattle.plane.specs.declared.Box.{Box}
use Rattle.plane.specs.declared.Edge.{Edge}
use Rattle.plane.proofs.Logic.{and_means, not_means, is_false}
use Rattle.edge.specs.declared.Moment.{Moment}
use Rattle.edge.specs.declared.Axis.{Axis}
use Rattle.edge.specs.declared.State.{State}
use Rattle.edge.specs.Moments.{end_moment, sooner, AxisFits}
use Rattle.edge.specs.Walk.{axis_x, axis_y, next_moment, lines_past, range_after, tile_of, enter_of, left_of, step_of, done_of, begin_of, state_of, list_of, StateFits}
use Rattle.edge.proofs.Weights.{EqualEnds}
use Rattle.edge.proofs.Moments.{next_fits}

-- ---- the next line
pub next_first : (x : Axis) (c : ℕ) → c ≡ 0 → next_moment x c ≡ record { k = x.first; n = x.length }
next_first x zero e = refl
next_first x (suc c) e = absurd (omega arith)

pub next_second : (x : Axis) (c : ℕ) → c ≡ 1 → next_moment x c ≡ record { k = x.second; n = x.length }
next_second x zero e = absurd (omega arith)
next_second x (suc zero) e = refl
next_second x (suc (suc c)) e = absurd (omega arith)

pub next_end : (x : Axis) (c : ℕ) → (c ≡ 0 → ⊥) → (c ≡ 1 → ⊥) → next_moment x c ≡ end_moment
next_end x zero n m = absurd (n refl)
next_end x (suc zero) n m = absurd (m refl)
next_end x (suc (suc c)) n m = refl

-- ---- bounds
past_le : (x : Axis) (c : ℕ) → lines_past x c ≤ 2
unfolding lines_past
past_le x c = go (eqb c 0) (ltb x.first x.second)
  where
    go : (a b : Bool) → pick {A = ℕ} a (pick {A = ℕ} b 1 2) 2 ≤ 2
    go true true = omega arith
    go true false = omega arith
    go false b = omega arith

range_le : (down : Bool) (c : ℕ) → c ≤ 2 → range_after down c ≤ 2
unfolding range_after
range_le true c h = omega arith
range_le false c h = h

pub enter_fits : (m : ℕ) (downX downY : Bool) (c r v : ℕ) → c ≤ 2 → r ≤ 2 → v < 16 ^ m → StateFits (enter_of downX downY c r v) (m + 1)
unfolding enter_of tile_of
enter_fits m downX downY c r v hc hr h =
    let p = range_le downX c hc in
    record { upright = hc; level = hr; list = omega (arith, pow-add 16 m 1) }

pub step_fits : (x y : Axis) (m : ℕ) (s : State) → StateFits s m → StateFits (step_of x y s) (m + 1)
unfolding step_of
step_fits x y m s h =
    go (sooner (next_moment x s.upright) (next_moment y s.level)) (sooner (next_moment y s.level) (next_moment x s.upright)) (left_of (next_moment x s.upright))
  where
    go : (a b d : Bool) → StateFits (pick a (enter_of x.down y.down (lines_past x s.upright) s.level s.list)
        (pick b (enter_of x.down y.down s.upright (lines_past y s.level) s.list)
        (pick d (enter_of x.down y.down (lines_past x s.upright) (lines_past y s.level) s.list) s))) (m + 1)
    go true b d = enter_fits m x.down y.down (lines_past x s.upright) s.level s.list (past_le x s.upright) h.level h.list
    go false true d = enter_fits m x.down y.down s.upright (lines_past y s.level) s.list h.upright (past_le y s.level) h.list
    go false false true = enter_fits m x.down y.down (lines_past x s.upright) (lines_past y s.level) s.list (past_le x s.upright) (past_le y s.level) h.list
    go false false false = record { upright = h.upright; level = h.level; list = omega (arith, h.list, pow-add 16 m 1) }

power_le : (m : ℕ) → m ≤ 4 → 16 ^ m ≤ 16 ^ 4
power_le zero h = omega arith
power_le (suc zero) h = omega arith
power_le (suc (suc zero)) h = omega arith
power_le (suc (suc (suc zero))) h = omega arith
power_le (suc (suc (suc (suc zero)))) h = omega arith
power_le (suc (suc (suc (suc (suc m))))) h = absurd (omega arith)

pub fits_more : (m : ℕ) (s : State) → m ≤ 4 → StateFits s m → StateFits s 4
fits_more m s l h = record { upright = h.upright; level = h.level; list = omega (arith, h.list, power_le m l) }

-- ---- the answers of a step
module _ (x y : Axis) (s : State) (p q : Moment) (ep : p ≡ next_moment x s.upright) (eq : q ≡ next_moment y s.level) where
  pub step_x : (k : ℕ) → k ≡ lines_past x s.upright → sooner p q ≡ true → enter_of x.down y.down k s.level s.list ≡ step_of x y s
  unfolding step_of
  step_x k e h = rw (← ep, ← eq, h, e)

  pub step_y : (k : ℕ) → k ≡ lines_past y s.level → sooner p q ≡ false → sooner q p ≡ true → enter_of x.down y.down s.upright k s.list ≡ step_of x y s
  unfolding step_of
  step_y k e h h' = rw (← ep, ← eq, h, h', e)

  pub step_both : (k l : ℕ) → k ≡ lines_past x s.upright → l ≡ lines_past y s.level → sooner p q ≡ false → sooner q p ≡ false → left_of p ≡ true
      → enter_of x.down y.down k l s.list ≡ step_of x y s
  unfolding step_of
  step_both k l e f h h' i = rw (← ep, ← eq, h, h', i, e, f)

  pub step_none : sooner p q ≡ false → sooner q p ≡ false → left_of p ≡ false → s ≡ step_of x y s
  unfolding step_of
  step_none h h' i = rw (← ep, ← eq, h, h', i)

-- ---- no line is left
module _ (x y : Axis) (s : State) (p : Moment) (ep : p ≡ next_moment x s.upright) where
  pub done_x : left_of p ≡ true → false ≡ done_of x y s
  unfolding done_of
  done_x h = rw (← ep, h)

  module _ (q : Moment) (eq : q ≡ next_moment y s.level) where
    pub done_y : left_of p ≡ false → left_of q ≡ true → false ≡ done_of x y s
    unfolding done_of
    done_y h k = rw (← ep, h, ← eq, k)

    pub done_all : left_of p ≡ false → left_of q ≡ false → true ≡ done_of x y s
    unfolding done_of
    done_all h k = rw (← ep, h, ← eq, k)

-- of two moments at the end neither comes before the other
none_sooner : (m o : Moment) → m.n ≤ m.k → o.k ≤ o.n → sooner m o ≡ false
unfolding sooner
none_sooner m o h i = le-ltb (m.k * o.n) (o.k * m.n) (omega (arith, mul-le-mul i h))

done_step : (x y : Axis) (most : ℕ) (s : State) → AxisFits x most → AxisFits y most → done_of x y s ≡ true → step_of x y s ≡ s
unfolding done_of
done_step x y most s fits-x fits-y h =
    let p = next_moment x s.upright in
    let q = next_moment y s.level in
    let d = (and_means (not (left_of p)) (not (left_of q))).0 h in
    let ep = is_false (left_of p) ((not_means (left_of p)).0 d.0) in
    let eq = is_false (left_of q) ((not_means (left_of q)).0 d.1) in
    let hm : 0 < most = omega (arith, fits-x.some, fits-x.small) in
    let up = next_fits x s.upright most hm fits-x in
    let uq = next_fits y s.level most hm fits-y in
    sym (step_none x y s p q refl refl
    (none_sooner p q (ltb-false p.k p.n ep) uq.part) (none_sooner q p (ltb-false q.k q.n eq) up.part) ep)

-- ---- the answers of the walk
module _ (x y : Axis) (most : ℕ) (fits-x : AxisFits x most) (fits-y : AxisFits y most) (s : State) (e : s ≡ begin_of x y) where
  pub ended_0 : done_of x y s ≡ true → s ≡ state_of x y
  unfolding state_of
  ended_0 h = let d = done_step x y most s fits-x fits-y h in rw (← e) (rw (d, d, d, d))

  pub ended_1 : (s1 : State) → s1 ≡ step_of x y s → done_of x y s1 ≡ true → s1 ≡ state_of x y
  unfolding state_of
  ended_1 s1 e1 h = let d = done_step x y most s1 fits-x fits-y h in rw (← e) (rw (← e1) (rw (d, d, d)))

  pub ended_2 : (s1 s2 : State) → s1 ≡ step_of x y s → s2 ≡ step_of x y s1 → done_of x y s2 ≡ true → s2 ≡ state_of x y
  unfolding state_of
  ended_2 s1 s2 e1 e2 h = let d = done_step x y most s2 fits-x fits-y h in rw (← e) (rw (← e1) (rw (← e2) (rw (d, d))))

  pub ended_4 : (s1 s2 s4 : State) → s1 ≡ step_of x y s → s2 ≡ step_of x y s1 → s4 ≡ step_of x y (step_of x y s2) → s4 ≡ state_of x y
  unfolding state_of
  ended_4 s1 s2 s4 e1 e2 e4 = rw (← e) (rw (← e1) (rw (← e2) (rw (← e4))))

pub list_none : (b : Box) (g : Edge) → EqualEnds g → list_of b g ≡ 0
unfolding list_of
list_none b g q = simp (eq-eqb _ _ q.0, eq-eqb _ _ q.1)

pub list_some : (b : Box) (g : Edge) → (EqualEnds g → ⊥) → list_of b g ≡ (state_of (axis_x b g) (axis_y b g)).list
unfolding list_of
list_some b g n = go (ℕ_discrete g.ax g.bx) (ℕ_discrete g.ay g.by)
  where
    go : Dec (g.ax ≡ g.bx) → Dec (g.ay ≡ g.by)
        → pick (eqb g.ax g.bx && eqb g.ay g.by) 0 (state_of (axis_x b g) (axis_y b g)).list ≡ (state_of (axis_x b g) (axis_y b g)).list
    go (yes e) (yes f) = absurd (n (e, f))
    go (no e) d = simp (ne_eqb _ _ e)
    go (yes e) (no f) = simp (eq-eqb _ _ e, ne_eqb _ _ f)
