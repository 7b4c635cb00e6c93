use mathlib.Core.Path.{◌≡◌, refl, ◌∙◌, ap₂}
use mathlib.Core.List.{List}
use Prim.Native.Nat.{ℕ, ◌+◌, ◌-◌, ◌<◌, min, max}
use native.Mathlib.Omega.{arith}
use lib.IntN.{ℤ}
use mir.Syntax.{w32}
use mir.Val.{to_z, of_z}
use Rattle.ring.specs.Edges.{corner}
use Rattle.ring.specs.Stretch.{Stretch}
use Rattle.ring.specs.RingBox.{stretch_box}
use Rattle.plane.specs.Folds.{least_to, greatest_to}
use Rattle.std.specs.Int.{int_min, int_max}
use Rattle.plane.proofs.Place.{held}
use Rattle.ring.proofs.RingBox.{lower_placed, higher_placed}
use Rattle.plane.proofs.Folds.{least_first, least_more, greatest_first, greatest_more}
use Rattle.circuit.proofs.Ring.own_box.Goals as goal
use Rattle.circuit.proofs.Ring.own_box.Invariants.{x_of, y_of, Placed}
use Rattle.circuit.proofs.Ring.own_box.Goals.{After-y_of-y}

-- ---- the coordinates that are read
module _ {xs : List ℤ} {from n : ℕ} (s : Stretch xs from n) {k : ℕ} (h : k < n) where
  x_placed : (x : ℤ) → x ≡ (corner xs from k).x → Placed x (x_of xs from k)
  x_placed x e = rw e ((s.range.at k h).x, refl)

  y_placed : (y : ℤ) → y ≡ (corner xs from k).y → Placed y (y_of xs from k)
  y_placed y e = rw e ((s.range.at k h).y, refl)

keep : (z : ℤ) (p : ℕ) → Placed z p → Placed (to_z w32 (of_z w32 z)) p
keep z p h = rw (held z h.0) h

-- one vertex more
least : (z w : ℤ) (f : ℕ → ℕ) (k : ℕ) → 0 < k → Placed z (least_to f (k - 1)) → Placed w (f k) → (r : ℤ) → r ≡ int_min z w → Placed (to_z w32 (of_z w32 r)) (least_to f (k + 1 - 1))
least z w f k some p q r e =
    let h = lower_placed z w p.0 q.0 in
    keep r _ (rw e (h.0, h.1 ∙ ap₂ min p.1 q.1 ∙ least_more f k some))

greatest : (z w : ℤ) (f : ℕ → ℕ) (k : ℕ) → 0 < k → Placed z (greatest_to f (k - 1)) → Placed w (f k) → (r : ℤ) → r ≡ int_max z w → Placed (to_z w32 (of_z w32 r)) (greatest_to f (k + 1 - 1))
greatest z w f k some p q r e =
    let h = higher_placed z w p.0 q.0 in
    keep r _ (rw e (h.0, h.1 ∙ ap₂ max p.1 q.1 ∙ greatest_more f k some))

to : (z : ℤ) (p q : ℕ) → Placed z p → p ≡ q → Placed (to_z w32 (of_z w32 z)) q
to z p q h e = keep z q (h.0, h.1 ∙ e)

pub loop-k-init : goal.loop-k-init
loop-k-init c =
    let ring = c.args.self.now in
    let x = x_placed ring.stretch c.requires _ c.x_of-west.ensures in
    let y = y_placed ring.stretch c.requires _ c.y_of-south.ensures in (
      to _ _ _ x (least_first (x_of ring.outline.now ring.from)),
      to _ _ _ y (least_first (y_of ring.outline.now ring.from)),
      to _ _ _ x (greatest_first (x_of ring.outline.now ring.from)),
      to _ _ _ y (greatest_first (y_of ring.outline.now ring.from)),
    )

-- ---- a turn, with the coordinates of its vertex
module _ (c : After-y_of-y) where
  abbrev xs : List ℤ
  xs = c.args.self.now.outline.now

  abbrev from : ℕ
  from = c.args.self.now.from

  abbrev k : ℕ
  k = c.loop-k.k

  x : Placed (to_z w32 (of_z w32 c.x_of-x.result)) (x_of xs from k)
  x = keep _ _ (x_placed c.args.self.now.stretch c.loop-k-test.true _ c.x_of-x.ensures)

  y : Placed (to_z w32 (of_z w32 c.y_of-y.result)) (y_of xs from k)
  y = keep _ _ (y_placed c.args.self.now.stretch c.loop-k-test.true _ c.y_of-y.ensures)

pub loop-k-preserved : goal.loop-k-preserved
loop-k-preserved c =
    let l = c.loop-k in
    let ring = c.args.self.now in
    let at = (goal.at.loop-k-preserved c).After-y_of-y in
    let some : 0 < l.k = omega arith in (
      least _ _ (x_of ring.outline.now ring.from) l.k some l.invariant.0 (x at) _ c.min-west.ensures.value,
      least _ _ (y_of ring.outline.now ring.from) l.k some l.invariant.1 (y at) _ c.min-south.ensures.value,
      greatest _ _ (x_of ring.outline.now ring.from) l.k some l.invariant.2 (x at) _ c.max-east.ensures.value,
      greatest _ _ (y_of ring.outline.now ring.from) l.k some l.invariant.3 (y at) _ c.max-north.ensures.value,
    )

pub place_of-requires : goal.place_of-requires
place_of-requires c = c.loop-k.invariant.0.0

pub place_of-requires-2 : goal.place_of-requires-2
place_of-requires-2 c = c.loop-k.invariant.1.0

pub place_of-requires-3 : goal.place_of-requires-3
place_of-requires-3 c = c.loop-k.invariant.2.0

pub place_of-requires-4 : goal.place_of-requires-4
place_of-requires-4 c = c.loop-k.invariant.3.0

pub returns : goal.returns
unfolding stretch_box
returns c =
    let l = c.loop-k in
    let e : l.k ≡ c.args.self.now.size = omega arith in
    rw (
      c.place_of.ensures ∙ l.invariant.0.1,
      c.place_of-2.ensures ∙ l.invariant.1.1,
      c.place_of-3.ensures ∙ l.invariant.2.1,
      c.place_of-4.ensures ∙ l.invariant.3.1,
      e,
    )
