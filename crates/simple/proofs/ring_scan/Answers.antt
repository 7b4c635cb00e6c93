use mathlib.Core.Path.{◌≡◌, refl, sym, ◌∙◌, ap}
use mathlib.Core.List.{List}
use Prim.Native.Nat.{ℕ, ◌+◌, ◌<◌}
use native.Mathlib.Omega.{arith}
use lib.IntN.{ℤ, ◌+ℤ◌}
use mir.Syntax.{w64}
use mir.Val.{SFits, to_z, of_z}
use mir.Facts.{to_z-of_z}
use Rattle.plane.specs.Placed.{EdgeInPlaces}
use Rattle.plane.specs.Folds.{any_to, sum_to}
use Rattle.plane.proofs.Difference.{Diff}
use Rattle.ring.specs.Edges.{ring_edge}
use Rattle.ring.proofs.Stretch.{edge_in_places}
use Rattle.meet.proofs.Signs.{fits}
use Rattle.simple.proofs.Round.{before_first, before_next, before_lt}
use Rattle.simple.proofs.Pass.{equal_at, fold_at, plus_to, minus_to, goes_on, shown_in_line, shown_apart, turn_more, turns_fit, all_scanned}
use Rattle.simple.proofs.ring_scan.Goals as goal
use Rattle.simple.proofs.ring_scan.Goals.{After-edge_after-h, After-turn_of-sum, Joined-in_line, else-in_line, then-in_line}

pub loop-k-init : goal.loop-k-init
unfolding any_to sum_to
loop-k-init c =
    let a = c.args in (
      c.edge-g.ensures ∙ ap (ring_edge a.ring.outline.now a.ring.from a.ring.size) (sym (before_first a.ring.size)),
      refl,
      refl,
      omega arith,
    )

-- edge k, and the edge before it
module _ (c : After-edge_after-h) where
  abbrev xs : List ℤ
  xs = c.args.ring.outline.now

  abbrev from : ℕ
  from = c.args.ring.from

  abbrev n : ℕ
  n = c.args.ring.size

  abbrev k : ℕ
  k = c.loop-k.k

  low : k < n
  low = c.loop-k-test.true

  first_placed : EdgeInPlaces c.loop-k.g
  first_placed = rw c.loop-k.invariant.0 (edge_in_places c.args.ring.stretch (before_lt n k low))

  placed : EdgeInPlaces c.edge_after-h.result
  placed = rw c.edge_after-h.ensures (edge_in_places c.args.ring.stretch low)

  joins : (c.edge_after-h.result.ax ≡ c.loop-k.g.bx) × (c.edge_after-h.result.ay ≡ c.loop-k.g.by)
  joins = goes_on xs from n k c.loop-k.g c.edge_after-h.result low c.loop-k.invariant.0 c.edge_after-h.ensures

pub in_line-requires : goal.in_line-requires
in_line-requires c = (first_placed c, placed c, (joins c).0, (joins c).1)

pub turn_of-sum-requires : goal.turn_of-sum-requires
turn_of-sum-requires c = placed (goal.at.turn_of-sum-requires c).After-edge_after-h

-- what the edges up to k have shown
shown : (c : Joined-in_line)
    → let t = (goal.at.turn_of-sum-requires c).After-edge_after-h in
    (c.if-in_line.repeated ≡ any_to (equal_at (xs t) (from t) (n t)) (k t + 1)) × (c.if-in_line.folded ≡ any_to (fold_at (xs t) (from t) (n t)) (k t + 1))
shown c =
    let t = (goal.at.turn_of-sum-requires c).After-edge_after-h in
    let l = c.loop-k in
    let e = c.in_line.ensures in
    elim c.if-in_line.branch [
      | then-in_line w ↦
          let r = shown_in_line (xs t) (from t) (n t) (k t) l.g c.edge_after-h.result (low t) l.invariant.0 c.edge_after-h.ensures l.repeated l.folded l.invariant.1 l.invariant.2
          w.equal_ends-repeated.result w.turns_back-folded.result (sym e ∙ w.if-in_line.true) w.equal_ends-repeated.ensures w.turns_back-folded.ensures in
          (w.repeated-is ∙ r.0, w.folded-is ∙ r.1)
      | else-in_line w ↦
          let r = shown_apart (xs t) (from t) (n t) (k t) l.g c.edge_after-h.result (low t) l.invariant.0 c.edge_after-h.ensures l.repeated l.folded l.invariant.1 l.invariant.2
          (sym e ∙ w.if-in_line.false) in
          (w.repeated-is ∙ r.0, w.folded-is ∙ r.1)
    ]

-- the sum with what edge k adds to it
module _ (c : After-turn_of-sum) where
  abbrev t : After-edge_after-h
  t = (goal.at.overflow_add-sum c).After-edge_after-h

  abbrev sum : ℤ
  sum = to_z w64 c.loop-k.sum-bits +ℤ to_z w64 (of_z w64 c.turn_of-sum.result)

  sum_is : Diff sum (plus_to (xs t) (from t) (n t) (k t + 1)) (minus_to (xs t) (from t) (n t) (k t + 1))
  sum_is =
      let l = c.loop-k in
      let f : SFits w64 c.turn_of-sum.result = record { sfits = c.turn_of-sum.type_inv } in
      turn_more (xs t) (from t) (n t) (k t) l.g c.edge_after-h.result (low t) l.invariant.0 c.edge_after-h.ensures (to_z w64 l.sum-bits) (to_z w64 (of_z w64 c.turn_of-sum.result))
      l.invariant.3 (to_z-of_z f ∙ c.turn_of-sum.ensures)

  sum_fits : SFits w64 sum
  sum_fits =
      let s = c.args.ring.stretch in
      let p = turns_fit (xs t) (from t) (n t) (k t + 1) s.range (omega (arith, low t)) (omega (arith, s.few)) in
      fits sum (plus_to (xs t) (from t) (n t) (k t + 1)) (minus_to (xs t) (from t) (n t) (k t + 1)) sum_is p.0 p.1

pub overflow_add-sum : goal.overflow_add-sum
overflow_add-sum c = sum_fits c

pub loop-k-preserved : goal.loop-k-preserved
loop-k-preserved c =
    let past = (goal.at.loop-k-preserved c).After-edge_after-h in
    let r = shown (goal.at.loop-k-preserved c).Joined-in_line in (
      c.edge_after-h.ensures ∙ ap (ring_edge (xs past) (from past) (n past)) (sym (before_next (n past) (k past))),
      r.0,
      r.1,
      rw (to_z-of_z (sum_fits c)) (sum_is c),
    )

pub returns : goal.returns
returns c =
    let a = c.args in
    let l = c.loop-k in
    let e : l.k ≡ a.ring.size = omega (arith, l.auto.k-end, c.loop-k-test.false) in
    all_scanned a.ring.outline.now a.ring.from a.ring.size l.repeated l.folded (to_z w64 l.sum-bits) (rw e at l.invariant.1) (rw e at l.invariant.2) (rw e at l.invariant.3)
