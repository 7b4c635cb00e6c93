use mathlib.Core.Path.{◌≡◌, refl, ◌∙◌, ap}
use mir.Val.{bool_byte}
use mathlib.Core.Bool.{Bool, true, false, not}
use Prim.Native.Nat.{ℕ, ◌≤◌}
use native.Mathlib.Omega.{arith}
use Rattle.plane.specs.TileSet.{one_if}
use Rattle.region.specs.Region.{most_rings, most_vertices, last_end}
use Rattle.layout.specs.Sheet.{slots}
use Rattle.layout.specs.Slots.{empty_in, ends_in}
use Rattle.card.proofs.Sums.{summing_none, summing_more, summing_all}
use Rattle.writing.specs.declared.Totals.{Totals}
use Rattle.writing.specs.Steps.{totals_of}
use Rattle.writing.proofs.Parts.{countable}
use Rattle.writing.proofs.steps.count_all.Goals as goal
use Rattle.writing.proofs.steps.count_all.Goals.{After-last_end-vertices, After-from-parcels, After-ring_count-rings}

totals : {p q r s v w : ℕ} → p ≡ q → r ≡ s → v ≡ w → ◌≡◌ {A = Totals} (record { parcels = p; rings = r; vertices = v }) (record { parcels = q; rings = s; vertices = w })
totals e f g = λ d. record { parcels = e d; rings = f d; vertices = g d }

as_one : (t : Bool) → bool_byte t ≡ one_if t
as_one true = refl
as_one false = refl

at_most_one : (t : Bool) {n : ℕ} → n ≡ one_if t → n ≤ 1
at_most_one true e = omega arith
at_most_one false e = omega arith

pub loop-i-init : goal.loop-i-init
loop-i-init c = (summing_none _ 1 _, summing_none _ most_rings _, summing_none _ most_vertices _)

-- what slot i adds
module _ (c : After-from-parcels) where
  there : c.from-parcels.result ≡ one_if (not (empty_in c.args.standing.now.records.now c.loop-i.i))
  there = c.from-parcels.ensures ∙ as_one (not c.is_empty.result) ∙ ap (λ (t : Bool). one_if (not t)) c.is_empty.ensures

  one : c.from-parcels.result ≤ 1
  one = at_most_one (not (empty_in c.args.standing.now.records.now c.loop-i.i)) there

pub overflow_add-parcels : goal.overflow_add-parcels
overflow_add-parcels c = record { fits = omega (arith, one (goal.at.overflow_add-parcels c).After-from-parcels, c.loop-i.invariant.0.2) }

module _ (c : After-ring_count-rings) where
  few : c.ring_count-rings.result ≤ most_rings
  few =
      omega (arith, c.ring_count-rings.ensures, ((countable _ _ c.args.standing.now.whole).counted c.loop-i.i (omega arith)).few)

pub overflow_add-rings : goal.overflow_add-rings
overflow_add-rings c = record { fits = omega (arith, few (goal.at.overflow_add-rings c).After-ring_count-rings, c.loop-i.invariant.1.2) }

module _ (c : After-last_end-vertices) where
  last : c.last_end-vertices.result ≡ last_end (ends_in c.args.standing.now.records.now c.loop-i.i)
  last = c.last_end-vertices.ensures ∙ ap last_end c.ends.ensures

  low : c.last_end-vertices.result ≤ most_vertices
  low =
      omega (arith, last, (countable _ _ c.args.standing.now.whole).low c.loop-i.i (omega arith))

pub overflow_add-vertices : goal.overflow_add-vertices
overflow_add-vertices c = record { fits = omega (arith, low (goal.at.overflow_add-vertices c).After-last_end-vertices, c.loop-i.invariant.2.2) }

pub loop-i-preserved : goal.loop-i-preserved
loop-i-preserved c = (
  summing_more _ 1 slots c.loop-i.i c.loop-i.parcels (omega arith) c.loop-i.invariant.0 (there (goal.at.loop-i-preserved c).After-from-parcels) (one (goal.at.loop-i-preserved c).After-from-parcels),
  summing_more _ most_rings slots c.loop-i.i c.loop-i.rings (omega arith) c.loop-i.invariant.1 c.ring_count-rings.ensures (few (goal.at.loop-i-preserved c).After-ring_count-rings),
  summing_more _ most_vertices slots c.loop-i.i c.loop-i.vertices (omega arith) c.loop-i.invariant.2 (last (goal.at.loop-i-preserved c).After-last_end-vertices) (low (goal.at.loop-i-preserved c).After-last_end-vertices),
)

pub returns : goal.returns
unfolding totals_of
returns c =
    totals
    (summing_all _ 1 _ c.loop-i.i c.loop-i.parcels (omega arith) c.loop-i.invariant.0)
    (summing_all _ most_rings _ c.loop-i.i c.loop-i.rings (omega arith) c.loop-i.invariant.1)
    (summing_all _ most_vertices _ c.loop-i.i c.loop-i.vertices (omega arith) c.loop-i.invariant.2)
