use mathlib.Core.Path.{◌≡◌, ◌∙◌, ap, ap₂}
use Prim.Native.Nat.{ℕ, min, max}
use native.Mathlib.Omega.{arith}
use lib.ListN.{length-set}
use Rattle.plane.specs.Points.{vertex}
use Rattle.plane.proofs.Lists.{tab_more}
use Rattle.ring.specs.Edges.{corner, after}
use Rattle.ring.proofs.Stretch.{after_readable}
use Rattle.bands.specs.Axis.{place_in, number_of}
use Rattle.simple.proofs.lay_out.Invariants.{low_of, high_of}
use Rattle.simple.proofs.lay_out.Goals as goal
use Rattle.simple.proofs.lay_out.Goals.{After-place_in-b, In-loop-k, Start}

pub loop-k-init : goal.loop-k-init
loop-k-init c = (omega arith, omega arith, λ i h. absurd (omega arith), λ i h. absurd (omega arith))

pub place_in-b-requires : goal.place_in-b-requires
place_in-b-requires c = rw c.next_of.ensures (after_readable c.args.ring.stretch c.loop-k-test.true)

-- the ends of edge k
module _ (c : After-place_in-b) where
  abbrev k : ℕ
  k = c.loop-k.k

  first : c.place_in-a.result ≡ place_in (number_of c.args.axis) (corner c.args.ring.outline.now c.args.ring.from k)
  first = c.place_in-a.ensures

  second : c.place_in-b.result ≡ place_in (number_of c.args.axis) (after c.args.ring.outline.now c.args.ring.from c.args.ring.size k)
  second = c.place_in-b.ensures ∙ ap (λ (v : ℕ). place_in (number_of c.args.axis) (vertex c.args.ring.outline.now v)) c.next_of.ensures

pub loop-k-preserved : goal.loop-k-preserved
loop-k-preserved c =
    let past = (goal.at.loop-k-preserved c).After-place_in-b in
    let l = c.loop-k in
    let a = c.args in
    let low = c.loop-k-test.true in (
      length-set l.ranges.lows l.k c.min.result ∙ l.invariant.0,
      length-set l.ranges.highs l.k c.max.result ∙ l.invariant.1,
      tab_more (low_of a.ring.outline.now a.ring.from a.ring.size (number_of a.axis)) 0 l.ranges.lows l.k c.min.result
          (omega (arith, l.invariant.0, c.requires)) l.invariant.2 (c.min.ensures ∙ ap₂ min (first past) (second past)),
      tab_more (high_of a.ring.outline.now a.ring.from a.ring.size (number_of a.axis)) 0 l.ranges.highs l.k c.max.result
          (omega (arith, l.invariant.1, c.requires)) l.invariant.3 (c.max.ensures ∙ ap₂ max (first past) (second past)),
    )

pub returns : goal.returns
returns c =
    let l = c.loop-k in
    record {
      low = λ k h. l.invariant.2 k (omega (arith, c.loop-k-test.false));
      high = λ k h. l.invariant.3 k (omega (arith, c.loop-k-test.false));
    }
