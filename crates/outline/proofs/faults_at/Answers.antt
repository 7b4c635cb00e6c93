use mathlib.Core.Path.{◌∙◌}
use Prim.Native.Nat.{◌≤◌}
use native.Mathlib.Omega.{arith}
use Rattle.bands.specs.Bands.{most_edges}
use Rattle.simple.specs.Faults.{faults_of}
use Rattle.region.specs.Region.{Region, size_of}
use Rattle.region.specs.Outline.{drawn_by}
use Rattle.region.proofs.Ends.{size_least, ring_in_last}
use Rattle.region.proofs.Keeps.{keeps_fewer, Sized, sized}
use Rattle.outline.proofs.faults_at.Goals as goal
use Rattle.outline.proofs.faults_at.Goals.{Start}

module _ (c : Start) where
  abbrev region : Region
  region = drawn_by c.args.outline

  kept : Sized region
  kept = sized (keeps_fewer (omega arith) c.requires.0)

  sizes : (3 ≤ size_of region.ends c.args.r) × (size_of region.ends c.args.r ≤ most_edges)
  sizes = (
    size_least region.ends kept.grown c.args.r c.requires.1,
    omega (arith, ring_in_last region.ends kept.grown c.args.r c.requires.1, kept.small),
  )

pub ring_of-requires : goal.ring_of-requires
ring_of-requires c = c.requires

pub ring_faults-requires : goal.ring_faults-requires
ring_faults-requires c = rw c.ring_of.ensures.2 (sizes (goal.at.ring_faults-requires c).Start)

pub returns : goal.returns
returns c =
    let e = c.ring_of.ensures in
    c.ring_faults.ensures ∙ (λ i. faults_of (e.0 i) (e.1 i) (e.2 i))
