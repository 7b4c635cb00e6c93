use native.Mathlib.Omega.{arith}
use Rattle.region.specs.Outline.{drawn_by}
use Rattle.region.proofs.Keeps.{keeps_fewer, Sized, sized, in_range_lem, ring_order, ring_stretch}
use Rattle.outline.proofs.ring_of.Goals as goal
use Rattle.outline.proofs.ring_of.Goals.{Start}

sizes : (s : Start) → Sized (drawn_by s.args.outline)
sizes s = sized (keeps_fewer (omega arith) s.requires.0)

pub size_of-requires : goal.size_of-requires
size_of-requires c = (c.requires.1, ring_order (sizes (goal.at.size_of-requires c).Start) c.args.r c.requires.1)

pub invariant_of-result : goal.invariant_of-result
invariant_of-result c =
    record {
      stretch = rw (c.start_of.ensures, c.size_of.ensures)
          (ring_stretch (sizes (goal.at.invariant_of-result c).Start) c.args.r c.requires.1 (in_range_lem c.requires.0));
    }
