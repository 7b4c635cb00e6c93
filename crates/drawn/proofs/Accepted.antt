-- The answer for two accepted regions.
--   accepted_drawn     it is the one without refusal, drawn in the grid of their boxes
use mathlib.Core.Path.{◌≡◌, sym}
use Rattle.region.specs.Check.{Accepted}
use Rattle.region.specs.Region.{Region}
use Rattle.region.specs.Check.{check_of}
use Rattle.relation.specs.Relation.{region_box}
use Rattle.drawn.specs.Drawn.{or_refused, drawn_for, drawn_of}

pub accepted_drawn : (first second : Region) → check_of first ≡ Accepted → check_of second ≡ Accepted
    → drawn_for (region_box first) (region_box second) first second ≡ drawn_of first second
unfolding drawn_of
accepted_drawn first second e f = sym (λ i. or_refused (e i) 1 (or_refused (f i) 2 (drawn_for (region_box first) (region_box second) first second)))
