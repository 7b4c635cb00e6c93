use lib.ListN.{length}
use Rattle.region.specs.Outline.{drawn_by}
use Rattle.region.specs.Refusals.{number}
use Rattle.region.specs.Check.{breaks_at}
use Rattle.region.proofs.Search.{Passed}
use Rattle.outline.proofs.first_breaking.Given as goal

abbrev pub invariant-loop-r : goal.invariant-loop-r
invariant-loop-r l = Passed (breaks_at (drawn_by l.outline) (number l.rule)) (length l.outline.ends.now) l.r
