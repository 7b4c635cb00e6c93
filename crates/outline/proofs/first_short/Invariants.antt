use lib.ListN.{length}
use Rattle.region.specs.Check.{short_at}
use Rattle.region.proofs.Search.{Passed}
use Rattle.outline.proofs.first_short.Given as goal

abbrev pub invariant-loop-r : goal.invariant-loop-r
invariant-loop-r l = Passed (short_at l.ends) (length l.ends) l.r
