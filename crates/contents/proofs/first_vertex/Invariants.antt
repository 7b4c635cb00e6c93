use Rattle.region.specs.Region.{last_end}
use Rattle.card.specs.Reading.{ends_at}
use Rattle.card.proofs.Sums.{Summing}
use Rattle.contents.proofs.first_vertex.Given as goal

abbrev pub invariant-loop-i : goal.invariant-loop-i
invariant-loop-i l = Summing (λ j. last_end (ends_at l.card j)) 65535 l.k l.i l.vertices
