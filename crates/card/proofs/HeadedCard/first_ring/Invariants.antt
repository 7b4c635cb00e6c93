use Rattle.card.proofs.Sums.{Summing}
use Rattle.card.specs.Reading.{count_at}
use Rattle.card.proofs.HeadedCard.first_ring.Given as goal

abbrev pub invariant-loop-i : goal.invariant-loop-i
invariant-loop-i l = Summing (count_at l.self.bytes.now) 65535 l.k l.i l.rings
