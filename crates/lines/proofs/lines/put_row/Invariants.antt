use Rattle.card.specs.Reading.{parcel_count}
use Rattle.endian.proofs.Running.{Running}
use Rattle.lines.specs.Listing.{line_of}
use Rattle.lines.proofs.lines.put_row.Given as goal

abbrev pub invariant-loop-k : goal.invariant-loop-k
invariant-loop-k l = Running (line_of l.card.bytes.now l.j) l.from (parcel_count l.card.bytes.now) l.initial.out l.k l.out l.at
