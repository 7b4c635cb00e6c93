use Rattle.card.specs.Reading.{parcel_count}
use Rattle.endian.proofs.Running.{Running}
use Rattle.lines.specs.Steps.{row_of}
use Rattle.lines.proofs.lines.put_rows.Given as goal

abbrev pub invariant-loop-j : goal.invariant-loop-j
invariant-loop-j l = Running (row_of l.card.bytes.now) l.from (parcel_count l.card.bytes.now) l.initial.out l.j l.out l.at
