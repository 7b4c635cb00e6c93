use Rattle.endian.proofs.Running.{Running}
use Rattle.names.specs.Steps.{name_step}
use Rattle.names.proofs.names.put_names.Given as goal

abbrev pub invariant-loop-k : goal.invariant-loop-k
invariant-loop-k l = Running (name_step l.middle l.set) l.from 9 l.initial.out l.k l.out l.at
