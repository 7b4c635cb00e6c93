use Rattle.std.proofs.Common.{◌≡◌}
use Rattle.words.specs.Numbers.{filled, byte_of}
use Rattle.words.proofs.read.decode.Given as goal

abbrev pub invariant-loop-k : goal.invariant-loop-k
invariant-loop-k l = l.into ≡ filled (byte_of l.line l.start) l.k l.initial.into
