use Rattle.std.proofs.Common.{◌≡◌, ◌+◌, ◌≤◌, max, length, drop}
use Rattle.words.specs.Lines.{is_space, run}
use Rattle.words.proofs.read.after_spaces.Given as goal

abbrev pub invariant-loop-i : goal.invariant-loop-i
invariant-loop-i l = (l.i ≤ max l.from (length l.line)) × (l.from + run is_space (drop l.from l.line) ≡ l.i + run is_space (drop l.i l.line))
