use Rattle.std.proofs.Common.{◌≡◌, ◌+◌, ◌≤◌, max, length, drop}
use Rattle.words.specs.Lines.{is_hex, run}
use Rattle.words.proofs.read.after_hex.Given as goal

abbrev pub invariant-loop-i : goal.invariant-loop-i
invariant-loop-i l = (l.i ≤ max l.from (length l.line)) × (l.from + run is_hex (drop l.from l.line) ≡ l.i + run is_hex (drop l.i l.line))
