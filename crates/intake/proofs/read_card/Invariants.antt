use Rattle.std.proofs.Common.{◌≡◌, ◌≤◌, ◌-◌, length, take}
use Rattle.std.specs.Io.KnownBytes.{Consumes}
use Rattle.intake.proofs.read_card.Given as goal

abbrev pub invariant-loop-count : goal.invariant-loop-count
invariant-loop-count g l = (length l.card ≡ length l.fn.card) × (l.count ≤ length l.card) × Consumes (g.R.Read.remaining l.fn.from) (g.R.Read.remaining l.from) (take l.count l.card)

abbrev pub decreases-loop-count : goal.decreases-loop-count
decreases-loop-count g l = length l.card - l.count
