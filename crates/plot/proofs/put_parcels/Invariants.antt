use mathlib.Core.Path.{◌≡◌}
use Rattle.plot.specs.Drawn.{MapInk}
use Rattle.plot.proofs.put_parcels.Given as goal

abbrev pub invariant-loop-k : goal.invariant-loop-k
invariant-loop-k l =
    (l.page.out.ghost_name ≡ l.initial.page.out.ghost_name)
    × MapInk l.v l.card.bytes.now l.k l.initial.page.out.now l.initial.page.at l.page.at l.page.out.now
