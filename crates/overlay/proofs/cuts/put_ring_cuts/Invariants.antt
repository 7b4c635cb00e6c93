use mathlib.Core.Path.{◌≡◌}
use Rattle.overlay.proofs.cuts.put_ring_cuts.Given as goal

abbrev pub invariant-loop-from : goal.invariant-loop-from
invariant-loop-from l = l.page.out.ghost_name ≡ l.initial.page.out.ghost_name
