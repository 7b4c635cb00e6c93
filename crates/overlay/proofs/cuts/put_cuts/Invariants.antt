use mathlib.Core.Path.{◌≡◌}
use Rattle.overlay.proofs.cuts.put_cuts.Given as goal

abbrev pub invariant-loop-r : goal.invariant-loop-r
invariant-loop-r l = l.page.out.ghost_name ≡ l.initial.page.out.ghost_name
