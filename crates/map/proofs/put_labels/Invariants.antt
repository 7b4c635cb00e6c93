use mathlib.Core.Path.{◌≡◌}
use Rattle.map.proofs.put_labels.Given as goal

abbrev pub invariant-loop-k : goal.invariant-loop-k
invariant-loop-k l = l.page.out.ghost_name ≡ l.initial.page.out.ghost_name
