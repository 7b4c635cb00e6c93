use mathlib.Core.Path.{◌≡◌}
use Rattle.caption.proofs.put_matrix.Given as goal

abbrev pub invariant-loop-row : goal.invariant-loop-row
invariant-loop-row l = l.page.out.ghost_name ≡ l.initial.page.out.ghost_name

abbrev pub invariant-loop-column : goal.invariant-loop-column
invariant-loop-column l = l.page.out.ghost_name ≡ l.initial.page.out.ghost_name
