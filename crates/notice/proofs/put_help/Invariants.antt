use mathlib.Core.Path.{◌≡◌}
use Rattle.notice.proofs.put_help.Given as goal

abbrev pub invariant-loop-refusal : goal.invariant-loop-refusal
invariant-loop-refusal l = l.page.out.ghost_name ≡ l.initial.page.out.ghost_name
