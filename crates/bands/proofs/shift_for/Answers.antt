use mathlib.Core.Path.{◌∙◌}
use Rattle.bands.proofs.Shift.{shift_is}
use Rattle.bands.proofs.shift_for.Goals as goal

pub returns : goal.returns
returns c = c.saturating_sub.ensures ∙ shift_is c.args.width
