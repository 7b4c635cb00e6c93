use mathlib.Core.Path.{sym, refl}
use Rattle.told.specs.Entries.{entry_at}
use Rattle.told.proofs.Past.{entry_past}
use Rattle.told.proofs.entry.Goals as goal

pub returns-then-i-gt624 : goal.returns-then-i-gt624
returns-then-i-gt624 c = sym (entry_past c.args.i c.if-i-gt624.true)

pub returns : goal.returns
unfolding entry_at
returns c = refl
