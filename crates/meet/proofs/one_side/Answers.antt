use mathlib.Core.Path.{refl}
use Rattle.meet.specs.MeetTest.{one_side}
use Rattle.meet.proofs.one_side.Goals as goal

pub returns : goal.returns
unfolding one_side
returns c = refl
