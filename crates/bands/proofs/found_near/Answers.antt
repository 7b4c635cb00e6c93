use mathlib.Core.Path.{refl}
use Rattle.bands.specs.Bands.{near_of}
use Rattle.bands.proofs.found_near.Goals as goal

pub returns : goal.returns
unfolding near_of
returns c = refl
