use mathlib.Core.Path.{ap}
use Prim.Native.Nat.{ℕ}
use lib.Dec.{leb}
use lib.ListN.{length}
use Rattle.words.proofs.read.is_over.Goals as goal

pub returns : goal.returns
returns c = ap (λ (n : ℕ). leb (length c.args.line.now) n) c.after_spaces.ensures
