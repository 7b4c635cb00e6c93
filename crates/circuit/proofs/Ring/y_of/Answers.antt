use Rattle.ring.proofs.Stretch.{corner_readable}
use Rattle.circuit.proofs.Ring.y_of.Goals as goal

pub y_of-requires : goal.y_of-requires
y_of-requires c = corner_readable c.args.self.now.stretch c.requires
