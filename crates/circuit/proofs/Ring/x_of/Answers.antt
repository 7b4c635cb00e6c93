use Rattle.ring.proofs.Stretch.{corner_readable}
use Rattle.circuit.proofs.Ring.x_of.Goals as goal

pub x_of-requires : goal.x_of-requires
x_of-requires c = corner_readable c.args.self.now.stretch c.requires
