use Rattle.ring.proofs.Stretch.{after_readable}
use Rattle.circuit.proofs.Ring.edge.Goals as goal

pub x_at-bx-requires : goal.x_at-bx-requires
x_at-bx-requires c = rw c.next_of-next.ensures (after_readable c.args.self.now.stretch c.requires)

pub y_at-by-requires : goal.y_at-by-requires
y_at-by-requires c = rw c.next_of-next.ensures (after_readable c.args.self.now.stretch c.requires)
