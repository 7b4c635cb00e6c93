use Rattle.ring.proofs.Stretch.{edge_in_places}
use Rattle.simple.proofs.shares_with.Goals as goal

pub shares-requires : goal.shares-requires
shares-requires c = let p = c.requires in (p.0, rw c.edge.ensures (edge_in_places c.args.ring.stretch p.1))

pub returns : goal.returns
returns c = rw (c.shares.ensures, c.edge.ensures)
