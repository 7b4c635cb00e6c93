use mathlib.Core.Path.{sym, ◌∙◌}
use native.Mathlib.Omega.{arith}
use Rattle.ring.proofs.Stretch.{edge_in_places}
use Rattle.simple.proofs.Near.{apart}
use Rattle.simple.proofs.SmallRing.near_edges_share.Goals as goal

pub returns-then-apart : goal.returns-then-apart
returns-then-apart c =
    let s = c.args.self.now in
    apart s.ring.outline.now s.ring.from s.ring.size 0 s.x.now.lows s.x.now.highs (omega arith) s.in_x c.args.i c.args.j c.requires.0 c.requires.1
    (sym c.apart.ensures ∙ c.if-apart.true)

pub returns-then-apart-2 : goal.returns-then-apart-2
returns-then-apart-2 c =
    let s = c.args.self.now in
    apart s.ring.outline.now s.ring.from s.ring.size 1 s.y.now.lows s.y.now.highs (omega arith) s.in_y c.args.i c.args.j c.requires.0 c.requires.1
    (sym c.apart-2.ensures ∙ c.if-apart-2.true)

pub shares_with-requires : goal.shares_with-requires
shares_with-requires c =
    (rw c.edge.ensures (edge_in_places c.args.self.now.ring.stretch c.requires.0), c.requires.1)
