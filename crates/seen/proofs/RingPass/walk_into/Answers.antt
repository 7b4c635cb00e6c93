use mathlib.Core.Path.{sym, ◌∙◌, ap, subst}
use Prim.Native.Nat.{ℕ, ◌<◌}
use borrow.Author.Tests.{eq-eqb, ne_eqb}
use Rattle.edge.specs.Drawn.{walk_of}
use Rattle.classes.specs.Classes.{entry_of, list_by}
use Rattle.classes.proofs.Entries.{told_drawn, told_some, told_none}
use Rattle.ring.specs.Edges.{ring_edge}
use Rattle.ring.proofs.Stretch.{edge_in_places}
use Rattle.seen.proofs.Pass.{edge_to_low}
use Rattle.seen.proofs.RingPass.walk_into.Goals as goal
use Rattle.seen.proofs.RingPass.walk_into.Goals.{After-edge_to, Start}

-- ---- with the edge
module _ (c : After-edge_to) where
  abbrev s : Start
  s = (goal.at.After-edge_to c).Start

  low : c.edge_to.result < s.args.self.now.ring.size
  low = subst (λ (k : ℕ). k < s.args.self.now.ring.size) (sym c.edge_to.ensures) (edge_to_low s.args.self.now.ring.size s.args.k s.requires.0)

pub edge-requires : goal.edge-requires
edge-requires c = low (goal.at.edge-requires c).After-edge_to

pub walk_edge-requires : goal.walk_edge-requires
walk_edge-requires c =
    let at = (goal.at.walk_edge-requires c).After-edge_to in
    ((s at).args.self.now.placed, rw c.edge.ensures (edge_in_places (s at).args.self.now.ring.stretch (low at)))

pub returns-in-Some : goal.returns-in-Some
unfolding list_by
returns-in-Some c =
    let a = c.args in
    let n = told_some a.first a.last c.requires.1 c.requires.2 c.in-Some.w c.in-Some.ensures in
    n.1 ∙ rw (ne_eqb (entry_of a.first a.last) 0 n.0) (told_drawn a.first a.last c.requires.1 c.requires.2 n.0)

pub returns-in-None : goal.returns-in-None
unfolding list_by walk_of
returns-in-None c =
    let at = (goal.at.returns-in-None c).After-edge_to in
    let a = (s at).args in
    let z = told_none a.first a.last (s at).requires.1 (s at).requires.2 c.in-None.ensures in
    rw (eq-eqb (entry_of a.first a.last) 0 z)
    (c.walk_edge.ensures ∙ ap (walk_of a.self.now.b) (c.edge.ensures ∙ ap (ring_edge a.self.now.ring.outline.now a.self.now.ring.from a.self.now.ring.size) c.edge_to.ensures))
