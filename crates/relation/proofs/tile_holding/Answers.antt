use mathlib.Core.Path.{◌≡◌, sym, ◌∙◌, ap}
use native.Mathlib.Omega.{arith}
use Rattle.ring.specs.Edges.{ring_edge}
use Rattle.ring.specs.Repeated.{equal_ends}
use Rattle.region.specs.Region.{Region, size_of}
use Rattle.region.specs.Outline.{drawn_by}
use Rattle.region.proofs.Keeps.{keeps_fewer, sized}
use Rattle.relation.proofs.OneTile.{told_none, told_flat, told_tile}
use Rattle.relation.proofs.tile_holding.Goals as goal
use Rattle.relation.proofs.tile_holding.Goals.{After-equal_ends}

pub returns-in_err-tile : goal.returns-in_err-tile
returns-in_err-tile c = rw c.from_residual.ensures (sym (told_none _ _ _ c.in_err-tile.ensures))

pub ring_of-requires : goal.ring_of-requires
ring_of-requires c = (c.requires, (sized (keeps_fewer (omega arith) c.requires)).some)

-- whether the first edge has equal ends
module _ (c : After-equal_ends) where
  abbrev region : Region
  region = drawn_by c.args.outline

  first_edge : equal_ends (ring_edge region.coordinates 0 (size_of region.ends 0) 0) ≡ c.equal_ends.result
  first_edge =
      let ring = c.ring_of.ensures in
      sym (c.equal_ends.ensures ∙ ap equal_ends (c.edge.ensures ∙ (λ i. ring_edge (ring.0 i) (ring.1 i) (ring.2 i) 0)))

pub returns-then-equal_ends : goal.returns-then-equal_ends
returns-then-equal_ends c = sym (told_flat _ _ _ (first_edge (goal.at.returns-then-equal_ends c).After-equal_ends ∙ c.if-equal_ends.true))

pub returns : goal.returns
returns c =
    let tile = c.in_ok-tile in
    (tile.ensures.0 ∙ told_tile _ _ _ (first_edge (goal.at.returns c).After-equal_ends ∙ c.if-equal_ends.false), tile.ensures.1)
