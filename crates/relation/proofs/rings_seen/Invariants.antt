-- The loop's invariant: the tiles of the rings so far, and the sum of their pieces.
use mathlib.Core.Path.{◌≡◌}
use Prim.Native.Nat.{ℕ}
use Rattle.plane.specs.declared.Box.{Box}
use Rattle.plane.specs.Folds.{sum_to}
use Rattle.plane.proofs.TileSet.{any_set}
use Rattle.ring.specs.RingTiles.{ring_has, ring_pieces}
use Rattle.region.specs.Region.{Region, start_of, size_of}
use Rattle.region.specs.Outline.{drawn_by}
use Rattle.relation.proofs.rings_seen.Given as goal

-- the tiles of the first k rings, and the sum of their pieces
module _ (b : Box) (R : Region) where
  abbrev pub tiles : ℕ → ℕ
  tiles k = any_set (λ r. ring_has b R.coordinates (start_of R.ends r) (size_of R.ends r)) k 9

  abbrev pub count : ℕ → ℕ
  count k = sum_to (λ r. ring_pieces b R.coordinates (start_of R.ends r) (size_of R.ends r)) k

abbrev pub invariant-loop-r : goal.invariant-loop-r
invariant-loop-r l = (l.set ≡ tiles l.b (drawn_by l.outline) l.r) × (l.pieces ≡ count l.b (drawn_by l.outline) l.r)
