-- SCOPE 4.9: a pin in a parcel, and the tile that it lies in. A pin is a point with fractions as coordinates (plane's Ray); a ring
-- encloses it where an odd number of its edges cross the ray east of it (ring's Enclosed), and the centre of a box is one such pin.
--   InTile L P t        the pin P lies strictly inside tile t of the box with the lines L: on a line it lies in no tile
--   OnLine L P          the pin lies on one of the four lines. Every pin lies in a tile or on a line: proofs/TileLaws, `tile_or_line`
--   InOrOn c lo hi n v, InOrOnTile L P t    the same with the lines: inside range c of an axis or on its lines, in tile t or on its rim. Of such pins
--                       the promise would be false: proofs/Sharp, `rim_unaccounted`
--   EdgeIn L xs from n t    some edge of the ring has tile t
--   Encloses R r P      ring r of the region R encloses the pin P
--   AccountedFor L R    what the request asks: each pin that a ring of the region R encloses, strictly inside a tile of the box, lies in a tile that
--                       R has. That it holds: proofs/Pins, `accounted_for`; as a bit of the pair answer: pair's proofs/Pins, `pin_answered`
use Rattle.std.specs.Prelude.{◌≡◌, ◌⊎◌, List, ℕ, zero, suc, ◌<◌, length, ℤ, pos, ◌*ℤ◌, ◌≤ℤ◌}
use Rattle.plane.specs.Points.{Lines}
use Rattle.plane.specs.Tiles.{Inside, column_of, row_of}
use Rattle.plane.specs.Ray.{Pin}
use Rattle.edge.specs.Clauses.{HasTile}
use Rattle.ring.specs.Edges.{corner, after}
use Rattle.ring.specs.Enclosed.{Enclosed}
use Rattle.region.specs.Region.{Region, start_of, size_of}
use Rattle.relation.specs.Relation.{RegionHas}

abbrev pub InTile : Lines → Pin → ℕ → Type 0
InTile L P t = Inside (column_of t) L.west L.east P.n P.x × Inside (row_of t) L.south L.north P.n P.y

abbrev pub OnLine : Lines → Pin → Type 0
OnLine L P =
    ((P.x ≡ pos P.n *ℤ L.west) ⊎ (P.x ≡ pos P.n *ℤ L.east)) ⊎ ((P.y ≡ pos P.n *ℤ L.south) ⊎ (P.y ≡ pos P.n *ℤ L.north))

abbrev pub InOrOn : (c : ℕ) (lo hi : ℤ) (n : ℕ) (v : ℤ) → Type 0
InOrOn zero lo hi n v = v ≤ℤ (pos n *ℤ lo)
InOrOn (suc zero) lo hi n v = ((pos n *ℤ lo) ≤ℤ v) × (v ≤ℤ (pos n *ℤ hi))
InOrOn (suc (suc c)) lo hi n v = (pos n *ℤ hi) ≤ℤ v

abbrev pub InOrOnTile : Lines → Pin → ℕ → Type 0
InOrOnTile L P t = InOrOn (column_of t) L.west L.east P.n P.x × InOrOn (row_of t) L.south L.north P.n P.y

abbrev pub EdgeIn : Lines → List ℤ → (from n t : ℕ) → Type 0
EdgeIn L xs from n t = (k : ℕ) × (k < n) × HasTile L (corner xs from k) (after xs from n k) t

abbrev pub Encloses : Region → ℕ → Pin → Type 0
Encloses R r P = Enclosed P R.coordinates (start_of R.ends r) (size_of R.ends r)

abbrev pub AccountedFor : Lines → Region → Type 0
AccountedFor L R = (P : Pin) (r t : ℕ) → r < length R.ends → t < 9 → Encloses R r P → InTile L P t → RegionHas L R t
